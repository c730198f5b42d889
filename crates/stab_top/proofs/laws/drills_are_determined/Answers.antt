use Rattle.stab_top.proofs.Determined.{drill_comes, drill_stops}
use Rattle.stab_top.proofs.laws.drills_are_determined.Goals as goal

pub returns-clause-played : goal.returns-clause-played
returns-clause-played c = drill_comes

pub returns-clause-stopped : goal.returns-clause-stopped
returns-clause-stopped c = drill_stops
