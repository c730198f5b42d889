use Rattle.lone_worker.proofs.OneRun.{one_choice}
use Rattle.lone_worker.proofs.OneTurn.{one_turn}
use Rattle.lone_worker.proofs.Released.{one_release}
use Rattle.lone_worker.proofs.laws.one_turn.Goals as goal

pub returns-clause-chosen : goal.returns-clause-chosen
returns-clause-chosen c = one_choice

pub returns-clause-next : goal.returns-clause-next
returns-clause-next c = λ a b x y unlent_a unlent_b unlent_x unlent_y same here there. one_turn a b x y unlent_a unlent_b unlent_x unlent_y here there same

pub returns-clause-release : goal.returns-clause-release
returns-clause-release c = one_release
