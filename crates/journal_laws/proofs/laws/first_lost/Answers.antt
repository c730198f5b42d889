use Rattle.journal_laws.proofs.FirstLost.{first_lost}
use Rattle.journal_laws.proofs.Spawned.{unspawned, all_lost}
use Rattle.journal_laws.proofs.laws.first_lost.Goals as goal

pub returns-clause-unspawned : goal.returns-clause-unspawned
returns-clause-unspawned c = λ s r before n after u cut spawns. unspawned c.args.program.now s c.args.run.now r before n after u cut spawns

pub returns-clause-all : goal.returns-clause-all
returns-clause-all c = λ s r before n after u cut spawns goes. all_lost c.args.program.now s c.args.run.now r before n after u cut spawns c.args.m.0 goes

pub returns-clause-first : goal.returns-clause-first
returns-clause-first c = λ rise before f after t cut goes acts none. first_lost c.args.run.now c.args.m.0 1 t rise before f after cut goes acts none
