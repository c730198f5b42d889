use Rattle.std.proofs.Common.{[]}
use Rattle.stab_code.proofs.Trees.{values_after-fold}
use Rattle.stab_code.proofs.laws.walks_are_folds.Goals as goal

pub returns : goal.returns
returns c = record { numbers = λ value. values_after-fold value []; lists = λ value. values_after-fold value [] }
