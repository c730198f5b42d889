use Rattle.std.proofs.Common.{◌++◌, ap, ◌∙◌}
use Rattle.std.specs.List.{filter}
use Rattle.ref_log.specs.Log.{last_of}
use Rattle.ref_log.specs.Calls.{surviving}
use Rattle.ref_log.proofs.LawLemmas.{last_write, stays}
use Rattle.ref_log.proofs.law.last_write_law.Goals as goal

pub returns : goal.returns
returns c = λ calls fresh log empty leads r. last_write calls fresh log leads r ∙ ap (λ ws. last_of (filter (stays r calls) ws ++ surviving r calls)) (empty r)
