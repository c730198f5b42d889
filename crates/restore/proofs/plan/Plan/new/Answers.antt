use Rattle.std.proofs.Common.{sym, ap, ◌∙◌}
use Rattle.std.specs.FinMap as map
use Rattle.restore.specs.declared.line.Line.{Line}
use Rattle.restore.specs.Found.{Finding}
use Rattle.restore.proofs.Ordered.{no_keys}
use Rattle.restore.proofs.plan.Plan.new.Goals as goal

pub invariant_of-result : goal.invariant_of-result
invariant_of-result c = ap (λ (f : Finding). f.touched) c.new.ensures ∙ sym (ap (λ (f : Finding). map.keys f.lines) c.new.ensures ∙ no_keys Line)
