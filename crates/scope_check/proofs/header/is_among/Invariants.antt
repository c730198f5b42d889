use Rattle.std.proofs.Common.{◌≡◌, drop}
use Rattle.std.specs.List.{list_any}
use Rattle.scope_check.specs.Names.{is_same as same_names}
use Rattle.scope_check.proofs.header.is_among.Given as goal

abbrev pub invariant-loop-other : goal.invariant-loop-other
invariant-loop-other l = list_any (λ other. same_names l.bytes l.fn.name other.name) l.params ≡ list_any (λ other. same_names l.bytes l.fn.name other.name) (drop l.other-index l.params)
