use Rattle.std.proofs.Common.{◌≡◌, ◌++◌}
use Rattle.scope_check.proofs.scoping.texts_of.Given as goal

abbrev pub invariant-loop-text : goal.invariant-loop-text
invariant-loop-text l = l.fn.numbered.keys ≡ l.texts.items ++ l.text-iterator
