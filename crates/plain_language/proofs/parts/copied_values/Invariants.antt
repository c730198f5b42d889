use Rattle.std.proofs.Common.{◌≡◌, take}
use Rattle.plain_language.proofs.parts.copied_values.Given as goal

abbrev pub invariant-loop-v : goal.invariant-loop-v
invariant-loop-v l = l.copies.items ≡ take l.v-index l.values
