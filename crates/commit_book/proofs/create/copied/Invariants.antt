use Rattle.std.proofs.Common.{◌≡◌, take}
use Rattle.commit_book.proofs.create.copied.Given as goal

abbrev pub invariant-loop-v : goal.invariant-loop-v
invariant-loop-v l = l.copies.items ≡ take l.v-index l.values
