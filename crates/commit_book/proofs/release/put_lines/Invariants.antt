use Rattle.std.proofs.Common.{◌≡◌, ◌++◌, take}
use Rattle.std.specs.List.{flat_map}
use Rattle.stab_base.specs.Printed.{printed}
use Rattle.language.specs.Shown.{line}
use Rattle.commit_book.proofs.release.put_lines.Given as goal

abbrev pub invariant-loop-v : goal.invariant-loop-v
invariant-loop-v l = l.out.items ≡ l.fn.out.items ++ flat_map (λ v. line (printed l.texts v)) (take l.v-index l.values)
