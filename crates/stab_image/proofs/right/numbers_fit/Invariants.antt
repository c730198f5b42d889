-- The numbers so far have 64 bits.
use Rattle.std.proofs.Common.{take}
use Rattle.std.specs.List.{AllByRecursion}
use Rattle.image_lines.specs.HeadText.{IsProbe}
use Rattle.stab_image.proofs.right.numbers_fit.Given as goal

abbrev pub invariant-loop-number : goal.invariant-loop-number
invariant-loop-number l = AllByRecursion IsProbe (take l.number-index l.script)
