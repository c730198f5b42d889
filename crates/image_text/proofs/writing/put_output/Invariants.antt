use Rattle.std.proofs.Common.{◌≡◌, ◌++◌, take}
use Rattle.image_text.specs.ImageText.{output_text}
use Rattle.image_text.proofs.writing.put_output.Given as goal

abbrev pub invariant-loop-value : goal.invariant-loop-value
invariant-loop-value l = l.out.items ≡ l.initial.out.items ++ output_text (take l.value-index l.values)
