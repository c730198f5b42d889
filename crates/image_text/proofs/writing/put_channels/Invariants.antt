use Rattle.std.proofs.Common.{◌≡◌, suc, ◌-◌, ◌++◌}
use Rattle.std.specs.FinSet.{contains}
use Rattle.std.specs.List.{flat_map}
use Rattle.image_text.specs.ImageText.{channel_line}
use Rattle.image_text.specs.Rising.{those}
use Rattle.image_text.proofs.writing.put_channels.Given as goal

abbrev pub invariant-loop-c : goal.invariant-loop-c
invariant-loop-c l =
    l.initial.out.items ++ flat_map channel_line (those (contains l.state.state.channels) 1 (l.next - 1))
    ≡ l.out.items ++ flat_map channel_line (those (contains l.state.state.channels) (suc l.last) (l.next - suc l.last))

abbrev pub decreases-loop-c : goal.decreases-loop-c
decreases-loop-c l = 4294967296 - l.last
