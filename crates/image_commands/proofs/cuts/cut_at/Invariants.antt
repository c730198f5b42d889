-- The cuts so far are counted, and there are too few.
use Rattle.std.proofs.Common.{◌≡◌, ◌<◌, take}
use Rattle.image_commands.specs.Cuts.{cuts_in}
use Rattle.image_commands.proofs.cuts.cut_at.Given as goal

abbrev pub invariant-loop-i : goal.invariant-loop-i
invariant-loop-i l = record { cuts : l.cuts ≡ cuts_in (take l.i l.history.events); few : l.cuts < l.n }
