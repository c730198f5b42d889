-- What the events so far name.
use Rattle.std.proofs.Common.{take}
use Rattle.stab_image.specs.Named.{AreNamed, AreNames}
use Rattle.stab_image.proofs.named.Named.by_first.Given as goal

abbrev pub invariant-loop-i : goal.invariant-loop-i
invariant-loop-i l = AreNamed (take l.i l.history.events) l.named × AreNames l.named
