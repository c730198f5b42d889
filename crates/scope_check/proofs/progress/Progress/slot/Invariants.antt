use Rattle.std.proofs.Common.{◌≡◌, take}
use Rattle.std.specs.Prelude.{reverse}
use Rattle.scope_check.specs.Names.{slot_of}
use Rattle.scope_check.proofs.progress.Progress.slot.Given as goal

abbrev pub invariant-loop-i : goal.invariant-loop-i
invariant-loop-i l = slot_of l.bytes (reverse l.self.seen.items) l.name ≡ slot_of l.bytes (reverse (take l.i l.self.seen.items)) l.name
