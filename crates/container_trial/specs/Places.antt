-- Whether threads may go back.
use Rattle.std.specs.Prelude.{◌≡◌, ℕ, ◌<◌, true, Option, Some, None, IsSome, IsSomeAnd}
use Rattle.std.specs.Ordering.{nat_cmp}
use Rattle.std.specs.FinMap as map
use Rattle.std.specs.FinMap.{FinMap}
use Rattle.stab_base.specs.declared.numbers.Seq.{Seq}
use Rattle.stab_base.specs.declared.numbers.ThreadId.{ThreadId}
use Rattle.checkpoint_store.specs.Saved.{Saved, saved_at}
use Rattle.thread_slots.specs.Slot.{Slot}
use Rattle.restore.specs.declared.line.Line.{Line}
use Rattle.restore.specs.declared.line.Line.TheVariants.{From}
use Rattle.restore.specs.Left.{LineMap, is_touched}

-- the thread is there, and has what its line asks for
abbrev pub MayGoBack : Option Line → Option (Slot ℕ) → Saved ℕ → ThreadId → Type 0
MayGoBack (Some (From q)) slot store t = IsSomeAnd slot (λ s. s.generation < 18446744073709551615) × IsSome (saved_at store q t)
MayGoBack _ slot store t = IsSome slot

-- each touched thread may
abbrev pub MayAllGoBack : LineMap → FinMap nat_cmp (Slot ℕ) → Saved ℕ → Type 0
MayAllGoBack lines threads store = (t : ThreadId) → is_touched lines t.0 ≡ true → MayGoBack (map.get lines t.0) (map.get threads t.0) store t
