-- Pure steps of a thread that are made as one step.
use Rattle.std.specs.Prelude.{◌≡◌, ℕ, zero, suc, Some, None, Ok}
use Rattle.stab_base.specs.declared.numbers.ThreadId.{ThreadId}
use Rattle.stab_journal.specs.declared.event.Label.TheVariants.{Local}
use Rattle.language.specs.Held.{Held}
use Rattle.language.specs.Plain.{PlainState}
use Rattle.plain_language.specs.Plays.{step_in}
use Rattle.trace_verify.specs.declared.surviving.Surviving.{Surviving}
use Rattle.trace_verify.specs.Surviving.{IsKept, PlaysOn}

-- so many pure steps lead from one state to the other, in a step numbered q
abbrev pub AreMade : ℕ → ThreadId → Held → Held → ℕ → Type 0
AreMade q t old new zero = new ≡ old
AreMade q t old new (suc n) = (step_in old q (Local t (suc n)) ≡ Some new.state) × (new.program ≡ old.program)

-- so many pure steps were made as one step, or the thread has none and nothing changed
abbrev pub IsStretched : PlainState → Surviving → Surviving → ℕ → ThreadId → ℕ → Type 0
IsStretched from old new q t zero = (new ≡ old) × (step_in old.state q (Local t 1) ≡ None)
IsStretched from old new q t (suc n) = PlaysOn from old new q (Local t (suc n)) (Ok tt)
