-- What it means to play a step.
use Rattle.std.specs.Prelude.{◌≡◌, ℕ, Option, Some, None, Result, Ok, Err}
use Rattle.stab_journal.specs.declared.event.Label.{Label}
use Rattle.plain_language.specs.declared.play.PlayFault.{PlayFault}
use Rattle.plain_language.specs.declared.play.PlayFault.TheVariants.{NoStep, NoMemory}
use Rattle.language.specs.Held.{Held}
use Rattle.language.specs.Plain.{PlainState, plain_step}

-- the state after the step numbered q with this label, if the language has it
abbrev pub step_in : Held → ℕ → Label → Option PlainState
step_in h q l = plain_step h.program h.state q l

-- the step is made, or the language has no such step, or memory is missing; without a step the state is as before
abbrev pub Plays : Held → Held → ℕ → Label → Result (Unit {0}) PlayFault → Type 0
Plays old new q l (Ok done) = (step_in old q l ≡ Some new.state) × (new.program ≡ old.program)
Plays old new q l (Err NoStep) = (step_in old q l ≡ None) × (new ≡ old)
Plays old new q l (Err NoMemory) = new ≡ old
