-- What the threads of a state tell of the open steps that it has.
use Rattle.std.specs.Prelude.{◌≡◌, Some}
use Rattle.stab_code.specs.Program.{ProgramParts}
use Rattle.stab_journal.specs.declared.event.Label.{Label}
use Rattle.stab_journal.specs.declared.event.Label.TheVariants as step
use Rattle.language.specs.Plain.{PlainState}
use Rattle.plain_language.specs.declared.look.ActKind.TheVariants.{Get, Set, Stabilize, Cut, Pin, Print, Probe, Attempt}
use Rattle.plain_language.specs.declared.look.Look.TheVariants.{Act}
use Rattle.ready_steps.specs.Ready.{CanMeet, look_of}

-- a thread stands at the act of the label, or two can meet
abbrev pub IsTold : ProgramParts → PlainState → Label → Type 0
IsTold p s (step.Comm t u c) = CanMeet p s (record { sender = t; receiver = u; chan = c })
IsTold p s (step.Get t r) = look_of p s t.0 ≡ Some (Act (Get r))
IsTold p s (step.Set t r) = look_of p s t.0 ≡ Some (Act (Set r))
IsTold p s (step.Cut t) = look_of p s t.0 ≡ Some (Act Cut)
IsTold p s (step.Print t) = look_of p s t.0 ≡ Some (Act Print)
IsTold p s (step.Probe t i) = look_of p s t.0 ≡ Some (Act Probe)
IsTold p s (step.Refuse t) = look_of p s t.0 ≡ Some (Act Stabilize)
IsTold p s (step.Pin t) = look_of p s t.0 ≡ Some (Act Pin)
IsTold p s (step.Attempt t g) = look_of p s t.0 ≡ Some (Act Attempt)
IsTold p s l = ⊥
