-- Histories of one worker that have steps alone.
use Rattle.std.specs.Prelude.{List, map}
use Rattle.stab_code.specs.Program.{ProgramParts}
use Rattle.stab_journal.specs.declared.event.Event.{Event}
use Rattle.stab_journal.specs.declared.event.Numbered.{Numbered}
use Rattle.stab_journal.specs.declared.event.What.TheVariants.{Step}
use Rattle.language.specs.Plain.{PlainState}
use Rattle.language.specs.Standing.{StandsFor, event}

-- the events that are these steps, of worker 1
abbrev pub events_of : List Numbered → List Event
events_of run = map (λ (n : Numbered). event 1 (Step n.label)) run

-- these events stand for the run and the state
abbrev pub StandsAlone : ProgramParts → List Numbered → PlainState → Type 0
StandsAlone p run s = StandsFor p (events_of run) run s
