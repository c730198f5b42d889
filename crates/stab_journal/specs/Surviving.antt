-- What events leave of a run.
use Rattle.std.specs.Prelude.{◌≡◌, ℕ, suc, List, [], ◌∷◌, ◌++◌}
use Rattle.stab_journal.specs.declared.event.Numbered.{Numbered}
use Rattle.stab_journal.specs.declared.event.What.{What}
use Rattle.stab_journal.specs.declared.event.What.TheVariants.{Undo}
use Rattle.stab_journal.specs.declared.event.Event.{Event}
use Rattle.stab_journal.specs.Journal.{Journal, step_at, survivors}
use Rattle.stab_journal.specs.Reached.{without_reached}

-- what the event numbered q leaves: a step comes to the end, an undo takes away what is reached from its section, a release changes nothing
abbrev pub after_event : ℕ → What → List Numbered → List Numbered
after_event q (Undo t m) run = without_reached m.0 run
after_event q what run = run ++ step_at q what

-- what events that are numbered from q on leave
abbrev pub after_events : ℕ → List Numbered → List Event → List Numbered
after_events q run [] = run
after_events q run (e ∷ es) = after_events (suc q) (after_event q e.what run) es

-- the steps of these events that no undo took away, in order
abbrev pub run_of : List Event → List Numbered
run_of events = after_events 1 [] events

-- exactly the steps that an undo took away are struck
abbrev pub IsStruckBack : Journal → Type 0
IsStruckBack j = survivors j ≡ run_of j.events
