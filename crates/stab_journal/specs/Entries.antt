-- What a history's entries hold, read from the front.
use Rattle.std.specs.Prelude.{ℕ, suc, ◌+◌, ◌^◌, ◌<◌, cond, List, [], ◌∷◌, ◌++◌, length, map}
use Rattle.stab_journal.specs.declared.event.Event.{Event}
use Rattle.stab_journal.specs.declared.event.Numbered.{Numbered}
use Rattle.stab_journal.specs.Entry.{Entry}
use Rattle.stab_journal.specs.Journal.{step_at}

-- the events of entries
abbrev pub events_in : List Entry → List Event
events_in = map (λ (e : Entry). e.event)

-- of entries that are numbered from q on, the steps that aren't struck
abbrev pub kept_from : ℕ → List Entry → List Numbered
kept_from q [] = []
kept_from q (e ∷ es) = cond e.struck [] (step_at q e.event.what) ++ kept_from (suc q) es

-- entries behind so many others have numbers of 64 bits
abbrev pub FitBehind : ℕ → List Entry → Type 0
FitBehind passed es = passed + length es < 2 ^ 64
