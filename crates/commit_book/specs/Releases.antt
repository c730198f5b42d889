-- What a release hands out, and what it leaves.
use Rattle.std.specs.Prelude.{◌≡◌, ℕ, List, [], ◌∷◌, ◌++◌, drop, take}
use Rattle.std.specs.List.{flat_map}
use Rattle.stab_base.specs.Datum.{Datum}
use Rattle.stab_base.specs.Printed.{printed}
use Rattle.stab_journal.specs.declared.event.What.TheVariants.{Release}
use Rattle.stab_journal.specs.Due.{final_prints, released}
use Rattle.stab_journal.specs.Surviving.{run_of}
use Rattle.language.specs.Shown.{line}
use Rattle.language.specs.Standing.{event}
use Rattle.commit_book.specs.declared.parts.Parts.{Parts}
use Rattle.commit_book.specs.Book.{BookView}

-- how many values are final
abbrev pub finals : BookView → ℕ
finals b = final_prints (run_of b.history.events)

-- the values that are due, in the order in which they were printed
abbrev pub due_values : BookView → List Datum
due_values b = drop (released b.history.events) (take (finals b) b.printed)

-- their lines
abbrev pub due_lines : BookView → List ℕ
due_lines b = flat_map (λ (v : Datum). line (printed b.job.program.texts v)) (due_values b)

-- the release is the next event, and says how many values are final; nothing else changes
abbrev pub IsReleased : BookView → BookView → ℕ → Type 0
IsReleased old new worker =
    new ≡ record old {
      history = record old.history { events = old.history.events ++ event worker (Release (finals old)) ∷ [] };
    }

-- the same of what is kept: the release is pushed, and counted
pub record IsReleasedBy (old new : Parts) (worker : ℕ) : Type 0 where
  pub events : new.history.events ≡ old.history.events ++ event worker (Release old.tallies.finals) ∷ []
  pub struck : new.history.struck ≡ old.history.struck
  pub tallies : new.tallies ≡ record old.tallies { released = old.tallies.finals }
  pub others : new ≡ record old { history = new.history; tallies = new.tallies }
