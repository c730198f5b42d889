-- The text that a book shows.
use Rattle.std.specs.Prelude.{◌≡◌, ℕ, zero, suc, ◌+◌, ◌-◌, List, [], ◌++◌, take, Some}
use Rattle.std.specs.Option.{option_map_or}
use Rattle.stab_journal.specs.Due.{released}
use Rattle.stab_journal.specs.Journal.{survivors}
use Rattle.thread_slots.specs.declared.state.State.TheVariants.{Ready, Leased, Parked, Ended}
use Rattle.language.specs.Plain.{PlainState, end_of}
use Rattle.language.specs.Shown.{counts, fault_line, shown, value_lines}
use Rattle.language.specs.Table.{fault}
use Rattle.commit_book.specs.Book.{BookView, fault_at}
use Rattle.commit_book.specs.Counts.{faulted_in, in_state}

-- the text is the one that the state shows to which the book's history leads
abbrev pub IsShownText : BookView → List ℕ → Type 0
IsShownText b text = (s : PlainState) → end_of b.job.program (survivors b.history) ≡ Some s → text ≡ shown b.job.program s

-- the lines of the values that were released
abbrev pub released_lines : BookView → List ℕ
released_lines b = value_lines b.job.program (take (released b.history.events) b.printed)

-- the text is what that state shows behind the lines of the values that were released
abbrev pub IsRestText : BookView → List ℕ → Type 0
IsRestText b text =
    (s : PlainState) → end_of b.job.program (survivors b.history) ≡ Some s → shown b.job.program s ≡ released_lines b ++ text

-- the line of a thread that failed, and none of another
abbrev pub fault_line_of : BookView → ℕ → List ℕ
fault_line_of b t = option_map_or (λ k. fault_line t (fault k)) (fault_at b t) []

-- the lines of the threads below n that failed
abbrev pub fault_lines : BookView → ℕ → List ℕ
fault_lines b zero = []
fault_lines b (suc n) = fault_lines b n ++ fault_line_of b n

-- how many threads of the book ended without a fault, how many with one, and how many wait
abbrev pub count_text : BookView → List ℕ
count_text b =
    counts (in_state Ended b - faulted_in b.job.program b.threads b.next.thread)
    (faulted_in b.job.program b.threads b.next.thread) (in_state Parked b + in_state Ready b + in_state Leased b)
