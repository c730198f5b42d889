-- The numbers that events name, and the next ones.
use Rattle.std.specs.Prelude.{◌≡◌, ℕ, ◌+◌, ◌≤◌, max, fold, List, [], ◌∷◌, length}
use Rattle.std.specs.List.{flat_map}
use Rattle.stab_journal.specs.declared.event.Label.{Label}
use Rattle.stab_journal.specs.declared.event.Label.TheVariants.{NewChan, Comm, NewRef, Get, Set}
use Rattle.stab_journal.specs.declared.event.What.{What}
use Rattle.stab_journal.specs.declared.event.What.TheVariants.{Step, Undo, Release}
use Rattle.stab_journal.specs.declared.event.Event.{Event}
use Rattle.stab_journal.specs.Label.{touched}

-- the channels that a step names, and the references
abbrev pub chans_in : Label → List ℕ
chans_in (NewChan t c) = c.0 ∷ []
chans_in (Comm s r c) = c.0 ∷ []
chans_in _ = []

abbrev pub refs_in : Label → List ℕ
refs_in (NewRef t r) = r.0 ∷ []
refs_in (Get t r) = r.0 ∷ []
refs_in (Set t r) = r.0 ∷ []
refs_in _ = []

-- what a step names by a function of labels
abbrev pub named_by : (Label → List ℕ) → What → List ℕ
named_by names (Step l) = names l
named_by names _ = []

-- the threads that a step touches, and the one by which an undo was made
abbrev pub threads_by : What → List ℕ
threads_by (Step l) = touched l
threads_by (Undo t m) = t.0 ∷ []
threads_by (Release k) = []

-- the greatest of the numbers that the events name, those of struck steps too; 0 where they name none
abbrev pub greatest : (What → List ℕ) → List Event → ℕ
greatest names events = fold max 0 (flat_map (λ (e : Event). names e.what) events)

-- each number is one more than the greatest of its kind that the events name; thread 1 is there from the start
pub record AreNext (events : List Event) (t c r : ℕ) : Type 0 where
  pub thread : t ≡ max 1 (greatest threads_by events) + 1
  pub chan : c ≡ greatest (named_by chans_in) events + 1
  pub ref : r ≡ greatest (named_by refs_in) events + 1

-- no more numbers were handed out than there are events
pub record AreFew (events : List Event) (t c r : ℕ) : Type 0 where
  pub threads : t ≤ length events + 2
  pub chans : c ≤ length events + 1
  pub refs : r ≤ length events + 1
