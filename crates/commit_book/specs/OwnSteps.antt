-- What is read of the journal for a rollback.
use Rattle.std.specs.Prelude.{◌≡◌, ℕ, ◌<◌, ◌+◌, ◌-◌, ◌*◌, ◌≤◌, Bool, true, false, not, ◌&&◌, ◌||◌, nat_eq, nat_le, nat_lt, List, [], ◌∷◌, ◌++◌, filter, length, slice_set, map as each, Option, Some}
use Rattle.std.specs.List.{AllByRecursion, sum_by}
use Rattle.std.specs.FinMap as map
use Rattle.std.specs.Vec.{vec_capacity}
use Rattle.linked_lists.specs.Lists.{is_listed}
use Rattle.reach_line.specs.MarkList.{numbers}
use Rattle.restore.specs.declared.line.Line.{Line}
use Rattle.restore.specs.declared.line.Line.TheVariants.{From}
use Rattle.restore.specs.Left.{LineMap, is_touched}
use Rattle.stab_base.specs.declared.numbers.Seq.{Seq}
use Rattle.stab_journal.specs.declared.event.Label.{Label}
use Rattle.stab_journal.specs.declared.event.Numbered.{Numbered}
use Rattle.stab_journal.specs.Floor.{floor}
use Rattle.stab_journal.specs.Journal.{Journal, survivors}
use Rattle.stab_journal.specs.Label.{actors}
use Rattle.stab_journal.specs.Names.{has}
use Rattle.own_steps.specs.Own.{Seen, steps_of, last_step, but_last}
use Rattle.commit_book.specs.declared.rollback.Rollback.{Rollback}

-- the numbers of the steps of the run above f and not above e that pass
abbrev pub steps_within : ℕ → ℕ → (Label → Bool) → List Numbered → List ℕ
steps_within f e p run =
    each (λ (n : Numbered). n.seq.0) (filter (λ (n : Numbered). nat_lt f n.seq.0 && nat_le n.seq.0 e && p n.label) run)

-- of the surviving steps above the last cut, those up to the event that was read last, by thread
pub record IsRead (journal : Journal) (r : Rollback) : Type 0 where
  pub read : r.read ≤ length journal.events
  pub floor : r.floor.0 ≡ floor (survivors journal)
  pub cut : r.floor.0 ≤ r.read
  pub own : (t : ℕ) → steps_of r.own t ≡ steps_within r.floor.0 r.read (λ l. has (actors l) t) (survivors journal)
  pub lost : r.lost.items ≡ []

-- there is room to read the events up to `events` and to take all steps back, for threads with numbers up to `last`
pub record HasRoomToRead (r : Rollback) (events last : ℕ) : Type 0 where
  pub own : 2 * (events - r.read) ≤ r.own.spare
  pub places : last < length r.own.steps
  pub lost : sum_by length r.own.steps + 2 * (events - r.read) ≤ vec_capacity r.lost
  pub plan : last < r.plan.spare

-- nothing was read
pub record IsUnread (r : Rollback) : Type 0 where
  pub read : r.read ≡ 0
  pub floor : r.floor.0 ≡ 0
  pub own : (t : ℕ) → steps_of r.own t ≡ []
  pub lost : r.lost.items ≡ []

-- the same was read
pub record SaysTheSame (old new : Rollback) : Type 0 where
  pub read : new.read ≡ old.read
  pub floor : new.floor ≡ old.floor
  pub own : (t : ℕ) → steps_of new.own t ≡ steps_of old.own t
  pub lost : new.lost.items ≡ old.lost.items

-- no number is below an earlier one
abbrev pub Rises : List ℕ → Type 0
Rises [] = Unit {0}
Rises (q ∷ qs) = AllByRecursion (λ p. q ≤ p) qs × Rises qs

-- the number from which the steps of a thread with this line are lost
abbrev pub line_number : Option Line → ℕ
line_number (Some (From q)) = q.0
line_number _ = 0

-- whether the step q of the thread t is lost
abbrev pub is_lost : LineMap → ℕ → ℕ → Bool
is_lost lines t q = is_touched lines t && nat_le (line_number (map.get lines t)) q

-- the lost steps of the touched threads were taken out, and stand in rising order
pub record IsGathered (old new : Rollback) : Type 0 where
  pub own : (t : ℕ) → steps_of new.own t ≡ filter (λ q. not (is_lost old.plan.lines t q)) (steps_of old.own t)
  pub lost : (q : ℕ) → is_listed q (numbers new.lost.items) ≡ true → (t : ℕ) × (is_listed q (steps_of old.own t) ≡ true)
      × (is_lost old.plan.lines t q ≡ true)
  pub all : (q t : ℕ) → is_listed q (steps_of old.own t) ≡ true → is_lost old.plan.lines t q ≡ true
      → is_listed q (numbers new.lost.items) ≡ true
  pub rest : (new.read ≡ old.read) × (new.floor ≡ old.floor) × (new.plan ≡ old.plan)

-- the steps of the threads ts from their lines on were taken out, and no others
pub record IsGatheredFrom (lines : LineMap) (old new : Seen) (gone : List Seq) (ts : List ℕ) : Type 0 where
  pub own : (t : ℕ) → steps_of new t
      ≡ filter (λ q. not (is_listed t ts && nat_le (line_number (map.get lines t)) q)) (steps_of old t)
  pub lost : (q : ℕ) → is_listed q (numbers gone) ≡ true → (t : ℕ) × (is_listed q (steps_of old t) ≡ true)
      × (is_listed t ts ≡ true) × (nat_le (line_number (map.get lines t)) q ≡ true)
  pub all : (q t : ℕ) → is_listed q (steps_of old t) ≡ true → is_listed t ts ≡ true
      → nat_le (line_number (map.get lines t)) q ≡ true → is_listed q (numbers gone) ≡ true

-- the last step of the thread t, which isn't below the line, was taken out
pub record IsTaken (old new : Seen) (t line : ℕ) (before after : List Seq) : Type 0 where
  pub step : ℕ
  pub last : last_step (steps_of old t) ≡ Some step
  pub high : line ≤ step
  pub steps : new.steps ≡ slice_set old.steps t (but_last (steps_of old t))
  pub lost : numbers after ≡ numbers before ++ step ∷ []

-- it is below the line, or there is none, and nothing was taken out
pub record IsLeft (old new : Seen) (t line : ℕ) (before after : List Seq) : Type 0 where
  pub low : (q : ℕ) → last_step (steps_of old t) ≡ Some q → q < line
  pub own : new ≡ old
  pub lost : after ≡ before

-- the last steps of the thread t were taken out one by one, none of which is below the line
pub record IsTakenSoFar (old new : Seen) (t line : ℕ) (before after : List Seq) : Type 0 where
  pub taken : List ℕ
  pub whole : steps_of old t ≡ steps_of new t ++ taken
  pub above : AllByRecursion (λ q. line ≤ q) taken
  pub others : (u : ℕ) → nat_eq t u ≡ false → steps_of new u ≡ steps_of old u
  pub lost : (q : ℕ) → is_listed q (numbers after) ≡ (is_listed q taken || is_listed q (numbers before))
