-- What an undo takes back, and what it leaves.
use Rattle.std.specs.Prelude.{◌≡◌, ℕ, Bool, false, cond, ◌&&◌, List, [], ◌∷◌, ◌++◌, filter, length, map as each, None, option_map}
use Rattle.std.specs.FinMap as map
use Rattle.stab_base.specs.declared.numbers.Seq.{Seq}
use Rattle.stab_journal.specs.declared.event.Event.{Event}
use Rattle.stab_journal.specs.declared.event.Numbered.{Numbered}
use Rattle.stab_journal.specs.declared.event.What.TheVariants.{Undo}
use Rattle.stab_journal.specs.Journal.{survivors}
use Rattle.stab_journal.specs.Names.{has}
use Rattle.stab_journal.specs.Reached.{reached, without_reached}
use Rattle.thread_slots.specs.Ready.{numbers}
use Rattle.reach_line.specs.Reached as marks
use Rattle.restore.specs.Left.{others, without_all}
use Rattle.language.specs.Standing.{event}
use Rattle.journal_laws.specs.Lines.{is_node}
use Rattle.journal_laws.specs.Lost.{is_hit, is_unmade}
use Rattle.commit_book.specs.Book.{BookView}
use Rattle.commit_book.specs.Rows.{events_by, local_of, numbered_from, thread}
use Rattle.commit_book.specs.Step.{next_seq}

-- the run once the thread t has made its n pure steps
abbrev pub begun : BookView → ℕ → ℕ → List Numbered
begun b t n = survivors b.history ++ numbered_from (next_seq b) (local_of t n)

-- the event of the undo of the section entered at m
abbrev pub undo_by : ℕ → ℕ → ℕ → Event
undo_by worker t m = event worker (Undo (thread t) (record { 0 = m }))

-- the numbers of the steps of the run that are reached from m and are nodes of the graph
abbrev pub reached_nodes : List Numbered → ℕ → List ℕ
reached_nodes run m =
    each (λ (n : Numbered). n.seq.0) (filter (λ (n : Numbered). has (reached run m) n.seq.0 && is_node n.label) run)

-- whether the thread u loses a step: one of the run that is reached from m touches it
abbrev pub loses_a_step : List Numbered → ℕ → ℕ → Bool
loses_a_step run m u = is_hit (has (reached run m)) u run

-- the thread t, which made n pure steps, takes the section entered at m back; with what every book shows, and since a journal
-- strikes steps alone, this determines the new book but for the forms of its controls
pub record IsTakenBack (old new : BookView) (worker t n m : ℕ) (run : List Numbered) : Type 0 where
  -- the pure steps are pushed, and the undo
  pub events : new.history.events ≡ old.history.events ++ events_by worker (local_of t n) ++ undo_by worker t m ∷ []
  -- all steps that are reached are struck, and no other
  pub survivors : survivors new.history ≡ without_reached m run
  -- the touched threads leave their places, and those that are still there come to the tail in the order of their numbers
  pub queue : new.queue
      ≡ others (loses_a_step run m) old.queue
      ++ numbers (λ u. loses_a_step run m u && map.contains_key new.threads u) new.next.thread
  -- nobody else changes
  pub untouched : (u : ℕ) → loses_a_step run m u ≡ false → map.get new.threads u ≡ map.get old.threads u
  -- the touched threads leave the lines, which keep their order, and the channels go whose making is struck
  pub lines : (c : ℕ) → map.get new.offers.lines c
      ≡ cond (is_unmade (has (reached run m)) c run) None
      (option_map (without_all (loses_a_step run m)) (map.get old.offers.lines c))
  pub job : new.job ≡ old.job
  pub answered : new.answered ≡ old.answered

-- the marks are the reached nodes, each once
pub record AreMarksOf (run : List Numbered) (m : ℕ) (qs : List ℕ) : Type 0 where
  pub nodes : (q : ℕ) → marks.has q qs ≡ has (reached_nodes run m) q
  pub once : marks.IsOnce qs

-- what is answered: how many steps were struck, and which of them are nodes
pub record IsToldOf (run : List Numbered) (m : ℕ) (mark : Seq) (removed : ℕ) (qs : List ℕ) : Type 0 where
  pub section : mark.0 ≡ m
  pub count : removed ≡ length (reached run m)
  pub marks : AreMarksOf run m qs
