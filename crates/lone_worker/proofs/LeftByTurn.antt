-- What a turn leaves of a book in which nobody has a lease.
use Rattle.std.proofs.Common.{◌≡◌, ◌⊎◌, inl, inr, ℕ, false, cond, not, ◌&&◌, nat_eq, List, [], ◌∷◌, ◌++◌, filter, append_assoc, Option, Some, None, sym, ap, subst, ◌∙◌}
use Rattle.std.specs.Prelude.{IfSome, option_and_then, option_map, slice_get}
use Rattle.std.specs.FinMap as map
use Rattle.linked_lists.specs.Lists.{without}
use Rattle.stab_code.specs.Program.{ProgramParts}
use Rattle.stab_journal.specs.declared.event.Event.{Event}
use Rattle.stab_journal.specs.declared.event.Numbered.{Numbered}
use Rattle.stab_journal.specs.Names.{has}
use Rattle.stab_journal.specs.Reached.{reached}
use Rattle.thread_slots.specs.declared.state.State.TheVariants.{Leased, Ended}
use Rattle.thread_slots.specs.Slot.{Slot, is_in}
use Rattle.thread_slots.specs.Ready.{numbers}
use Rattle.rendezvous.specs.Line.{Line}
use Rattle.restore.specs.Left.{others, without_all}
use Rattle.language.specs.Expression.{Expr}
use Rattle.language.specs.Plain.{language_of}
use Rattle.language.specs.Table.{pure_steps}
use Rattle.journal_laws.specs.Lost.{is_unmade}
use Rattle.step_eval.specs.ControlView.{ControlView, expr_of}
use Rattle.step_eval.specs.Progress.{ProgressView}
use Rattle.commit_book.specs.Book.{BookView, offered}
use Rattle.commit_book.specs.Commits.{IsMoved, line_after, row_at}
use Rattle.commit_book.specs.Doing.{waits_with}
use Rattle.commit_book.specs.Rows.{Row, events_by, local_of, movers, steps_of}
use Rattle.commit_book.specs.Turns.{IsLeaseOf, leased}
use Rattle.commit_book.specs.Undoing.{begun, loses_a_step, undo_by}
use Rattle.commit_book.proofs.Threads.Choosing.{chosen_front}
use Rattle.commit_book.proofs.Threads.Lending.{get-changed}
use Rattle.commit_book.proofs.Threads.Partners.{IsThere, there_of}
use Rattle.lone_worker.specs.Desk.{IsUnlent, seat_of}
use Rattle.lone_worker.specs.Solo.{BeginsWith}
use Rattle.lone_worker.specs.Turn.{IsTurnOf, IsWorked, worker}
use Rattle.lone_worker.proofs.Ending.{Moved, TookBack, left_of}
use Rattle.lone_worker.proofs.NewLine.{IsNewLine, joins}
use Rattle.lone_worker.proofs.PureSteps.{MakesAll}

module _ (a x : BookView) (unlent : IsUnlent a) (after : IsUnlent x) (turn : IsTurnOf a x) where
  abbrev pub t : ℕ
  t = turn.lease.thread

  abbrev p : ProgramParts
  p = a.job.program

  pub here : IsThere (map.get a.threads t) (IsLeaseOf a worker turn.lease turn.control)
  here = there_of (map.get a.threads t) (IsLeaseOf a worker turn.lease turn.control) turn.leases.1

  pub works : IsWorked (leased a t) x turn.lease turn.control
  works = subst (λ (b : BookView). IsWorked b x turn.lease turn.control) turn.leases.2 turn.works

  abbrev pub progress : ProgressView
  progress = works.progress

  abbrev pub stood : Expr
  stood = expr_of p here.value.control

  abbrev pub end : Expr
  end = expr_of p progress.end

  abbrev pub row : Row
  row = row_at (leased a t) turn.lease progress

  -- what it leaves, by its row
  pub leaves : Moved (leased a t) x turn.lease progress ⊎ TookBack (leased a t) x turn.lease progress
  leaves = left_of (leased a t) x turn.lease progress works.done works.made works.commits

  -- it is the thread that is ready longest, which makes as many pure steps as it may
  pub front : slice_get a.queue 0 ≡ Some t
  front = chosen_front a (record { 0 = t }) turn.leases.0

  pub seat : option_map (seat_of p) (map.get a.threads t) ≡ Some (seat_of p here.value)
  seat = ap (option_map (seat_of p)) here.found

  pub makes : MakesAll (language_of p) a.job.quantum stood progress.steps end
  makes = record {
    made = ap (λ c. pure_steps (language_of p) progress.steps (expr_of p c)) (sym here.is.control ∙ sym works.advances.origin) ∙ works.advances.made.made;
    within = works.advances.within;
    stops = works.advances.stops;
  }

  -- ---- where it took a section back

  module _ (took : TookBack (leased a t) x turn.lease progress) where
    abbrev pub section : ℕ
    section = took.section

    -- the run once the pure steps were made
    abbrev pub run : List Numbered
    run = begun (leased a t) t progress.steps

    pub job_after : x.job ≡ a.job
    job_after = took.taken.job

    pub events_after : x.history.events ≡ a.history.events ++ events_by worker (local_of t progress.steps) ++ undo_by worker t section ∷ []
    events_after = took.taken.events ∙ ap (λ w. a.history.events ++ events_by w (local_of t progress.steps) ++ undo_by w t section ∷ []) here.is.worker

    pub queue_after : x.queue ≡ others (loses_a_step run section) (without t a.queue) ++ numbers (λ u. loses_a_step run section u && map.contains_key x.threads u) x.next.thread
    queue_after = took.taken.queue

    pub lines_after : (c : ℕ) → map.get x.offers.lines c ≡ cond (is_unmade (has (reached run section)) c run) None (option_map (without_all (loses_a_step run section)) (map.get a.offers.lines c))
    lines_after = took.taken.lines

  -- ---- where its row moved threads

  module _ (moved : IsMoved (leased a t) (record x { answered = a.answered }) turn.lease.worker t progress.steps row) where
    pub job_left : x.job ≡ a.job
    job_left = moved.job

    abbrev pub added : List Event
    added = events_by worker (local_of t progress.steps ++ steps_of t row)

    pub events_left : x.history.events ≡ a.history.events ++ added
    events_left = ap (λ j. j.events) moved.history ∙ ap (λ w. a.history.events ++ events_by w (local_of t progress.steps ++ steps_of t row)) here.is.worker

    pub queue_left : x.queue ≡ without t (without t a.queue) ++ filter (λ u. not (is_in Ended x.threads u)) (movers t row)
    queue_left = moved.queue

    pub line_left : (c : ℕ) (line : Line) → map.get a.offers.lines c ≡ Some line → map.get x.offers.lines c ≡ Some (line_after t row c line)
    line_left c line found = subst (λ (o : Option Line). IfSome o (λ line. map.get x.offers.lines c ≡ Some (line_after t row c line))) found (moved.lines c)

    -- ---- who waits on a channel that wasn't there

    -- who isn't lent offers what it did
    same_offer : (u : ℕ) → nat_eq u t ≡ false → map.get (leased a t).offers.offers u ≡ option_and_then (waits_with (offered p)) (map.get (leased a t).threads u)
    same_offer u apart =
        unlent.shown.shows.threads.offers.each u
        ∙ sym (ap (option_and_then (waits_with (offered p))) (get-changed a.threads t u (λ (slot : Slot ControlView). record slot { state = Leased })
        ∙ ap (λ b. cond b (option_map (λ (slot : Slot ControlView). record slot { state = Leased }) (map.get a.threads t)) (map.get a.threads u)) apart))

    pub new_line : (c : ℕ) (l : Line) → map.get a.offers.lines c ≡ None → map.get x.offers.lines c ≡ Some l → IsNewLine x t c l
    new_line = joins (leased a t) x turn.lease.worker t progress.steps row moved after.shown same_offer unlent.shown.shows.threads.offers.lines.backed

  -- in each case what happened before stays as it was
  pub begins : BeginsWith x.history.events a.history.events
  begins = by leaves
    where
      by : Moved (leased a t) x turn.lease progress ⊎ TookBack (leased a t) x turn.lease progress → BeginsWith x.history.events a.history.events
      by (inl m) = record { rest = added m.moved; is = events_left m.moved }
      by (inr took) = record {
        rest = events_by worker (local_of t progress.steps) ++ undo_by worker t (section took) ∷ [];
        is = events_after took ∙ append_assoc a.history.events (events_by worker (local_of t progress.steps)) (undo_by worker t (section took) ∷ []);
      }
