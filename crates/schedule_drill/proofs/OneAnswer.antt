-- Commits that are made from one desk tell the same.
use Rattle.std.proofs.Common.{◌≡◌, ℕ, ◌+◌, List, ◌++◌, length, sym, ap, ◌∙◌}
use Rattle.stab_journal.specs.declared.event.Numbered.{Numbered}
use Rattle.stab_journal.specs.Journal.{survivors}
use Rattle.stab_journal.specs.Reached.{reached}
use Rattle.stab_journal.specs.Surviving.{run_of}
use Rattle.language.specs.Expression.{Expr}
use Rattle.language.specs.Plain.{look_in}
use Rattle.language.specs.Redex.{mark}
use Rattle.language.specs.Table.{Look, act, stabilizes}
use Rattle.journal_laws.proofs.Undone.{stands_run}
use Rattle.step_eval.specs.ControlView.{expr_of}
use Rattle.step_eval.specs.Progress.{ProgressView}
use Rattle.commit_book.specs.declared.done.Done.{Done}
use Rattle.commit_book.specs.declared.done.Done.TheVariants.{Taken, Parked, Undone, Stale, Over}
use Rattle.commit_book.specs.Book.{BookView, IsShown}
use Rattle.commit_book.specs.Commits.{IsAnsweredBy, answer_of, pushed, row_at}
use Rattle.commit_book.specs.Leases.{LeaseView}
use Rattle.commit_book.specs.Rows.{Row, alone, starts, meets, waits, stays, undoes, local_of, numbered_from, row_of, section_row, steps_of}
use Rattle.commit_book.specs.Step.{next_seq}
use Rattle.commit_book.specs.Undoing.{begun}
use Rattle.lone_worker.specs.Desk.{Desk, desk_of}
use Rattle.schedule_drill.specs.Text.{done_text, undone_text}

-- what a row tells, where the next event has this number, so many steps are pushed, and this run is left
abbrev row_text : ℕ → ℕ → List Numbered → Row → List ℕ
row_text first count run (undoes m) = undone_text (record { 0 = first }) (count + 1) (record { 0 = m }) (length (reached run m))
row_text first count run row = done_text (answer_of first count row)

module _ (b : BookView) (lease : LeaseView) (progress : ProgressView) where
  abbrev text_at : Row → List ℕ
  text_at row = row_text (next_seq b) (pushed lease progress row) (begun b lease.thread progress.steps) row

  row_told : (row : Row) (done : Done) → IsAnsweredBy b lease progress row done → done_text done ≡ text_at row
  row_told (undoes m) (Undone first count mark removed marks) is =
      λ i. undone_text (record { 0 = is.0 i }) (is.1 i) (record { 0 = is.2.section i }) (is.2.count i)
  row_told (undoes m) (Taken first count) is = absurd is
  row_told (undoes m) (Parked first count) is = absurd is
  row_told (undoes m) (Stale lent now) is = absurd is
  row_told (undoes m) (Over weight) is = absurd is
  row_told (alone l) done is = ap done_text is
  row_told (starts u) done is = ap done_text is
  row_told (meets u l) done is = ap done_text is
  row_told (waits o) done is = ap done_text is
  row_told stays done is = ap done_text is

-- books with one history's events leave one run
one_run : (a b : BookView) → IsShown a → IsShown b → a.history.events ≡ b.history.events → survivors a.history ≡ survivors b.history
one_run a b shown_a shown_b events = run_left a shown_a ∙ ap run_of events ∙ sym (run_left b shown_b)
  where
    run_left : (c : BookView) → IsShown c → survivors c.history ≡ run_of c.history.events
    run_left c shown = shown.shows.journal.history.left ∙ (stands_run c.job.program c.history.events shown.run shown.state shown.shows.journal.history.stands).0

-- the row follows from the desk, and from the run that is left
one_row : (a b : BookView) → desk_of a ≡ desk_of b → survivors a.history ≡ survivors b.history → (k : ℕ) (e : Expr) (l : Look Expr) → row_of a k e l ≡ row_of b k e l
one_row a b same runs k e (act stabilizes) = λ i. section_row (runs i) k (mark e)
one_row a b same runs k e l = λ i. row_of (on (same i)) k e l
  where
    on : Desk → BookView
    on d = record a { job = d.job; history = record a.history { events = d.events }; offers = d.offers; next = d.next }

module _ (a b : BookView) (l m : LeaseView) (f g : ProgressView) (same : desk_of a ≡ desk_of b) (shown_a : IsShown a) (shown_b : IsShown b) (lease : l ≡ m) (steps : f.steps ≡ g.steps) (end : expr_of a.job.program f.end ≡ expr_of b.job.program g.end) where
  pub runs : survivors a.history ≡ survivors b.history
  runs = one_run a b shown_a shown_b (ap (λ (d : Desk). d.events) same)

  pub row : row_at a l f ≡ row_at b m g
  row =
      (λ i. row_of a (lease i).thread (end i) (look_in (same i).job.program (end i)))
      ∙ one_row a b same runs m.thread (expr_of b.job.program g.end) (look_in b.job.program (expr_of b.job.program g.end))

  one_text : text_at a l f (row_at a l f) ≡ text_at b m g (row_at b m g)
  one_text = λ i. row_text (length (same i).events + 1) (length (local_of (lease i).thread (steps i) ++ steps_of (lease i).thread (row i)))
      (runs i ++ numbered_from (length (same i).events + 1) (local_of (lease i).thread (steps i))) (row i)

  pub one_answer : (d e : Done) → IsAnsweredBy a l f (row_at a l f) d → IsAnsweredBy b m g (row_at b m g) e → done_text d ≡ done_text e
  one_answer d e here there = row_told a l f (row_at a l f) d here ∙ one_text ∙ sym (row_told b m g (row_at b m g) e there)
