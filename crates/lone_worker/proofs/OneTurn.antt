-- From one desk a turn leaves one desk.
use Rattle.std.proofs.Common.{◌≡◌, ◌⊎◌, inl, inr, ℕ, ◌+◌, cond, not, ◌&&◌, [], ◌∷◌, ◌++◌, filter, length, Option, Some, None, refl, sym, ap, subst, ◌∙◌}
use Rattle.std.specs.Prelude.{is_some, option_map, slice_get}
use Rattle.std.specs.Cmp.{nat_cmp_total}
use Rattle.std.specs.FinMap as map
use Rattle.std.specs.FinMap.{same_map, nat_cmp-IsAntisymmetric}
use Rattle.std.specs.FinSet as set
use Rattle.std.proofs.lemmas.Bool.{false≢true}
use Rattle.linked_lists.specs.Lists.{without}
use Rattle.stab_code.specs.JobParts.{JobParts}
use Rattle.stab_journal.specs.Journal.{survivors}
use Rattle.stab_journal.specs.Names.{has}
use Rattle.stab_journal.specs.Reached.{reached}
use Rattle.stab_journal.specs.Surviving.{run_of}
use Rattle.thread_slots.specs.declared.state.State.TheVariants.{Ended}
use Rattle.thread_slots.specs.Ready.{numbers}
use Rattle.thread_slots.specs.Slot.{Slot, is_in}
use Rattle.rendezvous.specs.Line.{Line}
use Rattle.restore.specs.Left.{others, without_all}
use Rattle.language.specs.Expression.{Expr}
use Rattle.language.specs.Plain.{language_of, look_in}
use Rattle.language.specs.Redex.{mark}
use Rattle.language.specs.Table.{Look, act, stabilizes}
use Rattle.journal_laws.specs.Lost.{is_unmade}
use Rattle.journal_laws.proofs.Surviving.{some_is}
use Rattle.journal_laws.proofs.Undone.{stands_run}
use Rattle.step_eval.specs.ControlView.{ControlView, expr_of}
use Rattle.commit_book.specs.Book.{BookView, IsShown}
use Rattle.commit_book.specs.Commits.{IsMoved, line_after}
use Rattle.commit_book.specs.Rows.{Row, events_by, local_of, movers, numbered_from, row_of, section_row, steps_of, undoes}
use Rattle.commit_book.specs.Turns.{leased}
use Rattle.commit_book.specs.Undoing.{loses_a_step, undo_by}
use Rattle.lone_worker.specs.Desk.{Desk, Seat, IsUnlent, desk_of, seat_of}
use Rattle.lone_worker.specs.Turn.{IsTurnOf, worker}
use Rattle.lone_worker.proofs.LeftByTurn as left
use Rattle.lone_worker.proofs.NewLine.{IsNewLine, one_new}
use Rattle.lone_worker.proofs.Ending.{Moved, TookBack}
use Rattle.lone_worker.proofs.OneDesk.{each_free, one_desk, one_end, one_ended, one_next, one_offer, one_stand}
use Rattle.lone_worker.proofs.PureSteps.{AreSame, MakesAll, same_steps}

-- ---- the row

-- books with one history's events leave one run
one_run : (a b : BookView) → IsShown a → IsShown b → a.history.events ≡ b.history.events → survivors a.history ≡ survivors b.history
one_run a b shown_a shown_b events = run_left a shown_a ∙ ap run_of events ∙ sym (run_left b shown_b)
  where
    run_left : (c : BookView) → IsShown c → survivors c.history ≡ run_of c.history.events
    run_left c shown = shown.shows.journal.history.left ∙ (stands_run c.job.program c.history.events shown.run shown.state shown.shows.journal.history.stands).0

-- the row follows from the desk, and from the run that is left
one_row : (a b : BookView) → desk_of a ≡ desk_of b → survivors a.history ≡ survivors b.history → (k : ℕ) (e : Expr) (l : Look Expr) → row_of a k e l ≡ row_of b k e l
one_row a b same runs k e (act stabilizes) = λ i. section_row (runs i) k (mark e)
one_row a b same runs k e l = λ i. row_of (on (same i)) k e l
  where
    on : Desk → BookView
    on d = record a { job = d.job; history = record a.history { events = d.events }; offers = d.offers; next = d.next }

one_section : (m n : ℕ) → undoes m ≡ undoes n → m ≡ n
one_section m n is = cc

-- who stands somewhere is there
stands_there : (f : ControlView → Expr) (o : Option (Slot ControlView)) → is_some o ≡ is_some (option_map (λ (slot : Slot ControlView). f slot.control) o)
stands_there f None = refl
stands_there f (Some slot) = refl

module _ (a b x y : BookView) (unlent_a : IsUnlent a) (unlent_b : IsUnlent b) (unlent_x : IsUnlent x) (unlent_y : IsUnlent y) (turn_a : IsTurnOf a x) (turn_b : IsTurnOf b y) (same : desk_of a ≡ desk_of b) where
  abbrev t : ℕ
  t = left.t a x unlent_a unlent_x turn_a

  abbrev u : ℕ
  u = left.t b y unlent_b unlent_y turn_b

  abbrev end_a : Expr
  end_a = left.end a x unlent_a unlent_x turn_a

  abbrev end_b : Expr
  end_b = left.end b y unlent_b unlent_y turn_b

  abbrev steps_a : ℕ
  steps_a = (left.progress a x unlent_a unlent_x turn_a).steps

  abbrev steps_b : ℕ
  steps_b = (left.progress b y unlent_b unlent_y turn_b).steps

  abbrev row_a : Row
  row_a = left.row a x unlent_a unlent_x turn_a

  abbrev row_b : Row
  row_b = left.row b y unlent_b unlent_y turn_b

  job : a.job ≡ b.job
  job = ap (λ (d : Desk). d.job) same

  thread : t ≡ u
  thread = some_is (sym (left.front a x unlent_a unlent_x turn_a) ∙ ap (λ (d : Desk). slice_get d.queue 0) same ∙ left.front b y unlent_b unlent_y turn_b)

  seat : seat_of a.job.program (left.here a x unlent_a unlent_x turn_a).value ≡ seat_of b.job.program (left.here b y unlent_b unlent_y turn_b).value
  seat = some_is (sym (left.seat a x unlent_a unlent_x turn_a) ∙ (λ i. (same i).threads (thread i)) ∙ left.seat b y unlent_b unlent_y turn_b)

  made : AreSame (language_of b.job.program) steps_a steps_b end_a end_b
  made =
      let here = subst (λ (j : JobParts). MakesAll (language_of j.program) j.quantum (left.stood a x unlent_a unlent_x turn_a) steps_a end_a) job (left.makes a x unlent_a unlent_x turn_a) in
      let there = subst (λ (e : Expr). MakesAll (language_of b.job.program) b.job.quantum e steps_a end_a) (ap (λ (s : Seat). s.stands) seat) here in
      same_steps (language_of b.job.program) b.job.quantum steps_a steps_b (left.stood b y unlent_b unlent_y turn_b) end_a end_b there (left.makes b y unlent_b unlent_y turn_b)

  -- they leave one run
  runs : survivors a.history ≡ survivors b.history
  runs = one_run a b unlent_a.shown unlent_b.shown (ap (λ (d : Desk). d.events) same)

  row : row_a ≡ row_b
  row =
      (λ i. row_of a (thread i) (made.end i) (look_in (job i).program (made.end i)))
      ∙ one_row a b same runs u end_b (look_in b.job.program end_b)

  -- ---- where both took a section back

  module _ (took_a : TookBack (leased a t) x turn_a.lease (left.progress a x unlent_a unlent_x turn_a)) (took_b : TookBack (leased b u) y turn_b.lease (left.progress b y unlent_b unlent_y turn_b)) where
    section : took_a.section ≡ took_b.section
    section = one_section took_a.section took_b.section (sym took_a.row ∙ row ∙ took_b.row)

    run : left.run a x unlent_a unlent_x turn_a took_a ≡ left.run b y unlent_b unlent_y turn_b took_b
    run = λ i. runs i ++ numbered_from (length ((same i).events) + 1) (local_of (thread i) (made.steps i))

    job_after : x.job ≡ y.job
    job_after = left.job_after a x unlent_a unlent_x turn_a took_a ∙ job ∙ sym (left.job_after b y unlent_b unlent_y turn_b took_b)

    events_after : x.history.events ≡ y.history.events
    events_after =
        left.events_after a x unlent_a unlent_x turn_a took_a
        ∙ (λ i. (same i).events ++ events_by worker (local_of (thread i) (made.steps i)) ++ undo_by worker (thread i) (section i) ∷ [])
        ∙ sym (left.events_after b y unlent_b unlent_y turn_b took_b)

    there : (k : ℕ) → map.contains_key x.threads k ≡ map.contains_key y.threads k
    there k = stands_there (expr_of x.job.program) (map.get x.threads k) ∙ ap is_some (one_stand x y unlent_x.shown unlent_y.shown job_after events_after k) ∙ sym (stands_there (expr_of y.job.program) (map.get y.threads k))

    next : x.next ≡ y.next
    next = one_next x y unlent_x.shown unlent_y.shown job_after events_after

    queue_after : x.queue ≡ y.queue
    queue_after =
        left.queue_after a x unlent_a unlent_x turn_a took_a
        ∙ (λ i. others (loses_a_step (run i) (section i)) (without (thread i) (same i).queue) ++ numbers (λ k. loses_a_step (run i) (section i) k && there k i) (next i).thread)
        ∙ sym (left.queue_after b y unlent_b unlent_y turn_b took_b)

    line_after_undo : (c : ℕ) → map.get x.offers.lines c ≡ map.get y.offers.lines c
    line_after_undo c =
        left.lines_after a x unlent_a unlent_x turn_a took_a c
        ∙ (λ i. cond (is_unmade (has (reached (run i) (section i))) c (run i)) None (option_map (without_all (loses_a_step (run i) (section i))) (map.get (same i).offers.lines c)))
        ∙ sym (left.lines_after b y unlent_b unlent_y turn_b took_b c)

    both_undone : desk_of x ≡ desk_of y
    both_undone =
        one_desk x y unlent_x.shown unlent_y.shown job_after events_after queue_after (each_free x unlent_x) (each_free y unlent_y)
        (same_map nat_cmp_total nat_cmp-IsAntisymmetric x.offers.lines y.offers.lines line_after_undo)

  -- ---- where both moved threads

  module _ (moved_a : IsMoved (leased a t) (record x { answered = a.answered }) turn_a.lease.worker t steps_a row_a) (moved_b : IsMoved (leased b u) (record y { answered = b.answered }) turn_b.lease.worker u steps_b row_b) where
    job_left : x.job ≡ y.job
    job_left = left.job_left a x unlent_a unlent_x turn_a moved_a ∙ job ∙ sym (left.job_left b y unlent_b unlent_y turn_b moved_b)

    events_left : x.history.events ≡ y.history.events
    events_left =
        left.events_left a x unlent_a unlent_x turn_a moved_a
        ∙ (λ i. (same i).events ++ events_by worker (local_of (thread i) (made.steps i) ++ steps_of (thread i) (row i)))
        ∙ sym (left.events_left b y unlent_b unlent_y turn_b moved_b)

    ended : (k : ℕ) → is_in Ended x.threads k ≡ is_in Ended y.threads k
    ended = one_ended x y unlent_x.shown unlent_y.shown job_left events_left

    queue_left : x.queue ≡ y.queue
    queue_left =
        left.queue_left a x unlent_a unlent_x turn_a moved_a
        ∙ (λ i. without (thread i) (without (thread i) (same i).queue) ++ filter (λ k. not (ended k i)) (movers (thread i) (row i)))
        ∙ sym (left.queue_left b y unlent_b unlent_y turn_b moved_b)

    offer : (k : ℕ) → map.get x.offers.offers k ≡ map.get y.offers.offers k
    offer = one_offer x y unlent_x.shown unlent_y.shown job_left events_left queue_left (each_free x unlent_x) (each_free y unlent_y)

    line_at : (c : ℕ) → map.get a.offers.lines c ≡ map.get b.offers.lines c
    line_at c = ap (λ (d : Desk). map.get d.offers.lines c) same

    channel : (c : ℕ) → is_some (map.get x.offers.lines c) ≡ is_some (map.get y.offers.lines c)
    channel c =
        unlent_x.shown.shows.journal.channels c
        ∙ ap (λ s. set.contains s.channels c) (one_end x y unlent_x.shown unlent_y.shown job_left events_left)
        ∙ sym (unlent_y.shown.shows.journal.channels c)

    new_by : (c : ℕ) → map.get a.offers.lines c ≡ None → (o r : Option Line) → map.get x.offers.lines c ≡ o → map.get y.offers.lines c ≡ r → is_some o ≡ is_some r → o ≡ r
    new_by c none None None here there both = refl
    new_by c none None (Some m) here there both = absurd (false≢true both)
    new_by c none (Some l) None here there both = absurd (false≢true (sym both))
    new_by c none (Some l) (Some m) here there both =
        let one = left.new_line a x unlent_a unlent_x turn_a moved_a c l none here in
        let two = left.new_line b y unlent_b unlent_y turn_b moved_b c m (sym (line_at c) ∙ none) there in
        ap Some (one_new x y t c l m (offer t) one (subst (λ k. IsNewLine y k c m) (sym thread) two))

    line_by : (c : ℕ) (o : Option Line) → map.get a.offers.lines c ≡ o → map.get x.offers.lines c ≡ map.get y.offers.lines c
    line_by c None none = new_by c none (map.get x.offers.lines c) (map.get y.offers.lines c) refl refl (channel c)
    line_by c (Some l) found =
        left.line_left a x unlent_a unlent_x turn_a moved_a c l found
        ∙ (λ i. Some (line_after (thread i) (row i) c l))
        ∙ sym (left.line_left b y unlent_b unlent_y turn_b moved_b c l (sym (line_at c) ∙ found))

    both_moved : desk_of x ≡ desk_of y
    both_moved =
        one_desk x y unlent_x.shown unlent_y.shown job_left events_left queue_left (each_free x unlent_x) (each_free y unlent_y)
        (same_map nat_cmp_total nat_cmp-IsAntisymmetric x.offers.lines y.offers.lines (λ c. line_by c (map.get a.offers.lines c) refl))

  -- ---- either way

  pub one_turn : desk_of x ≡ desk_of y
  one_turn = by (left.leaves a x unlent_a unlent_x turn_a) (left.leaves b y unlent_b unlent_y turn_b)
    where
      by : Moved (leased a t) x turn_a.lease (left.progress a x unlent_a unlent_x turn_a) ⊎ TookBack (leased a t) x turn_a.lease (left.progress a x unlent_a unlent_x turn_a)
          → Moved (leased b u) y turn_b.lease (left.progress b y unlent_b unlent_y turn_b) ⊎ TookBack (leased b u) y turn_b.lease (left.progress b y unlent_b unlent_y turn_b) → desk_of x ≡ desk_of y
      by (inl m) (inl n) = both_moved m.moved n.moved
      by (inl m) (inr took) = absurd (m.undoes_nothing took.section (row ∙ took.row))
      by (inr took) (inl n) = absurd (n.undoes_nothing took.section (sym row ∙ took.row))
      by (inr took) (inr other) = both_undone took other
