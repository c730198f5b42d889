-- From one desk an undo leaves one desk.
use Rattle.std.proofs.Common.{◌≡◌, ℕ, ◌+◌, Bool, true, false, cond, ◌&&◌, List, [], ◌∷◌, ◌++◌, length, Option, Some, None, refl, sym, ap, subst, subst₂, ◌∙◌}
use Rattle.std.specs.Prelude.{is_some, option_map}
use Rattle.std.specs.Cmp.{nat_cmp_total}
use Rattle.std.specs.FinMap as map
use Rattle.std.specs.FinMap.{same_map, nat_cmp-IsAntisymmetric}
use Rattle.stab_journal.specs.declared.event.Numbered.{Numbered}
use Rattle.stab_journal.specs.Names.{has}
use Rattle.stab_journal.specs.Reached.{reached}
use Rattle.thread_slots.specs.declared.state.State.TheVariants.{Leased}
use Rattle.thread_slots.specs.Ready.{numbers}
use Rattle.thread_slots.specs.Slot.{Slot, is_in}
use Rattle.restore.specs.Left.{others, without_all}
use Rattle.journal_laws.specs.Lost.{is_unmade}
use Rattle.step_eval.specs.ControlView.{ControlView, expr_of}
use Rattle.step_eval.specs.Progress.{ProgressView}
use Rattle.commit_book.specs.Book.{BookView, IsShown}
use Rattle.commit_book.specs.Commits.{IsLeftBy, row_at}
use Rattle.commit_book.specs.Leases.{LeaseView}
use Rattle.commit_book.specs.Rows.{undoes, events_by, local_of, numbered_from}
use Rattle.commit_book.specs.Undoing.{IsTakenBack, begun, loses_a_step, undo_by}
use Rattle.lone_worker.specs.Desk.{Desk, desk_of}
use Rattle.lone_worker.proofs.FreedUndone.{lost_free, others_lent}
use Rattle.lone_worker.proofs.OneDesk.{one_next, one_stand}
use Rattle.schedule_drill.proofs.Desks.{one_in}
use Rattle.schedule_drill.proofs.OneAnswer.{row, runs}
use Rattle.schedule_drill.proofs.OneSeat.{one_desk}

-- who stands somewhere is there
stands_there : (b : BookView) (o : Option (Slot ControlView)) → is_some o ≡ is_some (option_map (λ (slot : Slot ControlView). expr_of b.job.program slot.control) o)
stands_there b None = refl
stands_there b (Some slot) = refl

module _ (a b x y : BookView) (shown_x : IsShown x) (shown_y : IsShown y) (same : desk_of a ≡ desk_of b) (w t n m : ℕ) (run other : List Numbered) (one : run ≡ other)
    (taken_a : IsTakenBack a (record x { answered = a.answered }) w t n m run) (taken_b : IsTakenBack b (record y { answered = b.answered }) w t n m other) where
  job : x.job ≡ y.job
  job = taken_a.job ∙ ap (λ (d : Desk). d.job) same ∙ sym taken_b.job

  events : x.history.events ≡ y.history.events
  events = taken_a.events ∙ (λ i. (same i).events ++ events_by w (local_of t n) ++ undo_by w t m ∷ []) ∙ sym taken_b.events

  there : (k : ℕ) → map.contains_key x.threads k ≡ map.contains_key y.threads k
  there k = stands_there x (map.get x.threads k) ∙ ap is_some (one_stand x y shown_x shown_y job events k) ∙ sym (stands_there y (map.get y.threads k))

  queue : x.queue ≡ y.queue
  queue =
      let next = one_next x y shown_x shown_y job events in
      taken_a.queue
      ∙ (λ i. others (loses_a_step (one i) m) (same i).queue ++ numbers (λ k. loses_a_step (one i) m k && there k i) (next i).thread)
      ∙ sym taken_b.queue

  lines : (c : ℕ) → map.get x.offers.lines c ≡ map.get y.offers.lines c
  lines c =
      taken_a.lines c
      ∙ (λ i. cond (is_unmade (has (reached (one i) m)) c (one i)) None (option_map (without_all (loses_a_step (one i) m)) (map.get (same i).offers.lines c)))
      ∙ sym (taken_b.lines c)

  leased : (u : ℕ) → is_in Leased x.threads u ≡ is_in Leased y.threads u
  leased u = by (loses_a_step run m u) refl
    where
      by : (h : Bool) → loses_a_step run m u ≡ h → is_in Leased x.threads u ≡ is_in Leased y.threads u
      by true hit = lost_free a x w t n m run shown_x taken_a u hit ∙ sym (lost_free b y w t n m other shown_y taken_b u (ap (λ r. loses_a_step r m u) (sym one) ∙ hit))
      by false miss =
          others_lent a x w t n m run shown_x taken_a u miss
          ∙ one_in a b same Leased u
          ∙ sym (others_lent b y w t n m other shown_y taken_b u (ap (λ r. loses_a_step r m u) (sym one) ∙ miss))

  pub both_undone : desk_of x ≡ desk_of y
  both_undone = one_desk x y shown_x shown_y job events queue leased (same_map nat_cmp_total nat_cmp-IsAntisymmetric x.offers.lines y.offers.lines lines)

-- the same of commits by one lease
pub one_undone : (a b x y : BookView) (l k : LeaseView) (f g : ProgressView) (m : ℕ) → IsShown a → IsShown b → IsShown x → IsShown y → desk_of a ≡ desk_of b → l ≡ k → f.steps ≡ g.steps → expr_of a.job.program f.end ≡ expr_of b.job.program g.end
    → row_at a l f ≡ undoes m → IsLeftBy a x l f (row_at a l f) → IsLeftBy b y k g (row_at b k g) → desk_of x ≡ desk_of y
one_undone a b x y l k f g m shown_a shown_b shown_x shown_y same lease steps end is left_a left_b =
    let row_b = sym (row a b l k f g same shown_a shown_b lease steps end) ∙ is in
    let taken_a = subst (IsLeftBy a x l f) is left_a in
    let taken_b = subst (IsLeftBy b y k g) row_b left_b in
    let moved = subst₂ (λ (o : LeaseView) n. IsTakenBack b (record y { answered = b.answered }) o.worker o.thread n m (begun b o.thread n)) (sym lease) (sym steps) taken_b.0 in
    let one : begun a l.thread f.steps ≡ begun b l.thread f.steps = λ i. runs a b l k f g same shown_a shown_b lease steps end i ++ numbered_from (length ((same i).events) + 1) (local_of l.thread f.steps) in
    both_undone a b x y shown_x shown_y same l.worker l.thread f.steps m (begun a l.thread f.steps) (begun b l.thread f.steps) one taken_a.0 moved
