-- From one desk a commit that moves threads leaves one desk.
use Rattle.std.proofs.Common.{◌≡◌, ℕ, Bool, true, false, not, ◌∷◌, ◌++◌, filter, Option, Some, None, refl, sym, ap, subst, ◌∙◌}
use Rattle.std.specs.Prelude.{IfSome, IsSomeAnd, is_some}
use Rattle.std.specs.Cmp.{nat_cmp_total}
use Rattle.std.specs.FinMap as map
use Rattle.std.specs.FinMap.{same_map, nat_cmp-IsAntisymmetric}
use Rattle.std.specs.FinSet as set
use Rattle.std.proofs.lemmas.Bool.{false≢true}
use Rattle.linked_lists.specs.Lists.{is_listed, without}
use Rattle.thread_slots.specs.declared.state.State.TheVariants.{Leased, Ended}
use Rattle.thread_slots.specs.Slot.{is_in}
use Rattle.rendezvous.specs.Line.{Line}
use Rattle.step_eval.specs.ControlView.{expr_of}
use Rattle.step_eval.specs.Progress.{Advances, ProgressView}
use Rattle.commit_book.specs.Book.{BookView, IsShown}
use Rattle.commit_book.specs.Commits.{IsMoved, line_after, row_at}
use Rattle.commit_book.specs.Leases.{LeaseView}
use Rattle.commit_book.specs.Rows.{undoes, events_by, local_of, movers, steps_of}
use Rattle.lone_worker.specs.Desk.{Desk, desk_of}
use Rattle.lone_worker.specs.Turn.{IsHeldAs}
use Rattle.lone_worker.proofs.Freed.{changed_free, kept_lent}
use Rattle.lone_worker.proofs.NewLine.{IsNewLine, joins, one_new}
use Rattle.lone_worker.proofs.OneDesk.{one_end, one_ended}
use Rattle.schedule_drill.proofs.Desks.{one_in}
use Rattle.schedule_drill.proofs.OneAnswer as answer
use Rattle.schedule_drill.proofs.OneSeat.{one_desk, one_offer}

-- a thread that was lent made its steps, and its commit moved threads
pub record IsGone (old new : BookView) (l : LeaseView) (f : ProgressView) : Type 0 where
  pub shown : IsShown old
  pub shown_new : IsShown new
  pub held : IsSomeAnd (map.get old.threads l.thread) (IsHeldAs l f.origin)
  pub advances : Advances old.job.program f.origin f.steps f.end
  pub moved : IsMoved old (record new { answered = old.answered }) l.worker l.thread f.steps (row_at old l f)
  pub undoes_nothing : (m : ℕ) → row_at old l f ≡ undoes m → ⊥

module _ (old new : BookView) (l : LeaseView) (f : ProgressView) (is : IsGone old new l f) where
  -- whom the commit may change
  abbrev pub changes : ℕ → Bool
  changes u = is_listed u (l.thread ∷ movers l.thread (row_at old l f))

  pub changed_unlent : (u : ℕ) → changes u ≡ true → is_in Leased new.threads u ≡ false
  changed_unlent = changed_free old new l f is.shown is.shown_new is.held is.advances (row_at old l f) refl is.undoes_nothing is.moved

  pub others_lent : (u : ℕ) → changes u ≡ false → is_in Leased new.threads u ≡ is_in Leased old.threads u
  others_lent = kept_lent old new l f is.shown is.shown_new is.held is.advances (row_at old l f) refl is.undoes_nothing is.moved

  pub new_line : (c : ℕ) (line : Line) → map.get old.offers.lines c ≡ None → map.get new.offers.lines c ≡ Some line → IsNewLine new l.thread c line
  new_line =
      joins old new l.worker l.thread f.steps (row_at old l f) is.moved is.shown_new
      (λ u apart. is.shown.shows.threads.offers.each u) is.shown.shows.threads.offers.lines.backed

  pub line_left : (c : ℕ) (line : Line) → map.get old.offers.lines c ≡ Some line → map.get new.offers.lines c ≡ Some (line_after l.thread (row_at old l f) c line)
  line_left c line found = subst (λ (o : Option Line). IfSome o (λ k. map.get new.offers.lines c ≡ Some (line_after l.thread (row_at old l f) c k))) found (is.moved.lines c)

module _ (a b x y : BookView) (l k : LeaseView) (f g : ProgressView) (gone_a : IsGone a x l f) (gone_b : IsGone b y k g) (same : desk_of a ≡ desk_of b) (lease : l ≡ k) (steps : f.steps ≡ g.steps) (end : expr_of a.job.program f.end ≡ expr_of b.job.program g.end) where
  row : row_at a l f ≡ row_at b k g
  row = answer.row a b l k f g same gone_a.shown gone_b.shown lease steps end

  job : x.job ≡ y.job
  job = gone_a.moved.job ∙ ap (λ (d : Desk). d.job) same ∙ sym gone_b.moved.job

  events : x.history.events ≡ y.history.events
  events =
      ap (λ j. j.events) gone_a.moved.history
      ∙ (λ i. (same i).events ++ events_by (lease i).worker (local_of (lease i).thread (steps i) ++ steps_of (lease i).thread (row i)))
      ∙ sym (ap (λ j. j.events) gone_b.moved.history)

  ended : (u : ℕ) → is_in Ended x.threads u ≡ is_in Ended y.threads u
  ended = one_ended x y gone_a.shown_new gone_b.shown_new job events

  queue : x.queue ≡ y.queue
  queue =
      gone_a.moved.queue
      ∙ (λ i. without (lease i).thread (same i).queue ++ filter (λ u. not (ended u i)) (movers (lease i).thread (row i)))
      ∙ sym gone_b.moved.queue

  leased : (u : ℕ) → is_in Leased x.threads u ≡ is_in Leased y.threads u
  leased u = by (changes a x l f gone_a u) refl
    where
      there : changes b y k g gone_b u ≡ changes a x l f gone_a u
      there = sym (λ i. is_listed u ((lease i).thread ∷ movers (lease i).thread (row i)))

      by : (h : Bool) → changes a x l f gone_a u ≡ h → is_in Leased x.threads u ≡ is_in Leased y.threads u
      by true hit = changed_unlent a x l f gone_a u hit ∙ sym (changed_unlent b y k g gone_b u (there ∙ hit))
      by false miss = others_lent a x l f gone_a u miss ∙ one_in a b same Leased u ∙ sym (others_lent b y k g gone_b u (there ∙ miss))

  offer : map.get x.offers.offers l.thread ≡ map.get y.offers.offers l.thread
  offer = one_offer x y gone_a.shown_new gone_b.shown_new job events queue leased l.thread

  line_at : (c : ℕ) → map.get a.offers.lines c ≡ map.get b.offers.lines c
  line_at c = ap (λ (d : Desk). map.get d.offers.lines c) same

  channel : (c : ℕ) → is_some (map.get x.offers.lines c) ≡ is_some (map.get y.offers.lines c)
  channel c =
      gone_a.shown_new.shows.journal.channels c
      ∙ ap (λ s. set.contains s.channels c) (one_end x y gone_a.shown_new gone_b.shown_new job events)
      ∙ sym (gone_b.shown_new.shows.journal.channels c)

  new_by : (c : ℕ) → map.get a.offers.lines c ≡ None → (o r : Option Line) → map.get x.offers.lines c ≡ o → map.get y.offers.lines c ≡ r → is_some o ≡ is_some r → o ≡ r
  new_by c none None None here there both = refl
  new_by c none None (Some m) here there both = absurd (false≢true both)
  new_by c none (Some n) None here there both = absurd (false≢true (sym both))
  new_by c none (Some n) (Some m) here there both =
      let two = new_line b y k g gone_b c m (sym (line_at c) ∙ none) there in
      ap Some (one_new x y l.thread c n m offer (new_line a x l f gone_a c n none here) (subst (λ (h : LeaseView). IsNewLine y h.thread c m) (sym lease) two))

  line_by : (c : ℕ) (o : Option Line) → map.get a.offers.lines c ≡ o → map.get x.offers.lines c ≡ map.get y.offers.lines c
  line_by c None none = new_by c none (map.get x.offers.lines c) (map.get y.offers.lines c) refl refl (channel c)
  line_by c (Some n) found =
      line_left a x l f gone_a c n found
      ∙ (λ i. Some (line_after (lease i).thread (row i) c n))
      ∙ sym (line_left b y k g gone_b c n (sym (line_at c) ∙ found))

  pub both_moved : desk_of x ≡ desk_of y
  both_moved =
      one_desk x y gone_a.shown_new gone_b.shown_new job events queue leased
      (same_map nat_cmp_total nat_cmp-IsAntisymmetric x.offers.lines y.offers.lines (λ c. line_by c (map.get a.offers.lines c) refl))
