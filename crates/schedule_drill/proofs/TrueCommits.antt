-- What is true of leases that are out stays so when one of them is committed.
use Rattle.std.proofs.Common.{◌≡◌, ◌⊎◌, inl, inr, ℕ, ◌≤◌, Bool, true, false, cond, nat_eq, List, [], ◌∷◌, ◌++◌, Option, Some, None, refl, sym, ap, subst, ◌∙◌, append_assoc, arith}
use Rattle.std.specs.Prelude.{IfSome, is_some, option_and_then, option_map, if◌then◌else◌}
use Rattle.std.specs.Cmp.{nat_eq_equiv}
use Rattle.std.specs.FinMap as map
use Rattle.std.proofs.lemmas.Bool.{false≢true, eqb-true}
use Rattle.linked_lists.specs.Lists.{is_listed, without}
use Rattle.stab_code.specs.JobParts.{JobParts}
use Rattle.stab_journal.specs.declared.event.Event.{Event}
use Rattle.stab_journal.specs.Generation.{generation}
use Rattle.thread_slots.specs.declared.state.State.TheVariants.{Ready, Parked}
use Rattle.thread_slots.specs.Slot.{Slot, changed, same_state}
use Rattle.language.specs.Plain.{look_in}
use Rattle.journal_laws.proofs.Surviving.{some_none}
use Rattle.step_eval.specs.ControlView.{ControlView, expr_of}
use Rattle.step_eval.specs.Progress.{ProgressView}
use Rattle.commit_book.specs.declared.done.Done.{Done}
use Rattle.commit_book.specs.declared.done.Done.TheVariants.{Taken, Parked as DoneParked, Undone, Stale, Over}
use Rattle.commit_book.specs.Book.{BookView, IsShown, offered}
use Rattle.commit_book.specs.Commits.{IsCommitted, IsCurrent, IsMoved, row_at, stale_counted}
use Rattle.commit_book.specs.Doing.{waits_with}
use Rattle.commit_book.specs.Rows.{Row, alone, starts, meets, waits, stays, undoes, events_by, local_of, movers, steps_of}
use Rattle.commit_book.specs.Turns.{given_back, is_held, requeued}
use Rattle.commit_book.specs.Undoing.{IsTakenBack, begun, loses_a_step, undo_by}
use Rattle.commit_book.proofs.Threads.Holding.{isnt_changed}
use Rattle.commit_book.proofs.Threads.Lending.{get-changed}
use Rattle.commit_book.proofs.Threads.Partners.{IsThere, there_of}
use Rattle.commit_book.proofs.Threads.Waiting.{get_removed}
use Rattle.lone_worker.proofs.Ending.{Moved, TookBack, left_of}
use Rattle.schedule_drill.specs.declared.held.Held.{Held}
use Rattle.schedule_drill.specs.Alike.{AreTrue, HasMade, IsHeldTruly, IsStillLent}
use Rattle.schedule_drill.specs.Out.{Out}
use Rattle.schedule_drill.specs.Played.{IsCommit, Stand}
use Rattle.schedule_drill.proofs.Growing.{generation_grows, next_grows}
use Rattle.schedule_drill.proofs.Moved.{MovesOther, Second, moved_one, row_moves}
use Rattle.schedule_drill.proofs.Raised.{raised}
use Rattle.schedule_drill.proofs.Truth.{if_some, of_found}

-- the lease isn't of the thread that is committed, or not as it is now
abbrev IsApart : Held → Held → Type 0
IsApart h i = i.lease.thread ≡ h.lease.thread → i.lease.generation ≡ h.lease.generation → ⊥

-- ---- one lease less

module _ (old new : Stand) (k : ℕ) (h : Held) (found : map.get old.out k ≡ Some h) (out : new.out ≡ map.remove old.out k) (is : AreTrue old) where
  there : (u : ℕ) → map.get new.out u ≡ cond (nat_eq u k) None (map.get old.out u)
  there u = ap (λ (o : Out). map.get o u) out ∙ get_removed old.out k u

  was_out : (b : Bool) (o : Option Held) (i : Held) → cond b None o ≡ Some i → o ≡ Some i
  was_out true o i e = absurd (some_none (sym e))
  was_out false o i e = e

  another : (u : ℕ) → nat_eq u k ≡ false → u ≡ k → ⊥
  another u other same = false≢true (sym other ∙ ap (λ v. nat_eq v k) same ∙ nat_eq_equiv.refl k)

  less_true : ((i : Held) → IsHeldTruly old.book i → IsApart h i → IsHeldTruly new.book i) → AreTrue new
  less_true keeps = record {
    held = λ u. subst (λ o. IfSome o (IsHeldTruly new.book)) (sym (there u)) (at u (nat_eq u k) refl (map.get old.out u) refl);
    apart = λ j u i l e f. is.apart j u i l (was_out (nat_eq j k) (map.get old.out j) i (sym (there j) ∙ e)) (was_out (nat_eq u k) (map.get old.out u) l (sym (there u) ∙ f));
  }
    where
      at : (u : ℕ) (b : Bool) → nat_eq u k ≡ b → (o : Option Held) → map.get old.out u ≡ o → IfSome (cond b None o) (IsHeldTruly new.book)
      at u true same o e = tt
      at u false other None e = tt
      at u false other (Some i) e = keeps i (of_found (map.get old.out u) i (IsHeldTruly old.book) e (is.held u)) (λ thread generation. another u other (is.apart u k i h e found thread generation))

-- ---- a commit that comes too late, or to a book that takes none

stale_true : (b : BookView) (i : Held) → IsHeldTruly b i → IsHeldTruly (stale_counted b) i
stale_true b i was = record { known = was.known; older = was.older; still = was.still; made = was.made }

module _ (b : BookView) (h i : Held) (was : IsHeldTruly b i) (apart : IsApart h i) (origin : ControlView) (current : IsCurrent b.threads h.lease origin) where
  abbrev to_ready : Slot ControlView → Slot ControlView
  to_ready slot = record slot { state = Ready }

  abbrev back : BookView
  back = requeued b (changed b.threads h.lease.thread to_ready) (without h.lease.thread b.queue ++ h.lease.thread ∷ [])

  lent : IsThere (map.get b.threads h.lease.thread) (λ slot. (slot.generation ≡ h.lease.generation) × (slot.control ≡ origin))
  lent = there_of (map.get b.threads h.lease.thread) (λ slot. (slot.generation ≡ h.lease.generation) × (slot.control ≡ origin)) current

  still_at : (c : Bool) → nat_eq i.lease.thread h.lease.thread ≡ c → IfSome (cond c (option_map to_ready (map.get b.threads h.lease.thread)) (map.get b.threads i.lease.thread)) (IsStillLent i)
  still_at true same = subst (λ o. IfSome (option_map to_ready o) (IsStillLent i)) (sym lent.found) (λ now. absurd (apart (eqb-true i.lease.thread h.lease.thread same) (sym now ∙ lent.is.0)))
  still_at false other = was.still

  back_true : IsHeldTruly back i
  back_true = record {
    known = was.known;
    older = was.older;
    still = subst (λ o. IfSome o (IsStillLent i)) (sym (get-changed b.threads h.lease.thread i.lease.thread to_ready)) (still_at (nat_eq i.lease.thread h.lease.thread) refl);
    made = was.made;
  }

  given_true : IsHeldTruly (given_back b h.lease) i
  given_true = by (is_held b h.lease)
    where
      by : (c : Bool) → IsHeldTruly (if c then back else b) i
      by true = back_true
      by false = was

-- ---- a commit that is made

module _ (old new : BookView) (shown : IsShown old) (shown_new : IsShown new) (job : new.job ≡ old.job) (more : List Event) (events : new.history.events ≡ old.history.events ++ more) (i : Held) (was : IsHeldTruly old i) where
  grows : generation i.lease.thread old.history.events ≤ generation i.lease.thread new.history.events
  grows = subst (λ es. generation i.lease.thread old.history.events ≤ generation i.lease.thread es) (sym events) (generation_grows i.lease.thread old.history.events more)

  later_true : IfSome (map.get new.threads i.lease.thread) (IsStillLent i) → IsHeldTruly new i
  later_true still = record {
    known = let n = next_grows old new more shown shown_new events in let k = was.known in omega (arith, n, k);
    older = let g = grows in let o = was.older in omega (arith, g, o);
    still = still;
    made = subst (λ (j : JobParts). HasMade j.program i.at) (sym job) was.made;
  }

  -- a thread that was put back before isn't as it was lent afterwards
  lapsed : (i.lease.generation ≡ generation i.lease.thread old.history.events → ⊥) → IfSome (map.get new.threads i.lease.thread) (IsStillLent i)
  lapsed put_back =
      if_some (map.get new.threads i.lease.thread) (λ slot. slot.generation ≡ generation i.lease.thread new.history.events) (IsStillLent i)
      (λ slot at now. absurd (put_back (let g = grows in let o = was.older in omega (arith, g, o, at, now)))) (shown_new.shows.threads.generations i.lease.thread)

module _ (old new : BookView) (h : Held) (progress : ProgressView) (shown : IsShown old) (shown_new : IsShown new) (current : IsCurrent old.threads h.lease progress.origin)
    (moved : IsMoved old (record new { answered = old.answered }) h.lease.worker h.lease.thread progress.steps (row_at old h.lease progress)) (i : Held) (was : IsHeldTruly old i) (apart : IsApart h i) where
  abbrev row : Row
  row = row_at old h.lease progress

  abbrev u : ℕ
  u = i.lease.thread

  held : IsThere (map.get old.threads h.lease.thread) (λ slot. (slot.generation ≡ h.lease.generation) × (slot.control ≡ progress.origin))
  held = there_of (map.get old.threads h.lease.thread) (λ slot. (slot.generation ≡ h.lease.generation) × (slot.control ≡ progress.origin)) current

  generation_lent : generation h.lease.thread old.history.events ≡ h.lease.generation
  generation_lent =
      sym (of_found (map.get old.threads h.lease.thread) held.value (λ slot. slot.generation ≡ generation h.lease.thread old.history.events) held.found (shown.shows.threads.generations h.lease.thread))
      ∙ held.is.0

  -- who waits isn't lent
  not_lent : i.lease.generation ≡ generation u old.history.events → (o : Option (Slot ControlView)) → map.get old.threads u ≡ o → is_some (option_and_then (waits_with (offered old.job.program)) o) ≡ true → ⊥
  not_lent now None found offers = false≢true offers
  not_lent now (Some slot) found offers =
      let at : slot.generation ≡ i.lease.generation = of_found (map.get old.threads u) slot (λ slot. slot.generation ≡ generation u old.history.events) found (shown.shows.threads.generations u) ∙ sym now in
      let leased = (of_found (map.get old.threads u) slot (IsStillLent i) found was.still at).0 in
      false≢true (ap (λ st. is_some (cond (same_state Parked st) (offered old.job.program slot.control) None)) (sym leased) ∙ offers)

  second_put_back : (r : Row) → MovesOther old r → Second u r → i.lease.generation ≡ generation u old.history.events → ⊥
  second_put_back (starts v) moves same now = let k = was.known in absurd (omega (arith, k, same, moves))
  second_put_back (meets v l) moves same now =
      not_lent now (map.get old.threads u) refl (ap is_some (sym (shown.shows.threads.offers.each u)) ∙ ap (λ n. is_some (map.get old.offers.offers n)) same ∙ moves)
  second_put_back (alone l) moves same now = same
  second_put_back (waits o) moves same now = same
  second_put_back stays moves same now = same
  second_put_back (undoes m) moves same now = same

  put_back : is_listed u (h.lease.thread ∷ movers h.lease.thread row) ≡ true → i.lease.generation ≡ generation u old.history.events → ⊥
  put_back listed now = by (moved_one u h.lease.thread row listed)
    where
      by : (u ≡ h.lease.thread) ⊎ Second u row → ⊥
      by (inl same) = apart same (now ∙ ap (λ n. generation n old.history.events) same ∙ generation_lent)
      by (inr second) =
          let e = expr_of old.job.program progress.end in
          second_put_back row (row_moves old h.lease.thread shown e (look_in old.job.program e)) second now

  moved_true : IsHeldTruly new i
  moved_true = later_true old new shown shown_new moved.job more events i was (by (is_listed u (h.lease.thread ∷ movers h.lease.thread row)) refl)
    where
      more : List Event
      more = events_by h.lease.worker (local_of h.lease.thread progress.steps ++ steps_of h.lease.thread row)

      events : new.history.events ≡ old.history.events ++ events_by h.lease.worker (local_of h.lease.thread progress.steps ++ steps_of h.lease.thread row)
      events = ap (λ j. j.events) moved.history

      by : (b : Bool) → is_listed u (h.lease.thread ∷ movers h.lease.thread row) ≡ b → IfSome (map.get new.threads u) (IsStillLent i)
      by true listed = lapsed old new shown shown_new moved.job (events_by h.lease.worker (local_of h.lease.thread progress.steps ++ steps_of h.lease.thread row)) events i was (put_back listed)
      by false unlisted = subst (λ o. IfSome o (IsStillLent i)) (sym (moved.others u (isnt_changed h.lease.thread u row unlisted))) was.still

module _ (old new : BookView) (w t n m : ℕ) (shown : IsShown old) (shown_new : IsShown new) (taken : IsTakenBack old (record new { answered = old.answered }) w t n m (begun old t n)) (i : Held) (was : IsHeldTruly old i) where
  abbrev v : ℕ
  v = i.lease.thread

  abbrev added : List Event
  added = events_by w (local_of t n) ++ undo_by w t m ∷ []

  all_events : new.history.events ≡ old.history.events ++ added
  all_events = taken.events ∙ append_assoc old.history.events (events_by w (local_of t n)) (undo_by w t m ∷ [])

  still_undone : (b : Bool) → loses_a_step (begun old t n) m v ≡ b → (o : Option (Slot ControlView)) → map.get new.threads v ≡ o → IfSome o (IsStillLent i)
  still_undone true hit None found = tt
  still_undone true hit (Some slot) found =
      let at = of_found (map.get new.threads v) slot (λ slot. slot.generation ≡ generation v new.history.events) found (shown_new.shows.threads.generations v) in
      let more = raised old new w t n m shown shown_new taken v hit slot found in
      λ now. let o = was.older in absurd (omega (arith, o, more, at, now))
  still_undone false miss o found = subst (λ o. IfSome o (IsStillLent i)) (sym (taken.untouched v miss) ∙ found) was.still

  undone_true : IsHeldTruly new i
  undone_true = later_true old new shown shown_new taken.job added all_events i was (still_undone (loses_a_step (begun old t n) m v) refl (map.get new.threads v) refl)

-- ---- either way

module _ (old new : Stand) (k : ℕ) (what : List ℕ) (h : Held) (shown : IsShown old.book) (shown_new : IsShown new.book) (found : map.get old.out k ≡ Some h) (commit : IsCommit old new k what h) (is : AreTrue old) where
  left_true : IsCurrent old.book.threads h.lease commit.progress.origin → Moved old.book new.book h.lease commit.progress ⊎ TookBack old.book new.book h.lease commit.progress → AreTrue new
  left_true current (inl m) = less_true old new k h found commit.out is (λ i was apart. moved_true old.book new.book h commit.progress shown shown_new current m.moved i was apart)
  left_true current (inr took) =
      less_true old new k h found commit.out is (λ i was apart. undone_true old.book new.book h.lease.worker h.lease.thread commit.progress.steps took.section shown shown_new took.taken i was)

  by_done : (d : Done) → IsCommitted old.book new.book h.lease commit.progress d → AreTrue new
  by_done (Stale l now) c = less_true old new k h found commit.out is (λ i was apart. subst (λ (b : BookView). IsHeldTruly b i) (sym c.1.counted_once) (stale_true old.book i was))
  by_done (Over w) c = less_true old new k h found commit.out is (λ i was apart. subst (λ (b : BookView). IsHeldTruly b i) (sym c.3) (given_true old.book h i was apart commit.progress.origin c.0))
  by_done (Taken first count) c = left_true c.0 (left_of old.book new.book h.lease commit.progress (Taken first count) refl c)
  by_done (DoneParked first count) c = left_true c.0 (left_of old.book new.book h.lease commit.progress (DoneParked first count) refl c)
  by_done (Undone first count mark removed marks) c = left_true c.0 (left_of old.book new.book h.lease commit.progress (Undone first count mark removed marks) refl c)

  pub commit_true : AreTrue new
  commit_true = by_done commit.done commit.committed
