-- How a turn ends.
use Rattle.std.proofs.Common.{◌≡◌, ◌⊎◌, inl, inr, ℕ, Bool, true, false, cond, ◌&&◌, nat_eq, List, [], ◌∷◌, ◌++◌, refl, sym, ap, subst, ◌∙◌, arith, append-nil, append_assoc}
use Rattle.std.specs.Prelude.{IsSomeAnd, option_map, if◌then◌else◌}
use Rattle.std.specs.Option.{option_map_or}
use Rattle.std.specs.Cmp.{nat_eq_equiv}
use Rattle.std.specs.FinMap as map
use Rattle.std.proofs.lemmas.Bool.{false≢true}
use Rattle.std.specs.List.{AllByRecursion}
use Rattle.linked_lists.specs.Lists.{without}
use Rattle.stab_journal.specs.declared.event.Event.{Event}
use Rattle.stab_journal.specs.declared.event.Label.{Label}
use Rattle.thread_slots.specs.declared.state.State.TheVariants.{Ready, Leased}
use Rattle.thread_slots.specs.Slot.{Slot, same_state, is_in, changed}
use Rattle.step_eval.specs.ControlView.{ControlView}
use Rattle.step_eval.specs.Progress.{ProgressView}
use Rattle.commit_book.specs.declared.done.Done.{Done}
use Rattle.commit_book.specs.declared.done.Done.TheVariants as done
use Rattle.commit_book.specs.Book.{BookView}
use Rattle.commit_book.specs.Commits.{IsAnsweredBy, IsCommitted, IsCurrent, IsLeftBy, IsMade, IsMoved, IsOver, row_at}
use Rattle.commit_book.specs.Counts.{in_state}
use Rattle.commit_book.specs.Leases.{LeaseView}
use Rattle.commit_book.specs.Rows.{Row, alone, starts, meets, waits, stays, undoes, local_of, steps_of, events_by}
use Rattle.commit_book.specs.Turns.{given_back, is_held, requeued}
use Rattle.commit_book.specs.Undoing.{IsTakenBack, begun, undo_by}
use Rattle.commit_book.proofs.Threads.Lending.{get-changed}
use Rattle.commit_book.proofs.Threads.Partners.{IsThere, there_of}
use Rattle.lone_worker.specs.Running.{IsLater}
use Rattle.lone_worker.specs.Turn.{IsHeldAs, IsLentAlone, is_made, worker}
use Rattle.commit_book.proofs.Threads.Holding.{none_counted}

-- ---- where the lease is given back

module _ (lent : BookView) (lease : LeaseView) (control : ControlView) (is : IsLentAlone lent lease control) where
  abbrev to_ready : Slot ControlView → Slot ControlView
  to_ready slot = record slot { state = Ready }

  here : IsThere (map.get lent.threads lease.thread) (IsHeldAs lease control)
  here = there_of (map.get lent.threads lease.thread) (IsHeldAs lease control) is.held

  held : is_held lent lease ≡ true
  held =
      ap (λ o. option_map_or (λ (slot : Slot ControlView). nat_eq slot.generation lease.generation && same_state Leased slot.state) o false) here.found
      ∙ ap (λ g. nat_eq g lease.generation && same_state Leased here.value.state) here.is.generation
      ∙ ap (λ st. nat_eq lease.generation lease.generation && same_state Leased st) here.is.state
      ∙ ap (λ b. b && true) (nat_eq_equiv.refl lease.generation)

  abbrev back : BookView
  back = requeued lent (changed lent.threads lease.thread to_ready) (without lease.thread lent.queue ++ lease.thread ∷ [])

  given : given_back lent lease ≡ back
  given = ap (λ (b : Bool). if b then back else lent) held

  -- it is current, and the book isn't over
  pub current : IsCurrent lent.threads lease control
  current = subst (λ o. IsSomeAnd o (λ (slot : Slot ControlView). (slot.generation ≡ lease.generation) × (slot.control ≡ control))) (sym here.found) (here.is.generation, here.is.control)

  pub not_over : IsOver lent → ⊥
  not_over over = let light = is.light in absurd (omega (arith, over, light))

  back_at : (u : ℕ) → map.get (changed lent.threads lease.thread to_ready) u ≡ cond (nat_eq u lease.thread) (option_map to_ready (map.get lent.threads lease.thread)) (map.get lent.threads u)
  back_at u = get-changed lent.threads lease.thread u to_ready

  back_free_at : (u : ℕ) (b : Bool) → nat_eq u lease.thread ≡ b → is_in Leased (changed lent.threads lease.thread to_ready) u ≡ false
  back_free_at u true at =
      ap (λ o. option_map_or (λ (slot : Slot ControlView). same_state Leased slot.state) o false) (back_at u ∙ ap (λ b. cond b (option_map to_ready (map.get lent.threads lease.thread)) (map.get lent.threads u)) at ∙ ap (option_map to_ready) here.found)
  back_free_at u false at =
      ap (λ o. option_map_or (λ (slot : Slot ControlView). same_state Leased slot.state) o false) (back_at u ∙ ap (λ b. cond b (option_map to_ready (map.get lent.threads lease.thread)) (map.get lent.threads u)) at)
      ∙ is.alone u ∙ at

  back_free : in_state Leased back ≡ 0
  back_free = none_counted (is_in Leased back.threads) back.next.thread (λ u. back_free_at u (nat_eq u lease.thread) refl)

  -- then nobody has a lease, and nothing happened
  pub given_free : (new : BookView) → new ≡ given_back lent lease → in_state Leased new ≡ 0
  given_free new left = ap (in_state Leased) (left ∙ given) ∙ back_free

  pub given_history : (new : BookView) → new ≡ given_back lent lease → new.history ≡ lent.history
  given_history new left = ap (λ (b : BookView). b.history) (left ∙ given)

  pub given_job : (new : BookView) → new ≡ given_back lent lease → new.job ≡ lent.job
  given_job new left = ap (λ (b : BookView). b.job) (left ∙ given)

-- nothing happened: what happened before is all
pub same_later : (old new : BookView) → new.job ≡ old.job → new.history ≡ old.history → IsLater old new
same_later old new job history = record { job = job; added = []; events = ap (λ j. j.events) history ∙ sym (append-nil old.history.events); by_one = tt }

both_by : (xs ys : List Event) → AllByRecursion (λ (e : Event). e.worker ≡ worker) xs → AllByRecursion (λ (e : Event). e.worker ≡ worker) ys → AllByRecursion (λ (e : Event). e.worker ≡ worker) (xs ++ ys)
both_by [] ys h k = k
both_by (x ∷ xs) ys h k = (h.0, both_by xs ys h.1 k)

-- one after another
pub later_both : (a b c : BookView) → IsLater a b → IsLater b c → IsLater a c
later_both a b c first second = record {
  job = second.job ∙ first.job;
  added = first.added ++ second.added;
  events = second.events ∙ ap (λ es. es ++ second.added) first.events ∙ append_assoc a.history.events first.added second.added;
  by_one = both_by first.added second.added first.by_one second.by_one;
}

-- ---- by the row of a commit

abbrev pub is_undone : Done → Bool
is_undone (done.Undone first count mark removed marks) = true
is_undone d = false

module _ (lent new : BookView) (lease : LeaseView) (progress : ProgressView) where
  -- the row moved threads
  pub record Moved : Type 0 where
    pub moved : IsMoved lent (record new { answered = lent.answered }) lease.worker lease.thread progress.steps (row_at lent lease progress)
    pub undoes_nothing : (m : ℕ) → row_at lent lease progress ≡ undoes m → ⊥

  -- it took a section back
  pub record TookBack : Type 0 where
    pub section : ℕ
    pub row : row_at lent lease progress ≡ undoes section
    pub taken : IsTakenBack lent (record new { answered = lent.answered }) lease.worker lease.thread progress.steps section (begun lent lease.thread progress.steps)

  abbrev moved_as : Row → Type 0
  moved_as row = IsMoved lent (record new { answered = lent.answered }) lease.worker lease.thread progress.steps row

  pub left_by : (row : Row) → row_at lent lease progress ≡ row → IsLeftBy lent new lease progress row → Moved ⊎ TookBack
  left_by (alone l) at left = inl (record { moved = subst moved_as (sym at) left.0; undoes_nothing = λ m is. let other = sym at ∙ is in absurd (cc) })
  left_by (starts u) at left = inl (record { moved = subst moved_as (sym at) left.0; undoes_nothing = λ m is. let other = sym at ∙ is in absurd (cc) })
  left_by (meets u l) at left = inl (record { moved = subst moved_as (sym at) left.0; undoes_nothing = λ m is. let other = sym at ∙ is in absurd (cc) })
  left_by (waits o) at left = inl (record { moved = subst moved_as (sym at) left.0; undoes_nothing = λ m is. let other = sym at ∙ is in absurd (cc) })
  left_by stays at left = inl (record { moved = subst moved_as (sym at) left.0; undoes_nothing = λ m is. let other = sym at ∙ is in absurd (cc) })
  left_by (undoes m) at left = inr (record { section = m; row = at; taken = left.0 })

  -- what is made was answered so
  made_of : (d : Done) → is_made d ≡ true → IsCommitted lent new lease progress d → IsMade lent new lease progress (row_at lent lease progress) d
  made_of (done.Taken first count) made is = is.2
  made_of (done.Parked first count) made is = is.2
  made_of (done.Undone first count mark removed marks) made is = is.2
  made_of (done.Stale g now) made is = absurd (false≢true made)
  made_of (done.Over w) made is = absurd (false≢true made)

  -- what is left of a commit that was made
  pub left_of : (d : Done) → is_made d ≡ true → IsCommitted lent new lease progress d → Moved ⊎ TookBack
  left_of d made commits = left_by (row_at lent lease progress) refl (made_of d made commits).left

  -- a section was taken back where that was answered, and only there
  answers_undone : (d : Done) (m : ℕ) → IsAnsweredBy lent lease progress (undoes m) d → is_undone d ≡ true
  answers_undone (done.Undone first count mark removed marks) m is = refl
  answers_undone (done.Taken first count) m is = absurd is
  answers_undone (done.Parked first count) m is = absurd is
  answers_undone (done.Stale g now) m is = absurd is
  answers_undone (done.Over w) m is = absurd is

  pub moved_of : (d : Done) → is_made d ≡ true → is_undone d ≡ false → IsCommitted lent new lease progress d → Moved
  moved_of d made plain commits = by (left_of d made commits)
    where
      by : Moved ⊎ TookBack → Moved
      by (inl moved) = moved
      by (inr took) =
          let answer = subst (λ (row : Row). IsAnsweredBy lent lease progress row d) took.row (made_of d made commits).answer in
          absurd (false≢true (sym plain ∙ answers_undone d took.section answer))

  all_by : (w : ℕ) → w ≡ worker → (labels : List Label) → AllByRecursion (λ (e : Event). e.worker ≡ worker) (events_by w labels)
  all_by w is [] = tt
  all_by w is (l ∷ labels) = (is, all_by w is labels)

  moved_later : lease.worker ≡ worker → Moved → IsLater lent new
  moved_later is m = record {
    job = m.moved.job;
    added = events_by lease.worker (local_of lease.thread progress.steps ++ steps_of lease.thread (row_at lent lease progress));
    events = ap (λ j. j.events) m.moved.history;
    by_one = all_by lease.worker is (local_of lease.thread progress.steps ++ steps_of lease.thread (row_at lent lease progress));
  }

  taken_later : lease.worker ≡ worker → TookBack → IsLater lent new
  taken_later is took = record {
    job = took.taken.job;
    added = events_by lease.worker (local_of lease.thread progress.steps) ++ undo_by lease.worker lease.thread took.section ∷ [];
    events = took.taken.events ∙ append_assoc lent.history.events (events_by lease.worker (local_of lease.thread progress.steps)) (undo_by lease.worker lease.thread took.section ∷ []);
    by_one = both_by (events_by lease.worker (local_of lease.thread progress.steps)) (undo_by lease.worker lease.thread took.section ∷ []) (all_by lease.worker is (local_of lease.thread progress.steps)) (is, tt);
  }

  pub left_later : lease.worker ≡ worker → Moved ⊎ TookBack → IsLater lent new
  left_later is (inl moved) = moved_later is moved
  left_later is (inr took) = taken_later is took
