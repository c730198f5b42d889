-- Who is in a state, and how many are.
use Rattle.std.proofs.Common.{◌≡◌, ℕ, zero, suc, ◌<◌, Bool, true, false, cond, List, [], ◌∷◌, ◌++◌, length, Some, refl, sym, ap, ◌∙◌, arith, append-nil}
use Rattle.std.specs.Prelude.{is_some, option_map}
use Rattle.std.specs.FinMap as map
use Rattle.std.proofs.lemmas.Bool.{false≢true}
use Rattle.linked_lists.specs.Lists.{is_listed}
use Rattle.thread_slots.specs.declared.state.State.{State}
use Rattle.thread_slots.specs.declared.state.State.TheVariants.{Ready, Leased, Parked, Ended}
use Rattle.thread_slots.specs.Ready.{numbers}
use Rattle.thread_slots.specs.Slot.{Slot, same_state, is_in}
use Rattle.thread_slots.proofs.Counted.{numbers-some}
use Rattle.step_eval.specs.ControlView.{ControlView, expr_of}
use Rattle.commit_book.specs.Book.{BookView, IsShown}
use Rattle.commit_book.specs.Counts.{in_state}
use Rattle.commit_book.specs.Rows.{Row, alone, starts, meets, waits, stays, undoes, may_change, movers}
use Rattle.commit_book.proofs.Threads.Choosing.{found_in}
use Rattle.commit_book.proofs.Keeping.Named.{old_thread}

pub not_true : (b : Bool) → (b ≡ true → ⊥) → b ≡ false
not_true true f = absurd (f refl)
not_true false f = refl

-- where none passes, there is none
pub none_counted : (p : ℕ → Bool) (n : ℕ) → ((u : ℕ) → p u ≡ false) → length (numbers p n) ≡ 0
none_counted p zero h = refl
none_counted p (suc n) h = ap (λ b. length (numbers p n ++ cond {A = List ℕ} b (n ∷ []) [])) (h n) ∙ ap length (append-nil (numbers p n)) ∙ none_counted p n h

module _ (b : BookView) (shown : IsShown b) where
  -- the numbers of live threads are below the next one
  pub low : (u : ℕ) (slot : Slot ControlView) → map.get b.threads u ≡ Some slot → u < b.next.thread
  low u slot found =
      let journal = shown.shows.journal in
      old_thread b.job.program b.history.events shown.run shown.state journal.history.stands b.next.thread b.next.chan b.next.ref journal.next u
      (ap is_some (sym (shown.shows.threads.threads u) ∙ ap (option_map (λ (k : Slot ControlView). expr_of b.job.program k.control)) found))

  pub some_counted : (state : State) (u : ℕ) → is_in state b.threads u ≡ true → 0 < in_state state b
  some_counted state u is =
      let found = found_in b.threads u state is in
      numbers-some (is_in state b.threads) u b.next.thread (low u found.slot found.found) is

  -- where nobody is counted, nobody is
  pub nobody_in : (state : State) → in_state state b ≡ 0 → (u : ℕ) → is_in state b.threads u ≡ false
  nobody_in state none u = not_true (is_in state b.threads u) (λ is. let some = some_counted state u is in absurd (omega (arith, some, none)))

pub ready_not_ended : (s : State) → same_state Ready s ≡ true → same_state Ended s ≡ false
ready_not_ended Ready is = refl
ready_not_ended Leased is = refl
ready_not_ended Parked is = refl
ready_not_ended Ended is = absurd (false≢true is)

pub ready_not_leased : (s : State) → same_state Ready s ≡ true → same_state Leased s ≡ false
ready_not_leased Ready is = refl
ready_not_leased Leased is = absurd (false≢true is)
ready_not_leased Parked is = refl
ready_not_leased Ended is = refl

pub ended_not_leased : (s : State) → same_state Ended s ≡ true → same_state Leased s ≡ false
ended_not_leased Ended is = refl
ended_not_leased Leased is = absurd (false≢true is)
ended_not_leased Parked is = refl
ended_not_leased Ready is = refl

pub parked_not_leased : (s : State) → same_state Parked s ≡ true → same_state Leased s ≡ false
parked_not_leased Parked is = refl
parked_not_leased Leased is = absurd (false≢true is)
parked_not_leased Ended is = refl
parked_not_leased Ready is = refl

-- who doesn't move, and isn't the thread itself, isn't changed by a row
pub isnt_changed : (t u : ℕ) (row : Row) → is_listed u (t ∷ movers t row) ≡ false → is_listed u (may_change t row) ≡ false
isnt_changed t u stays unlisted = refl
isnt_changed t u (alone l) unlisted = unlisted
isnt_changed t u (starts v) unlisted = unlisted
isnt_changed t u (meets v l) unlisted = unlisted
isnt_changed t u (waits o) unlisted = unlisted
isnt_changed t u (undoes m) unlisted = unlisted
