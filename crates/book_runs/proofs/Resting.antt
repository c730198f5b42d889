-- The states of the threads at the end of a run, by the counts of its book.
use Rattle.std.proofs.Common.{◌≡◌, ◌⊎◌, inl, inr, ℕ, zero, suc, ◌+◌, ◌<◌, Bool, true, false, not, ◌&&◌, nat_eq, [], ◌∷◌, ◌++◌, length, Option, Some, None, refl, sym, ap, subst, ◌∙◌, arith, append-nil}
use Rattle.std.specs.Prelude.{IfSome, IsSomeAnd, option_map, if◌then◌else◌}
use Rattle.std.specs.Option.{option_map_or}
use Rattle.std.specs.FinMap as map
use Rattle.std.proofs.lemmas.Bool.{false≢true, eqb-true}
use Rattle.thread_slots.specs.declared.state.State.{State}
use Rattle.thread_slots.specs.declared.state.State.TheVariants.{Ready, Leased, Parked, Ended}
use Rattle.thread_slots.specs.Ready.{numbers}
use Rattle.thread_slots.specs.Slot.{Slot, same_state, is_in}
use Rattle.thread_slots.proofs.Counted.{numbers-some}
use Rattle.stab_code.specs.Program.{ProgramParts}
use Rattle.stab_code.specs.Valid.{IsValid}
use Rattle.language.specs.Expression.{Expr}
use Rattle.language.specs.Plain.{PlainState, look_in}
use Rattle.language.specs.Shown.{is_done}
use Rattle.step_eval.specs.ControlView.{ControlView, expr_of}
use Rattle.commit_book.specs.Book.{BookView, IsShown, over, offered}
use Rattle.commit_book.specs.Counts.{faulted_in, in_state, is_faulted_at}
use Rattle.commit_book.specs.Doing.{IsDoing, is_failed, is_over}
use Rattle.commit_book.specs.Turns.{CanRest}
use Rattle.commit_book.proofs.Threads.Holding.{low, nobody_in, not_true}
use Rattle.book_text.proofs.Going.{all_whole}
use Rattle.book_text.proofs.Showing.{IsWhole, ends_so}
use Rattle.call_status.specs.declared.status.Status.{Status}
use Rattle.call_status.specs.declared.status.Status.TheVariants.{Done, Held}
use Rattle.state_text.specs.Ended.{AllDone, SomeHeld}
use Rattle.book_runs.specs.Ending.{Rested, RestSays}
use Rattle.book_runs.proofs.Led.{leads}

-- ---- of numbers and states

record Someone (q : ℕ → Bool) : Type 0 where
  number : ℕ
  is : q number ≡ true

someone : (q : ℕ → Bool) (n : ℕ) → 0 < length (numbers q n) → Someone q
someone q zero h = absurd (omega (arith, h))
someone q (suc n) h =
    elim (q n) as (λ b. q n ≡ b → 0 < length (numbers q n ++ (if b then n ∷ [] else [])) → Someone q) [
      | true ↦ λ at k. record { number = n; is = at }
      | false ↦ λ at k. someone q n (subst (λ xs. 0 < length xs) (append-nil (numbers q n)) k)
    ] refl h

one_of : (a b : ℕ) → 0 < a + b → (0 < a) ⊎ (0 < b)
one_of zero b h = inr (omega (arith, h))
one_of (suc a) b h = inl (omega arith)

some_of : (k : ℕ) → nat_eq k 0 ≡ false → 0 < k
some_of zero e = absurd (false≢true (sym e))
some_of (suc k) e = omega arith

only_ended : (s : State) → same_state Ready s ≡ false → same_state Leased s ≡ false → same_state Parked s ≡ false → same_state Ended s ≡ true
only_ended Ready r l p = absurd (false≢true (sym r))
only_ended Leased r l p = absurd (false≢true (sym l))
only_ended Parked r l p = absurd (false≢true (sym p))
only_ended Ended r l p = refl

parked_not_ended : (s : State) → same_state Parked s ≡ true → same_state Ended s ≡ false
parked_not_ended Ready is = absurd (false≢true is)
parked_not_ended Leased is = absurd (false≢true is)
parked_not_ended Parked is = refl
parked_not_ended Ended is = absurd (false≢true is)

and_not : (a b : Bool) → b ≡ true → (a && not b) ≡ false
and_not true b is = ap not is
and_not false b is = refl

module _ (b : BookView) (valid : IsValid b.job.program) (shown : IsShown b) where
  abbrev p : ProgramParts
  p = b.job.program

  abbrev s : PlainState
  s = shown.state

  abbrev Thread : Type 0
  Thread = Option (Slot ControlView)

  abbrev expr : Slot ControlView → Expr
  expr slot = expr_of p slot.control

  abbrev where_one : (Slot ControlView → Bool) → Thread → Bool
  where_one f o = option_map_or f o false

  at_thread : (t : ℕ) → map.get s.threads t ≡ option_map expr (map.get b.threads t)
  at_thread t = sym (shown.shows.threads.threads t)

  -- ---- of one thread

  done_one : (o : Thread) → IfSome o (λ slot. IsWhole p (expr slot)) → IfSome o (IsDoing (over p) (offered p))
      → where_one (λ slot. same_state Ready slot.state) o ≡ false → where_one (λ slot. same_state Leased slot.state) o ≡ false → where_one (λ slot. same_state Parked slot.state) o ≡ false
      → where_one (λ slot. is_failed (expr slot)) o ≡ false → IfSome (option_map expr o) (λ e. is_done (look_in p e) ≡ true)
  done_one None h d ready leased parked failed = tt
  done_one (Some slot) h d ready leased parked failed =
      (ends_so p (expr slot) h).done ∙ ap (λ k. k && not (is_failed (expr slot))) (sym d.ended ∙ only_ended slot.state ready leased parked) ∙ ap not failed

  failed_one : (o : Thread) → IfSome o (λ slot. IsWhole p (expr slot)) → where_one (λ slot. is_failed (expr slot)) o ≡ true → IsSomeAnd (option_map expr o) (λ e. is_done (look_in p e) ≡ false)
  failed_one None h is = absurd (false≢true is)
  failed_one (Some slot) h is = (ends_so p (expr slot) h).done ∙ and_not (is_over (expr slot)) (is_failed (expr slot)) is

  parked_one : (o : Thread) → IfSome o (λ slot. IsWhole p (expr slot)) → IfSome o (IsDoing (over p) (offered p)) → where_one (λ slot. same_state Parked slot.state) o ≡ true
      → IsSomeAnd (option_map expr o) (λ e. is_done (look_in p e) ≡ false)
  parked_one None h d is = absurd (false≢true is)
  parked_one (Some slot) h d is =
      (ends_so p (expr slot) h).done ∙ ap (λ k. k && not (is_failed (expr slot))) (sym d.ended ∙ parked_not_ended slot.state is)

  -- ---- of all

  low_one : (t : ℕ) (o : Thread) → map.get b.threads t ≡ o → where_one (λ slot. is_failed (expr slot)) o ≡ true → t < b.next.thread
  low_one t None at is = absurd (false≢true is)
  low_one t (Some slot) at is = low b shown t slot at

  none_failed : faulted_in p b.threads b.next.thread ≡ 0 → (t : ℕ) → is_faulted_at p b.threads t ≡ false
  none_failed none t =
      not_true (is_faulted_at p b.threads t) (λ is. let some = numbers-some (is_faulted_at p b.threads) t b.next.thread (low_one t (map.get b.threads t) refl is) is in absurd (omega (arith, some, none)))

  all_done : in_state Ready b ≡ 0 → in_state Leased b ≡ 0 → in_state Parked b ≡ 0 → faulted_in p b.threads b.next.thread ≡ 0 → AllDone p s
  all_done ready leased parked failed t =
      subst (λ o. IfSome o (λ e. is_done (look_in p e) ≡ true)) (sym (at_thread t))
      (done_one (map.get b.threads t) (all_whole b valid shown t) (shown.shows.threads.doing t) (nobody_in b shown Ready ready t) (nobody_in b shown Leased leased t) (nobody_in b shown Parked parked t) (none_failed failed t))

  held_at : (t : ℕ) → IsSomeAnd (option_map expr (map.get b.threads t)) (λ e. is_done (look_in p e) ≡ false) → SomeHeld p s
  held_at t is = record { thread = t; held = subst (λ o. IsSomeAnd o (λ e. is_done (look_in p e) ≡ false)) (sym (at_thread t)) is }

  some_held : (0 < faulted_in p b.threads b.next.thread) ⊎ (0 < in_state Parked b) → SomeHeld p s
  some_held (inl failed) = let one = someone (is_faulted_at p b.threads) b.next.thread failed in held_at one.number (failed_one (map.get b.threads one.number) (all_whole b valid shown one.number) one.is)
  some_held (inr parked) =
      let one = someone (is_in Parked b.threads) b.next.thread parked in held_at one.number (parked_one (map.get b.threads one.number) (all_whole b valid shown one.number) (shown.shows.threads.doing one.number) one.is)

  module _ (rests : CanRest b) (ready : in_state Ready b ≡ 0) (leased : in_state Leased b ≡ 0) where
    rested : Rested b s
    rested = record { unready = ready; free = leased; quiet = rests s (leads p b.history shown.run s shown.shows.journal.history) }

    abbrev held_count : ℕ
    held_count = faulted_in p b.threads b.next.thread + in_state Parked b

    by_count : (none : Bool) → nat_eq held_count 0 ≡ none → RestSays (if none then Done else Held) b s
    by_count true is = let at : held_count ≡ 0 = eqb-true held_count 0 is in (rested, all_done ready leased (omega (arith, at)) (omega (arith, at)))
    by_count false is = (rested, some_held (one_of (faulted_in p b.threads b.next.thread) (in_state Parked b) (some_of held_count is)))

    -- Done or Held, by whether a thread failed or waits
    pub rest_by_counts : (status : Status) → status ≡ (if nat_eq (faulted_in p b.threads b.next.thread + in_state Parked b) 0 then Done else Held) → RestSays status b s
    rest_by_counts status is = subst (λ st. RestSays st b s) (sym is) (by_count (nat_eq held_count 0) refl)
