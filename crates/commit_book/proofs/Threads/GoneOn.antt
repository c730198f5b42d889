-- A thread goes on, by the calls on the slots.
use Rattle.std.proofs.Common.{◌≡◌, ℕ, ◌+◌, Bool, true, false, cond, not, ◌&&◌, List, [], ◌∷◌, ◌++◌, Option, Some, None, refl, sym, ap, subst, ◌∙◌, arith}
use Rattle.std.specs.Prelude.{IfSome, IsSome, is_some, option_map, if◌then◌else◌}
use Rattle.std.specs.Cmp.{nat_eq_equiv}
use Rattle.std.specs.Ordering.{nat_cmp}
use Rattle.std.specs.FinMap as map
use Rattle.std.specs.FinMap.{FinMap}
use Rattle.std.proofs.lemmas.Bool.{false≢true}
use Rattle.linked_lists.specs.Lists.{without}
use Rattle.stab_code.specs.Program.{ProgramParts}
use Rattle.thread_slots.specs.declared.state.State.{State}
use Rattle.thread_slots.specs.Slot.{Seen, Slot, changed, is_ready, IsSound}
use Rattle.step_eval.specs.ControlView.{ControlView, Fits, expr_of}
use Rattle.commit_book.specs.declared.counts.Tallies.{Tallies}
use Rattle.commit_book.specs.declared.parts.Parts.{Parts}
use Rattle.commit_book.specs.Acting.{HasGoneOn, fails_now, state_for}
use Rattle.commit_book.specs.Book.{over}
use Rattle.commit_book.specs.Doing.{is_failed}
use Rattle.commit_book.proofs.Threads.Going.{changed_twice}
use Rattle.commit_book.proofs.Threads.Lending.{get-changed}

mapped_there : {A B : Type 0} (f : A → B) (o : Option A) → is_some (option_map f o) ≡ is_some o
mapped_there f None = refl
mapped_there f (Some a) = refl

-- a thread that changes is still there
pub still_there : (threads : FinMap nat_cmp (Slot ControlView)) (t : ℕ) (f : Slot ControlView → Slot ControlView) → IsSome (map.get threads t) → IsSome (map.get (changed threads t f) t)
still_there threads t f there =
    ap is_some (get-changed threads t t f ∙ ap (λ b. cond b (option_map f (map.get threads t)) (map.get threads t)) (nat_eq_equiv.refl t))
    ∙ mapped_there f (map.get threads t) ∙ there

queued : (t : ℕ) (b : Bool) → (if is_ready (state_for b) then t ∷ [] else []) ≡ (if b then [] else t ∷ [])
queued t true = refl
queued t false = refl

-- the two calls on the slots, and the count
pub gone_on : (p : ProgramParts) (old : Parts) (first second : Seen ControlView) (t : ℕ) (before c : ControlView) (state : State) (tallies : Tallies)
    → first.threads ≡ changed old.slots.threads t (λ slot. record slot { control = c }) → first.queue ≡ old.slots.queue → first.next ≡ old.slots.next
    → second.threads ≡ changed first.threads t (λ slot. record slot { state = state }) → second.queue ≡ without t first.queue ++ (if is_ready state then t ∷ [] else []) → second.next ≡ first.next → IsSound second
    → state ≡ state_for (over p c) → tallies ≡ record old.tallies { faulted = old.tallies.faulted + fails_now (is_failed (expr_of p before)) (is_failed (expr_of p c)) }
    → HasGoneOn p old (record old { slots = second; tallies = tallies }) t before c
gone_on p old first second t before c state tallies a b d e f g sound is counted = record {
  threads =
      e
      ∙ ap (λ (m : FinMap nat_cmp (Slot ControlView)). changed m t (λ slot. record slot { state = state })) a
      ∙ changed_twice old.slots.threads t (λ slot. record slot { control = c }) (λ slot. record slot { state = state })
      ∙ ap (λ (s : State). changed old.slots.threads t (λ slot. record slot { control = c; state = s })) is;
  queue =
      f
      ∙ ap (λ (q : List ℕ). without t q ++ (if is_ready state then t ∷ [] else [])) b
      ∙ ap (λ (s : State). without t old.slots.queue ++ (if is_ready s then t ∷ [] else [])) is
      ∙ ap (λ (q : List ℕ). without t old.slots.queue ++ q) (queued t (over p c));
  next = g ∙ d;
  sound = sound;
  tallies = counted;
  rest = refl;
}

-- one more where a thread fails that hadn't
pub counts_one : (old : Tallies) (was now : Bool) → now ≡ true → was ≡ false → record old { faulted = old.faulted + 1 } ≡ record old { faulted = old.faulted + fails_now was now }
counts_one old was now failed going = ap (λ (k : ℕ). record old { faulted = old.faulted + k }) (sym (ap (λ (b : Bool). fails_now was b) failed ∙ ap (λ (b : Bool). fails_now b true) going))

-- and none else
pub counts_none : (old : Tallies) (was now : Bool) → (now && not was) ≡ false → old ≡ record old { faulted = old.faulted + fails_now was now }
counts_none old was now none =
    let same : old.faulted ≡ old.faulted + 0 = omega arith in
    ap (λ (n : ℕ). record old { faulted = n }) same ∙ ap (λ (k : ℕ). record old { faulted = old.faulted + k }) (sym (ap (λ (b : Bool). cond b 1 0) none))

pub both_no : (now was : Bool) → now ≡ false → (now && not was) ≡ false
both_no true was h = absurd (false≢true (sym h))
both_no false was h = refl

pub both_failed : (now was : Bool) → was ≡ true → (now && not was) ≡ false
both_failed true true h = refl
both_failed false true h = refl
both_failed now false h = absurd (false≢true h)

-- who stood there
pub stood : (o : Option (Slot ControlView)) (c : ControlView) → IsSome o → IfSome o (λ slot. slot.control ≡ c) → option_map (λ slot. slot.control) o ≡ Some c
stood None c there is = absurd (false≢true there)
stood (Some slot) c there is = ap Some is

pub fits_there : (p : ProgramParts) (o : Option (Slot ControlView)) (c : ControlView) → IsSome o → IfSome o (λ slot. slot.control ≡ c) → IfSome o (λ slot. Fits p slot.control) → Fits p c
fits_there p None c there is fits = absurd (false≢true there)
fits_there p (Some slot) c there is fits = subst (Fits p) is fits
