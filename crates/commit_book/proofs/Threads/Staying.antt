-- What a progress says of the thread from which it began: one that waits or has ended makes no step.
use Rattle.std.proofs.Common.{◌≡◌, ℕ, zero, suc, Bool, true, false, Option, Some, None, refl, sym, ap, ◌∙◌}
use Rattle.std.specs.Prelude.{IsSome, option_and_then}
use Rattle.std.proofs.lemmas.Bool.{false≢true}
use Rattle.stab_code.specs.Program.{ProgramParts}
use Rattle.thread_slots.specs.declared.state.State.TheVariants.{Parked}
use Rattle.thread_slots.specs.Slot.{Slot, same_state}
use Rattle.rendezvous.specs.declared.offer.Offer.{Offer}
use Rattle.language.specs.Expression.{Expr, value, failed}
use Rattle.language.specs.Look.{language}
use Rattle.language.specs.Plain.{look_in}
use Rattle.language.specs.Program.{body}
use Rattle.language.specs.Table.{Look, Language, pure, pure_of, pure_steps}
use Rattle.step_eval.specs.ControlView.{ControlView, expr_of}
use Rattle.step_eval.specs.Progress.{Advances}
use Rattle.journal_laws.proofs.Surviving.{some_is, some_none}
use Rattle.commit_book.specs.Book.{over, offered}
use Rattle.commit_book.specs.Doing.{is_over, is_failed, offer_at, IsDoing}

-- who offers stands at no pure step
pub offer_rests : {E : Type 0} (g : Language E) (l : Look E) → IsSome (offer_at l) → pure_of g l ≡ None
offer_rests g (pure e) h = absurd (false≢true h)
offer_rests g _ h = refl

-- nor does who has ended
over_rests : (p : ProgramParts) (e : Expr) → is_over e ≡ true → pure_of (language (body p)) (look_in p e) ≡ None
over_rests p (value v) h = refl
over_rests p (failed k) h = refl
over_rests p _ h = absurd (false≢true h)

-- who has ended offers nothing
pub over_offers : (p : ProgramParts) (e : Expr) → is_over e ≡ true → offer_at (look_in p e) ≡ None
over_offers p (value v) h = refl
over_offers p (failed k) h = refl
over_offers p _ h = absurd (false≢true h)

pub failed_over : (e : Expr) → is_failed e ≡ true → is_over e ≡ true
failed_over (failed k) h = refl
failed_over _ h = absurd (false≢true h)

not_true : (b : Bool) → (b ≡ true → ⊥) → b ≡ false
not_true true f = absurd (f refl)
not_true false f = refl

some_of : (o : Option Offer) (b : Option Offer) → IsSome o → o ≡ b → b ≡ None → ⊥
some_of None b h is none = false≢true h
some_of (Some x) b h is none = some_none (is ∙ none)

module _ (p : ProgramParts) where
  -- no step was made, and the thread stands where it did
  pub record IsStill (n : ℕ) (e f : Expr) : Type 0 where
    pub none : n ≡ 0
    pub same : f ≡ e

  still : (n : ℕ) (e f : Expr) → pure_of (language (body p)) (look_in p e) ≡ None → pure_steps (language (body p)) n e ≡ Some f → IsStill n e f
  still zero e f rests made = record { none = refl; same = sym (some_is made) }
  still (suc n) e f rests made = absurd (some_none (sym made ∙ ap (option_and_then (pure_steps (language (body p)) n)) rests))

  module _ (slot : Slot ControlView) (origin : ControlView) (n : ℕ) (end : ControlView) (doing : IsDoing (over p) (offered p) slot) (same : slot.control ≡ origin) (made : Advances p origin n end) where
    -- a parked thread stands at the offer that it made, and so does the progress
    pub parked_still : same_state Parked slot.state ≡ true → IsStill n (expr_of p slot.control) (expr_of p end)
    parked_still parked =
        still n (expr_of p slot.control) (expr_of p end) (offer_rests (language (body p)) (look_in p (expr_of p slot.control)) (doing.parked parked))
        (ap (λ c. pure_steps (language (body p)) n (expr_of p c)) same ∙ made.made)

    -- a thread whose progress doesn't end at an offer isn't parked
    pub unparked : offered p end ≡ None → same_state Parked slot.state ≡ false
    unparked none =
        not_true (same_state Parked slot.state) (λ parked.
        some_of (offered p slot.control) (offered p end) (doing.parked parked) (sym (ap (λ e. offer_at (look_in p e)) (parked_still parked).same)) none)

    -- a thread that has ended stays at its end
    pub ended_still : over p slot.control ≡ true → IsStill n (expr_of p slot.control) (expr_of p end)
    ended_still ended =
        still n (expr_of p slot.control) (expr_of p end) (over_rests p (expr_of p slot.control) ended)
        (ap (λ c. pure_steps (language (body p)) n (expr_of p c)) same ∙ made.made)

    -- a thread whose progress isn't over wasn't over before, and hadn't failed
    pub unended : over p end ≡ false → over p slot.control ≡ false
    unended going = not_true (over p slot.control) (λ ended. false≢true (sym going ∙ ap is_over (ended_still ended).same ∙ ended))

    pub unfailed : over p end ≡ false → is_failed (expr_of p slot.control) ≡ false
    unfailed going = not_true (is_failed (expr_of p slot.control)) (λ failed. false≢true (sym (unended going) ∙ failed_over (expr_of p slot.control) failed))

    -- who offers is not over
    pub offering : IsSome (offered p end) → over p end ≡ false
    offering offers = not_true (over p end) (λ ended. some_of (offered p end) (offered p end) offers refl (over_offers p (expr_of p end) ended))
