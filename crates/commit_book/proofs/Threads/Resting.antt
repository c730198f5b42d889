-- Where nobody is ready and nobody leased, no thread can step.
use Rattle.std.proofs.Common.{◌≡◌, ◌⊎◌, inl, inr, ℕ, Bool, true, false, cond, ◌&&◌, ◌||◌, nat_eq, [], Option, Some, None, refl, sym, ap, subst, ◌∙◌}
use Rattle.std.specs.Prelude.{IfSome, IsSome, option_and_then, option_map, unwrap_or}
use Rattle.std.specs.FinMap as map
use Rattle.std.proofs.lemmas.Bool.{false≢true}
use Rattle.linked_lists.specs.Lists.{is_listed}
use Rattle.stab_code.specs.Program.{ProgramParts}
use Rattle.thread_slots.specs.declared.state.State.{State}
use Rattle.thread_slots.specs.declared.state.State.TheVariants.{Ready, Leased, Parked, Ended}
use Rattle.thread_slots.specs.Slot.{Slot, same_state}
use Rattle.rendezvous.specs.declared.offer.Offer.{Offer}
use Rattle.rendezvous.specs.Line.{Line, Seen, offered, nobody, LineBacked}
use Rattle.rendezvous.specs.Offer as offer
use Rattle.language.specs.Expression.{Expr, value, failed}
use Rattle.language.specs.Plain.{PlainState, language_of, look_in}
use Rattle.language.specs.Quiet.{is_resting, sends_on, receives_on, IsQuiet}
use Rattle.language.specs.Table.{Look, done, fault, act, sends, receives, picks}
use Rattle.journal_laws.proofs.Stepping.{both}
use Rattle.journal_laws.proofs.Surviving.{some_is, some_none}
use Rattle.step_eval.specs.ControlView.{ControlView, expr_of}
use Rattle.commit_book.specs.Book.{BookView, ShowsThreads, over, offered as offers_of}
use Rattle.commit_book.specs.Doing.{is_over, offer_at, IsDoing, waits_with}
use Rattle.commit_book.proofs.Threads.Waiting.{flipped}

offer_rests : (l : Look Expr) → IsSome (offer_at l) → is_resting l ≡ true
offer_rests (act (sends c v)) h = refl
offer_rests (act (receives c)) h = refl
offer_rests (act (picks c d)) h = refl
offer_rests (done v) h = refl
offer_rests (fault k) h = refl
offer_rests _ h = absurd (false≢true h)

over_rests : (p : ProgramParts) (e : Expr) → is_over e ≡ true → is_resting (look_in p e) ≡ true
over_rests p (value v) h = refl
over_rests p (failed k) h = refl
over_rests p _ h = absurd (false≢true h)

-- who has ended neither sends nor receives
over_sends : (p : ProgramParts) (c : ℕ) (e : Expr) → is_over e ≡ true → sends_on c (look_in p e) ≡ false
over_sends p c (value v) h = refl
over_sends p c (failed k) h = refl
over_sends p c _ h = absurd (false≢true h)

over_receives : (p : ProgramParts) (c : ℕ) (e : Expr) → is_over e ≡ true → receives_on c (look_in p e) ≡ false
over_receives p c (value v) h = refl
over_receives p c (failed k) h = refl
over_receives p c _ h = absurd (false≢true h)

sends_offer : (c : ℕ) (l : Look Expr) → sends_on c l ≡ true → offered (offer.sends_on c) (offer_at l) ≡ true
sends_offer c (act (sends d v)) h = flipped c d ∙ h
sends_offer c _ h = absurd (false≢true h)

receives_offer : (c : ℕ) (l : Look Expr) → receives_on c l ≡ true → offered (offer.receives_on c) (offer_at l) ≡ true
receives_offer c (act (receives d)) h = flipped c d ∙ h
receives_offer c (act (picks a b)) h = ap (λ k. k || nat_eq c b) (flipped c a) ∙ ap (λ k. nat_eq a c || k) (flipped c b) ∙ h
receives_offer c _ h = absurd (false≢true h)

module _ (p : ProgramParts) where
  -- a thread that is neither ready nor leased rests, and offers that with which it could step
  record IsSettled (s : Slot ControlView) : Type 0 where
    rests : is_resting (look_in p (expr_of p s.control)) ≡ true
    sends : (c : ℕ) → sends_on c (look_in p (expr_of p s.control)) ≡ true → offered (offer.sends_on c) (waits_with (offers_of p) s) ≡ true
    receives : (c : ℕ) → receives_on c (look_in p (expr_of p s.control)) ≡ true → offered (offer.receives_on c) (waits_with (offers_of p) s) ≡ true

  settled : (s : Slot ControlView) (st : State) → s.state ≡ st → IsDoing (over p) (offers_of p) s → same_state Ready s.state ≡ false → same_state Leased s.state ≡ false → IsSettled s
  settled s Ready is doing r l = absurd (false≢true (sym r ∙ ap (same_state Ready) is))
  settled s Leased is doing r l = absurd (false≢true (sym l ∙ ap (same_state Leased) is))
  settled s Parked is doing r l =
      let parked : same_state Parked s.state ≡ true = ap (same_state Parked) is in
      let waits : waits_with (offers_of p) s ≡ offer_at (look_in p (expr_of p s.control)) = ap (λ b. cond b (offers_of p s.control) None) parked in
      record {
        rests = offer_rests (look_in p (expr_of p s.control)) (doing.parked parked);
        sends = λ c h. ap (offered (offer.sends_on c)) waits ∙ sends_offer c (look_in p (expr_of p s.control)) h;
        receives = λ c h. ap (offered (offer.receives_on c)) waits ∙ receives_offer c (look_in p (expr_of p s.control)) h;
      }
  settled s Ended is doing r l =
      let ended : is_over (expr_of p s.control) ≡ true = sym doing.ended ∙ ap (same_state Ended) is in
      record {
        rests = over_rests p (expr_of p s.control) ended;
        sends = λ c h. absurd (both _ h (over_sends p c (expr_of p s.control) ended));
        receives = λ c h. absurd (both _ h (over_receives p c (expr_of p s.control) ended));
      }

  rests_at : (o : Option (Slot ControlView)) (e : Option Expr) → option_map (λ (s : Slot ControlView). expr_of p s.control) o ≡ e → IfSome o (IsDoing (over p) (offers_of p)) → IfSome o (λ s. same_state Ready s.state ≡ false) → IfSome o (λ s. same_state Leased s.state ≡ false) → IfSome e (λ x. is_resting (look_in p x) ≡ true)
  rests_at (Some s) (Some x) is doing r l = subst (λ (y : Expr). is_resting (look_in p y) ≡ true) (some_is is) (settled s s.state refl doing r l).rests
  rests_at (Some s) None is doing r l = tt
  rests_at None None is doing r l = tt
  rests_at None (Some x) is doing r l = absurd (some_none (sym is))

  no_both : (l : Option Line) (t u : ℕ) (c : ℕ) (a b : Option Offer) → LineBacked c t a l → LineBacked c u b l → offered (offer.sends_on c) a ≡ true → offered (offer.receives_on c) b ≡ true → ((unwrap_or l nobody).sends ≡ []) ⊎ ((unwrap_or l nobody).receives ≡ []) → ⊥
  no_both None t u c a b at bt sa rb side = false≢true (sym at.0 ∙ sa)
  no_both (Some l) t u c a b at bt sa rb (inl none) = false≢true (sym (ap (is_listed t) none) ∙ at.0 ∙ sa)
  no_both (Some l) t u c a b at bt sa rb (inr none) = false≢true (sym (ap (is_listed u) none) ∙ bt.1 ∙ rb)

  not_and : (a b : Bool) → (a ≡ true → b ≡ true → ⊥) → (a && b) ≡ false
  not_and true true f = absurd (f refl refl)
  not_and true false f = refl
  not_and false b f = refl

  apart_at : (seen : Seen) (t u c : ℕ) (o v : Option (Slot ControlView)) (x y : Option Expr) → option_map (λ (s : Slot ControlView). expr_of p s.control) o ≡ x → option_map (λ (s : Slot ControlView). expr_of p s.control) v ≡ y
      → IfSome o IsSettled → IfSome v IsSettled → map.get seen.offers t ≡ option_and_then (waits_with (offers_of p)) o → map.get seen.offers u ≡ option_and_then (waits_with (offers_of p)) v
      → LineBacked c t (map.get seen.offers t) (map.get seen.lines c) → LineBacked c u (map.get seen.offers u) (map.get seen.lines c)
      → ((unwrap_or (map.get seen.lines c) nobody).sends ≡ []) ⊎ ((unwrap_or (map.get seen.lines c) nobody).receives ≡ [])
      → IfSome x (λ a. IfSome y (λ b. (sends_on c (look_in p a) && receives_on c (look_in p b)) ≡ false))
  apart_at seen t u c o v None y is there a b at bt la lb side = tt
  apart_at seen t u c o v (Some e) None is there a b at bt la lb side = tt
  apart_at seen t u c (Some s) (Some w) (Some e) (Some d) is there a b at bt la lb side =
      not_and (sends_on c (look_in p e)) (receives_on c (look_in p d)) (λ sa rb.
      no_both (map.get seen.lines c) t u c (map.get seen.offers t) (map.get seen.offers u) la lb
      (ap (offered (offer.sends_on c)) at ∙ a.sends c (ap (λ k. sends_on c (look_in p k)) (some_is is) ∙ sa))
      (ap (offered (offer.receives_on c)) bt ∙ b.receives c (ap (λ k. receives_on c (look_in p k)) (some_is there) ∙ rb)) side)
  apart_at seen t u c None v (Some e) (Some d) is there a b at bt la lb side = absurd (some_none (sym is))
  apart_at seen t u c (Some s) None (Some e) (Some d) is there a b at bt la lb side = absurd (some_none (sym there))

  settled_at : (o : Option (Slot ControlView)) → IfSome o (IsDoing (over p) (offers_of p)) → IfSome o (λ s. same_state Ready s.state ≡ false) → IfSome o (λ s. same_state Leased s.state ≡ false) → IfSome o IsSettled
  settled_at None doing r l = tt
  settled_at (Some s) doing r l = settled s s.state refl doing r l

pub quiet : (b : BookView) (s : PlainState) → ShowsThreads b s
    → ((t : ℕ) → IfSome (map.get b.threads t) (λ k. same_state Ready k.state ≡ false)) → ((t : ℕ) → IfSome (map.get b.threads t) (λ k. same_state Leased k.state ≡ false))
    → IsQuiet (language_of b.job.program) s
quiet b s shown ready leased =
    let p = b.job.program in
    record {
      rests = λ t. rests_at p (map.get b.threads t) (map.get s.threads t) (shown.threads t) (shown.doing t) (ready t) (leased t);
      apart = λ t u c.
          apart_at p b.offers t u c (map.get b.threads t) (map.get b.threads u) (map.get s.threads t) (map.get s.threads u) (shown.threads t) (shown.threads u)
          (settled_at p (map.get b.threads t) (shown.doing t) (ready t) (leased t)) (settled_at p (map.get b.threads u) (shown.doing u) (ready u) (leased u))
          (shown.offers.each t) (shown.offers.each u) (shown.offers.lines.backed c t) (shown.offers.lines.backed c u) (shown.offers.one_side c);
    }
