-- Who waits, who meets whom, and who may begin to wait.
use Rattle.std.proofs.Common.{◌≡◌, ◌⊎◌, inl, inr, ℕ, Bool, true, false, cond, ◌||◌, nat_eq, List, [], ◌∷◌, Option, Some, None, refl, sym, ap, subst, ◌∙◌}
use Rattle.std.specs.Prelude.{IsSome, IsSomeAnd, option_and_then, slice_get, unwrap_or}
use Rattle.std.specs.Ordering.{nat_cmp}
use Rattle.std.specs.Option.{option_map_or}
use Rattle.std.specs.FinMap as map
use Rattle.std.specs.FinMap.{FinMap}
use Rattle.std.proofs.lemmas.Bool.{false≢true, eqb-true}
use Rattle.linked_lists.specs.Lists.{is_listed}
use Rattle.stab_base.specs.declared.numbers.ChanId.{ChanId}
use Rattle.thread_slots.specs.declared.state.State.{State}
use Rattle.thread_slots.specs.declared.state.State.TheVariants.{Ready, Leased, Parked, Ended}
use Rattle.thread_slots.specs.Ready.{IsQueueOf}
use Rattle.thread_slots.specs.Slot.{Slot, is_ready_at, same_state}
use Rattle.rendezvous.specs.declared.offer.Offer.{Offer}
use Rattle.rendezvous.specs.declared.offer.Offer.TheVariants as offer
use Rattle.rendezvous.specs.Line.{Line, Lines, Seen, nobody, offered, LineBacked}
use Rattle.rendezvous.specs.Offer.{sends_on, receives_on}
use Rattle.journal_laws.proofs.Surviving.{some_is, some_none}
use Rattle.commit_book.specs.Doing.{IsDoing, waits_with}
use Rattle.commit_book.specs.Offers.{sends_at, receives_at, AreOffers}

-- the value of an option about which something holds
pub record IsThere {X : Type 0} (o : Option X) (P : X → Type 0) : Type 0 where
  pub value : X
  pub found : o ≡ Some value
  pub is : P value

pub there_of : {X : Type 0} (o : Option X) (P : X → Type 0) → IsSomeAnd o P → IsThere o P
there_of None P h = absurd h
there_of (Some x) P h = record { value = x; found = refl; is = h }

not_true : (b : Bool) → (b ≡ true → ⊥) → b ≡ false
not_true true f = absurd (f refl)
not_true false f = refl

pub parked_not_ready : (s : State) → same_state Parked s ≡ true → same_state Ready s ≡ false
parked_not_ready Parked h = refl
parked_not_ready Ready h = absurd (false≢true h)
parked_not_ready Leased h = absurd (false≢true h)
parked_not_ready Ended h = absurd (false≢true h)

pub parked_not_ended : (s : State) → same_state Parked s ≡ true → same_state Ended s ≡ false
parked_not_ended Parked h = refl
parked_not_ended Ready h = absurd (false≢true h)
parked_not_ended Leased h = absurd (false≢true h)
parked_not_ended Ended h = absurd (false≢true h)

module _ {C : Type 0} (offer_of : C → Option Offer) where
  -- a parked thread stands in no queue
  pub parked_unqueued : (threads : FinMap nat_cmp (Slot C)) (queue : List ℕ) (t : ℕ) (slot : Slot C) → IsQueueOf (is_ready_at threads) queue → map.get threads t ≡ Some slot → same_state Parked slot.state ≡ true → is_listed t queue ≡ false
  parked_unqueued threads queue t slot once found parked =
      once.ready t ∙ ap (λ o. option_map_or (λ (k : Slot C). same_state Ready k.state) o false) found ∙ parked_not_ready slot.state parked

  -- one who is parked and one who isn't are two
  pub parked_apart : (threads : FinMap nat_cmp (Slot C)) (t u : ℕ) (slot mate : Slot C) → map.get threads t ≡ Some slot → map.get threads u ≡ Some mate → same_state Parked slot.state ≡ false → same_state Parked mate.state ≡ true → nat_eq t u ≡ false
  parked_apart threads t u slot mate here there un parked =
      not_true (nat_eq t u) (λ same.
      let one : slot ≡ mate = some_is (sym here ∙ ap (map.get threads) (eqb-true t u same) ∙ there) in
      false≢true (sym un ∙ ap (λ (k : Slot C). same_state Parked k.state) one ∙ parked))

  waits_parked : (slot : Slot C) → same_state Parked slot.state ≡ true → waits_with offer_of slot ≡ offer_of slot.control
  waits_parked slot parked = ap (λ b. cond b (offer_of slot.control) None) parked

  module _ (threads : FinMap nat_cmp (Slot C)) (seen : Seen) (shown : AreOffers offer_of threads seen) (t : ℕ) (slot : Slot C) (found : map.get threads t ≡ Some slot) where
    -- what a live thread waits with
    pub waits_now : map.get seen.offers t ≡ waits_with offer_of slot
    waits_now = shown.each t ∙ ap (option_and_then (waits_with offer_of)) found

    -- who has no offer isn't parked, and who has one is
    pub no_offer : {over : C → Bool} → IsDoing over offer_of slot → map.get seen.offers t ≡ None → same_state Parked slot.state ≡ false
    no_offer doing none =
        not_true (same_state Parked slot.state) (λ parked.
        false≢true (subst (λ (o : Option Offer). IsSome o) (sym (waits_parked slot parked) ∙ sym waits_now ∙ none) (doing.parked parked)))

    pub some_offer : (o : Offer) → map.get seen.offers t ≡ Some o → same_state Parked slot.state ≡ true
    some_offer o some = by_state (same_state Parked slot.state) refl
      where
        by_state : (b : Bool) → same_state Parked slot.state ≡ b → b ≡ true
        by_state true is = refl
        by_state false is = absurd (some_none (sym some ∙ waits_now ∙ ap (λ b. cond b (offer_of slot.control) None) is))

    listed_in : (p : Offer → Bool) (xs : List ℕ) (o : Offer) → p o ≡ true → is_listed t xs ≡ offered p (Some o) → xs ≡ [] → ⊥
    listed_in p xs o passes is none = false≢true (sym (ap (is_listed t) none) ∙ is ∙ passes)

    at_front : (xs : List ℕ) (u : ℕ) → slice_get xs 0 ≡ Some u → xs ≡ [] → ⊥
    at_front xs u first none = some_none (sym first ∙ ap (λ ys. slice_get ys 0) none)

    no_sender : (c u : ℕ) (o : Offer) (l : Option Line) → sends_on c o ≡ true → LineBacked c t (Some o) l → slice_get (unwrap_or l nobody).receives 0 ≡ Some u → ((unwrap_or l nobody).sends ≡ []) ⊎ ((unwrap_or l nobody).receives ≡ []) → ⊥
    no_sender c u o None on backed first side = false≢true (sym backed.0 ∙ on)
    no_sender c u o (Some l) on backed first (inl none) = listed_in (sends_on c) l.sends o on backed.0 none
    no_sender c u o (Some l) on backed first (inr none) = at_front l.receives u first none

    no_receiver : (c u : ℕ) (o : Offer) (l : Option Line) → receives_on c o ≡ true → LineBacked c t (Some o) l → slice_get (unwrap_or l nobody).sends 0 ≡ Some u → ((unwrap_or l nobody).sends ≡ []) ⊎ ((unwrap_or l nobody).receives ≡ []) → ⊥
    no_receiver c u o None on backed first side = false≢true (sym backed.1 ∙ on)
    no_receiver c u o (Some l) on backed first (inl none) = at_front l.sends u first none
    no_receiver c u o (Some l) on backed first (inr none) = listed_in (receives_on c) l.receives o on backed.1 none

    parked_offer : (o : Offer) → (same_state Parked slot.state ≡ true → offer_of slot.control ≡ Some o) → same_state Parked slot.state ≡ true → map.get seen.offers t ≡ Some o
    parked_offer o stands parked = waits_now ∙ waits_parked slot parked ∙ stands parked

    -- who would send where somebody waits to receive isn't parked, nor is who would receive where somebody waits to send
    pub sender_unparked : (c u : ℕ) (o : Offer) → (same_state Parked slot.state ≡ true → offer_of slot.control ≡ Some o) → sends_on c o ≡ true → slice_get (receives_at seen.lines c) 0 ≡ Some u → same_state Parked slot.state ≡ false
    sender_unparked c u o stands on first =
        not_true (same_state Parked slot.state) (λ parked.
        no_sender c u o (map.get seen.lines c) on (subst (λ (w : Option Offer). LineBacked c t w (map.get seen.lines c)) (parked_offer o stands parked) (shown.lines.backed c t)) first (shown.one_side c))

    pub receiver_unparked : (c u : ℕ) (o : Offer) → (same_state Parked slot.state ≡ true → offer_of slot.control ≡ Some o) → receives_on c o ≡ true → slice_get (sends_at seen.lines c) 0 ≡ Some u → same_state Parked slot.state ≡ false
    receiver_unparked c u o stands on first =
        not_true (same_state Parked slot.state) (λ parked.
        no_receiver c u o (map.get seen.lines c) on (subst (λ (w : Option Offer). LineBacked c t w (map.get seen.lines c)) (parked_offer o stands parked) (shown.lines.backed c t)) first (shown.one_side c))

-- ---- nobody waits opposite

pub no_first : (xs : List ℕ) → slice_get xs 0 ≡ None → xs ≡ []
no_first [] is = refl
no_first (x ∷ xs) is = absurd (some_none is)

-- nobody waits on the other side of an offer
pub record IsUnmet (lines : Lines) (o : Offer) : Type 0 where
  pub receives : (k : ℕ) → sends_on k o ≡ true → receives_at lines k ≡ []
  pub sends : (k : ℕ) → receives_on k o ≡ true → sends_at lines k ≡ []

pub unmet_send : (lines : Lines) (c : ChanId) → slice_get (receives_at lines c.0) 0 ≡ None → IsUnmet lines (offer.Send c)
unmet_send lines c none = record {
  receives = λ k on. ap (receives_at lines) (eqb-true k c.0 on) ∙ no_first (receives_at lines c.0) none;
  sends = λ k on. absurd (false≢true on);
}

pub unmet_recv : (lines : Lines) (c : ChanId) → slice_get (sends_at lines c.0) 0 ≡ None → IsUnmet lines (offer.Recv c)
unmet_recv lines c none = record {
  receives = λ k on. absurd (false≢true on);
  sends = λ k on. ap (sends_at lines) (eqb-true k c.0 on) ∙ no_first (sends_at lines c.0) none;
}

pub unmet_pick : (lines : Lines) (c d : ChanId) → slice_get (sends_at lines c.0) 0 ≡ None → slice_get (sends_at lines d.0) 0 ≡ None → IsUnmet lines (offer.Pick c d)
unmet_pick lines c d first second = record {
  receives = λ k on. absurd (false≢true on);
  sends = λ k on. either k (nat_eq k c.0) refl on;
}
  where
    either : (k : ℕ) (b : Bool) → nat_eq k c.0 ≡ b → (b || nat_eq k d.0) ≡ true → sends_at lines k ≡ []
    either k true is on = ap (sends_at lines) (eqb-true k c.0 is) ∙ no_first (sends_at lines c.0) first
    either k false is on = ap (sends_at lines) (eqb-true k d.0 on) ∙ no_first (sends_at lines d.0) second
