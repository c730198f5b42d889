-- Who is met on a channel waits there.
use Rattle.std.proofs.Common.{◌≡◌, ℕ, Bool, true, false, cond, ◌||◌, nat_eq, List, [], ◌∷◌, Option, Some, None, refl, sym, ap, subst, ◌∙◌}
use Rattle.std.specs.Prelude.{option_and_then, slice_get}
use Rattle.std.specs.Ordering.{nat_cmp}
use Rattle.std.specs.Cmp.{nat_eq_equiv}
use Rattle.std.specs.FinMap as map
use Rattle.std.specs.FinMap.{FinMap}
use Rattle.std.proofs.lemmas.Bool.{false≢true}
use Rattle.linked_lists.specs.Lists.{is_listed}
use Rattle.thread_slots.specs.declared.state.State.TheVariants.{Parked}
use Rattle.thread_slots.specs.Slot.{Slot, same_state}
use Rattle.rendezvous.specs.declared.offer.Offer.{Offer}
use Rattle.rendezvous.specs.Line.{Line, Seen, offered, LineBacked}
use Rattle.rendezvous.specs.Offer.{sends_on, receives_on}
use Rattle.journal_laws.proofs.Surviving.{some_is, some_none}
use Rattle.commit_book.specs.Doing.{waits_with}
use Rattle.commit_book.specs.Offers.{AreOffers}

-- the first of a list is in it
pub first_listed : (u : ℕ) (xs : List ℕ) → slice_get xs 0 ≡ Some u → is_listed u xs ≡ true
first_listed u [] is = absurd (some_none (sym is))
first_listed u (x ∷ xs) is = ap (λ y. nat_eq u y || is_listed u xs) (some_is is) ∙ ap (λ b. b || is_listed u xs) (nat_eq_equiv.refl u)

module _ {C : Type 0} (offer_of : C → Option Offer) where
  -- the thread u is parked with an offer that passes the test
  pub record IsMet (p : Offer → Bool) (threads : FinMap nat_cmp (Slot C)) (u : ℕ) : Type 0 where
    pub slot : Slot C
    pub found : map.get threads u ≡ Some slot
    pub parked : same_state Parked slot.state ≡ true
    pub offer : Offer
    pub is : offer_of slot.control ≡ Some offer
    pub passes : p offer ≡ true

  with_offer : (p : Offer → Bool) (threads : FinMap nat_cmp (Slot C)) (u : ℕ) (slot : Slot C) → map.get threads u ≡ Some slot → (b : Bool) → same_state Parked slot.state ≡ b → (o : Option Offer) → offer_of slot.control ≡ o → offered p (cond b o None) ≡ true → IsMet p threads u
  with_offer p threads u slot found true parked (Some o) is h = record { slot = slot; found = found; parked = parked; offer = o; is = is; passes = h }
  with_offer p threads u slot found true parked None is h = absurd (false≢true h)
  with_offer p threads u slot found false parked o is h = absurd (false≢true h)

  pub met_of : (p : Offer → Bool) (threads : FinMap nat_cmp (Slot C)) (u : ℕ) → offered p (option_and_then (waits_with offer_of) (map.get threads u)) ≡ true → IsMet p threads u
  met_of p threads u h =
      elim (map.get threads u) as (λ o. map.get threads u ≡ o → offered p (option_and_then (waits_with offer_of) o) ≡ true → IsMet p threads u) [
        | None ↦ λ is h. absurd (false≢true h)
        | (Some slot) ↦ λ is h. with_offer p threads u slot is (same_state Parked slot.state) refl (offer_of slot.control) refl h
      ] refl h

  in_line : (c t : ℕ) (o : Option Offer) (l : Option Line) (line : Line) → l ≡ Some line → LineBacked c t o l → (is_listed t line.sends ≡ offered (sends_on c) o) × (is_listed t line.receives ≡ offered (receives_on c) o)
  in_line c t o l line is h = subst (LineBacked c t o) is h

  -- who stands in the line to send, or to receive, would do so
  pub met_sender : (threads : FinMap nat_cmp (Slot C)) (seen : Seen) (c u : ℕ) (line : Line) → AreOffers offer_of threads seen → map.get seen.lines c ≡ Some line → is_listed u line.sends ≡ true → IsMet (sends_on c) threads u
  met_sender threads seen c u line shown there listed =
      met_of (sends_on c) threads u (ap (offered (sends_on c)) (sym (shown.each u)) ∙ sym (in_line c u (map.get seen.offers u) (map.get seen.lines c) line there (shown.lines.backed c u)).0 ∙ listed)

  pub met_receiver : (threads : FinMap nat_cmp (Slot C)) (seen : Seen) (c u : ℕ) (line : Line) → AreOffers offer_of threads seen → map.get seen.lines c ≡ Some line → is_listed u line.receives ≡ true → IsMet (receives_on c) threads u
  met_receiver threads seen c u line shown there listed =
      met_of (receives_on c) threads u (ap (offered (receives_on c)) (sym (shown.each u)) ∙ sym (in_line c u (map.get seen.offers u) (map.get seen.lines c) line there (shown.lines.backed c u)).1 ∙ listed)
