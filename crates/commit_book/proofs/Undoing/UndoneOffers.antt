-- Who waits on channels after an undo: touched threads withdraw, and then the channels are removed whose making was taken away.
use Rattle.std.proofs.Common.{◌≡◌, ◌⊎◌, inl, inr, ℕ, Bool, true, false, cond, not, ◌&&◌, ◌||◌, nat_eq, List, [], ◌∷◌, Option, Some, None, refl, sym, ap, subst, ◌∙◌}
use Rattle.std.specs.Prelude.{IfSome, is_some, option_and_then, option_map, unwrap_or}
use Rattle.std.specs.List.{IsDistinct}
use Rattle.std.specs.Ordering.{nat_cmp}
use Rattle.std.specs.Cmp.{nat_eq_equiv}
use Rattle.std.specs.FinMap as map
use Rattle.std.specs.FinMap.{FinMap}
use Rattle.std.specs.FinSet as set
use Rattle.std.proofs.lemmas.Bool.{false≢true, eqb-true}
use Rattle.std.proofs.lemmas.Map.Views.{any-filter_same}
use Rattle.linked_lists.specs.Lists.{is_listed}
use Rattle.linked_lists.proofs.Leaving.{IsDistinct-filter}
use Rattle.thread_slots.specs.Slot.{Slot, same_state}
use Rattle.thread_slots.specs.declared.state.State.TheVariants.{Parked}
use Rattle.rendezvous.specs.declared.offer.Offer.{Offer}
use Rattle.rendezvous.specs.Line.{Line, Seen, nobody, offered, LineBacked}
use Rattle.rendezvous.specs.Offer.{sends_on, receives_on}
use Rattle.restore.specs.Left.{others, without_all}
use Rattle.stab_code.specs.Program.{ProgramParts}
use Rattle.language.specs.Expression.{Expr}
use Rattle.language.specs.Plain.{PlainState, look_in}
use Rattle.language.specs.Table.{Look, act, sends, receives, picks}
use Rattle.journal_laws.specs.Known.{Known, known_in, IsExprIn, IsLookIn, IsKnown}
use Rattle.journal_laws.proofs.Occurring.{kept}
use Rattle.journal_laws.proofs.Stepping.{both}
use Rattle.commit_book.specs.Doing.{waits_with, offer_at}
use Rattle.commit_book.specs.Offers.{AreOffers}
use Rattle.commit_book.specs.Threads.{AreThreads}

-- ---- threads withdraw

module _ (touched : ℕ → Bool) where
  stays : (t : ℕ) (xs : List ℕ) → is_listed t (others touched xs) ≡ (not (touched t) && is_listed t xs)
  stays t xs = any-filter_same (nat_eq t) (λ k. not (touched k)) (not (touched t)) (λ k e. ap (λ j. not (touched j)) (sym (eqb-true t k e))) xs

  side : (p : Offer → Bool) (t : ℕ) (o : Option Offer) (b c : Bool) → c ≡ offered p o → (not b && c) ≡ offered p (cond b None o)
  side p t o true c is = refl
  side p t o false c is = is

  backed_withdrawn : (c t : ℕ) (o : Option Offer) (l : Option Line) → LineBacked c t o l → LineBacked c t (cond (touched t) None o) (option_map (without_all touched) l)
  backed_withdrawn c t o None h = elim (touched t) as (λ b. LineBacked c t (cond b None o) None) [ true ↦ (refl, refl) | false ↦ h ]
  backed_withdrawn c t o (Some l) h = (
    stays t l.sends ∙ side (sends_on c) t o (touched t) (is_listed t l.sends) h.0,
    stays t l.receives ∙ side (receives_on c) t o (touched t) (is_listed t l.receives) h.1,
  )

  once_withdrawn : (l : Option Line) → IfSome l (λ l. IsDistinct nat_eq l.sends × IsDistinct nat_eq l.receives) → IfSome (option_map (without_all touched) l) (λ l. IsDistinct nat_eq l.sends × IsDistinct nat_eq l.receives)
  once_withdrawn None h = tt
  once_withdrawn (Some l) h = (IsDistinct-filter nat_eq (λ t. not (touched t)) l.sends h.0, IsDistinct-filter nat_eq (λ t. not (touched t)) l.receives h.1)

  one_side_withdrawn : (l : Option Line) → ((unwrap_or l nobody).sends ≡ []) ⊎ ((unwrap_or l nobody).receives ≡ [])
      → ((unwrap_or (option_map (without_all touched) l) nobody).sends ≡ []) ⊎ ((unwrap_or (option_map (without_all touched) l) nobody).receives ≡ [])
  one_side_withdrawn None h = inl refl
  one_side_withdrawn (Some l) h = elim h [ inl none ↦ inl (ap (others touched) none) | inr none ↦ inr (ap (others touched) none) ]

  module _ {C : Type 0} (offer_of : C → Option Offer) where
    -- the touched threads have withdrawn and wait no more; the others are as before
    pub record AreWithdrawn (threads new : FinMap nat_cmp (Slot C)) (before after : Seen) : Type 0 where
      pub lines : (c : ℕ) → map.get after.lines c ≡ option_map (without_all touched) (map.get before.lines c)
      pub offers : (t : ℕ) → map.get after.offers t ≡ cond (touched t) None (map.get before.offers t)
      pub gone : (t : ℕ) → touched t ≡ true → option_and_then (waits_with offer_of) (map.get new t) ≡ None
      pub stay : (t : ℕ) → touched t ≡ false → map.get new t ≡ map.get threads t

    pub offers_withdrawn : (threads new : FinMap nat_cmp (Slot C)) (before after : Seen) → AreWithdrawn threads new before after → AreOffers offer_of threads before → AreOffers offer_of new after
    offers_withdrawn threads new before after is shown = record {
      each = λ t. is.offers t ∙ (elim (touched t) as (λ b. touched t ≡ b → cond b None (map.get before.offers t) ≡ option_and_then (waits_with offer_of) (map.get new t)) [
        | true ↦ λ hit. sym (is.gone t hit)
        | false ↦ λ miss. shown.each t ∙ ap (option_and_then (waits_with offer_of)) (sym (is.stay t miss))
      ] refl);
      lines = record {
        backed = λ c t.
            subst (λ (o : Option Offer). LineBacked c t o (map.get after.lines c)) (sym (is.offers t))
            (subst (λ (l : Option Line). LineBacked c t (cond (touched t) None (map.get before.offers t)) l) (sym (is.lines c)) (backed_withdrawn c t (map.get before.offers t) (map.get before.lines c) (shown.lines.backed c t)));
        once = λ c. subst (λ (l : Option Line). IfSome l (λ l. IsDistinct nat_eq l.sends × IsDistinct nat_eq l.receives)) (sym (is.lines c)) (once_withdrawn (map.get before.lines c) (shown.lines.once c));
      };
      one_side = λ c. subst (λ (l : Option Line). ((unwrap_or l nobody).sends ≡ []) ⊎ ((unwrap_or l nobody).receives ≡ [])) (sym (is.lines c)) (one_side_withdrawn (map.get before.lines c) (shown.one_side c));
    }

-- ---- nobody waits on a channel that isn't there

send_known : (k : Known) (c : ℕ) (l : Look Expr) → IsLookIn IsExprIn k l → offered (sends_on c) (offer_at l) ≡ true → k.channels c ≡ true
send_known k c (act (sends d v)) i h = ap k.channels (eqb-true c d h) ∙ i.0
send_known k c _ i h = absurd (false≢true h)

or_cases : (a b : Bool) (P : Type 0) → (a ≡ true → P) → (b ≡ true → P) → (a || b) ≡ true → P
or_cases true b P f g h = f refl
or_cases false b P f g h = g h

receive_known : (k : Known) (c : ℕ) (l : Look Expr) → IsLookIn IsExprIn k l → offered (receives_on c) (offer_at l) ≡ true → k.channels c ≡ true
receive_known k c (act (receives d)) i h = ap k.channels (eqb-true c d h) ∙ i
receive_known k c (act (picks a b)) i h = or_cases (nat_eq c a) (nat_eq c b) (k.channels c ≡ true) (λ is. ap k.channels (eqb-true c a is) ∙ i.0) (λ is. ap k.channels (eqb-true c b is) ∙ i.1) h
receive_known k c _ i h = absurd (false≢true h)

none_listed : (xs : List ℕ) → ((u : ℕ) → is_listed u xs ≡ true → ⊥) → xs ≡ []
none_listed [] f = refl
none_listed (x ∷ xs) f = absurd (f x (ap (λ b. b || is_listed x xs) (nat_eq_equiv.refl x)))

module _ {C : Type 0} (p : ProgramParts) (expr : C → Expr) where
  abbrev offers_of : C → Option Offer
  offers_of c = offer_at (look_in p (expr c))

  -- a channel that a waiting thread names is there
  waits_known : (q : Offer → Bool) (c : ℕ) (at : PlainState) (threads : FinMap nat_cmp (Slot C)) (u : ℕ) → IsKnown IsExprIn at → AreThreads expr threads at
      → ((l : Look Expr) → IsLookIn IsExprIn (known_in at) l → offered q (offer_at l) ≡ true → set.contains at.channels c ≡ true)
      → offered q (option_and_then (waits_with offers_of) (map.get threads u)) ≡ true → set.contains at.channels c ≡ true
  waits_known q c at threads u known shown f h =
      elim (map.get threads u) as (λ o. map.get threads u ≡ o → offered q (option_and_then (waits_with offers_of) o) ≡ true → set.contains at.channels c ≡ true) [
        | None ↦ λ is h. absurd (false≢true h)
        | (Some s) ↦ λ is h. elim (same_state Parked s.state) as (λ b. offered q (cond b (offers_of s.control) None) ≡ true → set.contains at.channels c ≡ true) [
          | true ↦ λ h. f (look_in p (expr s.control)) ((kept p).look (known_in at) (expr s.control) (known.threads u (expr s.control) (sym (shown u) ∙ ap (option_map (λ (s : Slot C). expr s.control)) is))) h
          | false ↦ λ h. absurd (false≢true h)
        ] h
      ] refl h

  nobody_in : (c : ℕ) (at : PlainState) (threads : FinMap nat_cmp (Slot C)) (seen : Seen) (l : Line) → IsKnown IsExprIn at → AreThreads expr threads at → AreOffers offers_of threads seen → set.contains at.channels c ≡ false
      → map.get seen.lines c ≡ Some l → l ≡ nobody
  nobody_in c at threads seen l known shown offers out found =
      let backed : (u : ℕ) → LineBacked c u (map.get seen.offers u) (Some l) = λ u. subst (λ (o : Option Line). LineBacked c u (map.get seen.offers u) o) found (offers.lines.backed c u) in
      let no_sender : l.sends ≡ [] = none_listed l.sends (λ u q. both _ (waits_known (sends_on c) c at threads u known shown (send_known (known_in at) c) (ap (offered (sends_on c)) (sym (offers.each u)) ∙ sym (backed u).0 ∙ q)) out) in
      let no_receiver : l.receives ≡ [] = none_listed l.receives (λ u q. both _ (waits_known (receives_on c) c at threads u known shown (receive_known (known_in at) c) (ap (offered (receives_on c)) (sym (offers.each u)) ∙ sym (backed u).1 ∙ q)) out) in
      λ i. record { sends = no_sender i; receives = no_receiver i }

  -- so where it still has a line, nobody is in it, and it can be removed
  pub nobody_left : (c : ℕ) (at : PlainState) (threads : FinMap nat_cmp (Slot C)) (seen : Seen) → IsKnown IsExprIn at → AreThreads expr threads at → AreOffers offers_of threads seen → set.contains at.channels c ≡ false
      → map.contains_key seen.lines c ≡ true → map.get seen.lines c ≡ Some nobody
  nobody_left c at threads seen known shown offers out there =
      elim (map.get seen.lines c) as (λ o. map.get seen.lines c ≡ o → is_some o ≡ true → o ≡ Some nobody) [
        | None ↦ λ found there. absurd (false≢true there)
        | (Some l) ↦ λ found there. ap (λ l. Some l) (nobody_in c at threads seen l known shown offers out found)
      ] refl there
