-- The threads once one begins to wait, and once one that waits is met.
use Rattle.std.proofs.Common.{◌≡◌, ℕ, Bool, true, false, cond, nat_eq, [], Option, Some, None, refl, sym, ap, subst, ◌∙◌}
use Rattle.std.specs.Prelude.{IsSome, option_and_then, option_map}
use Rattle.std.specs.Ordering.{nat_cmp}
use Rattle.std.specs.Cmp.{nat_eq_equiv}
use Rattle.std.specs.FinMap as map
use Rattle.std.specs.FinMap.{FinMap}
use Rattle.std.proofs.lemmas.Bool.{false≢true}
use Rattle.stab_code.specs.Program.{ProgramParts}
use Rattle.thread_slots.specs.declared.state.State.{State}
use Rattle.thread_slots.specs.declared.state.State.TheVariants.{Parked, Ended}
use Rattle.thread_slots.specs.Slot.{Slot, changed, same_state}
use Rattle.rendezvous.specs.declared.offer.Offer.{Offer}
use Rattle.rendezvous.specs.Line.{Seen, joined, left}
use Rattle.rendezvous.specs.Line as line
use Rattle.rendezvous.specs.Offer.{sends_on, receives_on}
use Rattle.language.specs.Expression.{Expr}
use Rattle.step_eval.specs.ControlView.{ControlView, Fits, RedexIsFound, expr_of}
use Rattle.commit_book.specs.Book.{over, offered}
use Rattle.commit_book.specs.Doing.{IsDoing, waits_with}
use Rattle.commit_book.specs.Offers.{sends_at, receives_at}
use Rattle.commit_book.proofs.Threads.Changed.{each_changed}
use Rattle.commit_book.proofs.Threads.Lending.{get-changed}
use Rattle.commit_book.proofs.Threads.Standing.{moved, put, if_some, AreStanding, stands_moved}
use Rattle.commit_book.proofs.Threads.Staying.{over_offers}
use Rattle.commit_book.proofs.Threads.Waiting.{offers_left, offers_joined}

not_over : (b : Bool) → (b ≡ true → ⊥) → false ≡ b
not_over true f = absurd (f refl)
not_over false f = refl

module _ (p : ProgramParts) where
  none_now : (slot : Slot ControlView) → same_state Parked slot.state ≡ false → waits_with (offered p) slot ≡ None
  none_now slot un = ap (λ b. cond b (offered p slot.control) None) un

  -- what a changed thread waits with, and what any other one does
  waits_here : (threads : FinMap nat_cmp (Slot ControlView)) (t : ℕ) (f : Slot ControlView → Slot ControlView) (slot : Slot ControlView) → map.get threads t ≡ Some slot
      → option_and_then (waits_with (offered p)) (map.get (changed threads t f) t) ≡ waits_with (offered p) (f slot)
  waits_here threads t f slot found =
      ap (option_and_then (waits_with (offered p)))
      (get-changed threads t t f ∙ ap (λ b. cond b (option_map f (map.get threads t)) (map.get threads t)) (nat_eq_equiv.refl t) ∙ ap (option_map f) found)

  waits_there : (threads : FinMap nat_cmp (Slot ControlView)) (t u : ℕ) (f : Slot ControlView → Slot ControlView) → nat_eq u t ≡ false
      → option_and_then (waits_with (offered p)) (map.get (changed threads t f) u) ≡ option_and_then (waits_with (offered p)) (map.get threads u)
  waits_there threads t u f apart =
      ap (option_and_then (waits_with (offered p)))
      (get-changed threads t u f ∙ ap (λ b. cond b (option_map f (map.get threads t)) (map.get threads u)) apart)

  -- the thread t doesn't wait; its control fits and offers, on channels that are there and on which nobody waits on the other side
  pub record MayPark (threads : FinMap nat_cmp (Slot ControlView)) (before : Seen) (t : ℕ) (c : ControlView) (offer : Offer) : Type 0 where
    pub slot : Slot ControlView
    pub found : map.get threads t ≡ Some slot
    pub unparked : same_state Parked slot.state ≡ false
    pub fits : Fits p c
    pub redex : RedexIsFound c
    pub offers : offered p c ≡ Some offer
    pub there : line.AreThere before.lines offer
    pub nobody_receives : (k : ℕ) → sends_on k offer ≡ true → receives_at before.lines k ≡ []
    pub nobody_sends : (k : ℕ) → receives_on k offer ≡ true → sends_at before.lines k ≡ []

  offer_goes : (c : ControlView) (offer : Offer) → offered p c ≡ Some offer → same_state Ended Parked ≡ over p c
  offer_goes c offer is = not_over (over p c) (λ ended. none_some (sym (over_offers p (expr_of p c) ended) ∙ is))
    where
      none_some : {X : Type 0} {x : X} → None ≡ Some x → ⊥
      none_some h = cc

  -- it is free to wait: it had no offer
  pub unoffered : (threads : FinMap nat_cmp (Slot ControlView)) (offers : Seen) (exprs : ℕ → Option Expr) (put_back : ℕ → ℕ) (t : ℕ) (slot : Slot ControlView)
      → AreStanding p threads offers exprs put_back → map.get threads t ≡ Some slot → same_state Parked slot.state ≡ false → map.get offers.offers t ≡ None
  unoffered threads offers exprs put_back t slot shown found un = shown.offers.each t ∙ ap (option_and_then (waits_with (offered p))) found ∙ none_now slot un

  -- a thread begins to wait
  pub standing_parked : (threads : FinMap nat_cmp (Slot ControlView)) (before after : Seen) (exprs : ℕ → Option Expr) (put_back : ℕ → ℕ) (t : ℕ) (c : ControlView) (offer : Offer)
      → AreStanding p threads before exprs put_back → MayPark threads before t c offer
      → ((k : ℕ) → map.get after.lines k ≡ option_map (joined t offer k) (map.get before.lines k)) → after.offers ≡ map.insert before.offers t offer
      → AreStanding p (changed threads t (moved c Parked)) after (put t (expr_of p c) exprs) put_back
  standing_parked threads before after exprs put_back t c offer shown m lines offers = record {
    threads = λ u. stands_moved p threads t u c Parked m.slot m.found ∙ ap (cond (nat_eq u t) (Some (expr_of p c))) (shown.threads u);
    fit = each_changed (λ u s. Fits p s.control) threads t (moved c Parked) shown.fit (if_some (map.get threads t) m.slot (λ s. Fits p c) m.found m.fits);
    generations = each_changed (λ u s. s.generation ≡ put_back u) threads t (moved c Parked) shown.generations (shown.generations t);
    doing = each_changed (λ u s. IsDoing (over p) (offered p) s) threads t (moved c Parked) shown.doing
        (if_some (map.get threads t) m.slot (λ s. IsDoing (over p) (offered p) (moved c Parked s)) m.found
        (record { ended = offer_goes c offer m.offers; parked = λ h. subst (λ (o : Option Offer). IsSome o) (sym m.offers) refl }));
    offers = offers_joined (offered p) t offer threads (changed threads t (moved c Parked)) before after (record {
      lines = lines;
      offers = offers;
      free = unoffered threads before exprs put_back t m.slot shown m.found m.unparked;
      there = m.there;
      nobody_receives = m.nobody_receives;
      nobody_sends = m.nobody_sends;
      now = waits_here threads t (moved c Parked) m.slot m.found ∙ m.offers;
      others = λ u apart. waits_there threads t u (moved c Parked) apart;
    }) shown.offers;
    found = each_changed (λ u s. same_state Parked s.state ≡ true → RedexIsFound s.control) threads t (moved c Parked) shown.found
        (if_some (map.get threads t) m.slot (λ s. same_state Parked Parked ≡ true → RedexIsFound c) m.found (λ h. m.redex));
  }

  -- the thread u is there, and this control fits, with this state
  pub record MayLeave (threads : FinMap nat_cmp (Slot ControlView)) (u : ℕ) (c : ControlView) (st : State) : Type 0 where
    pub slot : Slot ControlView
    pub found : map.get threads u ≡ Some slot
    pub fits : Fits p c
    pub ended : same_state Ended st ≡ over p c
    pub parked : same_state Parked st ≡ false

  -- a thread stands at another control, and its offer, if it had one, is withdrawn
  pub standing_left : (threads : FinMap nat_cmp (Slot ControlView)) (before after : Seen) (exprs : ℕ → Option Expr) (put_back : ℕ → ℕ) (u : ℕ) (c : ControlView) (st : State)
      → AreStanding p threads before exprs put_back → MayLeave threads u c st
      → ((k : ℕ) → map.get after.lines k ≡ option_map (left u) (map.get before.lines k)) → after.offers ≡ map.remove before.offers u
      → AreStanding p (changed threads u (moved c st)) after (put u (expr_of p c) exprs) put_back
  standing_left threads before after exprs put_back u c st shown m lines offers = record {
    threads = λ t. stands_moved p threads u t c st m.slot m.found ∙ ap (cond (nat_eq t u) (Some (expr_of p c))) (shown.threads t);
    fit = each_changed (λ t s. Fits p s.control) threads u (moved c st) shown.fit (if_some (map.get threads u) m.slot (λ s. Fits p c) m.found m.fits);
    generations = each_changed (λ t s. s.generation ≡ put_back t) threads u (moved c st) shown.generations (shown.generations u);
    doing = each_changed (λ t s. IsDoing (over p) (offered p) s) threads u (moved c st) shown.doing
        (if_some (map.get threads u) m.slot (λ s. IsDoing (over p) (offered p) (moved c st s)) m.found (record { ended = m.ended; parked = λ h. absurd (false≢true (sym m.parked ∙ h)) }));
    offers = offers_left (offered p) u threads (changed threads u (moved c st)) before after (record {
      lines = lines;
      offers = offers;
      gone = waits_here threads u (moved c st) m.slot m.found ∙ none_now (moved c st m.slot) m.parked;
      others = λ t apart. waits_there threads u t (moved c st) apart;
    }) shown.offers;
    found = each_changed (λ t s. same_state Parked s.state ≡ true → RedexIsFound s.control) threads u (moved c st) shown.found
        (if_some (map.get threads u) m.slot (λ s. same_state Parked st ≡ true → RedexIsFound c) m.found (λ h. absurd (false≢true (sym m.parked ∙ h))));
  }
