-- What the threads are doing.
use Rattle.std.specs.Prelude.{◌≡◌, ℕ, Bool, true, false, cond, Option, Some, None, IsSome, IfSome}
use Rattle.std.specs.Ordering.{nat_cmp}
use Rattle.std.specs.FinMap as map
use Rattle.std.specs.FinMap.{FinMap}
use Rattle.thread_slots.specs.declared.state.State.TheVariants.{Parked, Ended}
use Rattle.thread_slots.specs.Slot.{Slot, same_state}
use Rattle.rendezvous.specs.declared.offer.Offer.{Offer}
use Rattle.rendezvous.specs.declared.offer.Offer.TheVariants as offer
use Rattle.language.specs.Expression.{Expr, value, failed}
use Rattle.language.specs.Table.{Look, act, sends, receives, picks}

-- whether an expression is a value or a fault
abbrev pub is_over : Expr → Bool
is_over (value v) = true
is_over (failed k) = true
is_over e = false

-- whether it is a fault
abbrev pub is_failed : Expr → Bool
is_failed (failed k) = true
is_failed e = false

-- what a thread offers that stands there
abbrev pub offer_at : {E : Type 0} → Look E → Option Offer
offer_at (act (sends c v)) = Some (offer.Send (record { 0 = c }))
offer_at (act (receives c)) = Some (offer.Recv (record { 0 = c }))
offer_at (act (picks c d)) = Some (offer.Pick (record { 0 = c }) (record { 0 = d }))
offer_at _ = None

module _ {C : Type 0} (over : C → Bool) (offered : C → Option Offer) where
  -- Ended exactly where its control is over, Parked only where that offers
  pub record IsDoing (s : Slot C) : Type 0 where
    pub ended : same_state Ended s.state ≡ over s.control
    pub parked : same_state Parked s.state ≡ true → IsSome (offered s.control)

  -- so is each live thread
  abbrev pub AreDoing : FinMap nat_cmp (Slot C) → Type 0
  AreDoing threads = (t : ℕ) → IfSome (map.get threads t) IsDoing

-- what a thread offers, where it is parked
abbrev pub waits_with : {C : Type 0} → (C → Option Offer) → Slot C → Option Offer
waits_with offered s = cond (same_state Parked s.state) (offered s.control) None

-- the controls of the parked threads have the property
abbrev pub AllParked : {C : Type 0} → (C → Type 0) → FinMap nat_cmp (Slot C) → Type 0
AllParked P threads = (t : ℕ) → IfSome (map.get threads t) (λ s. same_state Parked s.state ≡ true → P s.control)
