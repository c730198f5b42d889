-- Who waits on channels, and with what.
use Rattle.std.specs.Prelude.{◌≡◌, ◌⊎◌, ℕ, List, [], Option, unwrap_or, option_and_then}
use Rattle.std.specs.Ordering.{nat_cmp}
use Rattle.std.specs.FinMap as map
use Rattle.std.specs.FinMap.{FinMap}
use Rattle.thread_slots.specs.Slot.{Slot}
use Rattle.rendezvous.specs.declared.offer.Offer.{Offer}
use Rattle.rendezvous.specs.Line.{Lines, Seen, nobody, IsSound}
use Rattle.commit_book.specs.Doing.{waits_with}

-- who waits on a channel to send, and who to receive
abbrev pub sends_at : Lines → ℕ → List ℕ
sends_at lines c = (unwrap_or (map.get lines c) nobody).sends

abbrev pub receives_at : Lines → ℕ → List ℕ
receives_at lines c = (unwrap_or (map.get lines c) nobody).receives

-- exactly the parked threads have offers, those of their controls; each stands in the lines of what it offers and in no other;
-- and on no channel one waits to send and one to receive
pub record AreOffers {C : Type 0} (offered : C → Option Offer) (threads : FinMap nat_cmp (Slot C)) (offers : Seen) : Type 0 where
  pub each : (t : ℕ) → map.get offers.offers t ≡ option_and_then (waits_with offered) (map.get threads t)
  pub lines : IsSound offers
  pub one_side : (c : ℕ) → (sends_at offers.lines c ≡ []) ⊎ (receives_at offers.lines c ≡ [])
