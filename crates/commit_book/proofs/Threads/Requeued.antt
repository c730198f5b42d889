-- Threads that change between Ready and Leased, and nothing else.
use Rattle.std.proofs.Common.{◌≡◌, ℕ, Bool, true, cond, List, Option, Some, None, refl, sym, ap, subst, ◌∙◌}
use Rattle.std.specs.Prelude.{IfSome, IsSome, option_and_then, option_map}
use Rattle.std.specs.Ordering.{nat_cmp}
use Rattle.std.specs.FinMap as map
use Rattle.std.specs.FinMap.{FinMap}
use Rattle.stab_journal.specs.declared.event.Event.{Event}
use Rattle.thread_slots.specs.declared.state.State.TheVariants.{Parked, Ended}
use Rattle.thread_slots.specs.Slot.{Slot, same_state}
use Rattle.rendezvous.specs.Line.{Seen}
use Rattle.language.specs.Steps.{State}
use Rattle.rendezvous.specs.declared.offer.Offer.{Offer}
use Rattle.commit_book.specs.Threads.{AreThreads, AllControls}
use Rattle.commit_book.specs.Generations.{AreGenerations}
use Rattle.commit_book.specs.Doing.{IsDoing, AreDoing, AllParked, waits_with}
use Rattle.commit_book.specs.Offers.{AreOffers}

module _ {C : Type 0} where
  -- the thread is as before but for a state other than Parked and Ended
  pub record IsRequeuedAs (a b : Slot C) : Type 0 where
    pub control : b.control ≡ a.control
    pub generation : b.generation ≡ a.generation
    pub ended : same_state Ended b.state ≡ same_state Ended a.state
    pub parked : same_state Parked b.state ≡ same_state Parked a.state

  abbrev pub IsRequeuedAt : Option (Slot C) → Option (Slot C) → Type 0
  IsRequeuedAt None None = Unit {0}
  IsRequeuedAt (Some a) (Some b) = IsRequeuedAs a b
  IsRequeuedAt _ _ = ⊥

  abbrev pub AreRequeued : FinMap nat_cmp (Slot C) → FinMap nat_cmp (Slot C) → Type 0
  AreRequeued old new = (t : ℕ) → IsRequeuedAt (map.get old t) (map.get new t)

  same_as : (a : Slot C) → IsRequeuedAs a a
  same_as a = record { control = refl; generation = refl; ended = refl; parked = refl }

  pub requeued_same : (o : Option (Slot C)) → IsRequeuedAt o o
  requeued_same None = tt
  requeued_same (Some a) = same_as a

  all_of : (P : C → Type 0) (o n : Option (Slot C)) → IsRequeuedAt o n → IfSome o (λ s. P s.control) → IfSome n (λ s. P s.control)
  all_of P None None is h = tt
  all_of P (Some a) (Some b) is h = subst P (sym is.control) h
  all_of P None (Some b) is h = absurd is
  all_of P (Some a) None is h = absurd is

  pub fit_requeued : (P : C → Type 0) (old new : FinMap nat_cmp (Slot C)) → AreRequeued old new → AllControls P old → AllControls P new
  fit_requeued P old new is all t = all_of P (map.get old t) (map.get new t) (is t) (all t)

  generation_at : (g : ℕ) (o n : Option (Slot C)) → IsRequeuedAt o n → IfSome o (λ s. s.generation ≡ g) → IfSome n (λ s. s.generation ≡ g)
  generation_at g None None is h = tt
  generation_at g (Some a) (Some b) is h = is.generation ∙ h
  generation_at g None (Some b) is h = absurd is
  generation_at g (Some a) None is h = absurd is

  pub generations_requeued : (events : List Event) (old new : FinMap nat_cmp (Slot C)) → AreRequeued old new → AreGenerations old events → AreGenerations new events
  generations_requeued events old new is all t = generation_at _ (map.get old t) (map.get new t) (is t) (all t)

  parked_at : (P : C → Type 0) (o n : Option (Slot C)) → IsRequeuedAt o n → IfSome o (λ s. same_state Parked s.state ≡ true → P s.control) → IfSome n (λ s. same_state Parked s.state ≡ true → P s.control)
  parked_at P None None is h = tt
  parked_at P (Some a) (Some b) is h = λ at. subst P (sym is.control) (h (sym is.parked ∙ at))
  parked_at P None (Some b) is h = absurd is
  parked_at P (Some a) None is h = absurd is

  pub parked_requeued : (P : C → Type 0) (old new : FinMap nat_cmp (Slot C)) → AreRequeued old new → AllParked P old → AllParked P new
  parked_requeued P old new is all t = parked_at P (map.get old t) (map.get new t) (is t) (all t)

module _ {C E : Type 0} (expr : C → E) where
  stands_at : (o n : Option (Slot C)) → IsRequeuedAt o n → option_map (λ (s : Slot C). expr s.control) n ≡ option_map (λ (s : Slot C). expr s.control) o
  stands_at None None is = refl
  stands_at (Some a) (Some b) is = ap (λ c. Some (expr c)) is.control
  stands_at None (Some b) is = absurd is
  stands_at (Some a) None is = absurd is

  pub threads_requeued : (old new : FinMap nat_cmp (Slot C)) (s : State E) → AreRequeued old new → AreThreads expr old s → AreThreads expr new s
  threads_requeued old new s is shown t = stands_at (map.get old t) (map.get new t) (is t) ∙ shown t

module _ {C : Type 0} (over : C → Bool) (offered : C → Option Offer) where
  doing_at : (o n : Option (Slot C)) → IsRequeuedAt o n → IfSome o (IsDoing over offered) → IfSome n (IsDoing over offered)
  doing_at None None is h = tt
  doing_at (Some a) (Some b) is h = record {
    ended = is.ended ∙ h.ended ∙ ap over (sym is.control);
    parked = λ at. subst (λ (c : C). IsSome (offered c)) (sym is.control) (h.parked (sym is.parked ∙ at));
  }
  doing_at None (Some b) is h = absurd is
  doing_at (Some a) None is h = absurd is

  pub doing_requeued : (old new : FinMap nat_cmp (Slot C)) → AreRequeued old new → AreDoing over offered old → AreDoing over offered new
  doing_requeued old new is shown t = doing_at (map.get old t) (map.get new t) (is t) (shown t)

module _ {C : Type 0} (offered : C → Option Offer) where
  waits_at : (o n : Option (Slot C)) → IsRequeuedAt o n → option_and_then (waits_with offered) n ≡ option_and_then (waits_with offered) o
  waits_at None None is = refl
  waits_at (Some a) (Some b) is = ap (λ p. cond p (offered b.control) None) is.parked ∙ ap (λ c. cond (same_state Parked a.state) (offered c) None) is.control
  waits_at None (Some b) is = absurd is
  waits_at (Some a) None is = absurd is

  pub offers_requeued : (old new : FinMap nat_cmp (Slot C)) (offers : Seen) → AreRequeued old new → AreOffers offered old offers → AreOffers offered new offers
  offers_requeued old new offers is shown = record {
    each = λ t. shown.each t ∙ sym (waits_at (map.get old t) (map.get new t) (is t));
    lines = shown.lines;
    one_side = shown.one_side;
  }
