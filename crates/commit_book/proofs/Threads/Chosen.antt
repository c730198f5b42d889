-- What follows where a turn was chosen.
use Rattle.std.proofs.Common.{◌≡◌, ℕ, ◌<◌, ◌≤◌, Bool, true, false, ◌&&◌, ◌||◌, nat_eq, List, [], ◌∷◌, refl, sym, ap, ◌∙◌, arith}
use Rattle.std.specs.Prelude.{IfOk, Result, Ok, Err, nat_lt, nat_le, if◌then◌else◌}
use Rattle.std.specs.Cmp.{nat_eq_equiv}
use Rattle.std.proofs.lemmas.Bool.{false≢true}
use Rattle.std.proofs.lemmas.Bool.Decides.{nat_tests}
use Rattle.linked_lists.specs.Lists.{is_listed}
use Rattle.stab_base.specs.declared.numbers.NoMemory.{NoMemory}
use Rattle.stab_base.specs.declared.numbers.ThreadId.{ThreadId}
use Rattle.stab_journal.specs.Due.{due}
use Rattle.stab_journal.specs.Event.{weight_of}
use Rattle.thread_slots.specs.declared.state.State.TheVariants.{Ready, Leased}
use Rattle.thread_slots.specs.Slot.{is_in}
use Rattle.commit_book.specs.declared.turn.Choice.TheVariants as choice
use Rattle.commit_book.specs.declared.turn.Turn.{Turn}
use Rattle.commit_book.specs.declared.turn.Turn.TheVariants as turn
use Rattle.commit_book.specs.Book.{BookView, IsShown}
use Rattle.commit_book.specs.Counts.{in_state}
use Rattle.commit_book.specs.Turns.{IsWork, SpentIfSo, choice_of, first_ready, is_empty}
use Rattle.commit_book.proofs.Threads.Choosing.{chosen_quiet}
use Rattle.commit_book.proofs.Threads.Holding.{none_counted, some_counted}

not_up : (a b : ℕ) → nat_le a b ≡ false → b < a
not_up a b h = grind (arith, nat_tests)

-- a thread is lent only while there is fuel
pub chosen_light : (b : BookView) (t : ThreadId) → choice_of b ≡ choice.Work t → weight_of b.history.events < b.job.fuel
chosen_light b t is = by_due (nat_lt 0 (due b.history.events)) (is_empty b.queue && nat_eq (in_state Leased b) 0) (nat_le b.job.fuel (weight_of b.history.events)) refl is
  where
    by_due : (x y z : Bool) → nat_le b.job.fuel (weight_of b.history.events) ≡ z → (if x then choice.Release else (if y then choice.Quiet else (if z then choice.Spent else first_ready b.queue))) ≡ choice.Work t → weight_of b.history.events < b.job.fuel
    by_due true y z at is = absurd (cc)
    by_due false true z at is = absurd (cc)
    by_due false false true at is = absurd (cc)
    by_due false false false at is = not_up b.job.fuel (weight_of b.history.events) at

first_listed : (u : ℕ) (us : List ℕ) → is_listed u (u ∷ us) ≡ true
first_listed u us = ap (λ b. b || is_listed u us) (nat_eq_equiv.refl u)

up : (a b : ℕ) → nat_le a b ≡ true → a ≤ b
up a b h = grind (arith, nat_tests)

zero_only : (n : ℕ) → n ≡ 0 → nat_eq n 0 ≡ true
zero_only n h = grind (arith, nat_tests)

module _ (b : BookView) (shown : IsShown b) (free : in_state Leased b ≡ 0) where
  queued_ready : (queue : List ℕ) → b.queue ≡ queue → (is_empty queue && nat_eq (in_state Leased b) 0) ≡ false → 0 < in_state Ready b
  queued_ready [] at some = absurd (false≢true (sym some ∙ zero_only (in_state Leased b) free))
  queued_ready (u ∷ us) at some = some_counted b shown Ready u (sym (shown.shows.threads.queue.ready u) ∙ ap (is_listed u) at ∙ first_listed u us)

  -- Spent comes where the fuel is used up and a thread is ready
  pub spent_says : choice_of b ≡ choice.Spent → (b.job.fuel ≤ weight_of b.history.events) × (0 < in_state Ready b)
  spent_says is = by (nat_lt 0 (due b.history.events)) (is_empty b.queue && nat_eq (in_state Leased b) 0) (nat_le b.job.fuel (weight_of b.history.events)) refl refl is
    where
      front : (queue : List ℕ) → first_ready queue ≡ choice.Spent → ⊥
      front [] is = absurd (cc)
      front (u ∷ us) is = absurd (cc)

      by : (x y z : Bool) → (is_empty b.queue && nat_eq (in_state Leased b) 0) ≡ y → nat_le b.job.fuel (weight_of b.history.events) ≡ z → (if x then choice.Release else (if y then choice.Quiet else (if z then choice.Spent else first_ready b.queue))) ≡ choice.Spent
          → (b.job.fuel ≤ weight_of b.history.events) × (0 < in_state Ready b)
      by true y z some used is = absurd (cc)
      by false true z some used is = absurd (cc)
      by false false true some used is = (up b.job.fuel (weight_of b.history.events) used, queued_ready b.queue refl some)
      by false false false some used is = absurd (front b.queue is)

-- at Spent the fuel is used up, also where somebody has a lease
pub spent_fuel : (b : BookView) → choice_of b ≡ choice.Spent → b.job.fuel ≤ weight_of b.history.events
spent_fuel b is = by (nat_lt 0 (due b.history.events)) (is_empty b.queue && nat_eq (in_state Leased b) 0) (nat_le b.job.fuel (weight_of b.history.events)) refl is
  where
    front : (queue : List ℕ) → first_ready queue ≡ choice.Spent → ⊥
    front [] is = absurd (cc)
    front (u ∷ us) is = absurd (cc)

    by : (x y z : Bool) → nat_le b.job.fuel (weight_of b.history.events) ≡ z → (if x then choice.Release else (if y then choice.Quiet else (if z then choice.Spent else first_ready b.queue))) ≡ choice.Spent → b.job.fuel ≤ weight_of b.history.events
    by true y z used is = absurd (cc)
    by false true z used is = absurd (cc)
    by false false true used is = up b.job.fuel (weight_of b.history.events) used
    by false false false used is = absurd (front b.queue is)

-- a thread that was lent isn't Spent
pub work_spends : (b : BookView) (r : Result Turn NoMemory) → IfOk r IsWork → IfOk r (SpentIfSo b)
work_spends b (Err e) h = tt
work_spends b (Ok (turn.Work lease control)) h = tt
work_spends b (Ok turn.Idle) h = absurd h
work_spends b (Ok turn.Quiet) h = absurd h
work_spends b (Ok turn.Spent) h = absurd h
work_spends b (Ok turn.Release) h = absurd h

-- at Quiet nobody is ready
pub quiet_unready : (b : BookView) → IsShown b → choice_of b ≡ choice.Quiet → in_state Ready b ≡ 0
quiet_unready b shown is = none_counted (is_in Ready b.threads) b.next.thread (λ u. sym (shown.shows.threads.queue.ready u) ∙ ap (is_listed u) (chosen_quiet b is).0)

below : (n : ℕ) → nat_lt 0 n ≡ true → 0 < n
below n h = grind (arith, nat_tests)

-- Release comes where something is due
pub release_due : (b : BookView) → choice_of b ≡ choice.Release → 0 < due b.history.events
release_due b is = by (nat_lt 0 (due b.history.events)) (is_empty b.queue && nat_eq (in_state Leased b) 0) (nat_le b.job.fuel (weight_of b.history.events)) refl is
  where
    front : (queue : List ℕ) → first_ready queue ≡ choice.Release → ⊥
    front [] is = absurd (cc)
    front (u ∷ us) is = absurd (cc)

    by : (x y z : Bool) → nat_lt 0 (due b.history.events) ≡ x → (if x then choice.Release else (if y then choice.Quiet else (if z then choice.Spent else first_ready b.queue))) ≡ choice.Release → 0 < due b.history.events
    by true y z some is = below (due b.history.events) some
    by false true z some is = absurd (cc)
    by false false true some is = absurd (cc)
    by false false false some is = absurd (front b.queue is)
