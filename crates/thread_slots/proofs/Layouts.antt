-- How slots stay laid out at each change.
use Rattle.std.proofs.Common.{◌≡◌, ℕ, suc, ◌+◌, ◌-◌, ◌≤◌, ◌<◌, ◌^◌, Bool, true, false, cond, List, [], ◌∷◌, ◌++◌, length, nat_eq, None, IsSome, IfSome, Option, Some, refl, sym, ap, ◌∙◌, subst, arith, add-one}
use Rattle.std.specs.List.{IsDistinct}
use Rattle.std.specs.Option.{option_map_or}
use Rattle.std.specs.Ordering.{nat_cmp}
use Rattle.std.specs.FinMap.{FinMap, get, insert, remove, empty, get-empty}
use Rattle.linked_lists.specs.Lists.{without}
use Rattle.linked_lists.proofs.Leaving.{IsDistinct-nil}
use Rattle.thread_slots.specs.declared.counts.StateCounts.{StateCounts}
use Rattle.thread_slots.specs.declared.entries.Entry.{Entry}
use Rattle.thread_slots.specs.declared.state.State.{State}
use Rattle.thread_slots.specs.declared.state.State.TheVariants.{Ready, Leased, Ended}
use Rattle.thread_slots.specs.Queues.{Queues}
use Rattle.thread_slots.specs.Ready.{IsQueueOf, numbers}
use Rattle.thread_slots.specs.Slot.{Slot, same_state, is_in, changed, count_of, IsSound}
use Rattle.thread_slots.specs.Layout.{live, IsCounted, IsLaidOut}
use Rattle.thread_slots.proofs.Placed.{number_of_live, live_new}
use Rattle.thread_slots.proofs.Kept.{IsQueueOf-changed, IsQueueOf-same, IsQueueOf-remove, IsQueueOf-add}
use Rattle.thread_slots.proofs.Counted.{IsCounted-moved, IsCounted-removed, IsCounted-same, IsCounted-added, IsCounted-few, counted_some}
use Rattle.std.proofs.lemmas.List.{append-nil}

module _ {C : Type 0} where
  same_queue : (s : State) (m n : FinMap nat_cmp (Slot C)) (p q : List ℕ) → n ≡ m → q ≡ p → IsQueueOf (is_in s m) p → IsQueueOf (is_in s n) q
  same_queue s m n p q e f is = subst (λ n. IsQueueOf (is_in s n) q) (sym e) (subst (λ q. IsQueueOf (is_in s m) q) (sym f) is)

  same_counts : (m n : FinMap nat_cmp (Slot C)) (k l : ℕ) (counts : StateCounts) → n ≡ m → l ≡ k → IsCounted m k counts → IsCounted n l counts
  same_counts m n k l counts e f is = subst (λ n. IsCounted n l counts) (sym e) (subst (λ l. IsCounted m l counts) (sym f) is)

  -- what the code hands back of a live thread is its state
  pub state_was : (o : Option (Slot C)) (before : State) → IfSome o (λ slot. slot.state ≡ before) → option_map_or (λ (slot : Slot C). slot.state) o before ≡ before
  state_was None before is = refl
  state_was (Some slot) before is = is

  module _ {m : FinMap nat_cmp (Slot C)} {p : Queues} {counts : StateCounts} {given spare capacity : ℕ} (is : IsLaidOut m p counts given spare capacity) (n : FinMap nat_cmp (Slot C)) (q : Queues) (counts' : StateCounts) (given' spare' capacity' : ℕ) where
    -- the state of a live thread is changed, and it leaves its place
    pub IsLaidOut-moved : (t : ℕ) (f : Slot C → Slot C) (before after : State) (between : StateCounts) → n ≡ changed m t f
        → q.ready ≡ without t p.ready ++ cond (same_state Ready after) (t ∷ []) [] → q.leased ≡ without t p.leased ++ cond (same_state Leased after) (t ∷ []) []
        → q.places ≡ p.places → q.spare ≡ p.spare → given' ≡ given → spare' ≡ spare → capacity' ≡ capacity
        → t < given + 1 → IsSome (get m t) → IfSome (get m t) (λ slot. slot.state ≡ before) → ((slot : Slot C) → (f slot).state ≡ after)
        → ((s : State) → count_of between s ≡ cond (same_state s before) (count_of counts s - 1) (count_of counts s))
        → ((s : State) → count_of counts' s ≡ cond (same_state s after) (count_of between s + 1) (count_of between s))
        → IsLaidOut n q counts' given' spare' capacity'
    IsLaidOut-moved t f before after between threads ready leased places room e e' e'' low there was gives less more = record {
      queue = same_queue Ready _ n _ q.ready threads ready (IsQueueOf-changed Ready m p.ready t f after there gives is.queue);
      leased = same_queue Leased _ n _ q.leased threads leased (IsQueueOf-changed Leased m p.leased t f after there gives is.leased);
      counts = same_counts _ n (given + 1) (given' + 1) counts' threads (ap (λ n. n + 1) e) (IsCounted-moved m (given + 1) counts t before is.counts low there (state_was (get m t) before was) f after between counts' gives less more);
      places = omega (arith, is.places);
      numbers = omega (arith, is.numbers);
      spare_threads = omega (arith, is.spare_threads);
      spare_places = omega (arith, is.spare_places);
    }

    -- a slot is changed, and its state stays
    pub IsLaidOut-same : (t : ℕ) (f : Slot C → Slot C) → n ≡ changed m t f → q ≡ p → counts' ≡ counts → given' ≡ given → spare' ≡ spare → capacity' ≡ capacity → ((slot : Slot C) → (f slot).state ≡ slot.state) → IsLaidOut n q counts' given' spare' capacity'
    IsLaidOut-same t f threads queues count e e' e'' gives = record {
      queue = same_queue Ready _ n _ q.ready threads (ap (λ q. q.ready) queues) (IsQueueOf-same Ready m p.ready t f gives is.queue);
      leased = same_queue Leased _ n _ q.leased threads (ap (λ q. q.leased) queues) (IsQueueOf-same Leased m p.leased t f gives is.leased);
      counts = subst (λ counts. IsCounted n (given' + 1) counts) (sym count) (same_counts _ n (given + 1) (given' + 1) counts threads (ap (λ n. n + 1) e) (IsCounted-same m (given + 1) counts t f gives is.counts));
      places = ap (λ q. q.places) queues ∙ is.places ∙ sym e;
      numbers = omega (arith, is.numbers);
      spare_threads = omega (arith, is.spare_threads);
      spare_places = let room : q.spare ≡ p.spare = ap (λ q. q.spare) queues in omega (arith, is.spare_places);
    }

    -- a thread is removed
    pub IsLaidOut-removed : (t : ℕ) (before : State) → n ≡ remove m t → q.ready ≡ without t p.ready → q.leased ≡ without t p.leased → q.places ≡ p.places → q.spare ≡ p.spare → given' ≡ given → spare' ≡ spare → capacity' ≡ capacity
        → t < given + 1 → IsSome (get m t) → IfSome (get m t) (λ slot. slot.state ≡ before)
        → ((s : State) → count_of counts' s ≡ cond (same_state s before) (count_of counts s - 1) (count_of counts s))
        → IsLaidOut n q counts' given' spare' capacity'
    IsLaidOut-removed t before threads ready leased places room e e' e'' low there was less = record {
      queue = same_queue Ready _ n _ q.ready threads ready (IsQueueOf-remove Ready m p.ready t is.queue);
      leased = same_queue Leased _ n _ q.leased threads leased (IsQueueOf-remove Leased m p.leased t is.leased);
      counts = same_counts _ n (given + 1) (given' + 1) counts' threads (ap (λ n. n + 1) e) (IsCounted-removed m (given + 1) counts t before is.counts low there (state_was (get m t) before was) counts' less);
      places = omega (arith, is.places);
      numbers = omega (arith, is.numbers);
      spare_threads = omega (arith, is.spare_threads);
      spare_places = omega (arith, is.spare_places);
    }

    -- a thread is added
    pub IsLaidOut-added : (t : ℕ) (slot : Slot C) → n ≡ insert m t slot
        → q.ready ≡ without t p.ready ++ cond (same_state Ready slot.state) (t ∷ []) [] → q.leased ≡ without t p.leased ++ cond (same_state Leased slot.state) (t ∷ []) []
        → q.places ≡ p.places + 1 → q.spare + 1 ≡ p.spare → given' ≡ given + 1 → given' + 1 < 2 ^ 32 → spare' + 1 ≡ spare → capacity' ≡ capacity
        → t ≡ given + 1 → get m t ≡ None
        → ((s : State) → count_of counts' s ≡ cond (same_state s slot.state) (count_of counts s + 1) (count_of counts s))
        → IsLaidOut n q counts' given' spare' capacity'
    IsLaidOut-added t slot threads ready leased places room e numbers e' e'' next fresh more = record {
      queue = same_queue Ready _ n _ q.ready threads ready (IsQueueOf-add Ready m p.ready t slot fresh is.queue);
      leased = same_queue Leased _ n _ q.leased threads leased (IsQueueOf-add Leased m p.leased t slot fresh is.leased);
      counts = same_counts _ n (suc (given + 1)) (given' + 1) counts' (threads ∙ ap (λ t. insert m t slot) next) (ap (λ n. n + 1) e ∙ add-one (given + 1)) (IsCounted-added m (given + 1) counts counts' slot is.counts more);
      places = omega (arith, is.places);
      numbers = numbers;
      spare_threads = omega (arith, is.spare_threads);
      spare_places = omega (arith, is.spare_places);
    }

  -- what holds of slots that are laid out
  pub IsSound-from_layout : (es : List (Option (Entry C))) (queues : Queues) (counts : StateCounts) (spare capacity : ℕ) → IsLaidOut (live es) queues counts (length es) spare capacity → IsSound (record { threads = live es; queue = queues.ready; next = length es + 1; spare = spare })
  IsSound-from_layout es queues counts spare capacity is = record {
    queue = is.queue;
    numbers = λ t there. number_of_live es t there;
    next = omega arith;
  }

  nobody : (s : State) (threads : FinMap nat_cmp (Slot C)) (t : ℕ) → threads ≡ empty → is_in s threads t ≡ false
  nobody s threads t none = ap (λ o. option_map_or (λ slot. same_state s slot.state) o false) (ap (λ m. get m t) none ∙ get-empty nat_cmp t)

  empty_queue : (s : State) (threads : FinMap nat_cmp (Slot C)) (queue : List ℕ) → threads ≡ empty → queue ≡ [] → IsQueueOf (is_in s threads) queue
  empty_queue s threads queue none is = subst (λ q. IsQueueOf (is_in s threads) q) (sym is) (record { once = IsDistinct-nil; ready = λ t. sym (nobody s threads t none) })

  pub IsLaidOut-new : (es : List (Option (Entry C))) (queues : Queues) (counts : StateCounts) (capacity : ℕ) → es ≡ [] → queues.ready ≡ [] → queues.leased ≡ [] → queues.places ≡ 0 → ((s : State) → count_of counts s ≡ 0) → IsLaidOut (live es) queues counts (length es) 0 capacity
  IsLaidOut-new es queues counts capacity none ready leased places zero =
      let short : length es ≡ 0 = ap length none in
      record {
        queue = empty_queue Ready (live es) queues.ready (live_new es none) ready;
        leased = empty_queue Leased (live es) queues.leased (live_new es none) leased;
        counts = λ s. zero s ∙ sym (ap (λ n. length (numbers (is_in s (live es)) (n + 1))) short ∙ ap (λ b. length {A = ℕ} (cond b (0 ∷ []) [])) (nobody s (live es) 0 (live_new es none)));
        places = places ∙ sym short;
        numbers = omega arith;
        spare_threads = omega arith;
        spare_places = omega arith;
      }

-- a new thread comes to the tail of the queue, or not at all
pub came_first : (ended : Bool) (t : ℕ) (state : State) (opened ready queue : List ℕ) → state ≡ cond ended Ended Ready → opened ≡ ready → without t ready ≡ ready → ready ≡ queue → without t opened ++ cond (same_state Ready state) (t ∷ []) [] ≡ cond ended queue (queue ++ t ∷ [])
came_first true t state opened ready queue is gave absent seen =
    ap (λ s. without t opened ++ cond (same_state Ready s) (t ∷ []) []) is ∙ append-nil (without t opened) ∙ ap (without t) gave ∙ absent ∙ seen
came_first false t state opened ready queue is gave absent seen =
    ap (λ s. without t opened ++ cond (same_state Ready s) (t ∷ []) []) is ∙ ap (λ q. q ++ t ∷ []) (ap (without t) gave ∙ absent ∙ seen)

module _ {C : Type 0} {m : FinMap nat_cmp (Slot C)} {p : Queues} {counts : StateCounts} {given spare capacity : ℕ} (is : IsLaidOut m p counts given spare capacity) where
  -- a live thread is counted in its state
  pub counted_before : (t : ℕ) (before : State) → t < given + 1 → IsSome (get m t) → IfSome (get m t) (λ slot. slot.state ≡ before) → 0 < count_of counts before
  counted_before t before low there was = counted_some m (given + 1) counts t before is.counts low there (state_was (get m t) before was)

  -- one more can be counted
  pub few : (s : State) → count_of counts s < 18446744073709551615
  few s = let low : count_of counts s ≤ given + 1 = IsCounted-few m (given + 1) counts s is.counts in omega (arith, is.numbers)

  pub few_left : (between : StateCounts) (before s : State) → ((s : State) → count_of between s ≡ cond (same_state s before) (count_of counts s - 1) (count_of counts s)) → count_of between s < 18446744073709551615
  few_left between before s less = below (same_state s before) (count_of counts s) (count_of between s) (less s) (few s)
    where
      below : (b : Bool) (c d : ℕ) → d ≡ cond b (c - 1) c → c < 18446744073709551615 → d < 18446744073709551615
      below true c d e low = omega arith
      below false c d e low = omega arith
