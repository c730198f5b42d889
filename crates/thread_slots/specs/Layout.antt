-- What callers see, from how it is kept: the thread n at the place n - 1, and an empty place where one was removed.
use Rattle.std.specs.Prelude.{◌≡◌, ℕ, ◌+◌, ◌≤◌, ◌<◌, ◌^◌, List, [], ◌∷◌, Option, Some, None, length, map, option_map}
use Rattle.std.specs.Ordering.{nat_cmp}
use Rattle.std.specs.FinMap.{FinMap}
use Rattle.linked_lists.specs.Numbered.{by_number}
use Rattle.thread_slots.specs.declared.counts.StateCounts.{StateCounts}
use Rattle.thread_slots.specs.declared.entries.Entry.{Entry}
use Rattle.thread_slots.specs.declared.state.State.{State}
use Rattle.thread_slots.specs.declared.state.State.TheVariants.{Ready, Leased}
use Rattle.thread_slots.specs.Ready.{IsQueueOf, numbers}
use Rattle.thread_slots.specs.Queues.{Queues}
use Rattle.thread_slots.specs.Slot.{Slot, count_of, is_in}

module _ {C : Type 0} where
  -- what callers see of a thread
  abbrev pub slot_of : Entry C → Slot C
  slot_of e = record { control = e.control; generation = e.generation.0; state = e.state }

  -- what is at each place
  abbrev pub places : List (Option (Entry C)) → List (Option (Slot C))
  places es = map (option_map slot_of) es

  -- the threads of all places
  abbrev pub live : List (Option (Entry C)) → FinMap nat_cmp (Slot C)
  live es = by_number 1 (places es)

  -- each state's count is how many of the numbers below n are threads in it
  abbrev pub IsCounted : FinMap nat_cmp (Slot C) → ℕ → StateCounts → Type 0
  IsCounted threads n counts = (s : State) → count_of counts s ≡ length (numbers (is_in s threads) n)

  -- the queues and the counts are those of the threads, each number given has a place, numbers are left, and there is memory for each number given and for as many more as there is room for
  pub record IsLaidOut (threads : FinMap nat_cmp (Slot C)) (queues : Queues) (tally : StateCounts) (given spare capacity : ℕ) : Type 0 where
    pub queue : IsQueueOf (is_in Ready threads) queues.ready
    pub leased : IsQueueOf (is_in Leased threads) queues.leased
    pub counts : IsCounted threads (given + 1) tally
    pub places : queues.places ≡ given
    pub numbers : given + 1 < 2 ^ 32
    pub spare_threads : given + spare ≤ capacity
    pub spare_places : spare ≤ queues.spare
