-- The live threads, the queue and the numbers, as callers see them.
use Rattle.std.specs.Prelude.{◌≡◌, ℕ, ◌+◌, ◌<◌, ◌≤◌, Bool, true, false, List, Option, Some, None, IsSome, refl, if◌then◌else◌}
use Rattle.std.specs.Option.{option_map_or}
use Rattle.std.specs.Ordering.{nat_cmp}
use Rattle.std.specs.FinMap as map
use Rattle.std.specs.FinMap.{FinMap}
use Rattle.std.specs.Coded.{Coded, code_by, coded×, coded_ℕ, coded_list}
use Rattle.thread_slots.specs.declared.counts.StateCounts.{StateCounts}
use Rattle.thread_slots.specs.declared.state.State.{State}
use Rattle.thread_slots.specs.declared.state.State.TheVariants.{Ready, Leased, Parked, Ended}
use Rattle.thread_slots.specs.Ready.{IsQueueOf}

-- a live thread: what it runs, how often it was put back, and what it is doing
pub record Slot (C : Type 0) : Type 0 where
  pub control : C
  pub generation : ℕ
  pub state : State

-- the live threads by number, the ready queue, the number of the next thread, and for how many threads more there is room
pub record Seen (C : Type 0) : Type 0 where
  pub threads : FinMap nat_cmp (Slot C)
  pub queue : List ℕ
  pub next : ℕ
  pub spare : ℕ

-- a slot and what callers see are stored as the tuples of their fields
module _ {C : Type 0} where
  abbrev pub slot_code : Coded C → Coded State → Coded (Slot C)
  slot_code control state =
      code_by (C × (ℕ × State))
      (coded× control (coded× coded_ℕ state))
      (λ s. (s.control, (s.generation, s.state)))
      (λ p. record { control = p.0; generation = p.1.0; state = p.1.1 })
      (λ _. refl)

  abbrev pub seen_code : Coded C → Coded State → Coded (Seen C)
  seen_code control state =
      code_by (FinMap nat_cmp (Slot C) × (List ℕ × (ℕ × ℕ)))
      (coded× (map.code coded_ℕ (slot_code control state)) (coded× (coded_list coded_ℕ) (coded× coded_ℕ coded_ℕ)))
      (λ s. (s.threads, (s.queue, (s.next, s.spare))))
      (λ p. record { threads = p.0; queue = p.1.0; next = p.1.1.0; spare = p.1.1.1 })
      (λ _. refl)

-- whether two states are one
abbrev pub same_state : State → State → Bool
same_state Ready Ready = true
same_state Leased Leased = true
same_state Parked Parked = true
same_state Ended Ended = true
same_state _ _ = false

-- whether it is Ready
abbrev pub is_ready : State → Bool
is_ready s = same_state Ready s

-- how many are in a state
abbrev pub count_of : StateCounts → State → ℕ
count_of counts Ready = counts.ready
count_of counts Leased = counts.leased
count_of counts Parked = counts.parked
count_of counts Ended = counts.ended

module _ {C : Type 0} where
  -- a thread that was added just now
  abbrev pub started : C → Bool → Slot C
  started control ended = record { control = control; generation = 0; state = (if ended then Ended else Ready) }

  -- the thread put back to this control
  abbrev pub restored : C → Slot C → Slot C
  restored control slot = record { control = control; generation = slot.generation + 1; state = Ready }

  -- the thread Ready where it was Leased
  abbrev pub recalled : Slot C → Slot C
  recalled slot = if same_state Leased slot.state then record slot { state = Ready } else slot

  -- whether the thread t is live and in this state
  abbrev pub is_in : State → FinMap nat_cmp (Slot C) → ℕ → Bool
  is_in state threads t = option_map_or (λ slot. same_state state slot.state) (map.get threads t) false

  -- whether the thread t is live and Ready
  abbrev pub is_ready_at : FinMap nat_cmp (Slot C) → ℕ → Bool
  is_ready_at threads t = is_in Ready threads t

  -- the thread's slot as f changes it, where it has one
  abbrev pub put_changed : FinMap nat_cmp (Slot C) → ℕ → (Slot C → Slot C) → Option (Slot C) → FinMap nat_cmp (Slot C)
  put_changed threads t f None = threads
  put_changed threads t f (Some slot) = map.insert threads t (f slot)

  -- the threads with the slot of t as f changes it
  abbrev pub changed : FinMap nat_cmp (Slot C) → ℕ → (Slot C → Slot C) → FinMap nat_cmp (Slot C)
  changed threads t f = put_changed threads t f (map.get threads t)

  -- what holds of all slots: the queue has each Ready thread once and no other, and each live thread's number was handed out
  pub record IsSound (s : Seen C) : Type 0 where
    pub queue : IsQueueOf (is_ready_at s.threads) s.queue
    pub numbers : (t : ℕ) → IsSome (map.get s.threads t) → (1 ≤ t) × (t < s.next)
    pub next : 1 ≤ s.next
