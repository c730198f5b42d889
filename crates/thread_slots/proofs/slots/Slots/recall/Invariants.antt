use Rattle.std.proofs.Common.{◌≡◌, ℕ, ◌++◌, length, option_map}
use Rattle.std.specs.FinMap as map
use Rattle.thread_slots.specs.declared.state.State.TheVariants.{Leased}
use Rattle.thread_slots.specs.Ready.{numbers}
use Rattle.thread_slots.specs.Slot.{is_in, recalled}
use Rattle.thread_slots.proofs.slots.Slots.recall.Given as goal

-- who is still leased comes after those in the queue
abbrev pub invariant-loop-t : goal.invariant-loop-t
invariant-loop-t g l = record {
  threads : (t : ℕ) → option_map recalled (map.get l.self.threads t) ≡ option_map recalled (map.get l.fn.self.threads t);
  queue : l.self.queue ++ numbers (is_in Leased l.self.threads) l.self.next ≡ l.fn.self.queue ++ numbers (is_in Leased l.fn.self.threads) l.fn.self.next;
  next : l.self.next ≡ l.fn.self.next;
  spare : l.self.spare ≡ l.fn.self.spare;
}

abbrev pub decreases-loop-t : goal.decreases-loop-t
decreases-loop-t g l = length (numbers (is_in Leased l.self.threads) l.self.next)
