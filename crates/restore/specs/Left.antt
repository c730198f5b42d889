-- What a rollback leaves.
use Rattle.std.specs.Prelude.{ℕ, Bool, true, false, not, nat_eq, List, ◌++◌, filter, Option, Some, None, option_map, option_and_then}
use Rattle.std.specs.Ordering.{nat_cmp}
use Rattle.std.specs.FinMap as map
use Rattle.std.specs.FinMap.{FinMap}
use Rattle.comm_graph.specs.Node.{Node}
use Rattle.reach_line.specs.Reached.{has}
use Rattle.rendezvous.specs.Line as waiting
use Rattle.thread_slots.specs.Slot.{Slot, restored}
use Rattle.restore.specs.declared.line.Line.{Line}
use Rattle.restore.specs.declared.line.Line.TheVariants.{From, Gone}

-- the lines by the numbers of threads
abbrev pub LineMap : Type 0
LineMap = FinMap nat_cmp Line

-- whether the thread t has a line, and whether it goes back to one
abbrev pub is_touched : LineMap → ℕ → Bool
is_touched lines t = map.contains_key lines t

abbrev pub is_back : Option Line → Bool
is_back (Some (From q)) = true
is_back _ = false

abbrev pub goes_back : LineMap → ℕ → Bool
goes_back lines t = is_back (map.get lines t)

-- whether the line is the step q
abbrev pub is_from : ℕ → Option Line → Bool
is_from q (Some (From p)) = nat_eq q p.0
is_from q _ = false

module _ {C : Type 0} where
  -- a thread that goes back gets what is saved of it before that step; one that is gone isn't there; any other stays as it is
  abbrev pub put_back : (ℕ → Option C) → Option Line → Option (Slot C) → Option (Slot C)
  put_back saved None slot = slot
  put_back saved (Some Gone) slot = None
  put_back saved (Some (From q)) slot = option_and_then (λ control. option_map (restored control) slot) (saved q.0)

-- those of a list that don't pass
abbrev pub others : (ℕ → Bool) → List ℕ → List ℕ
others p list = filter (λ t. not (p t)) list

-- all touched threads leave the queue, and those that go back come to its tail, in the order of their numbers
abbrev pub requeued : LineMap → List ℕ → List ℕ
requeued lines queue = others (is_touched lines) queue ++ filter (goes_back lines) (map.keys lines)

-- who waits on a channel but for those that pass
abbrev pub without_all : (ℕ → Bool) → waiting.Line → waiting.Line
without_all p line = record { sends = others p line.sends; receives = others p line.receives }

-- the nodes that aren't marked
abbrev pub unmarked : List ℕ → List Node → List Node
unmarked marks nodes = filter (λ (n : Node). not (has n.number marks)) nodes
