use Rattle.std.proofs.Common.{◌≡◌, ◌+◌, ◌-◌, ◌≤◌, true, take, length}
use Rattle.std.specs.List.{AllByRecursion}
use Rattle.reach_line.specs.Reached.{has, Reached}
use Rattle.reach_line.specs.Progress.{named, AreClosed, cost}
use Rattle.reach_line.proofs.reaching.reach.Given as goal

abbrev pub invariant-loop-from : goal.invariant-loop-from
invariant-loop-from g l = record {
  lowest : l.marks.lowest ≡ l.fn.marks.lowest;
  beyond : l.marks.beyond ≡ l.fn.marks.beyond;
  first : has l.fn.node.0 l.marks.nodes ≡ true;
  only : AllByRecursion (Reached l.graph.nodes l.fn.node.0) l.marks.nodes;
  nodes : AllByRecursion (λ q. named q l.graph.nodes ≡ true) l.marks.nodes;
  closed : AreClosed l.graph.nodes l.marks.nodes (take l.next l.marks.nodes);
  steps : l.steps ≡ l.fn.steps + cost l.graph.nodes (take l.next l.marks.nodes);
  within : l.next ≤ length l.marks.nodes;
}

abbrev pub decreases-loop-from : goal.decreases-loop-from
decreases-loop-from g l = l.marks.beyond - l.marks.lowest - l.next
