use Rattle.std.proofs.Common.{◌≡◌, ◌≤◌, ◌-◌, drop, take, vec_len}
use Rattle.number_source.specs.Came.{numbers_of}
use Rattle.number_source.specs.Sources.{kept, next_answer, plan_behind}
use Rattle.number_source.proofs.mem_source.MemSource.next.Given as goal

-- only gaps were passed, and only where the caller waits
abbrev pub invariant-loop-self : goal.invariant-loop-self
invariant-loop-self l = record {
  within : l.self-inside.next ≤ vec_len l.self-inside.plan;
  settled : kept l.self-inside.last ≡ l.self-inside.last;
  answer : next_answer l.wait (drop l.self-inside.next l.self-inside.plan.items) ≡ next_answer l.wait l.fn.self.plan;
  behind : plan_behind l.wait (drop l.self-inside.next l.self-inside.plan.items) ≡ plan_behind l.wait l.fn.self.plan;
  came : numbers_of (take l.self-inside.next l.self-inside.plan.items) ≡ l.fn.self.came;
}

abbrev pub decreases-loop-self : goal.decreases-loop-self
decreases-loop-self l = vec_len l.self-inside.plan - l.self-inside.next
