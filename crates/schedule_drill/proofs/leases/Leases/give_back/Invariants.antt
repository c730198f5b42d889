use Rattle.std.proofs.Common.{◌≡◌, length}
use Rattle.std.specs.Map.{values_of}
use Rattle.schedule_drill.specs.Out.{all_given_back}
use Rattle.schedule_drill.proofs.Outs.{held_in}
use Rattle.schedule_drill.proofs.leases.Leases.give_back.Given as goal

-- the leases that are left lead to the same book
abbrev pub invariant-loop-k : goal.invariant-loop-k
invariant-loop-k l = all_given_back l.book (values_of l.out.entries) ≡ all_given_back l.fn.book (held_in l.fn.self)

abbrev pub decreases-loop-k : goal.decreases-loop-k
decreases-loop-k l = length l.out.entries
