use Rattle.std.proofs.Common.{◌-◌, ◌≡◌, ◌+◌, ◌<◌, ◌≤◌, [], map, vec_len, vec_capacity, ℕ}
use Rattle.turn_floor.specs.Parts.{new_pass}
use Rattle.turn_floor.specs.Served.{from_to}
use Rattle.turn_floor.specs.Turn.{dealing}
use Rattle.turn_floor.proofs.floor.Floor.new.Given as goal

abbrev pub invariant-loop-last : goal.invariant-loop-last
invariant-loop-last g l =
    (vec_len l.passes + 1 ≡ l.last) × (l.last ≤ l.initial.workers) × (l.initial.workers ≤ vec_capacity l.passes)
    × (l.seat.table_id ≡ l.floor.table) × (l.seat.me ≡ (dealing l.floor.start l.last, []))
    × (l.commits.share.parts + vec_len l.passes ≡ l.initial.workers) × (l.stale.share.parts + vec_len l.passes ≡ l.initial.workers)
    × (l.commits.share.amount ≡ 0) × (l.stale.share.amount ≡ 0)
    × (l.passes.items ≡ map (new_pass l.floor) (from_to 2 (vec_len l.passes)))

abbrev pub decreases-loop-last : goal.decreases-loop-last
decreases-loop-last g l = l.initial.workers - l.last
