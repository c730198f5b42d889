use Rattle.std.proofs.Common.{◌≡◌, ◌+◌, ◌++◌, [], List, length, vec_len}
use Rattle.std.specs.List.{sum_by}
use Rattle.turn_floor.specs.Joined.{Joined}
use Rattle.turn_floor.specs.Parts.{PassParts}
use Rattle.turn_floor.proofs.floor.Floor.gather.Given as goal

abbrev pub invariant-loop-pass : goal.invariant-loop-pass
invariant-loop-pass g l = (l.seat.table_id ≡ l.initial.seat.table_id) × (l.seat.me.1 ≡ []) × (ps : List PassParts) × (l.initial.others.items ≡ l.others.items ++ ps) × Joined l.initial.seat.me.0 l.seat.me.0 ps
    × (l.commits.share.amount ≡ l.initial.commits.share.amount + sum_by (λ (p : PassParts). p.commits) ps) × (l.commits.share.parts ≡ l.initial.commits.share.parts + length ps)
    × (l.stale.share.amount ≡ l.initial.stale.share.amount + sum_by (λ (p : PassParts). p.stale) ps) × (l.stale.share.parts ≡ l.initial.stale.share.parts + length ps)

abbrev pub decreases-loop-pass : goal.decreases-loop-pass
decreases-loop-pass g l = vec_len l.others
