use Rattle.std.proofs.Common.{◌≡◌, ℕ, ◌<◌, get_or}
use Rattle.stab_base.proofs.same.all_same.Given as goal

-- the lists agree below the index
abbrev pub invariant-loop-i : goal.invariant-loop-i
invariant-loop-i g l = (k : ℕ) (d : g.row.T.Denot) → k < l.i → get_or l.left k d ≡ get_or l.right k d
