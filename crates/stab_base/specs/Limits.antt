-- How large a value may be.
use Rattle.std.specs.Prelude.{ℕ, Bool, ◌&&◌, nat_le}
use Rattle.stab_base.specs.Datum.{Datum, depth_of, leaves_of}

-- how deep pairs may stand in each other
abbrev pub max_depth : ℕ
max_depth = 64

-- how many parts that aren't pairs a value may have
abbrev pub max_leaves : ℕ
max_leaves = 4096

-- whether a value keeps both limits of pairs
abbrev pub is_within_limits : Datum → Bool
is_within_limits d = nat_le (depth_of d) max_depth && nat_le (leaves_of d) max_leaves
