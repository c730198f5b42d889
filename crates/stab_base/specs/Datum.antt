-- Values, without where they lie in memory.
use Rattle.std.specs.Prelude.{ℕ, ◌+◌, ◌==◌, ℤ, Bool, false, true, ◌&&◌, max}
use Rattle.std.specs.Bool.{beq}
use Rattle.std.specs.Ordering.{int_eq}

-- a value of the language; texts, channels and references are named by their numbers
pub data Datum : Type 0 where
  unit : Datum
  truth : Bool → Datum
  int : ℤ → Datum
  text : ℕ → Datum
  chan : ℕ → Datum
  reference : ℕ → Datum
  pair : Datum → Datum → Datum

-- how deep pairs stand in each other
abbrev pub depth_of : Datum → ℕ
depth_of (pair a b) = max (depth_of a) (depth_of b) + 1
depth_of _ = 0

-- how many parts a value has that aren't pairs
abbrev pub leaves_of : Datum → ℕ
leaves_of (pair a b) = leaves_of a + leaves_of b
leaves_of _ = 1

-- whether two values are equal, part by part
abbrev pub datum_eq : Datum → Datum → Bool
datum_eq unit unit = true
datum_eq (truth a) (truth b) = beq a b
datum_eq (int m) (int n) = int_eq m n
datum_eq (text s) (text t) = s == t
datum_eq (chan b) (chan c) = b == c
datum_eq (reference q) (reference r) = q == r
datum_eq (pair a b) (pair c d) = datum_eq a c && datum_eq b d
datum_eq _ _ = false
