-- The bytes of a log.
use Rattle.std.specs.Prelude.{◌≡◌, ◌++◌, ℕ, List}

-- a list of bytes begins with another
pub record IsFront (front whole : List ℕ) : Type 0 where
  pub back : List ℕ
  pub is : whole ≡ front ++ back

-- what a reader sees, and what was synced of it, which is a front
pub record Disk : Type 0 where
  pub seen : List ℕ
  pub firm : List ℕ

-- a crash may leave these bytes: those that were synced, and any behind them
abbrev pub IsLeft : Disk → List ℕ → Type 0
IsLeft disk bytes = IsFront disk.firm bytes
