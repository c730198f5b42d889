-- Output that was cut short.
use Rattle.std.specs.Prelude.{◌≡◌, ℕ, List, ◌++◌}

-- the fact holds of some prefix of the piece
pub record SomePrefix (P : List ℕ → Type 0) (piece : List ℕ) : Type 0 where
  pub front : List ℕ
  pub back : List ℕ
  pub split : front ++ back ≡ piece
  pub fact : P front

-- the new bytes are the old ones and a prefix of the piece
abbrev pub GainsPrefix : List ℕ → List ℕ → List ℕ → Type 0
GainsPrefix old new piece = SomePrefix (λ front. new ≡ old ++ front) piece
