-- A sink over a writer.
use Rattle.std.specs.Prelude.{ℕ, Bool, true, false, List, Option, None}

-- what the writer holds, where it says so, the bytes that the sink tells, whether the writer was flushed after the last write, and how
-- many faults there were
pub record Written : Type 0 where
  pub contents : Option (List ℕ)
  pub told : Option (List ℕ)
  pub is_flushed : Bool
  pub faults : ℕ

-- the bytes, where they are told
abbrev pub told_if : Bool → Option (List ℕ) → Option (List ℕ)
told_if true contents = contents
told_if false contents = None
