-- A place in a text, and the way from one place to another.
use Rattle.std.specs.Prelude.{◌≡◌, ℕ, ◌+◌, List, ◌++◌, length, encode_utf8_all}

-- how many bytes the characters take
abbrev pub byte_len : List ℕ → ℕ
byte_len cs = length (encode_utf8_all cs)

-- a place in a text: how many bytes stand before it, and the characters after it
pub record Place : Type 0 where
  pub at : ℕ
  pub rest : List ℕ

-- these characters lead from the old place to the new one
pub record Leads (cs : List ℕ) (old new : Place) : Type 0 where
  pub text : old.rest ≡ cs ++ new.rest
  pub at : new.at ≡ old.at + byte_len cs
