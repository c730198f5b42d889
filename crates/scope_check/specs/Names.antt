-- What is written for a name and for a text, and the variable that a name is.
use Rattle.std.specs.Prelude.{ℕ, ◌==◌, Bool, true, false, if◌then◌else◌, List, [], ◌∷◌, drop, Option, Some, None, slice_range, bytes_eq, chars, encode_utf8_all}
use Rattle.scope_check.specs.declared.seen.Variable.{Variable}
use Rattle.stab_parse.specs.declared.symbol.Span.{Span}

-- the characters of a text up to its closing quote; a character behind a backslash stands for itself
abbrev pub up_to_quote : Bool → List ℕ → List ℕ
up_to_quote escaped [] = []
up_to_quote true (c ∷ cs) = c ∷ up_to_quote false cs
up_to_quote false (c ∷ cs) = if c == 34 then [] else if c == 92 then up_to_quote true cs else c ∷ up_to_quote false cs

module _ (bytes : List ℕ) where
  -- the bytes that are written there
  abbrev pub named : Span → List ℕ
  named span = slice_range bytes span.start span.end

  -- names are the same where their bytes are
  abbrev pub is_same : Span → Span → Bool
  is_same a b = bytes_eq (named a) (named b)

  -- the characters that a text stands for, as UTF-8
  abbrev pub text_at : Span → List ℕ
  text_at span = encode_utf8_all (up_to_quote false (drop 1 (chars (named span))))

  -- the slot of a name, where the innermost variable comes first
  abbrev pub slot_of : List Variable → Span → Option ℕ
  slot_of [] name = None
  slot_of (x ∷ xs) name = if is_same x.name name then Some x.slot else slot_of xs name
