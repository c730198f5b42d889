-- The pieces of a text, tokens and what separates them, and what can stand where no piece does.
use Rattle.std.specs.Prelude.{◌≡◌, ◌≢◌, ℕ, ◌+◌, ◌-◌, ◌*◌, ◌^◌, ◌<◌, ◌≤◌, Bool, ◌||◌, ◌==◌, not, IsTrue, IsFalse, List, [], ◌∷◌, ◌++◌, Option, Some, None, IsSome, IsNone, ◌⊎◌, if◌then◌else◌, fold, IsUtf8, encode_utf8_all}
use Rattle.std.specs.List.{AllByRecursion, flat_map}
use Rattle.std.specs.Char.{is_ascii_digit}
use Rattle.std.specs.Str.{chars}
use Rattle.unicode_ident.specs.Ident.{is_xid_start, is_xid_continue}
use Rattle.stab_lex.specs.declared.kind.Kind.{Kind}
use Rattle.stab_lex.specs.declared.kind.Kind.TheVariants.{Number, Text}
use Rattle.stab_lex.specs.Kinds.{name_kind, mark_kind}

-- space, tab, line feed and carriage return
abbrev pub is_blank : ℕ → Bool
is_blank c = c == 32 || c == 9 || c == 10 || c == 13

-- any character but a line feed, beyond which no comment and no text goes
abbrev pub is_in_line : ℕ → Bool
is_in_line c = not (c == 10)

-- what a name begins with, and what it goes on with
abbrev pub starts_name : ℕ → Bool
starts_name c = is_xid_start c || c == 95

abbrev pub continues_name : ℕ → Bool
continues_name c = is_xid_continue c

-- the quote and the backslash, which a text has behind a backslash
abbrev pub is_escaped : ℕ → Bool
is_escaped c = c == 34 || c == 92

-- each of the characters passes the test
abbrev pub Pass : (ℕ → Bool) → List ℕ → Type 0
Pass test cs = AllByRecursion (λ c. IsTrue (test c)) cs

-- the text ends here, or goes on with a character that fails the test
abbrev pub Stops : (ℕ → Bool) → List ℕ → Type 0
Stops test [] = Unit {0}
Stops test (c ∷ cs) = IsFalse (test c)

-- the value of decimal digits
abbrev pub decimal : List ℕ → ℕ
decimal digits = fold (λ value digit. value * 10 + (digit - 48)) 0 digits

-- how a character of a text is written between its quotes, and how all of them are
abbrev pub escaped_char : ℕ → List ℕ
escaped_char c = if is_escaped c then 92 ∷ c ∷ [] else c ∷ []

abbrev pub escaped : List ℕ → List ℕ
escaped cs = flat_map escaped_char cs

-- A piece of a text: a separator, or a token.
pub data Piece : Type 0 where
  -- one blank
  Blank : ℕ → Piece
  -- a comment, by what follows its two slashes
  Comment : List ℕ → Piece
  -- a name, reserved or not
  Word : List ℕ → Piece
  -- a number, by its digits
  Numeral : List ℕ → Piece
  -- a text, by the characters that it stands for
  Quoted : List ℕ → Piece
  -- a mark
  Mark : List ℕ → Piece

-- the characters of a piece
abbrev pub spelling : Piece → List ℕ
spelling (Blank c) = c ∷ []
spelling (Comment cs) = 47 ∷ 47 ∷ cs
spelling (Word cs) = cs
spelling (Numeral digits) = digits
spelling (Quoted cs) = 34 ∷ escaped cs ++ 34 ∷ []
spelling (Mark cs) = cs

-- the kind of a token, none of a separator
abbrev pub kind_of : Piece → Option Kind
kind_of (Blank c) = None
kind_of (Comment cs) = None
kind_of (Word cs) = Some (name_kind (encode_utf8_all cs))
kind_of (Numeral digits) = Some (Number (decimal digits))
kind_of (Quoted cs) = Some Text
kind_of (Mark cs) = mark_kind cs

-- a name: its first character, and the rest
abbrev pub IsName : List ℕ → Type 0
IsName [] = ⊥
IsName (c ∷ cs) = IsTrue (starts_name c) × Pass continues_name cs

-- the digits of a number
abbrev pub AreDigits : List ℕ → Type 0
AreDigits digits = (digits ≢ []) × Pass is_ascii_digit digits

-- with one character more it would be no mark, and it doesn't begin a comment
abbrev pub IsLongest : List ℕ → List ℕ → Type 0
IsLongest mark [] = Unit {0}
IsLongest mark (c ∷ cs) = IsNone (mark_kind (mark ++ c ∷ [])) × (mark ++ c ∷ [] ≢ 47 ∷ 47 ∷ [])

-- The piece can stand before the characters after it: it has its shape, and is as long as it can be.
abbrev pub Stands : Piece → List ℕ → Type 0
Stands (Blank c) after = IsTrue (is_blank c)
Stands (Comment cs) after = Pass is_in_line cs × Stops is_in_line after
Stands (Word cs) after = IsName cs × Stops continues_name after
Stands (Numeral digits) after = AreDigits digits × Stops is_ascii_digit after × (decimal digits ≤ 2 ^ 63)
Stands (Quoted cs) after = Pass is_in_line cs
Stands (Mark cs) after = IsSome (mark_kind cs) × IsLongest cs after

-- What stands where no piece can.
pub data Obstacle : Type 0 where
  -- a character that begins no piece
  Stray : ℕ → Obstacle
  -- the digits of a number that is too great
  Great : List ℕ → Obstacle
  -- a text without an end, by the characters that it stands for so far
  Open : List ℕ → Obstacle
  -- a text up to a backslash and the character behind it, by the characters before the backslash
  BadEscape : List ℕ → ℕ → Obstacle

-- the characters of an obstacle
abbrev pub obstacle_spelling : Obstacle → List ℕ
obstacle_spelling (Stray c) = c ∷ []
obstacle_spelling (Great digits) = digits
obstacle_spelling (Open cs) = 34 ∷ escaped cs
obstacle_spelling (BadEscape cs c) = 34 ∷ escaped cs ++ 92 ∷ c ∷ []

-- no blank, name, number or text begins with the character
pub record IsOther (c : ℕ) : Type 0 where
  pub no_blank : IsFalse (is_blank c)
  pub no_name : IsFalse (starts_name c)
  pub no_digit : IsFalse (is_ascii_digit c)
  pub no_quote : c ≢ 34

-- the text ends here, or its line does, or there is only a backslash more
abbrev pub EndsOpen : List ℕ → Type 0
EndsOpen after = (after ≡ []) ⊎ (after ≡ 92 ∷ []) ⊎ ((cs : List ℕ) × (after ≡ 10 ∷ cs))

-- The obstacle can stand before the characters after it.
abbrev pub Blocks : Obstacle → List ℕ → Type 0
Blocks (Stray c) after = IsOther c × IsNone (mark_kind (c ∷ [])) × IsLongest (c ∷ []) after
Blocks (Great digits) after = AreDigits digits × Stops is_ascii_digit after × (2 ^ 63 < decimal digits)
Blocks (Open cs) after = Pass is_in_line cs × EndsOpen after
Blocks (BadEscape cs c) after = Pass is_in_line cs × IsFalse (is_escaped c)

-- the bytes are a text between its quotes, and these are the characters that it stands for
pub record IsTextOf (literal : List ℕ) (cs : List ℕ) : Type 0 where
  pub utf8 : IsUtf8 literal
  pub text : chars literal ≡ spelling (Quoted cs)
  pub in_line : Pass is_in_line cs

-- the bytes are a text between its quotes
abbrev pub IsText : List ℕ → Type 0
IsText literal = (cs : List ℕ) × IsTextOf literal cs
