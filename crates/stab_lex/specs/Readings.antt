-- What it means that bytes are read as tokens, or have a fault.
use Rattle.std.specs.Prelude.{◌≡◌, ℕ, ◌+◌, ◌<◌, ◌≤◌, List, [], ◌∷◌, ◌++◌, length, drop, Option, Some, option_map, IsUtf8, encode_utf8_all}
use Rattle.std.specs.Option.{option_to_list}
use Rattle.std.specs.List.{flat_map, slice_range}
use Rattle.std.specs.Str.{chars, IsValidUpTo}
use Rattle.stab_lex.specs.declared.kind.Kind.{Kind}
use Rattle.stab_lex.specs.declared.token.Token.{Token}
use Rattle.stab_lex.specs.declared.token.LexFault.{LexFault}
use Rattle.stab_lex.specs.declared.token.LexFault.TheVariants.{NotUtf8, BadChar, BigNumber, OpenText, NoMemory}
use Rattle.stab_lex.specs.Pieces.{Piece, spelling, kind_of, Stands, escaped, Obstacle, Stray, Great, Open, BadEscape, obstacle_spelling, Blocks}
use Rattle.stab_lex.specs.Place.{Place, Leads, byte_len}

-- the characters of pieces in a row
abbrev pub spellings : List Piece → List ℕ
spellings pieces = flat_map spelling pieces

-- each piece can stand before the pieces behind it and the characters after them
abbrev pub AllStand : List Piece → List ℕ → Type 0
AllStand [] after = Unit {0}
AllStand (p ∷ ps) after = Stands p (spellings ps ++ after) × AllStand ps after

-- the token of this kind between two places, if it is one
abbrev pub token_of : Option Kind → ℕ → ℕ → List Token
token_of kind start end = option_to_list (option_map (λ k. record { kind = k; start = start; end = end }) kind)

-- the token that a piece at this place is, if it is one
abbrev pub token_at : ℕ → Piece → List Token
token_at at p = token_of (kind_of p) at (at + byte_len (spelling p))

-- the tokens among pieces in a row, the first at this place
abbrev pub tokens_at : ℕ → List Piece → List Token
tokens_at at [] = []
tokens_at at (p ∷ ps) = token_at at p ++ tokens_at (at + byte_len (spelling p)) ps

-- The bytes are the UTF-8 of pieces in a row, and the tokens are those among them.
pub record Reads (bytes : List ℕ) (tokens : List Token) : Type 0 where
  pub utf8 : IsUtf8 bytes
  pub pieces : List Piece
  pub text : chars bytes ≡ spellings pieces
  pub stand : AllStand pieces []
  pub tokens_are : tokens ≡ tokens_at 0 pieces

-- the fault at an obstacle at this place
abbrev pub fault_at : ℕ → Obstacle → LexFault
fault_at at (Stray c) = BadChar at
fault_at at (Great digits) = BigNumber at
fault_at at (Open cs) = OpenText at
fault_at at (BadEscape cs c) = BadChar (at + byte_len (34 ∷ escaped cs))

-- The bytes are the UTF-8 of pieces in a row and then an obstacle, whose fault it is.
pub record IsBlocked (bytes : List ℕ) (fault : LexFault) : Type 0 where
  pub utf8 : IsUtf8 bytes
  pub pieces : List Piece
  pub obstacle : Obstacle
  pub after : List ℕ
  pub text : chars bytes ≡ spellings pieces ++ (obstacle_spelling obstacle ++ after)
  pub stand : AllStand pieces (obstacle_spelling obstacle ++ after)
  pub blocks : Blocks obstacle after
  pub fault_is : fault ≡ fault_at (byte_len (spellings pieces)) obstacle

-- The bytes have the fault: they aren't UTF-8 from a place on, or else an obstacle stands there.
abbrev pub HasFault : List ℕ → LexFault → Type 0
HasFault bytes (NotUtf8 at) = IsValidUpTo bytes at
HasFault bytes NoMemory = ⊥
HasFault bytes fault = IsBlocked bytes fault

-- The tokens come one behind the other from a place on: none is empty, and none ends behind this length.
abbrev pub InOrder : ℕ → List Token → ℕ → Type 0
InOrder at [] len = at ≤ len
InOrder at (t ∷ ts) len = (at ≤ t.start) × (t.start < t.end) × InOrder t.end ts len

-- The bytes from the token's start to its end are those of a piece of the token's kind, and it can stand before the
-- characters behind them.
pub record IsSlice (bytes : List ℕ) (token : Token) : Type 0 where
  pub some : token.start < token.end
  pub inside : token.end ≤ length bytes
  pub piece : Piece
  pub stands : Stands piece (chars (drop token.end bytes))
  pub kind_is : kind_of piece ≡ Some token.kind
  pub bytes_are : slice_range bytes token.start token.end ≡ encode_utf8_all (spelling piece)
  pub utf8 : IsUtf8 (slice_range bytes token.start token.end)

-- one piece leads from the old place to the new one, and this is its kind
pub record Passes (kind : Option Kind) (old new : Place) : Type 0 where
  pub piece : Piece
  pub way : Leads (spelling piece) old new
  pub stands : Stands piece new.rest
  pub kind_is : kind ≡ kind_of piece

-- an obstacle stands at the place, and this is its fault
pub record Meets (fault : LexFault) (place : Place) : Type 0 where
  pub obstacle : Obstacle
  pub after : List ℕ
  pub text : place.rest ≡ obstacle_spelling obstacle ++ after
  pub blocks : Blocks obstacle after
  pub fault_is : fault ≡ fault_at place.at obstacle
