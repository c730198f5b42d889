-- The faults of a list of tokens, from the grammar alone.
use Rattle.std.specs.Prelude.{◌≡◌, ℕ, ◌<◌, ◌≤◌, List, [], ◌∷◌, ◌++◌, length, take, slice_get, Some, ◌⊎◌}
use Rattle.std.specs.List.{AllByRecursion}
use Rattle.stab_lex.specs.declared.token.Token.{Token}
use Rattle.stab_parse.specs.declared.fault.ParseFault.{ParseFault}
use Rattle.stab_parse.specs.declared.fault.ParseFault.TheVariants.{Unexpected, EarlyEnd, TooNested, NoMemory}
use Rattle.stab_parse.specs.FormList.{least_of, deep_in_program}
use Rattle.stab_parse.specs.Grammar.{Piece, plain, opener, Program, pieces_of, IsProgram}
use Rattle.stab_parse.specs.Symbols.{symbol_of, span_of}

-- the most that may be open at a time
abbrev pub max_open : ℕ
max_open = 200

abbrev pub IsWithin : Piece → Type 0
IsWithin (plain k p) = Unit {0}
IsWithin (opener n k p) = n ≤ max_open

-- the tokens can be completed to a program
abbrev pub IsPrefix : List Token → Type 0
IsPrefix tokens = (rest : List Token) × (p : Program) × IsProgram (tokens ++ rest) p

-- They can be completed, and none of them opens more than may be open.
pub record CanStand (tokens : List Token) : Type 0 where
  pub rest : List Token
  pub program : Program
  pub written : IsProgram (tokens ++ rest) program
  pub within : AllByRecursion IsWithin (take (length tokens) (pieces_of program))

-- The token may stand behind the others, and with it more is open than may be.
pub record IsBeyond (before : List Token) (token : Token) : Type 0 where
  pub rest : List Token
  pub program : Program
  pub written : IsProgram (before ++ token ∷ rest) program
  pub open_with_it : ℕ
  pub beyond : max_open < open_with_it
  pub opens : slice_get (pieces_of program) (length before) ≡ Some (opener open_with_it (symbol_of token.kind) (span_of token))

-- At this place stands a token that can't stand behind those before it.
pub record IsUnexpected (tokens : List Token) (at : ℕ) : Type 0 where
  pub before : List Token
  pub token : Token
  pub after : List Token
  pub tokens_are : tokens ≡ before ++ token ∷ after
  pub stand : CanStand before
  pub not_here : ¬ (IsPrefix (before ++ token ∷ []))
  pub at_is : at ≡ token.start

-- At this place stands a token that opens more than may be open.
pub record IsOpenTooFar (tokens : List Token) (at : ℕ) : Type 0 where
  pub before : List Token
  pub token : Token
  pub after : List Token
  pub tokens_are : tokens ≡ before ++ token ∷ after
  pub stand : CanStand before
  pub beyond : IsBeyond before token
  pub at_is : at ≡ token.start

-- All tokens can be completed, and are no program.
pub record EndsEarly (tokens : List Token) : Type 0 where
  pub stand : CanStand tokens
  pub no_program : ¬ ((p : Program) × IsProgram tokens p)

-- The tokens are the program, and none opens more than may be open.
pub record IsOpenWithin (tokens : List Token) (p : Program) : Type 0 where
  pub written : IsProgram tokens p
  pub within : AllByRecursion IsWithin (pieces_of p)

-- The tokens are a program, and none opens more than may be open. This is the least first byte of those of its forms that are just too deep.
pub record IsTooDeep (tokens : List Token) (at : ℕ) : Type 0 where
  pub program : Program
  pub is_program : IsOpenWithin tokens program
  pub least : least_of (deep_in_program program) ≡ Some at

-- The tokens are the program, and nothing in it is nested too far.
pub record IsParsed (tokens : List Token) (p : Program) : Type 0 where
  pub is_program : IsOpenWithin tokens p
  pub no_deep : deep_in_program p ≡ []

abbrev pub HasFault : List Token → ParseFault → Type 0
HasFault tokens (Unexpected at) = IsUnexpected tokens at
HasFault tokens EarlyEnd = EndsEarly tokens
HasFault tokens (TooNested at) = IsOpenTooFar tokens at ⊎ IsTooDeep tokens at
HasFault tokens NoMemory = ⊥
