-- Which values and which expressions a run of a program has.
use Rattle.std.specs.Prelude.{◌≡◌, ℕ, ◌<◌, ◌^◌, ◌==◌, ⊤, Bool, true, List, [], ◌∷◌, ◌++◌, length, Option, Some, None, FitsSigned, slice_get}
use Rattle.std.specs.Int.{w64}
use Rattle.std.specs.List.{AllByRecursion, list_any}
use Rattle.stab_base.specs.Datum.{Datum, int, text, pair}
use Rattle.stab_base.specs.Limits.{is_within_limits}
use Rattle.stab_code.specs.Program.{FunctionParts, ProgramParts, arity_of}
use Rattle.language.specs.declared.head.Head.{Head}
use Rattle.language.specs.declared.head.Head.TheVariants.{Block, Call, Spawn, Stable}
use Rattle.language.specs.Expression.{Expr, value, variable, failed, form, Parts, none, part}
use Rattle.expression_text.specs.Spelling.{arity, count, items_of}
use Rattle.standing_runs.specs.Numbers.{IsSlot}

-- a slot is bound by a let before it
abbrev pub is_bound : List ℕ → ℕ → Bool
is_bound slots x = list_any (λ y. y == x) slots

-- with the slot of an item, if it is a let
abbrev pub bound_by : List ℕ → Option ℕ → List ℕ
bound_by slots None = slots
bound_by slots (Some x) = slots ++ x ∷ []

-- the function is there and takes so many arguments
abbrev pub Takes : Option FunctionParts → ℕ → Type 0
Takes None n = ⊥
Takes (Some f) n = arity_of f ≡ n

module _ (p : ProgramParts) where
  -- a number has 64 bits, a text is the program's, and a pair keeps both limits of pairs
  abbrev pub IsValue : Datum → Type 0
  IsValue (int n) = FitsSigned w64 n
  IsValue (text t) = t < length p.texts
  IsValue (pair a b) = (is_within_limits (pair a b) ≡ true) × IsValue a × IsValue b
  IsValue v = ⊤

  -- what a form asks for beside its number of parts: a block has an item, and a call a function that takes its arguments
  abbrev pub IsHead : Head → ℕ → Type 0
  IsHead (Block []) n = ⊥
  IsHead (Block (s ∷ slots)) n = AllByRecursion IsSlot (s ∷ slots)
  IsHead (Call f) n = Takes (slice_get p.functions f.0) n
  IsHead (Spawn f) n = Takes (slice_get p.functions f.0) n
  IsHead (Stable f) n = Takes (slice_get p.functions f.0) n
  IsHead h n = ⊤

  pub record IsForm (h : Head) (n : ℕ) : Type 0 where
    pub parts : n ≡ arity h n
    pub few : n < 2 ^ 32
    pub head : IsHead h n

  abbrev mutual
    -- where these slots are bound; a fault is no part of it
    pub IsWhole : List ℕ → Expr → Type 0
    IsWhole bound (value v) = IsValue v
    IsWhole bound (variable x) = (is_bound bound x ≡ true) × (x < 2 ^ 32)
    IsWhole bound (failed k) = ⊥
    IsWhole bound (form h ps) = IsForm h (count ps) × AreWhole bound (items_of h) ps

    -- a let binds its slot behind it
    pub AreWhole : List ℕ → List (Option ℕ) → Parts → Type 0
    AreWhole bound items none = ⊤
    AreWhole bound [] (part e ps) = IsWhole bound e × AreWhole bound [] ps
    AreWhole bound (o ∷ items) (part e ps) = IsWhole bound e × AreWhole (bound_by bound o) items ps
