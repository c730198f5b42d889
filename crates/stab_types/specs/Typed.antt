-- Which programs are typed.
use Rattle.std.specs.Prelude.{◌≡◌, ℕ, nat_eq, cond, ◌⊎◌, ◌<◌, List, [], ◌∷◌, slice_get, Option, Some, None}
use Rattle.std.specs.List.{All}
use Rattle.stab_base.specs.declared.numbers.FnId.{FnId}
use Rattle.stab_code.specs.Heads.{slots_of}
use Rattle.stab_code.specs.Program.{FunctionParts, ProgramParts, body_of}
use Rattle.stab_code.specs.Trees.{Tree, Trees, tree, none, more}
use Rattle.stab_types.specs.ExprType.{ExprType, of, never, all_of}
use Rattle.stab_types.specs.Rule.{Rule}

-- the types of the variables that are seen, by their slots
abbrev pub Seen : Type 0
Seen = ℕ → Option ExprType

-- behind a let its variable has the type of what stands at the let
abbrev pub behind : Option ℕ → ExprType → Seen → Seen
behind None t seen = seen
behind (Some x) t seen = λ y. cond (nat_eq y x) (Some t) (seen y)

module _ (functions : List FunctionParts) where
  abbrev mutual
    -- a form has a type where its parts have types from which its rule gives that
    pub HasType : Seen → Tree → ExprType → Type 0
    HasType seen (tree h parts) t = (ts : List ExprType) × HaveTypes seen (slots_of h) parts ts × Rule functions seen h ts t

    -- the parts of a form from left to right; a let of these slots is seen in the parts behind it
    pub HaveTypes : Seen → List (Option ℕ) → Trees → List ExprType → Type 0
    HaveTypes seen slots none [] = Unit {0}
    HaveTypes seen [] (more part parts) (t ∷ ts) = HasType seen part t × HaveTypes seen [] parts ts
    HaveTypes seen (slot ∷ slots) (more part parts) (t ∷ ts) = HasType seen part t × HaveTypes (behind slot t seen) slots parts ts
    HaveTypes seen slots _ _ = ⊥

-- a function's parameters have their written types
abbrev pub parameters : FunctionParts → Seen
parameters f = slice_get (all_of f.takes)

-- the body of a function has its written type or Never
abbrev pub IsBodyTyped : ProgramParts → FunctionParts → Type 0
IsBodyTyped p f = HasType p.functions (parameters f) (body_of p f) (of f.gives) ⊎ HasType p.functions (parameters f) (body_of p f) never

-- each function's body is so
abbrev pub IsTyped : ProgramParts → Type 0
IsTyped p = All (IsBodyTyped p) p.functions

-- the first function whose body isn't so
pub record IsFirstUntyped (p : ProgramParts) (f : FnId) : Type 0 where
  pub function : FunctionParts
  pub there : slice_get p.functions f.0 ≡ Some function
  pub untyped : IsBodyTyped p function → ⊥
  pub before : (i : ℕ) (g : FunctionParts) → i < f.0 → slice_get p.functions i ≡ Some g → IsBodyTyped p g
