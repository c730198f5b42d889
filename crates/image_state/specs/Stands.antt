-- Whether an expression may be that of a thread.
use Rattle.std.specs.Prelude.{ℕ, ◌&&◌, ◌==◌, Bool, true, false, not, nat_lt, List, [], ◌∷◌, ◌++◌, Option, Some, None, slice_get}
use Rattle.std.specs.List.{list_any}
use Rattle.stab_base.specs.declared.numbers.FnId.{FnId}
use Rattle.stab_code.specs.Program.{FunctionParts, ProgramParts, arity_of}
use Rattle.journal_laws.specs.Known.{Known}
use Rattle.language.specs.declared.head.Head.{Head}
use Rattle.language.specs.declared.head.Head.TheVariants.{Block, Call, Spawn, Stable, Section}
use Rattle.language.specs.Expression.{Expr, value, variable, failed, form, Parts, none, part}
use Rattle.language.specs.Redex.{max_spine, spine}
use Rattle.expression_text.specs.Spelling.{count, items_of}
use Rattle.image_state.specs.Values.{is_known}

abbrev pub has_arity : Option FunctionParts → ℕ → Bool
has_arity None n = false
has_arity (Some f) n = arity_of f == n

-- a slot is bound by a let before it
abbrev pub is_bound : List ℕ → ℕ → Bool
is_bound slots x = list_any (λ y. y == x) slots

-- with the slot of an item, if it is a let
abbrev pub bound_by : List ℕ → Option ℕ → List ℕ
bound_by slots None = slots
bound_by slots (Some x) = slots ++ x ∷ []

-- with the slot of a part that may be an item
abbrev pub bound_at : List ℕ → Option (Option ℕ) → List ℕ
bound_at slots None = slots
bound_at slots (Some o) = bound_by slots o

module _ (p : ProgramParts) (k : Known) where
  abbrev pub takes : FnId → ℕ → Bool
  takes f n = has_arity (slice_get p.functions f.0) n

  -- a form may have so many parts: a block has an item, a call what its function takes, and a section is known
  abbrev pub head_stands : Head → ℕ → Bool
  head_stands (Block []) n = false
  head_stands (Block (o ∷ slots)) n = true
  head_stands (Call f) n = takes f n
  head_stands (Spawn f) n = takes f n
  head_stands (Stable f) n = takes f n
  head_stands (Section m) n = k.sections m.0
  head_stands h n = true

  abbrev mutual
    -- where these slots are bound
    pub stands : List ℕ → Expr → Bool
    stands bound (value v) = is_known k v
    stands bound (variable x) = is_bound bound x
    stands bound (failed f) = false
    stands bound (form h ps) = head_stands h (count ps) && parts_stand bound (items_of h) ps

    -- a let binds its slot behind it
    pub parts_stand : List ℕ → List (Option ℕ) → Parts → Bool
    parts_stand bound items none = true
    parts_stand bound [] (part e ps) = stands bound e && parts_stand bound [] ps
    parts_stand bound (o ∷ items) (part e ps) = stands bound e && parts_stand (bound_by bound o) items ps

  -- a fault stands alone, and at most 1,000 forms stand round a redex
  abbrev pub thread_stands : Expr → Bool
  thread_stands (failed f) = true
  thread_stands e = stands [] e && not (nat_lt max_spine (spine e))
