-- What a run of a program leads to: whole expressions of bounded depth, and values within the limits.
use Rattle.std.specs.Prelude.{◌≡◌, ℕ, ◌≤◌, ⊤, [], Some}
use Rattle.std.specs.List.{AllByRecursion}
use Rattle.std.specs.FinMap as map
use Rattle.stab_base.specs.Datum.{Datum}
use Rattle.stab_code.specs.Program.{ProgramParts}
use Rattle.language.specs.Depth.{depth, max_expr_depth}
use Rattle.language.specs.Expression.{Expr, failed}
use Rattle.language.specs.Plain.{PlainState}
use Rattle.language.specs.Redex.{max_spine, spine}
use Rattle.standing_runs.specs.Whole.{IsValue, IsWhole}

-- no variable is open, at most 1,000 forms stand round the redex, and it is no deeper than 1,300
pub record IsBounded (p : ProgramParts) (e : Expr) : Type 0 where
  pub whole : IsWhole p [] e
  pub round : spine e ≤ max_spine
  pub flat : depth e ≤ max_expr_depth

-- a fault stands alone
abbrev pub IsThread : ProgramParts → Expr → Type 0
IsThread p (failed k) = ⊤
IsThread p e = IsBounded p e

pub record IsStanding (p : ProgramParts) (s : PlainState) : Type 0 where
  pub threads : (t : ℕ) (e : Expr) → map.get s.threads t ≡ Some e → IsThread p e
  pub references : (r : ℕ) (v : Datum) → map.get s.references r ≡ Some v → IsValue p v
  pub output : AllByRecursion (IsValue p) s.output
