-- What the next pure step of an expression is.
use Rattle.std.specs.Prelude.{◌≡◌, ℕ, Some}
use Rattle.plain_language.specs.declared.instead.Instead.TheVariants.{Pass}
use Rattle.plain_language.specs.declared.pure.Pure.TheVariants.{Becomes, Fails}
use Rattle.plain_language.specs.declared.pure.Next.{Next}
use Rattle.plain_language.specs.declared.pure.Next.TheVariants.{Makes, Passes}
use Rattle.language.specs.Expression.{Expr, failed}
use Rattle.language.specs.Redex.{Redex, redex, frames, rebuild, cap}
use Rattle.language.specs.Outcome.{Outcome}
use Rattle.plain_language.specs.Pures.{changed}
use Rattle.language.specs.Look.{look, look_by}

-- there is a redex, and it does this
pub record IsNext (body : ℕ → Expr) (e : Expr) (o : Outcome) : Type 0 where
  pub there : Redex
  pub is_there : redex e ≡ Some there
  pub looks : look body e ≡ look_by (frames e) o

-- the expression after its redex made this
abbrev pub after_next : Expr → Next → Expr
after_next e (Makes (Becomes r)) = cap (rebuild e r)
after_next e (Makes (Fails k)) = failed k
after_next e (Passes slots) = cap (rebuild e (changed (Pass slots) (redex e)))
