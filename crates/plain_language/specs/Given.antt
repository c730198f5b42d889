-- What the values at hand give a variable.
use Rattle.std.specs.Prelude.{ℕ, Option, Some, None, slice_get, option_and_then}
use Rattle.stab_base.specs.Datum.{Datum}
use Rattle.plain_language.specs.declared.given.Given.{Given}
use Rattle.plain_language.specs.declared.given.Given.TheVariants.{Nothing, One, All}
use Rattle.language.specs.Expression.{Expr, value, only}

-- the value that an expression is
abbrev pub as_value : Expr → Option Datum
as_value (value v) = Some v
as_value _ = None

-- by the slot of the variable
abbrev pub given_to : Given → ℕ → Option Datum
given_to Nothing x = None
given_to (One y v) x = only y v.now x
given_to (All es) x = option_and_then as_value (slice_get es.now x)
