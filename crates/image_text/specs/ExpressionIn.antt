-- Which expression the pieces of a line are, or what is wrong with them: first their shape, then their numbers, then the expression.
use Rattle.std.specs.Prelude.{ℕ, cond, List, [], ◌∷◌, Option, Some, None, Result, Ok, Err}
use Rattle.language.specs.Expression.{Expr}
use Rattle.expression_text.specs.declared.word.Word.{Word}
use Rattle.expression_text.specs.Reading.{read}
use Rattle.expression_text.specs.Shape.{expression, shape}
use Rattle.image_text.specs.declared.fault.LineFault.{LineFault}
use Rattle.image_text.specs.declared.fault.LineFault.TheVariants.{BadLine, BadNumber, BadState}
use Rattle.image_text.specs.Reading.{Words, reading}

-- an expression that is deeper, or in which a value is, is no part of a state
abbrev pub whole_expression : Option (Expr × List Word) → Result Expr LineFault
whole_expression None = Err BadState
whole_expression (Some (e, [])) = Ok e
whole_expression (Some (e, w ∷ ws)) = Err BadLine

-- the shape can't be told where a count can't be read
abbrev pub by_words : ℕ → Words → Result Expr LineFault
by_words d r =
    cond r.counted (cond (shape (Some (expression ∷ [])) r.words) (cond r.whole (whole_expression (read d r.words)) (Err BadNumber)) (Err BadLine)) (Err BadNumber)

abbrev pub from_words : ℕ → Option Words → Result Expr LineFault
from_words d None = Err BadLine
from_words d (Some r) = by_words d r

-- the expression of at most this depth
abbrev pub expression_in : ℕ → List (List ℕ) → Result Expr LineFault
expression_in d ps = from_words d (reading ps)
