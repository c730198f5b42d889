-- How an expression stands in a line.
use Rattle.std.specs.Prelude.{◌≡◌, ℕ, ◌≤◌, List}
use Rattle.language.specs.Depth.{depth}
use Rattle.language.specs.Expression.{Expr}
use Rattle.expression_text.specs.Spelling.{IsWell, spell}
use Rattle.image_text.specs.Range.{AreInRange, all_pieces}

-- the pieces are those of the expression, which is well formed, no deeper than this, and has numbers within their ranges
pub record IsSpelled (d : ℕ) (e : Expr) (ps : List (List ℕ)) : Type 0 where
  pub pieces_are : ps ≡ all_pieces (spell e)
  pub range : AreInRange (spell e)
  pub well : IsWell e
  pub flat : depth e ≤ d
