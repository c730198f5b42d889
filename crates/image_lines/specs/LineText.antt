-- The text of a line, without its line feed.
use Rattle.std.specs.Prelude.{ℕ, ◌≤◌, List, [], ◌∷◌, ◌++◌, codes, decimal}
use Rattle.language.specs.Depth.{depth, max_expr_depth}
use Rattle.language.specs.Expression.{Expr, value}
use Rattle.expression_text.specs.Spelling.{IsWell, spell, spell_value}
use Rattle.expression_text.specs.WordText.{spaced, words_text}
use Rattle.image_text.specs.Range.{AreInRange, IsCount, IsName}
use Rattle.image_lines.specs.declared.line.Line.{Line}
use Rattle.image_lines.specs.declared.line.Line.TheVariants.{Chan, Ref, Out, Thread, End}

abbrev pub line_text : Line → List ℕ
line_text (Chan c) = codes "chan" ++ spaced (decimal c.0 ∷ [])
line_text (Ref r v) = (codes "ref" ++ spaced (decimal r.0 ∷ [])) ++ words_text (spell_value v)
line_text (Out v) = (codes "out" ++ spaced []) ++ words_text (spell_value v)
line_text (Thread t g e) = (codes "thread" ++ spaced (decimal t.0 ∷ decimal g ∷ [])) ++ words_text (spell e)
line_text End = codes "end"

-- an expression that is well formed and not too deep, with numbers within their ranges
pub record IsRight (e : Expr) : Type 0 where
  pub range : AreInRange (spell e)
  pub well : IsWell e
  pub flat : depth e ≤ max_expr_depth

-- the numbers of a line are within their ranges, and its expression or value is right
abbrev pub IsLine : Line → Type 0
IsLine (Chan c) = IsName c.0
IsLine (Ref r v) = IsName r.0 × IsRight (value v)
IsLine (Out v) = IsRight (value v)
IsLine (Thread t g e) = IsName t.0 × IsCount g × IsRight e
IsLine End = Unit {0}
