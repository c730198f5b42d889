-- What is owed, and the words to come.
use Rattle.std.proofs.Common.{◌≡◌, [], ◌∷◌, Some, drop}
use Rattle.expression_text.specs.Shape.{expression, shape}
use Rattle.expression_text.specs.Owing.{AreSome, owed_by}
use Rattle.expression_text.proofs.shaping.has_shape.Given as goal

abbrev pub invariant-loop-word : goal.invariant-loop-word
invariant-loop-word l = (shape (Some (expression ∷ [])) l.words ≡ shape (Some (owed_by l.owed.items)) (drop l.word-index l.words)) × AreSome l.owed.items
