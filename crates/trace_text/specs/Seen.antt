-- What the parts of a line stand for, where the code has references to its bytes.
use Rattle.std.specs.Prelude.{ℕ, List, [], ◌∷◌}
use Rattle.trace_text.specs.declared.shape.Args.{Args}
use Rattle.trace_text.specs.declared.shape.Args.TheVariants.{One, Two, Three}
use Rattle.trace_text.specs.declared.shape.Parts.{Parts}
use Rattle.trace_text.specs.Shape.{Shape}

-- the words that stand for numbers
abbrev pub seen_args : Args → List (List ℕ)
seen_args (One a) = a.now ∷ []
seen_args (Two a b) = a.now ∷ b.now ∷ []
seen_args (Three a b c) = a.now ∷ b.now ∷ c.now ∷ []

-- the shape that the parts of a line are
abbrev pub seen_shape : Parts → Shape
seen_shape p = record { sign = p.sign; seq = p.seq.now; worker = p.worker.now; verb = p.verb; numbers = seen_args p.args }
