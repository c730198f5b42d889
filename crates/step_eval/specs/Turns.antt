-- What the turn of a redex makes of the whole.
use Rattle.std.specs.Prelude.{◌≡◌, ◌≤◌, ℕ, List, [], ◌∷◌, length, slice_get, Option, Some, None, IsSomeAnd}
use Rattle.stab_base.specs.Datum.{Datum}
use Rattle.stab_base.specs.declared.numbers.FnId.{FnId}
use Rattle.stab_code.specs.Program.{ProgramParts, arity_of}
use Rattle.language.specs.Outcome.{Outcome, outcome}
use Rattle.language.specs.Program.{body}
use Rattle.step_eval.specs.FrameView.{FrameView}
use Rattle.step_eval.specs.Meaning.{head_at, behind_values}
use Rattle.step_eval.specs.Scoped.{bound}

-- what the form at hand does
abbrev pub turn_at : ProgramParts → FrameView → Outcome
turn_at p here = outcome (body p) (head_at p here.site) here.done (behind_values p here)

-- a function of the program that takes so many arguments
abbrev pub Takes : ProgramParts → FnId → ℕ → Type 0
Takes p f arguments = IsSomeAnd (slice_get p.functions f.0) (λ g. arity_of g ≡ arguments)

-- where an item's value goes
abbrev pub IsBound : Option ℕ → List Datum → List Datum → List Datum → Type 0
IsBound None vs env after = after ≡ env
IsBound (Some x) (v ∷ []) env after = (length env ≤ x) × (after ≡ bound env x v)
IsBound (Some x) vs env after = ⊥
