use Rattle.std.proofs.Common.{◌≡◌, ℕ, subst}
use Rattle.std.specs.Prelude.{IfSome}
use Rattle.std.specs.Arc.{arc_value}
use Rattle.stab_base.specs.declared.fault.Fault.TheVariants.{WrongKind}
use Rattle.stab_code.specs.Program.{ProgramParts}
use Rattle.stab_code.specs.Valid.{IsValid}
use Rattle.language.specs.Plain.{PlainState, IsRun, look_in, standing}
use Rattle.language.specs.Table.{fault}
use Rattle.stab_types.proofs.Runs.{never_wrong_here}
use Rattle.stab_types.proofs.typed.Typed.never_wrong.Goals as goal

pub returns : goal.returns
returns c =
    let P : ProgramParts → Type 0 = λ p. (s : PlainState) → IsRun p c.args.run.now s → (t : ℕ) → IfSome (standing s t) (λ e. look_in p e ≡ fault WrongKind → ⊥) in
    let v : arc_value c.self.inside.program ≡ c.args.self.now = c.self.view_is in
    let valid : IsValid (arc_value c.self.inside.program) = subst IsValid c.deref.ensures c.functions-count.ensures.valid in
    subst P v (never_wrong_here (arc_value c.self.inside.program) valid (c.forms_fit.ensures (arc_value c.self.inside.program) valid) c.self.invariant c.args.run.now)
