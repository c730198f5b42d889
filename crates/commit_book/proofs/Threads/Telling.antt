-- What is told of a thread's end.
use Rattle.std.proofs.Common.{◌≡◌, Option, Some, None, refl, sym, ap, subst, ◌∙◌}
use Rattle.std.specs.Prelude.{IfSome, option_and_then, option_map}
use Rattle.stab_base.specs.declared.fault.Fault.{Fault}
use Rattle.stab_code.specs.Program.{ProgramParts}
use Rattle.thread_slots.specs.Slot.{Slot}
use Rattle.language.specs.Expression.{Expr, value, failed}
use Rattle.step_eval.specs.declared.rest.Rest.{Rest}
use Rattle.step_eval.specs.declared.rest.Rest.TheVariants.{Failed}
use Rattle.step_eval.specs.ControlView.{ControlView, Fits, expr_of}
use Rattle.step_eval.specs.Rests.{rest_of}
use Rattle.journal_laws.proofs.Surviving.{some_is, some_none}
use Rattle.commit_book.specs.Book.{failed_with}

abbrev pub fault_in : Rest → Option Fault
fault_in (Failed k) = Some k
fault_in r = None

failed_rest : (e : Expr) → fault_in (rest_of e) ≡ failed_with e
failed_rest (value v) = refl
failed_rest (failed k) = refl
failed_rest _ = refl

-- the control of a thread that is there fits
pub fits_of : (p : ProgramParts) (o : Option (Slot ControlView)) (c : ControlView) → Some c ≡ option_map (λ (s : Slot ControlView). s.control) o → IfSome o (λ s. Fits p s.control) → Fits p c
fits_of p None c is h = absurd (some_none is)
fits_of p (Some s) c is h = subst (Fits p) (sym (some_is is)) h

pub fault_is : (p : ProgramParts) (o : Option (Slot ControlView)) (c : ControlView) (r : Rest) → Some c ≡ option_map (λ (s : Slot ControlView). s.control) o → r ≡ rest_of (expr_of p c) → fault_in r ≡ option_and_then (λ s. failed_with (expr_of p s.control)) o
fault_is p None c r is at = absurd (some_none is)
fault_is p (Some s) c r is at = ap fault_in at ∙ failed_rest (expr_of p c) ∙ ap (λ k. failed_with (expr_of p k)) (some_is is)
