use Rattle.std.proofs.Common.{◌≡◌, Err, Ok, Option, Result, Some, None, refl, sym, ap, subst, ◌∙◌, arith, rules}
use Rattle.std.specs.Prelude.{option_map, option_copied}
use Rattle.std.specs.Option.{ok_or}
use Rattle.plain_language.specs.declared.expr.Expr.{Expr}
use Rattle.std.proofs.lemmas.Grind.{common_steps}
use Rattle.std.proofs.lemmas.Result.{err_from_is_err_and}
use Rattle.stab_code.specs.Program.{ProgramParts}
use Rattle.plain_language.specs.declared.play.PlayFault.TheVariants.{NoStep}
use Rattle.stab_journal.specs.declared.event.Label.TheVariants.{Local}
use Rattle.plain_language.specs.declared.play.PlayFault.{PlayFault}
use Rattle.language.specs.Held.{Held}
use Rattle.plain_language.specs.Plays.{Plays}
use Rattle.language.specs.Look.{language}
use Rattle.language.specs.Plain.{standing}
use Rattle.language.specs.Program.{body}
use Rattle.language.specs.Table.{local_by, to}
use Rattle.plain_language.proofs.Locals.{no_steps, steps_made}
use Rattle.plain_language.proofs.state.PlainState.local.Goals as goal

abbrev fault_in : Result Expr PlayFault → PlayFault
fault_in (Ok e) = NoStep
fault_in (Err f) = f

pub returns-in_err-next : goal.returns-in_err-next
returns-in_err-next c q =
    let here : Some c.in_ok-e.e.now ≡ standing c.args.self.now.state c.args.t.0 = sym (ap option_copied c.in_ok-e.ensures.ok_part) ∙ c.expr.ensures in
    let same : c.deref.result.now ≡ c.args.self.now.program = first_of (search rules, cc, grind (arith, common_steps)) in
    let nothing : c.in_ok-after_local.field-0 ≡ None = c.in_err-next.ensures.ok_part in
    let none : None ≡ local_by (language (body c.deref.result.now)) c.args.n c.in_ok-e.e.now = ap (option_map (to (language (body c.deref.result.now)))) (sym nothing) ∙ c.in_ok-after_local.ensures in
    let left = err_from_is_err_and c.from_residual-in_err-next.result c.from_residual-in_err-next.ensures.1 in
    let is : c.in_err-next.field-0.0 ≡ NoStep = ap fault_in (c.in_err-next.ensures.value ∙ ap (λ (o : Option Expr). ok_or o NoStep) nothing) in
    let refused : c.from_residual-in_err-next.result ≡ Err NoStep = left.1 ∙ ap (λ (f : PlayFault). Err f) (left.2 ∙ is) in
    subst (λ (r : Result (Unit {0}) PlayFault). Plays c.args.self.now c.args.self.now q (Local c.args.t c.args.n) r) (sym refused)
    (no_steps c.args.self.now q c.args.t c.args.n c.in_ok-e.e.now here (subst (λ (p : ProgramParts). None ≡ local_by (language (body p)) c.args.n c.in_ok-e.e.now) same none), refl)

pub returns : goal.returns
returns c q =
    let here : Some c.in_ok-e.e.now ≡ standing c.args.self.now.state c.args.t.0 = sym (ap option_copied c.in_ok-e.ensures.ok_part) ∙ c.expr.ensures in
    let same : c.deref.result.now ≡ c.args.self.now.program = first_of (search rules, cc, grind (arith, common_steps)) in
    let is : c.in_ok-after_local.field-0 ≡ Some c.in_ok-next.next = c.in_ok-next.ensures.ok_part in
    let some : Some (to (language (body c.deref.result.now)) c.in_ok-next.next) ≡ local_by (language (body c.deref.result.now)) c.args.n c.in_ok-e.e.now = ap (option_map (to (language (body c.deref.result.now)))) (sym is) ∙ c.in_ok-after_local.ensures in (
      steps_made c.args.self.now q c.args.t c.args.n c.in_ok-e.e.now here c.in_ok-next.next (subst (λ (p : ProgramParts). Some (to (language (body p)) c.in_ok-next.next) ≡ local_by (language (body p)) c.args.n c.in_ok-e.e.now) same some)
          ∙ ap (λ (h : Held). Some h.state) (sym c.stand.ensures),
      ap (λ (h : Held). h.program) c.stand.ensures,
    )
