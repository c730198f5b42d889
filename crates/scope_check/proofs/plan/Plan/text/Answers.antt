use Rattle.std.proofs.Common.{◌≡◌, ap, sym, subst, ◌∙◌}
use Rattle.std.specs.Prelude.{IfErr, IfOk, Ok}
use Rattle.stab_lex.specs.Pieces.{IsTextOf}
use Rattle.scope_check.specs.Names.{text_at}
use Rattle.scope_check.specs.Progress.{IsFaultOf, texts_of}
use Rattle.scope_check.specs.Scope.{text_numbered}
use Rattle.scope_check.proofs.Characters.{text-characters}
use Rattle.scope_check.proofs.plan.Plan.text.Goals as goal

pub returns-clause-number : goal.returns-clause-number
returns-clause-number c =
    let cs = c.requires.0 in
    let written = subst (λ l. IsTextOf l cs) (sym c.written.ensures) c.requires.1 in
    let same : c.into_bytes-kept.result.items ≡ text_at c.args.self.now.bytes.now c.args.span =
    ap (λ v. v.items) c.into_bytes-kept.ensures.value ∙ c.in-Ok.ensures.characters cs written ∙ sym (text-characters c.args.self.now.bytes.now c.args.span cs c.requires.1) in
    subst (λ t. IfOk c.number_text.result (λ number. text_numbered c.args.span t (texts_of c.args.progress.now) ≡ Ok (number.0, texts_of c.number_text.new.self))) same c.number_text.ensures.number

pub returns-clause-fault : goal.returns-clause-fault
returns-clause-fault c =
    let cs = c.requires.0 in
    let written = subst (λ l. IsTextOf l cs) (sym c.written.ensures) c.requires.1 in
    let same : c.into_bytes-kept.result.items ≡ text_at c.args.self.now.bytes.now c.args.span =
    ap (λ v. v.items) c.into_bytes-kept.ensures.value ∙ c.in-Ok.ensures.characters cs written ∙ sym (text-characters c.args.self.now.bytes.now c.args.span cs c.requires.1) in
    subst (λ t. IfErr c.number_text.result (IsFaultOf (text_numbered c.args.span t (texts_of c.args.progress.now)))) same c.number_text.ensures.fault
