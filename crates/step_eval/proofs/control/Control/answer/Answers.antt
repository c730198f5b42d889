-- The value stands where the act stood.
use Rattle.std.proofs.Common.{IsSome, ap, sym, subst, ◌∙◌}
use Rattle.language.specs.Expression.{value}
use Rattle.language.specs.Look.{answered}
use Rattle.language.specs.Redex.{cap, within}
use Rattle.step_eval.specs.Asked.{act_next}
use Rattle.step_eval.specs.ControlView.{ControlView, Fits, expr_of}
use Rattle.step_eval.specs.Seen.{seen_at}
use Rattle.step_eval.proofs.Answering.{seen-fit, seen-frames}
use Rattle.step_eval.proofs.control.Control.answer.Goals as goal

pub replied-reply-requires : goal.replied-reply-requires
replied-reply-requires c =
    let p = c.args.program.now in
    let is = sym c.self.view_is ∙ ap (seen_at c.self.inside.focus) (sym c.deref-machine.ensures) in
    let fits = subst (λ (x : ControlView). Fits p x) is c.requires.fits in
    seen-fit p c.self.inside.focus c.deref-machine.result.now (subst (λ (x : ControlView). IsSome (act_next x)) is c.requires.act) fits

pub returns-clause-expr : goal.returns-clause-expr
returns-clause-expr c =
    let p = c.args.program.now in
    let is = sym c.self.view_is ∙ ap (seen_at c.self.inside.focus) (sym c.deref-machine.ensures) in
    let fits = subst (λ (x : ControlView). Fits p x) is c.requires.fits in
    let frames = seen-frames p c.self.inside.focus c.deref-machine.result.now (subst (λ (x : ControlView). IsSome (act_next x)) is c.requires.act) fits in
    ap (λ m. expr_of p (seen_at c.replied-reply.result m)) (sym c.deref-machine.ensures)
    ∙ c.replied-reply.ensures.expr
    ∙ ap (λ fs. cap (within fs (value c.args.v))) (sym frames)
    ∙ ap (λ (x : ControlView). answered (expr_of p x) c.args.v) (sym is)
