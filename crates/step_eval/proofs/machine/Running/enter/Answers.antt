-- The section with the body stands where the act stood.
use Rattle.std.proofs.Common.{◌≡◌, ◌∷◌, List, is_some, ap, sym, ◌∙◌, subst}
use Rattle.std.specs.Arc.{arc_value}
use Rattle.stab_base.specs.Datum.{Datum}
use Rattle.language.specs.declared.head.Head.TheVariants.{Section}
use Rattle.language.specs.Expression.{form, none, part}
use Rattle.language.specs.Outcome.{called}
use Rattle.language.specs.Program.{body}
use Rattle.language.specs.Redex.{cap, within}
use Rattle.step_eval.specs.Entries.{IsBodyEntry}
use Rattle.step_eval.specs.FrameView.{FrameView}
use Rattle.step_eval.specs.Sections.{section_frame}
use Rattle.step_eval.specs.View.{round_of}
use Rattle.step_eval.proofs.Answering.{act-frames, entry-expr}
use Rattle.step_eval.proofs.machine.Running.enter.Goals as goal

pub returns-clause-expr : goal.returns-clause-expr
returns-clause-expr c =
    let p = c.args.p.now in
    let r = c.args.self.now in
    let vs : List Datum = r.machine.done.items in
    let E : List Datum → Type 0 = λ (xs : List Datum). IsBodyEntry p c.args.f.0 xs c.in_ok-n.n c.in_ok-n.value in
    let entry : IsBodyEntry p c.args.f.0 vs c.in_ok-n.n c.in_ok-n.value = subst E c.as_slice.ensures.value c.in_ok-n.ensures in
    let env : arc_value c.look_at.new.self.machine.env ≡ vs = c.look_at.ensures.env ∙ c.open_section.ensures.env ∙ c.in_ok-env.ensures.env ∙ ap (λ (h : FrameView). h.done) c.share_top.ensures.here in
    let rounds = c.look_at.ensures.round ∙ c.open_section.ensures.round ∙ ap (λ fs. section_frame c.args.q c.take_env.new.self.mark (arc_value c.take_env.new.self.env) ∷ fs) (c.take_env.ensures.round ∙ c.share_top.ensures.round) in
    c.cap_ahead.ensures.expr
    ∙ ap cap (entry-expr p c.look_at.new.self c.args.f.0 c.in_ok-n.n c.in_ok-n.value vs (section_frame c.args.q c.take_env.new.self.mark (arc_value c.take_env.new.self.env) ∷ round_of r.machine) c.look_at.ensures.focus env rounds entry)
    ∙ ap (λ fs. cap (within fs (form (Section c.args.q) (part (called (body p) c.args.f.0 vs) none)))) (sym (act-frames p r (ap is_some c.requires.act) c.requires.fits))
