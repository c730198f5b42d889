use Rattle.std.proofs.Common.{◌≡◌, ◌+◌, length, refl, sym, ap, ◌∙◌, add-zero}
use Rattle.stab_base.specs.declared.numbers.ThreadId.{ThreadId}
use Rattle.std.proofs.Common.{ℤ}
use Rattle.stab_journal.specs.declared.event.Label.{Label}
use Rattle.stab_journal.specs.declared.event.Label.TheVariants.{Probe}
use Rattle.stab_journal.specs.declared.event.What.TheVariants.{Step}
use Rattle.stab_journal.specs.Script.{probed_by}
use Rattle.language.specs.Plain.{plain_step, start}
use Rattle.trace_verify.specs.Verdict.{no_step}
use Rattle.trace_verify.proofs.Following.{step_follows}
use Rattle.trace_verify.proofs.replay.Replay.step.Goals as goal

no_probe : (l : Label) → ((t : ThreadId) (i : ℤ) → l ≡ Probe t i → ⊥) → length (probed_by (Step l)) ≡ 0
no_probe (Probe t i) other = absurd (other t i refl)
no_probe l other = refl

pub play-requires-clause-kept : goal.play-requires-clause-kept
play-requires-clause-kept c = (start c.args.self.now.surviving.state.program, c.requires.ready.kept.kept)

pub returns-in-Err-NoStep : goal.returns-in-Err-NoStep
returns-in-Err-NoStep c = λ p events number r.
    no_step c.args.label (ap (λ k. plain_step p c.args.self.now.surviving.state.state k c.args.label) number
    ∙ ap (λ x. plain_step x c.args.self.now.surviving.state.state c.args.seq.0 c.args.label) (sym r.program)
    ∙ (rw c.in-Err-NoStep.field-0-is at (c.in-Err-NoStep.ensures (start c.args.self.now.surviving.state.program) c.requires.ready.kept.kept)))

pub returns-in-Probe : goal.returns-in-Probe
returns-in-Probe c = λ p events number r.
    step_follows p c.args.script.now events c.args.self.now _ c.args.seq.0 c.args.label c.in_ok-why.why number r c.requires.ready (c.in_ok-why.ensures p events r) (c.in-Ok.ensures (start c.args.self.now.surviving.state.program) c.requires.ready.kept.kept)
    (ap (λ l. c.args.self.now.probes + length (probed_by (Step l))) (sym c.in-Probe.is)) refl refl

pub returns-in_default : goal.returns-in_default
returns-in_default c = λ p events number r.
    step_follows p c.args.script.now events c.args.self.now _ c.args.seq.0 c.args.label c.in_ok-why.why number r c.requires.ready (c.in_ok-why.ensures p events r) (c.in-Ok.ensures (start c.args.self.now.surviving.state.program) c.requires.ready.kept.kept)
    (sym (ap (λ k. c.args.self.now.probes + k) (no_probe c.args.label c.in_default.not-Probe) ∙ add-zero c.args.self.now.probes)) refl refl
