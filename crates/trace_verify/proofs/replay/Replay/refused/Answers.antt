use Rattle.std.proofs.Common.{◌+◌, length, of_z, w64, sym, ap, subst, ◌∙◌}
use Rattle.std.specs.Prelude.{IsSome}
use Rattle.stab_journal.specs.declared.event.What.TheVariants.{Step}
use Rattle.stab_journal.specs.Script.{script_at}
use Rattle.language.specs.Plain.{plain_step}
use Rattle.trace_verify.specs.declared.verdict.Why.TheVariants.{Revocable, WrongAttempt, WrongProbe}
use Rattle.trace_verify.specs.Replayed.{IsWrongFor}
use Rattle.trace_verify.specs.Verdict.{revocable, wrong_attempt, wrong_probe}
use Rattle.trace_verify.proofs.replay.Replay.refused.Goals as goal

pub returns-else-i-script_at : goal.returns-else-i-script_at
returns-else-i-script_at c = λ p events r some.
    subst (λ l. IsWrongFor p c.args.script.now events c.args.self.now (Step l) WrongProbe) (sym c.in-Probe.is)
    (wrong_probe c.in-Probe.field-0 c.in-Probe.i (subst (λ l. IsSome (plain_step p c.args.self.now.surviving.state.state (length events + 1) l)) c.in-Probe.is some)
    (λ e. c.if-i-script_at.false (ap (of_z w64) (e ∙ ap (script_at c.args.script.now) (sym r.probes) ∙ sym c.script_at.ensures))))

pub returns-else-g-of : goal.returns-else-g-of
returns-else-g-of c = λ p events r some.
    subst (λ l. IsWrongFor p c.args.script.now events c.args.self.now (Step l) WrongAttempt) (sym c.in-Attempt.is)
    (wrong_attempt c.in-Attempt.t c.in-Attempt.g (subst (λ l. IsSome (plain_step p c.args.self.now.surviving.state.state (length events + 1) l)) c.in-Attempt.is some)
    (λ e. c.if-g-of.false (e ∙ sym (r.generations c.in-Attempt.t.0) ∙ sym c.of.ensures)))

pub returns-then-branch : goal.returns-then-branch
returns-then-branch c = λ p events r some.
    subst (λ l. IsWrongFor p c.args.script.now events c.args.self.now (Step l) Revocable) (sym c.in-Refuse.is)
    (revocable c.in-Refuse.t (subst (λ l. IsSome (plain_step p c.args.self.now.surviving.state.state (length events + 1) l)) c.in-Refuse.is some)
    (sym c.in_ok-is_revocable-in-Refuse.ensures ∙ c.if-branch.true))
