use Rattle.std.proofs.Common.{◌≡◌, ◌+◌, [], take, add-one, refl, sym, ap, subst, ◌∙◌, arith}
use Rattle.std.specs.Prelude.{None}
use Rattle.stab_journal.specs.Journal.{event_at}
use Rattle.trace_verify.specs.Replayed.{Follows, IsReplayed}
use Rattle.trace_verify.specs.declared.verdict.Verdict.TheVariants.{Yes}
use Rattle.trace_verify.specs.Verdict.{passes}
use Rattle.trace_verify.proofs.Judging.{failed_at, number_of, went_on}
use Rattle.trace_verify.proofs.OneVerdict.{one_verdict}
use Rattle.trace_verify.proofs.led.replayed.Goals as goal

pub loop-i-init : goal.loop-i-init
loop-i-init c = (c.in_ok-replay.ensures.ready, subst (λ p. IsReplayed p c.args.job.now.script [] c.in_ok-replay.replay) c.program.ensures.value (c.in_ok-replay.ensures.replayed c.args.job.now.script))

pub unreachable-requires : goal.unreachable-requires
unreachable-requires c =
    let p = c.args.job.now.program in
    let es = c.args.history.now.events in
    let e = c.unwrap-event.result in
    let at = sym (sym (c.unwrap-event.ensures) ∙ c.get.ensures.event ∙ ap (event_at es) (add-one c.loop-i.i)) in
    let no = failed_at p c.args.job.now.script c.args.history.now c.loop-i.i e c.loop-i.replay (record { 0 = c.loop-i.i + 1 }) c.in-Some.field-0 at refl c.loop-i.invariant.1
    (subst (λ why. Follows p c.args.job.now.script (take c.loop-i.i es) c.loop-i.replay c.follow.new.self e.what why) c.in-Some.is
    (subst (λ s. Follows p s (take c.loop-i.i es) c.loop-i.replay c.follow.new.self e.what c.in_ok-follow.field-0) c.script.ensures.value
    (c.in_ok-follow.ensures p (take c.loop-i.i es) (number_of es c.loop-i.i e at) (subst (λ s. IsReplayed p s (take c.loop-i.i es) c.loop-i.replay) (sym c.script.ensures.value) c.loop-i.invariant.1)))) in
    let same = one_verdict p c.args.job.now.script c.args.history.now Yes _ (passes c.requires.of_run) no in
    cc

pub loop-i-preserved : goal.loop-i-preserved
loop-i-preserved c =
    let p = c.args.job.now.program in
    let es = c.args.history.now.events in
    let e = c.unwrap-event.result in
    let at = sym (sym (c.unwrap-event.ensures) ∙ c.get.ensures.event ∙ ap (event_at es) (add-one c.loop-i.i)) in
    went_on p c.args.job.now.script es c.loop-i.i e c.loop-i.replay c.follow.new.self at
    (subst (λ why. Follows p c.args.job.now.script (take c.loop-i.i es) c.loop-i.replay c.follow.new.self e.what why) c.in-None.is
    (subst (λ s. Follows p s (take c.loop-i.i es) c.loop-i.replay c.follow.new.self e.what c.in_ok-follow.field-0) c.script.ensures.value
    (c.in_ok-follow.ensures p (take c.loop-i.i es) (number_of es c.loop-i.i e at) (subst (λ s. IsReplayed p s (take c.loop-i.i es) c.loop-i.replay) (sym c.script.ensures.value) c.loop-i.invariant.1))))

pub returns : goal.returns
returns c =
    let es = c.args.history.now.events in
    let all = ap (λ k. take k es) (let is : c.loop-i.i ≡ c.args.count = omega (arith, c.loop-i-test.false, c.loop-i.auto.i-end) in is) in
    let r = subst (λ k. IsReplayed c.args.job.now.program c.args.job.now.script k c.loop-i.replay) all c.loop-i.invariant.1 in
    c.into_led.ensures c.args.job.now.program c.args.job.now.script (take c.args.count es) r
