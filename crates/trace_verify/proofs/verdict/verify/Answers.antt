use Rattle.std.proofs.Common.{◌≡◌, [], length, take, add-one, refl, sym, ap, subst, ◌∙◌, arith}
use Rattle.std.proofs.Math.Seq.{take-length}
use Rattle.stab_journal.specs.Journal.{event_at}
use Rattle.trace_verify.specs.Replayed.{Follows, IsReplayed}
use Rattle.trace_verify.specs.Signs.{AreStepsOf}
use Rattle.trace_verify.proofs.Judging.{all_right, failed_at, number_of, steps_of, went_on, wrong_sign}
use Rattle.trace_verify.proofs.verdict.verify.Goals as goal

pub loop-i-init : goal.loop-i-init
loop-i-init c = (c.in_ok-replay.ensures.ready, subst (λ p. IsReplayed p c.args.job.now.script [] c.in_ok-replay.replay) c.program.ensures.value (c.in_ok-replay.ensures.replayed c.args.job.now.script))

pub returns-in-Some : goal.returns-in-Some
returns-in-Some c =
    let p = c.args.job.now.program in
    let es = c.args.history.now.events in
    let e = c.unwrap-event.result in
    let at = sym (sym (c.unwrap-event.ensures) ∙ c.get.ensures.event ∙ ap (event_at es) (add-one c.loop-i.i)) in
    failed_at p c.args.job.now.script c.args.history.now c.loop-i.i e c.loop-i.replay _ c.in-Some.why at refl c.loop-i.invariant.1
    (subst (λ why. Follows p c.args.job.now.script (take c.loop-i.i es) c.loop-i.replay c.follow.new.self e.what why) c.in-Some.is
    (subst (λ s. Follows p s (take c.loop-i.i es) c.loop-i.replay c.follow.new.self e.what c.in_ok-why.field-0) c.script.ensures.value
    (c.in_ok-why.ensures p (take c.loop-i.i es) (number_of es c.loop-i.i e at) (subst (λ s. IsReplayed p s (take c.loop-i.i es) c.loop-i.replay) (sym c.script.ensures.value) c.loop-i.invariant.1))))

pub loop-i-preserved : goal.loop-i-preserved
loop-i-preserved c =
    let p = c.args.job.now.program in
    let es = c.args.history.now.events in
    let e = c.unwrap-event.result in
    let at = sym (sym (c.unwrap-event.ensures) ∙ c.get.ensures.event ∙ ap (event_at es) (add-one c.loop-i.i)) in
    went_on p c.args.job.now.script es c.loop-i.i e c.loop-i.replay c.follow.new.self at
    (subst (λ why. Follows p c.args.job.now.script (take c.loop-i.i es) c.loop-i.replay c.follow.new.self e.what why) c.in_default.is
    (subst (λ s. Follows p s (take c.loop-i.i es) c.loop-i.replay c.follow.new.self e.what c.in_ok-why.field-0) c.script.ensures.value
    (c.in_ok-why.ensures p (take c.loop-i.i es) (number_of es c.loop-i.i e at) (subst (λ s. IsReplayed p s (take c.loop-i.i es) c.loop-i.replay) (sym c.script.ensures.value) c.loop-i.invariant.1))))

pub first_wrong_sign-requires : goal.first_wrong_sign-requires
first_wrong_sign-requires c =
    let es = c.args.history.now.events in
    let all = ap (λ k. take k es) (let is : c.loop-i.i ≡ length es = omega (arith, c.loop-i-test.false, c.loop-i.auto.i-end, c.len-i-end.ensures.len) in is) ∙ take-length es in
    let r = subst (λ k. IsReplayed c.args.job.now.program c.args.job.now.script k c.loop-i.replay) all c.loop-i.invariant.1 in
    record { steps = subst (AreStepsOf es) (sym c.in_ok-run.ensures ∙ sym c.deref.ensures.value) (steps_of c.args.job.now.program es _ _ r.stands) }

pub returns-in-Some-first_wrong_sign : goal.returns-in-Some-first_wrong_sign
returns-in-Some-first_wrong_sign c =
    let es = c.args.history.now.events in
    let all = ap (λ k. take k es) (let is : c.loop-i.i ≡ length es = omega (arith, c.loop-i-test.false, c.loop-i.auto.i-end, c.len-i-end.ensures.len) in is) ∙ take-length es in
    let r = subst (λ k. IsReplayed c.args.job.now.program c.args.job.now.script k c.loop-i.replay) all c.loop-i.invariant.1 in
    wrong_sign c.args.job.now.program c.args.job.now.script c.args.history.now c.deref.result.now c.loop-i.replay c.in-Some-first_wrong_sign.seq (c.deref.ensures.value ∙ c.in_ok-run.ensures) r c.in-Some-first_wrong_sign.ensures

pub returns : goal.returns
returns c =
    let es = c.args.history.now.events in
    let all = ap (λ k. take k es) (let is : c.loop-i.i ≡ length es = omega (arith, c.loop-i-test.false, c.loop-i.auto.i-end, c.len-i-end.ensures.len) in is) ∙ take-length es in
    let r = subst (λ k. IsReplayed c.args.job.now.program c.args.job.now.script k c.loop-i.replay) all c.loop-i.invariant.1 in
    all_right c.args.job.now.program c.args.job.now.script c.args.history.now c.deref.result.now c.loop-i.replay (c.deref.ensures.value ∙ c.in_ok-run.ensures) r c.in-None.ensures
