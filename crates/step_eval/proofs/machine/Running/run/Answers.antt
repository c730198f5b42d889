-- Each turn of the loop is one pure step.
use Rattle.std.proofs.Common.{◌≡◌, refl, rules}
use Rattle.step_eval.specs.ControlView.{view_of}
use Rattle.step_eval.specs.declared.machine.Focus.TheVariants as focus
use Rattle.step_eval.proofs.Stepping.{advance-more, step-made}
use Rattle.step_eval.proofs.machine.Running.run.Goals as goal

pub loop-made-init : goal.loop-made-init
loop-made-init c = record { made = refl; fits = c.requires.fits; found = c.requires.found }

pub loop-made-preserved : goal.loop-made-preserved
loop-made-preserved c =
    let p = c.args.p.now in
    let is : c.loop-made.self.focus ≡ focus.Form = search rules in
    advance-more p (view_of c.args.self.now) (view_of c.loop-made.self) (view_of c.step.new.self) c.loop-made.made c.loop-made.invariant
    (step-made p c.loop-made.self c.step.new.self is c.loop-made.invariant.fits c.in_ok-step.ensures) c.in_ok-step.ensures.fits c.in_ok-step.ensures.found
