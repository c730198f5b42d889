use Rattle.std.proofs.Common.{◌≡◌, ◌≤◌, length}
use Rattle.std.specs.Arc.{arc_value}
use Rattle.step_eval.specs.Fits.{FormFits, FramesFit}
use Rattle.step_eval.specs.Meaning.{form_at, strict_at, within_forms}
use Rattle.step_eval.specs.View.{here_of, round_of}
use Rattle.step_eval.specs.declared.site.Site.TheVariants.{Form}
use Rattle.step_eval.proofs.machine.Machine.settle.Given as goal

-- the form at hand is in the frames what the first was in its own
abbrev pub invariant-inward : goal.invariant-inward
invariant-inward l = record {
  site : l.self.site ≡ Form l.n l.from;
  fits : FormFits l.p l.n l.from (length (arc_value l.self.env));
  few : length l.self.done.items ≤ strict_at l.p (Form l.n l.from);
  frames : FramesFit l.p l.self.mark (round_of l.self);
  same : within_forms l.p (round_of l.self) (form_at l.p (here_of l.self)) ≡ within_forms l.p (round_of l.initial.self) (form_at l.p (here_of l.initial.self));
}

abbrev pub decreases-inward : goal.decreases-inward
decreases-inward l = l.n.0
