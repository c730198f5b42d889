-- The arguments were counted.
use Rattle.std.proofs.Common.{length, sym, ◌∙◌}
use Rattle.std.specs.Prelude.{slice_get}
use Rattle.step_eval.proofs.Calls.{takes-counted}
use Rattle.eval_trial.proofs.tests.thread.called.Goals as goal

pub call-requires : goal.call-requires
call-requires c =
    takes-counted (slice_get c.args.program.now.functions c.args.f.0) c.in-Some.count (length c.args.args.items) (sym c.in-Some.is ∙ c.arity.ensures.value) (c.if-count-len.true ∙ c.len.ensures ∙ c.args.args.ok.0)
