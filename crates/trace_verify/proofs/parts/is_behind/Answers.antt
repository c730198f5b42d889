use Rattle.trace_verify.proofs.Parting.{below_upto, less}
use Rattle.trace_verify.proofs.parts.is_behind.Goals as goal

pub returns-clause-none : goal.returns-clause-none
returns-clause-none c = λ behind.
    below_upto c.args.m.0 c.args.k c.args.steps.now _ c.if-k-eq0.false c.requires.within c.requires.rise (less _ _ behind)
