use Rattle.ready_steps.proofs.Searching.{is_quiet}
use Rattle.ready_steps.proofs.ready.first_ready.Goals as goal

pub returns : goal.returns
returns c = is_quiet c.args.state.now.program c.args.state.now.state c.in_default.ensures c.in-None.ensures
