use Rattle.image_state.proofs.StateLaws.{state_back, state_was}
use Rattle.image_state.proofs.laws.states_read_back.Goals as goal

pub returns-clause-written : goal.returns-clause-written
returns-clause-written c = state_back

pub returns-clause-exact : goal.returns-clause-exact
returns-clause-exact c = state_was
