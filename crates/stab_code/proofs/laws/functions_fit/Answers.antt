use Rattle.stab_code.proofs.ValidLemmas.{arity_le-slots, main-takes, named-below}
use Rattle.stab_code.proofs.laws.functions_fit.Goals as goal

pub returns : goal.returns
returns c = record {
  slots = λ p valid k f found. named-below p valid.slots_in_order k f found valid.variables_seen;
  arity = λ p valid. arity_le-slots p valid.slots_in_order;
  main = λ p valid. main-takes p valid.main_there;
}
