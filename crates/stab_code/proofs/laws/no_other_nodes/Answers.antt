use Rattle.stab_code.proofs.InOrder.{body_there, node-once, size_of_bodies}
use Rattle.stab_code.proofs.laws.no_other_nodes.Goals as goal

pub returns : goal.returns
returns c = record {
  size = λ p valid. size_of_bodies p valid.nodes_in_order;
  once = λ p valid n h. node-once n p valid.nodes_in_order h;
  bodies = λ p valid. body_there p valid.nodes_in_order;
}
