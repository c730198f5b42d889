use Rattle.stab_code.specs.Syntax.{depth_from, lets_from, named_from, open_from}
use Rattle.stab_code.proofs.InOrder.{parts_below, node_tree, node_fold}
use Rattle.stab_code.proofs.laws.nodes_are_trees.Goals as goal

pub returns : goal.returns
returns c = record {
  below = λ p valid. parts_below p valid.nodes_in_order;
  tree = λ p valid. node_tree p valid.nodes_in_order;
  depth = λ p valid. node_fold p valid.nodes_in_order depth_from;
  lets = λ p valid. node_fold p valid.nodes_in_order lets_from;
  named = λ p valid. node_fold p valid.nodes_in_order named_from;
  opened = λ p valid. node_fold p valid.nodes_in_order open_from;
}
