use Rattle.std.proofs.Common.{◌≤◌, option_map, slice_get, sym, ap, ◌∙◌, arith}
use Rattle.linked_lists.specs.Lists.{list_at}
use Rattle.linked_lists.proofs.Following.{first_listed}
use Rattle.rendezvous.specs.Nodes.{thread_of}
use Rattle.rendezvous.proofs.Threads.{waiting_is, first-map}
use Rattle.rendezvous.proofs.nodes.first.Goals as goal

pub overflow_sub-result : goal.overflow_sub-result
overflow_sub-result c =
    let there : (1 ≤ c.in_ok-node.node) × (c.in_ok-node.node ≤ c.args.lists.now.places) = c.in_ok-node.ensures.sound.there c.list_of.result c.in_ok-node.node (first_listed c.in_ok-node.node (list_at c.args.lists.now.lists c.list_of.result) (sym c.in_ok-node.ensures.first)) in
    there.0

pub overflow_cast-result : goal.overflow_cast-result
overflow_cast-result c =
    let there : (1 ≤ c.in_ok-node.node) × (c.in_ok-node.node ≤ c.args.lists.now.places) = c.in_ok-node.ensures.sound.there c.list_of.result c.in_ok-node.node (first_listed c.in_ok-node.node (list_at c.args.lists.now.lists c.list_of.result) (sym c.in_ok-node.ensures.first)) in
    omega (arith, there.0, there.1, c.requires.few)

pub returns : goal.returns
returns c =
    ap (option_map thread_of) (c.in_ok-node.ensures.first ∙ ap (λ h. slice_get (list_at c.args.lists.now.lists h) 0) c.list_of.ensures)
    ∙ sym (ap (λ q. slice_get q 0) (waiting_is c.args.side c.args.lists.now.lists c.args.c.0) ∙ first-map _)
