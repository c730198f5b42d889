-- What the order of a program's nodes says of each node, and how a program that is laid out has it.
use Rattle.std.proofs.Common.{◌≡◌, ℕ, ◌+◌, ◌<◌, ◌≤◌, ◌==◌, nat_lt, cond, List, [], ◌∷◌, ◌++◌, length, map, slice_get, Some, option_map, refl, sym, ap, subst, ◌∙◌, arith}
use Rattle.std.specs.List.{All, count_by, flat_map}
use Rattle.std.proofs.lemmas.Bool.Decides.{nat_tests}
use Rattle.std.proofs.lemmas.Grind.{flat_map-append}
use Rattle.std.proofs.lemmas.List.Elements.{All-head, All-tail}
use Rattle.std.proofs.lemmas.List.Sums.{sum_by-append}
use Rattle.std.proofs.lemmas.Option.{slice_get-map}
use Rattle.stab_code.specs.declared.head.Head.{Head}
use Rattle.stab_code.specs.declared.node_id.NodeId.{NodeId}
use Rattle.stab_code.specs.Layout.{size_of_all, nodes_of_all, own_node, own_nodes}
use Rattle.stab_code.specs.Limits.{max_form_depth}
use Rattle.stab_code.specs.Nodes.{NodeParts, id}
use Rattle.stab_code.specs.Program.{FunctionParts, ProgramParts, bodies_of, body_of, tree_at, trees_at, trees_of, trees_among}
use Rattle.stab_code.specs.Syntax.{deepest, depth_from, depth_of}
use Rattle.stab_code.specs.Trees.{Trees, tree, none, more, fold, fold_all}
use Rattle.stab_code.specs.Valid.{DepthsAreWithin, NodesAreInOrder}
use Rattle.stab_code.proofs.LaidOut.{Have, by_order, have-all, length-nodes_of_all, own-trees, own_nodes-below, parts-below}
use Rattle.stab_code.proofs.Lists.{All-at}
use Rattle.stab_code.proofs.Trees.{PartsAreBelow, fold_all-trees_among, tree_among-node}

module _ (p : ProgramParts) (order : NodesAreInOrder p) where
  pub parts_below : PartsAreBelow p.nodes
  parts_below = parts-below p.nodes (trees_at p (bodies_of p)) (sym order.nodes)

  pub node_tree : (n : NodeId) (node : NodeParts) → slice_get p.nodes n.0 ≡ Some node → tree_at p n ≡ tree node.head (trees_at p node.parts)
  node_tree n node found = tree_among-node p.nodes parts_below n node found

  pub node_fold : {A : Type 0} (value : Head → List A → A) (n : NodeId) (node : NodeParts) → slice_get p.nodes n.0 ≡ Some node → fold value (tree_at p n) ≡ value node.head (map (λ part. fold value (tree_at p part)) node.parts)
  node_fold value n node found = ap (fold value) (node_tree n node found) ∙ ap (value node.head) (fold_all-trees_among value (trees_of p.nodes) node.parts)

  -- a program is as large as its functions' bodies together
  pub size_of_bodies : length p.nodes ≡ size_of_all (trees_at p (bodies_of p))
  size_of_bodies = ap length (sym order.nodes) ∙ length-nodes_of_all 0 (trees_at p (bodies_of p))

  pub body_there : (k : ℕ) (f : FunctionParts) → slice_get p.functions k ≡ Some f → f.body.0 < length p.nodes
  body_there k f found =
      let all : All (λ body. body.0 < length p.nodes) (bodies_of p) = subst (λ bodies. All (λ body. body.0 < length p.nodes) bodies) order.bodies (own_nodes-below 0 (trees_at p (bodies_of p)) (length p.nodes) (omega (arith, size_of_bodies))) in
      All-at (λ body. body.0 < length p.nodes) (bodies_of p) k f.body all (slice_get-map (λ g. g.body) p.functions k ∙ ap (option_map (λ g. g.body)) found)

  -- the forms of trees that are no deeper than a limit are none of them deeper
  forms-within : (limit n : ℕ) (ts : Trees) → Have p.nodes n ts → deepest (fold_all depth_from ts) ≤ limit → (k : ℕ) → n ≤ k → k < n + size_of_all ts → depth_of (tree_at p (id k)) ≤ limit
  forms-within limit n none have within k low high = absurd (omega arith)
  forms-within limit n (more (tree head parts) ts) have within k low high =
      let own = ap depth_of (node_tree (own_node n (tree head parts)) _ have.1 ∙ ap (tree head) (own-trees p.nodes parts_below n parts have.0)) in
      by_order k (n + size_of_all parts) (λ h. forms-within limit n parts have.0 (omega arith) k low h)
      (λ e. rw e (omega (arith, own)))
      (λ h. forms-within limit (n + (size_of_all parts + 1)) ts have.2 (omega arith) k (omega arith) (omega arith))

  bodies-within : (limit : ℕ) (fs : List FunctionParts) → All (λ f. depth_of (body_of p f) ≤ limit) fs → deepest (fold_all depth_from (trees_at p (map (λ f. f.body) fs))) ≤ limit
  bodies-within limit [] all = omega arith
  bodies-within limit (f ∷ fs) all =
      omega (arith, All-head (λ g. depth_of (body_of p g) ≤ limit) f fs all, bodies-within limit fs (All-tail (λ g. depth_of (body_of p g) ≤ limit) f fs all))

  -- no form of a valid program is deeper than the limit
  pub node-depth : DepthsAreWithin p → (n : NodeId) → n.0 < length p.nodes → depth_of (tree_at p n) ≤ max_form_depth
  node-depth within n h =
      let ts = trees_at p (bodies_of p) in
      forms-within max_form_depth 0 ts (have-all p.nodes ts (sym order.nodes)) (bodies-within max_form_depth p.functions within) n.0 (omega arith) (omega (arith, size_of_bodies))

-- in a layout each number is once a part of a node or the own node of a tree
module _ (m : ℕ) where
  abbrev times : List NodeId → ℕ
  times parts = count_by (λ part. part.0 == m) parts

  abbrev before : ℕ → ℕ
  before n = cond (nat_lt m n) 1 0

  abbrev all_parts : List NodeParts → List NodeId
  all_parts nodes = flat_map (λ node. node.parts) nodes

  before-more : (n next : ℕ) → next ≡ n + 1 → cond (n == m) 1 0 + before n ≡ before next
  before-more n next e = grind (arith, nat_tests)

  -- the nodes of some trees have each of their numbers once, as a part or as an own node
  once-nodes_of_all : (n : ℕ) (ts : Trees) (end : ℕ) → end ≡ n + size_of_all ts → times (all_parts (nodes_of_all n ts)) + times (own_nodes n ts) + before n ≡ before end
  once-nodes_of_all n none end e = let same : before n ≡ before end = ap before (omega arith) in omega (arith, same)
  once-nodes_of_all n (more (tree head parts) ts) end e =
      let own = n + size_of_all parts in
      let behind = n + (size_of_all parts + 1) in
      let first : times (own_nodes n (more (tree head parts) ts)) ≡ times (own_node n (tree head parts) ∷ []) + times (own_nodes behind ts) =
      sum_by-append (λ part. cond (part.0 == m) 1 0) (own_node n (tree head parts) ∷ []) (own_nodes behind ts) in
      simp (flat_map-append, sum_by-append)
      (omega (arith, first, once-nodes_of_all n parts own refl, before-more own behind (omega arith), once-nodes_of_all behind ts end (omega arith)))

  -- each node is once a part of a node or the body of a function
  pub node-once : (p : ProgramParts) → NodesAreInOrder p → m < length p.nodes → count_by (λ part. part.0 == m) (flat_map (λ node. node.parts) p.nodes ++ bodies_of p) ≡ 1
  node-once p order h =
      let once = once-nodes_of_all 0 (trees_at p (bodies_of p)) (length p.nodes) (omega (arith, size_of_bodies p order)) in
      let none : before 0 ≡ 0 = grind (arith, nat_tests) in
      let all : before (length p.nodes) ≡ 1 = grind (arith, nat_tests) in
      simp sum_by-append (omega (arith, rw order.nodes at (rw order.bodies at once), none, all))

-- a program whose nodes are those of some trees is in order, and its functions' bodies are these trees
module _ (p : ProgramParts) (ts : Trees) (nodes : p.nodes ≡ nodes_of_all 0 ts) (bodies : bodies_of p ≡ own_nodes 0 ts) where
  pub laid_out-bodies : trees_at p (bodies_of p) ≡ ts
  laid_out-bodies = ap (trees_among (trees_of p.nodes)) bodies ∙ own-trees p.nodes (parts-below p.nodes ts nodes) 0 ts (have-all p.nodes ts nodes)

  pub laid_out-order : NodesAreInOrder p
  laid_out-order = record {
    nodes = ap (nodes_of_all 0) laid_out-bodies ∙ sym nodes;
    bodies = ap (own_nodes 0) laid_out-bodies ∙ sym bodies;
  }
