-- Trees as lists of nodes, and the trees of these nodes again.
use Rattle.std.proofs.Common.{◌≡◌, ℕ, ◌+◌, ◌<◌, ◌≤◌, List, [], ◌∷◌, ◌++◌, length, slice_get, get_or, Some, refl, sym, ap, subst, ◌∙◌, arith, append_assoc, append-nil, length-append}
use Rattle.std.specs.Bool.{⊤}
use Rattle.std.specs.List.{All}
use Rattle.std.proofs.lemmas.List.Elements.{All-cons, All-nil}
use Rattle.std.proofs.lemmas.Option.{slice_get_within}
use Rattle.stab_code.specs.declared.node_id.NodeId.{NodeId}
use Rattle.stab_code.specs.Layout.{size_of, size_of_all, own_node, own_nodes, nodes_of_all}
use Rattle.stab_code.specs.Nodes.{NodeParts, node_of}
use Rattle.stab_code.specs.Program.{trees_among, trees_of}
use Rattle.stab_code.specs.Trees.{Tree, Trees, tree, none, more}
use Rattle.stab_code.proofs.Lists.{slice_get-right}
use Rattle.stab_code.proofs.Trees.{PartsAreBelow, tree_among-node}

-- trees have a node for each of their forms
pub length-nodes_of_all : (n : ℕ) (ts : Trees) → length (nodes_of_all n ts) ≡ size_of_all ts
length-nodes_of_all n none = refl
length-nodes_of_all n (more (tree head parts) ts) =
    simp length-append (omega (arith, length-nodes_of_all n parts, length-nodes_of_all (n + (size_of_all parts + 1)) ts))

-- a tree's own node is its last
pub own_node-last : (n : ℕ) (t : Tree) → (own_node n t).0 + 1 ≡ n + size_of t
own_node-last n (tree head parts) = omega arith

pub own_nodes-below : (n : ℕ) (ts : Trees) (end : ℕ) → n + size_of_all ts ≤ end → All (λ part. part.0 < end) (own_nodes n ts)
own_nodes-below n none end h = All-nil (λ part. part.0 < end)
own_nodes-below n (more t ts) end h =
    All-cons (λ part. part.0 < end) (own_node n t) (own_nodes (n + size_of t) ts) (omega (arith, own_node-last n t)) (own_nodes-below (n + size_of t) ts end (omega arith))

-- a number is below another, this one, or above it
pub by_order : {P : Type 0} (k middle : ℕ) → (k < middle → P) → (k ≡ middle → P) → (middle + 1 ≤ k → P) → P
by_order k middle below at above = grind arith

module _ (nodes : List NodeParts) where
  -- the nodes have those of some trees, from a number on
  abbrev pub Have : ℕ → Trees → Type 0
  Have n none = ⊤
  Have n (more (tree head parts) ts) =
      Have n parts × (slice_get nodes (n + size_of_all parts) ≡ Some (node_of head (own_nodes n parts))) × Have (n + (size_of_all parts + 1)) ts

  have-between : (before : List NodeParts) (n : ℕ) (ts : Trees) (after : List NodeParts) → nodes ≡ before ++ (nodes_of_all n ts ++ after) → n ≡ length before → Have n ts
  have-between before n none after e at = tt
  have-between before n (more (tree head parts) ts) after e at =
      let size = size_of_all parts in
      let its = nodes_of_all n parts in
      let own = node_of head (own_nodes n parts) in
      let behind = nodes_of_all (n + (size + 1)) ts ++ after in
      let long = length-nodes_of_all n parts in
      let all : nodes ≡ before ++ (its ++ own ∷ behind) = e ∙ simp append_assoc in (
        have-between before n parts (own ∷ behind) all at,
        ap (λ ns. slice_get ns (n + size)) all ∙ slice_get-right before (its ++ own ∷ behind) (n + size) size (omega arith) ∙ slice_get-right its (own ∷ behind) size 0 (omega arith),
        have-between (before ++ (its ++ own ∷ [])) (n + (size + 1)) ts after (all ∙ simp append_assoc) (simp length-append (omega arith)),
      )

  pub have-all : (ts : Trees) → nodes ≡ nodes_of_all 0 ts → Have 0 ts
  have-all ts e = have-between [] 0 ts [] (e ∙ sym (append-nil (nodes_of_all 0 ts))) refl

  have-below : (n : ℕ) (ts : Trees) → Have n ts → (k : ℕ) (node : NodeParts) → slice_get nodes k ≡ Some node → (i : ℕ) (d : NodeId) → i < length node.parts → n ≤ k → k < n + size_of_all ts → (get_or node.parts i d).0 < k
  have-below n none have k node found i d h low high = absurd (omega arith)
  have-below n (more (tree head parts) ts) have k node found i d h low high =
      by_order k (n + size_of_all parts) (λ h'. have-below n parts have.0 k node found i d h low h')
      (λ e.
      let same : own_nodes n parts ≡ node.parts = cc (rw e at found, have.1) in
      subst (All (λ part. part.0 < k)) same (own_nodes-below n parts k (omega arith)) i d h)
      (λ h'. have-below (n + (size_of_all parts + 1)) ts have.2 k node found i d h (omega arith) (omega arith))

  -- in a layout each part stands before its node
  pub parts-below : (ts : Trees) → nodes ≡ nodes_of_all 0 ts → PartsAreBelow nodes
  parts-below ts e k node found i d h =
      have-below 0 ts (have-all ts e) k node found i d h (omega arith) (omega (arith, slice_get_within nodes k node found, ap length e, length-nodes_of_all 0 ts))

  -- the trees of the nodes that the trees have are these trees
  pub own-trees : PartsAreBelow nodes → (n : ℕ) (ts : Trees) → Have n ts → trees_among (trees_of nodes) (own_nodes n ts) ≡ ts
  own-trees below n none have = refl
  own-trees below n (more (tree head parts) ts) have =
      let own = tree_among-node nodes below (own_node n (tree head parts)) (node_of head (own_nodes n parts)) have.1 in
      cc (own, own-trees below n parts have.0, own-trees below (n + (size_of_all parts + 1)) ts have.2)
