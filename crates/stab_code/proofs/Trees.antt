-- The trees of nodes: what the tree of a node is, where its parts stand before it.
use Rattle.std.proofs.Common.{◌≡◌, ℕ, zero, suc, ◌+◌, ◌<◌, List, [], ◌∷◌, ◌++◌, length, map, slice_get, Some, unwrap_or, refl, sym, ap, ◌∙◌, arith, length-append}
use Rattle.std.specs.List.{All}
use Rattle.std.proofs.lemmas.List.{map-append}
use Rattle.std.proofs.lemmas.List.Elements.{All-head, All-tail}
use Rattle.stab_code.specs.declared.head.Head.{Head}
use Rattle.stab_code.specs.declared.head.Head.TheVariants.{Unit}
use Rattle.stab_code.specs.declared.node_id.NodeId.{NodeId}
use Rattle.stab_code.specs.Nodes.{NodeParts}
use Rattle.stab_code.specs.Program.{tree_among, trees_among, trees_after, trees_of}
use Rattle.stab_code.specs.Trees.{Tree, tree, none, fold, fold_all}
use Rattle.stab_code.specs.Walk.{value_among, values_after}
use Rattle.stab_code.proofs.Lists.{slice_get-left, slice_get-right}

-- each part of each node has a smaller number than the node
abbrev pub PartsAreBelow : List NodeParts → Type 0
PartsAreBelow nodes = (n : ℕ) (node : NodeParts) → slice_get nodes n ≡ Some node → All (λ part. part.0 < n) node.parts

abbrev its_tree : List Tree → NodeParts → Tree
its_tree trees node = tree node.head (trees_among trees node.parts)

trees_after-keeps : (trees : List Tree) (nodes : List NodeParts) (i : ℕ) → i < length trees → slice_get (trees_after trees nodes) i ≡ slice_get trees i
trees_after-keeps trees [] i h = refl
trees_after-keeps trees (x ∷ xs) i h =
    trees_after-keeps (trees ++ its_tree trees x ∷ []) xs i (omega (arith, length-append trees (its_tree trees x ∷ [])))
    ∙ slice_get-left trees (its_tree trees x ∷ []) i h

-- parts that stand among the trees so far keep theirs
trees_among-keeps : (trees : List Tree) (nodes : List NodeParts) (parts : List NodeId) → All (λ part. part.0 < length trees) parts → trees_among (trees_after trees nodes) parts ≡ trees_among trees parts
trees_among-keeps trees nodes [] below = refl
trees_among-keeps trees nodes (m ∷ ms) below =
    let first = trees_after-keeps trees nodes m.0 (All-head (λ part. part.0 < length trees) m ms below) in
    cc (first, trees_among-keeps trees nodes ms (All-tail (λ part. part.0 < length trees) m ms below))

trees_after-at : (trees : List Tree) (nodes : List NodeParts) (k i : ℕ) (node : NodeParts) → i ≡ length trees + k → slice_get nodes k ≡ Some node → All (λ part. part.0 < i) node.parts → slice_get (trees_after trees nodes) i ≡ Some (its_tree (trees_after trees nodes) node)
trees_after-at trees [] k i node e found below = cc
trees_after-at trees (x ∷ xs) zero i node e found below =
    let size = length-append trees (its_tree trees x ∷ []) in
    let own = trees_among-keeps trees (x ∷ xs) node.parts (λ k d h. let b = below k d h in omega arith) in
    trees_after-keeps (trees ++ its_tree trees x ∷ []) xs i (omega arith) ∙ slice_get-right trees (its_tree trees x ∷ []) i 0 (omega arith) ∙ cc
trees_after-at trees (x ∷ xs) (suc k) i node e found below =
    let size = length-append trees (its_tree trees x ∷ []) in
    trees_after-at (trees ++ its_tree trees x ∷ []) xs k i node (omega arith) found below

-- the tree of a node is its head with the trees of its parts
pub tree_among-node : (nodes : List NodeParts) → PartsAreBelow nodes → (n : NodeId) (node : NodeParts) → slice_get nodes n.0 ≡ Some node → tree_among (trees_of nodes) n ≡ tree node.head (trees_among (trees_of nodes) node.parts)
tree_among-node nodes below n node found =
    ap (λ o. unwrap_or o (tree Unit none)) (trees_after-at [] nodes n.0 n.0 node (omega arith) found (below n.0 node found))

-- the values of parts' trees
pub fold_all-trees_among : {A : Type 0} (value : Head → List A → A) (trees : List Tree) (ns : List NodeId) → fold_all value (trees_among trees ns) ≡ map (λ n. fold value (tree_among trees n)) ns
fold_all-trees_among value trees [] = refl
fold_all-trees_among value trees (n ∷ ns) = ap (λ rest. fold value (tree_among trees n) ∷ rest) (fold_all-trees_among value trees ns)

value_among-fold : {A : Type 0} (value : Head → List A → A) (trees : List Tree) (n : ℕ) → unwrap_or (slice_get (map (fold value) trees) n) (value Unit []) ≡ fold value (unwrap_or (slice_get trees n) (tree Unit none))
value_among-fold value [] n = refl
value_among-fold value (t ∷ ts) zero = refl
value_among-fold value (t ∷ ts) (suc n) = value_among-fold value ts n

-- values that are made node by node are those of the nodes' trees
pub values_after-fold : {A : Type 0} (value : Head → List A → A) (trees : List Tree) (nodes : List NodeParts) → values_after value (map (fold value) trees) nodes ≡ map (fold value) (trees_after trees nodes)
values_after-fold value trees [] = refl
values_after-fold value trees (x ∷ xs) =
    let among : map (value_among value (map (fold value) trees)) x.parts ≡ map (λ n. fold value (tree_among trees n)) x.parts = λ i. map (λ n. value_among-fold value trees n.0 i) x.parts in
    ap (λ own. values_after value (map (fold value) trees ++ value x.head own ∷ []) xs) (among ∙ sym (fold_all-trees_among value trees x.parts))
    ∙ ap (λ values. values_after value values xs) (sym (map-append (fold value) trees (its_tree trees x ∷ [])))
    ∙ values_after-fold value (trees ++ its_tree trees x ∷ []) xs
