-- Nodes and trees behind others.
use Rattle.std.proofs.Common.{◌≡◌, ℕ, zero, suc, ◌+◌, List, [], ◌∷◌, ◌++◌, length, slice_get, Some, sym, ap, ◌∙◌, arith, append_assoc, append-nil, length-append}
use Rattle.std.specs.Prelude.{min}
use Rattle.std.proofs.lemmas.Option.{slice_get_within}
use Rattle.stab_code.specs.declared.head.Head.{Head as Code}
use Rattle.stab_code.specs.declared.node_id.NodeId.{NodeId}
use Rattle.stab_code.specs.Layout.{nodes_of as tree_nodes, nodes_of_all, own_node, own_nodes, size_of as tree_size, size_of_all}
use Rattle.stab_code.proofs.LaidOut.{length-nodes_of_all}
use Rattle.stab_code.specs.Nodes.{NodeParts, id, node_of, nodes_in}
use Rattle.stab_code.specs.Trees.{Tree, Trees, tree, none, more}
use Rattle.stab_parse.specs.declared.tree.Head.{Head}
use Rattle.stab_parse.specs.Forms.{Form, form, Parts, next_part}
use Rattle.scope_check.specs.Made.{Adds, AddsParts}
use Rattle.scope_check.specs.Placed.{size_of, size_of_parts}
use Rattle.scope_check.specs.Places.{own_number, own_numbers}
use Rattle.scope_check.specs.Scope.{in_order}
use Rattle.scope_check.proofs.Joined.{in_order-join, nodes-join, own-join, size-join}

-- ---- nodes behind others

pub length-nodes_in : (heads : List Code) (lists : List (List NodeId)) → length (nodes_in heads lists) ≡ min (length heads) (length lists)
length-nodes_in [] lists = omega arith
length-nodes_in (h ∷ heads) [] = omega arith
length-nodes_in (h ∷ heads) (l ∷ lists) = omega (arith, length-nodes_in heads lists)

-- one head more is one node more, while there is a list for it
pub node_added : (heads : List Code) (lists : List (List NodeId)) (head : Code) (parts : List NodeId) (at : ℕ) → length (nodes_in heads lists) ≡ at → slice_get lists at ≡ Some parts
    → nodes_in (heads ++ head ∷ []) lists ≡ nodes_in heads lists ++ node_of head parts ∷ []
node_added [] [] head parts zero e found = cc
node_added [] [] head parts (suc at) e found = cc
node_added [] (l ∷ lists) head parts zero e found = let same : l ≡ parts = cc in ap (λ p. node_of head p ∷ []) same
node_added [] (l ∷ lists) head parts (suc at) e found = absurd (omega (arith, e))
node_added (h ∷ heads) [] head parts zero e found = cc
node_added (h ∷ heads) [] head parts (suc at) e found = cc
node_added (h ∷ heads) (l ∷ lists) head parts zero e found = absurd (omega (arith, e))
node_added (h ∷ heads) (l ∷ lists) head parts (suc at) e found = ap (λ nodes. node_of h l ∷ nodes) (node_added heads lists head parts at (omega (arith, e)) found)

pub whole_added : (heads : List Code) (lists : List (List NodeId)) (head : Code) (parts : List NodeId) (at : ℕ) → length (nodes_in heads lists) ≡ at → slice_get lists at ≡ Some parts
    → length (nodes_in (heads ++ head ∷ []) lists) ≡ length (heads ++ head ∷ [])
whole_added heads lists head parts at e found =
    omega (arith, e, slice_get_within lists at parts found, length-nodes_in heads lists, length-nodes_in (heads ++ head ∷ []) lists, length-append heads (head ∷ []))

-- ---- trees behind others

abbrev pub more_one : Tree → Trees
more_one t = more t none

own-same : (n : ℕ) (t : Tree) (f : Form) → tree_size t ≡ size_of f → own_node n t ≡ own_number n f
own-same n (tree code parts) (form place h ps) e = let s : size_of_all parts ≡ size_of_parts ps = omega arith in ap (λ m. id (n + m)) s

pub adds-next : (old now new : List NodeParts) (done : Parts) (f : Form) (trees : List Tree) (t : Tree) → AddsParts old now done trees → Adds now new f t → AddsParts old new (next_part done f) (t ∷ trees)
adds-next old now new done f trees t adds last =
    let n = length old in
    let whole = in_order trees in
    let behind_is = in_order-join trees (more_one t) in
    let count : length now ≡ n + size_of_parts done = omega (arith, ap length adds.nodes, length-append old (nodes_of_all n whole), length-nodes_of_all n whole, adds.size) in
    let counted : n + size_of_all whole ≡ n + size_of_parts done = ap (λ s. n + s) adds.size in
    record {
      nodes = last.0 ∙ ap (λ m. now ++ tree_nodes m t) (count ∙ sym counted) ∙ ap (λ l. l ++ tree_nodes (n + size_of_all whole) t) adds.nodes
          ∙ append_assoc old (nodes_of_all n whole) (tree_nodes (n + size_of_all whole) t)
          ∙ ap (λ l. old ++ (nodes_of_all n whole ++ l)) (sym (append-nil (tree_nodes (n + size_of_all whole) t)))
          ∙ ap (λ l. old ++ l) (sym (ap (nodes_of_all n) behind_is ∙ nodes-join n whole (more_one t)));
      own = ap (own_nodes n) behind_is ∙ own-join n whole (more_one t) ∙ ap (λ l. l ++ own_node (n + size_of_all whole) t ∷ []) adds.own
          ∙ ap (λ m. own_numbers n done ++ own_node m t ∷ []) counted ∙ ap (λ o. own_numbers n done ++ o ∷ []) (own-same (n + size_of_parts done) t f last.1);
      size = ap size_of_all behind_is ∙ size-join whole (more_one t) ∙ omega (arith, adds.size, last.1);
    }

pub added-count : (old new : List NodeParts) (ps : Parts) (trees : List Tree) (at : ℕ) → AddsParts old new ps trees → at + 1 ≡ length old + (size_of_parts ps + 1) → length new ≡ at
added-count old new ps trees at adds e =
    omega (arith, e, ap length adds.nodes, length-append old (nodes_of_all (length old) (in_order trees)), length-nodes_of_all (length old) (in_order trees), adds.size)

-- a form's own node behind those of its parts
pub adds-whole : (old last new : List NodeParts) (place : ℕ) (h : Head) (ps : Parts) (code : Code) (trees : List Tree) → AddsParts old last ps trees → new ≡ last ++ node_of code (own_numbers (length old) ps) ∷ []
    → Adds old new (form place h ps) (tree code (in_order trees))
adds-whole old last new place h ps code trees adds e =
    let n = length old in (
      e ∙ ap (λ l. l ++ node_of code (own_numbers n ps) ∷ []) adds.nodes
          ∙ append_assoc old (nodes_of_all n (in_order trees)) (node_of code (own_numbers n ps) ∷ [])
          ∙ ap (λ l. old ++ (nodes_of_all n (in_order trees) ++ node_of code l ∷ [])) (sym adds.own),
      ap (λ s. s + 1) adds.size,
    )
