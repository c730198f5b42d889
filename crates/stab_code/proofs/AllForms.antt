-- What holds of the head and the number of parts of each form of some trees holds of their nodes, and the other way round.
use Rattle.std.proofs.Common.{◌≡◌, ℕ, zero, suc, ◌+◌, List, [], ◌∷◌, length, map, slice_get, Some, refl, ap, subst}
use Rattle.std.specs.List.{All}
use Rattle.std.proofs.lemmas.List.Elements.{All-append, All-head, All-nil, All-push}
use Rattle.stab_code.specs.declared.head.Head.{Head}
use Rattle.stab_code.specs.EachForm.{AllForms, AllFormsIn, count_of}
use Rattle.stab_code.specs.Layout.{size_of, size_of_all, nodes_of, nodes_of_all, own_nodes}
use Rattle.stab_code.specs.Nodes.{NodeParts, node_of}
use Rattle.stab_code.specs.Program.{FunctionParts, ProgramParts, bodies_of, body_of, tree_among, trees_among, trees_at, trees_of}
use Rattle.stab_code.specs.Trees.{Tree, Trees, tree, none, more}
use Rattle.stab_code.specs.Valid.{NodesAreInOrder}
use Rattle.stab_code.proofs.Lists.{All-left, All-right}

abbrev pub HoldsOf : (Head → ℕ → Type 0) → NodeParts → Type 0
HoldsOf P node = P node.head (length node.parts)

length-own_nodes : (n : ℕ) (ts : Trees) → length (own_nodes n ts) ≡ count_of ts
length-own_nodes n none = refl
length-own_nodes n (more t ts) = ap suc (length-own_nodes (n + size_of t) ts)

pub nodes_of_all-forms : (P : Head → ℕ → Type 0) (n : ℕ) (ts : Trees) → AllFormsIn P ts → All (HoldsOf P) (nodes_of_all n ts)
nodes_of_all-forms P n none all = All-nil (HoldsOf P)
nodes_of_all-forms P n (more (tree head parts) ts) all =
    let own : P head (length (own_nodes n parts)) = rw (length-own_nodes n parts) all.0.0 in
    All-append (HoldsOf P) (nodes_of n (tree head parts)) (nodes_of_all (n + (size_of_all parts + 1)) ts)
    (All-push (HoldsOf P) (nodes_of_all n parts) (node_of head (own_nodes n parts)) (nodes_of_all-forms P n parts all.0.1) own)
    (nodes_of_all-forms P (n + (size_of_all parts + 1)) ts all.1)

pub forms-nodes_of_all : (P : Head → ℕ → Type 0) (n : ℕ) (ts : Trees) → All (HoldsOf P) (nodes_of_all n ts) → AllFormsIn P ts
forms-nodes_of_all P n none all = tt
forms-nodes_of_all P n (more (tree head parts) ts) all =
    let first = All-left (HoldsOf P) (nodes_of n (tree head parts)) (nodes_of_all (n + size_of (tree head parts)) ts) all in
    let rest = All-right (HoldsOf P) (nodes_of n (tree head parts)) (nodes_of_all (n + size_of (tree head parts)) ts) all in
    let inner = All-left (HoldsOf P) (nodes_of_all n parts) (node_of head (own_nodes n parts) ∷ []) first in
    let own = All-head (HoldsOf P) (node_of head (own_nodes n parts)) [] (All-right (HoldsOf P) (nodes_of_all n parts) (node_of head (own_nodes n parts) ∷ []) first) in
    ((subst (P head) (length-own_nodes n parts) own, forms-nodes_of_all P n parts inner), forms-nodes_of_all P (n + size_of (tree head parts)) ts rest)

-- what holds of all trees of some functions' bodies holds of the tree of one
forms-body : (P : Head → ℕ → Type 0) (trees : List Tree) (fs : List FunctionParts) (k : ℕ) (f : FunctionParts) → AllFormsIn P (trees_among trees (map (λ (g : FunctionParts). g.body) fs)) → slice_get fs k ≡ Some f →
    AllForms P (tree_among trees f.body)
forms-body P trees [] k f all found = absurd (cc)
forms-body P trees (g ∷ fs) zero f all found = let same : g ≡ f = cc in subst (λ (x : FunctionParts). AllForms P (tree_among trees x.body)) same all.0
forms-body P trees (g ∷ fs) (suc k) f all found = forms-body P trees fs k f all.1 found

-- what holds of each node of a program holds of each form of its functions' bodies
pub forms-bodies : (P : Head → ℕ → Type 0) (p : ProgramParts) → NodesAreInOrder p → All (HoldsOf P) p.nodes → (k : ℕ) (f : FunctionParts) → slice_get p.functions k ≡ Some f → AllForms P (body_of p f)
forms-bodies P p order all k f found =
    let trees = trees_at p (bodies_of p) in
    let laid_out : All (HoldsOf P) (nodes_of_all 0 trees) = rw order.nodes all in
    forms-body P (trees_of p.nodes) p.functions k f (forms-nodes_of_all P 0 trees laid_out) found
