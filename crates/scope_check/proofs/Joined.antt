-- Trees behind others.
use Rattle.std.proofs.Common.{◌≡◌, ℕ, ◌+◌, List, [], ◌∷◌, ◌++◌, length, refl, sym, ap, ◌∙◌, arith, append_assoc}
use Rattle.stab_code.specs.Layout.{size_of, size_of_all, own_node, own_nodes, nodes_of, nodes_of_all}
use Rattle.stab_code.specs.Trees.{Tree, Trees, none, more}
use Rattle.stab_code.specs.EachForm.{count_of}
use Rattle.scope_check.specs.Scope.{in_order, in_order_before}

abbrev pub join : Trees → Trees → Trees
join none us = us
join (more t ts) us = more t (join ts us)

pub join-assoc : (a b c : Trees) → join (join a b) c ≡ join a (join b c)
join-assoc none b c = refl
join-assoc (more t a) b c = ap (more t) (join-assoc a b c)

pub in_order-join : (xs : List Tree) (ts : Trees) → in_order_before xs ts ≡ join (in_order xs) ts
in_order-join [] ts = refl
in_order-join (x ∷ xs) ts = in_order-join xs (more x ts) ∙ sym (join-assoc (in_order xs) (more x none) ts) ∙ ap (λ a. join a ts) (sym (in_order-join xs (more x none)))

pub count-in_order : (xs : List Tree) (ts : Trees) → count_of (in_order_before xs ts) ≡ length xs + count_of ts
count-in_order [] ts = omega arith
count-in_order (x ∷ xs) ts = omega (arith, count-in_order xs (more x ts))

pub size-join : (a b : Trees) → size_of_all (join a b) ≡ size_of_all a + size_of_all b
size-join none b = omega arith
size-join (more t a) b = omega (arith, size-join a b)

pub nodes-join : (n : ℕ) (a b : Trees) → nodes_of_all n (join a b) ≡ nodes_of_all n a ++ nodes_of_all (n + size_of_all a) b
nodes-join n none b = ap (λ m. nodes_of_all m b) (omega arith)
nodes-join n (more t a) b =
    ap (λ rest. nodes_of n t ++ rest) (nodes-join (n + size_of t) a b) ∙ sym (append_assoc (nodes_of n t) (nodes_of_all (n + size_of t) a) (nodes_of_all (n + size_of t + size_of_all a) b))
    ∙ ap (λ m. nodes_of_all n (more t a) ++ nodes_of_all m b) (omega arith)

pub own-join : (n : ℕ) (a b : Trees) → own_nodes n (join a b) ≡ own_nodes n a ++ own_nodes (n + size_of_all a) b
own-join n none b = ap (λ m. own_nodes m b) (omega arith)
own-join n (more t a) b =
    ap (λ rest. own_node n t ∷ rest) (own-join (n + size_of t) a b) ∙ ap (λ m. own_nodes n (more t a) ++ own_nodes m b) (omega arith)
