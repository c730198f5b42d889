-- Nodes by the heads and the lists of parts that they are kept as.
use Rattle.std.proofs.Common.{◌≡◌, ℕ, zero, suc, List, [], ◌∷◌, ◌++◌, length, map, option_map, slice_get, Some, refl, ap, ◌∙◌, sym, arith}
use Rattle.std.proofs.lemmas.List.{length-map}
use Rattle.std.proofs.lemmas.Option.{slice_get-map}
use Rattle.stab_code.specs.declared.head.Head.{Head}
use Rattle.stab_code.specs.declared.node_id.NodeId.{NodeId}
use Rattle.stab_code.specs.Nodes.{node_of, nodes_in}

pub node_pushed : (heads : List Head) (lists : List (List NodeId)) (head : Head) (parts : List NodeId) → length heads ≡ length lists → nodes_in (heads ++ head ∷ []) (lists ++ parts ∷ []) ≡ nodes_in heads lists ++ node_of head parts ∷ []
node_pushed [] [] head parts e = refl
node_pushed [] (l ∷ lists) head parts e = absurd (omega arith)
node_pushed (h ∷ heads) [] head parts e = absurd (omega arith)
node_pushed (h ∷ heads) (l ∷ lists) head parts e = ap (λ nodes. node_of h l ∷ nodes) (node_pushed heads lists head parts (omega arith))

heads_and_parts : (heads : List Head) (lists : List (List NodeId)) → length heads ≡ length lists → (heads ≡ map (λ n. n.head) (nodes_in heads lists)) × (lists ≡ map (λ n. n.parts) (nodes_in heads lists))
heads_and_parts [] [] e = (refl, refl)
heads_and_parts [] (l ∷ lists) e = absurd (omega arith)
heads_and_parts (h ∷ heads) [] e = absurd (omega arith)
heads_and_parts (h ∷ heads) (l ∷ lists) e = let rest = heads_and_parts heads lists (omega arith) in (ap (λ hs. h ∷ hs) rest.0, ap (λ ls. l ∷ ls) rest.1)

pub count_of_nodes : (heads : List Head) (lists : List (List NodeId)) → length heads ≡ length lists → length (nodes_in heads lists) ≡ length heads
count_of_nodes heads lists e = omega (arith, ap length (heads_and_parts heads lists e).0, length-map (nodes_in heads lists) (λ n. n.head))

-- the head of a number
pub head_at : (heads : List Head) (lists : List (List NodeId)) (i : ℕ) → length heads ≡ length lists → slice_get heads i ≡ option_map (λ node. node.head) (slice_get (nodes_in heads lists) i)
head_at heads lists i e = ap (λ own. slice_get own i) (heads_and_parts heads lists e).0 ∙ slice_get-map (λ node. node.head) (nodes_in heads lists) i

pub node_at : (heads : List Head) (lists : List (List NodeId)) (i : ℕ) (head : Head) (parts : List NodeId) → slice_get heads i ≡ Some head → slice_get lists i ≡ Some parts → slice_get (nodes_in heads lists) i ≡ Some (node_of head parts)
node_at [] lists i head parts h p = cc
node_at (g ∷ heads) [] i head parts h p = cc
node_at (g ∷ heads) (l ∷ lists) zero head parts h p = cc
node_at (g ∷ heads) (l ∷ lists) (suc i) head parts h p = node_at heads lists i head parts h p

-- nodes are the same only where their heads and their parts are
pub stored_nodes : (heads own : List Head) (lists others : List (List NodeId)) → length heads ≡ length lists → length own ≡ length others → nodes_in heads lists ≡ nodes_in own others → (heads ≡ own) × (lists ≡ others)
stored_nodes heads own lists others e f same =
    let left = heads_and_parts heads lists e in
    let right = heads_and_parts own others f in
    (left.0 ∙ ap (map (λ n. n.head)) same ∙ sym right.0, left.1 ∙ ap (map (λ n. n.parts)) same ∙ sym right.1)
