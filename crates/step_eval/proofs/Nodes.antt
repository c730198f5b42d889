-- Nodes of a valid program, by their numbers.
use Rattle.std.proofs.Common.{◌≡◌, ℕ, zero, suc, ◌<◌, List, [], ◌∷◌, length, slice_get, Option, None, Some, Bor, IsSome, is_some, option_map, unwrap_or, refl, ap, sym, ◌∙◌, arith}
use Rattle.std.specs.Option.{option_copied}
use Rattle.std.proofs.lemmas.Option.{slice_get-get_or}
use Rattle.stab_code.specs.declared.head.Head.{Head}
use Rattle.stab_code.specs.declared.head.Head.TheVariants.{Unit, Block}
use Rattle.stab_code.specs.declared.node_id.NodeId.{NodeId}
use Rattle.stab_code.specs.Nodes.{NodeParts, node_of}
use Rattle.stab_code.specs.Program.{ProgramParts, tree_at, trees_at}
use Rattle.stab_code.specs.Trees.{tree}
use Rattle.stab_code.specs.Valid.{IsValid, head_parts}
use Rattle.stab_code.proofs.InOrder as order
use Rattle.stab_code.proofs.Lists.{All-at}
use Rattle.step_eval.specs.Meaning.{node_at, head_left}
use Rattle.step_eval.specs.Fits.{tree_left}

pub head_left-zero : (h : Head) → head_left 0 h ≡ h
head_left-zero (Block slots) = refl
head_left-zero _ = refl

pub node_there : (p : ProgramParts) (n : NodeId) → n.0 < length p.nodes → slice_get p.nodes n.0 ≡ Some (node_at p n)
node_there p n h =
    let e = slice_get-get_or p.nodes n.0 (node_of Unit []) h in
    e ∙ ap Some (sym (ap (λ o. unwrap_or o (node_of Unit [])) e))

module _ (p : ProgramParts) (valid : IsValid p) (n : NodeId) (there : n.0 < length p.nodes) where
  pub tree_is : tree_at p n ≡ tree (node_at p n).head (trees_at p (node_at p n).parts)
  tree_is = order.node_tree p valid.nodes_in_order n (node_at p n) (node_there p n there)

  pub tree_left-zero : tree_left p n 0 ≡ tree_at p n
  tree_left-zero = ap (λ h. tree h (trees_at p (node_at p n).parts)) (head_left-zero (node_at p n).head) ∙ sym tree_is

  pub part_below : (k : ℕ) (q : NodeId) → slice_get (node_at p n).parts k ≡ Some q → q.0 < n.0
  part_below k q e = All-at (λ part. part.0 < n.0) (node_at p n).parts k q (order.parts_below p valid.nodes_in_order n.0 (node_at p n) (node_there p n there)) e

  pub part_count : head_parts p.functions (node_at p n).head ≡ Some (length (node_at p n).parts)
  part_count = All-at (λ node. head_parts p.functions node.head ≡ Some (length node.parts)) p.nodes n.0 (node_at p n) valid.parts_fit (node_there p n there)

-- an entry that is there
pub is-some : {A : Type 0} (xs : List A) (k : ℕ) (o : Option A) → k < length xs → o ≡ slice_get xs k → IsSome o
is-some [] k o h e = absurd (omega arith)
is-some (x ∷ xs) zero o h e = ap is_some e
is-some (x ∷ xs) (suc k) o h e = is-some xs k o (omega arith) e

pub node-is : (p : ProgramParts) (n : NodeId) (o : Option NodeParts) (x : NodeParts) → o ≡ slice_get p.nodes n.0 → o ≡ Some x → x ≡ node_at p n
node-is p n o x e is = ap (λ (found : Option NodeParts). unwrap_or found (node_of Unit [])) (sym is ∙ e)

pub body-some : {A B : Type 0} (f : A → B) (xs : List A) (k : ℕ) (o : Option B) → k < length xs → o ≡ option_map f (slice_get xs k) → IsSome o
body-some f [] k o h e = absurd (omega arith)
body-some f (x ∷ xs) zero o h e = ap is_some e
body-some f (x ∷ xs) (suc k) o h e = body-some f xs k o (omega arith) e

-- the head of a node that is there, behind its reference
module _ (p : ProgramParts) (n : NodeId) (there : n.0 < length p.nodes) where
  pub head-some : (o : Option (Bor Head)) → option_copied o ≡ option_map (λ node. node.head) (slice_get p.nodes n.0) → IsSome o
  head-some None e = body-some (λ node. node.head) p.nodes n.0 None there e
  head-some (Some h) e = refl

  pub head-found : (o : Option (Bor Head)) (h : Bor Head) → option_copied o ≡ option_map (λ node. node.head) (slice_get p.nodes n.0) → o ≡ Some h → h.now ≡ (node_at p n).head
  head-found o h e is = ap (λ found. unwrap_or found Unit) (sym (ap option_copied is) ∙ e ∙ ap (option_map (λ node. node.head)) (node_there p n there))
