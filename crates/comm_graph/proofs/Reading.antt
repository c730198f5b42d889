-- The node with a number, and those behind it, from its place.
use Rattle.std.proofs.Common.{◌≡◌, ℕ, suc, Bool, true, false, cond, nat_eq, List, [], ◌∷◌, Option, Some, None, IsSome, refl, sym, ap, ◌∙◌, arith, inl, inr, eq-eqb}
use Rattle.std.proofs.lemmas.Bool.{cases_eq}
use Rattle.comm_graph.specs.declared.node.NodeFor.{NodeFor}
use Rattle.comm_graph.specs.declared.table.Entry.{Entry}
use Rattle.comm_graph.specs.Node.{Node}
use Rattle.comm_graph.specs.Edge.{from_number, kind_at, kind_of}
use Rattle.comm_graph.specs.Table.{entry_at, nodes_of, nodes_behind, IsSorted, IsFound}
use Rattle.comm_graph.proofs.Tables.{in_range, at_front, at_behind, apart}
use Rattle.comm_graph.proofs.Shrunk.{sorted_tail}

from_cond : (q : ℕ) (b : Bool) (n : Node) (ns : List Node) → from_number q (cond b (n ∷ ns) ns) ≡ cond b (cond (nat_eq q n.number) (n ∷ ns) (from_number q ns)) (from_number q ns)
from_cond q true n ns = refl
from_cond q false n ns = refl

skip : (q : ℕ) (b : Bool) (n : Node) (ns : List Node) → (b ≡ true → nat_eq q n.number ≡ false) → from_number q (cond b (n ∷ ns) ns) ≡ from_number q ns
skip q true n ns h = ap (λ c. cond c (n ∷ ns) (from_number q ns)) (h refl)
skip q false n ns h = refl

behind : (x : Entry) (es : List Entry) (g k : ℕ) (e : Entry) → entry_at es (suc g) k ≡ Some e → entry_at (x ∷ es) g k ≡ Some e
behind x es g k e at = let r = in_range es (suc g) k e at in at_behind x es g k r.0 ∙ at

pub from_place : (es : List Entry) (g p q : ℕ) (e : Entry) → IsSorted es g → entry_at es g p ≡ Some e → e.live ≡ true → e.number.0 ≡ q → from_number q (nodes_of es) ≡ record { number = e.number.0; kind = e.kind } ∷ nodes_behind es g p
from_place [] g p q e s at live num = absurd (cc)
from_place (x ∷ es) g p q e s at live num = elim (cases_eq p (suc g)) [
  | inl here ↦
      let both : Some x ≡ Some e = sym (at_front x es g p here) ∙ at in
      let same : x ≡ e = cc in
      let xl : x.live ≡ true = ap (λ (y : Entry). y.live) same ∙ live in
      let n : Node = record { number = x.number.0; kind = x.kind } in
      from_cond q x.live n (nodes_of es)
      ∙ ap (λ b. cond b (cond (nat_eq q n.number) (n ∷ nodes_of es) (from_number q (nodes_of es))) (from_number q (nodes_of es))) xl
      ∙ ap (λ b. cond b (n ∷ nodes_of es) (from_number q (nodes_of es))) (eq-eqb q x.number.0 (sym num ∙ sym (ap (λ (y : Entry). y.number.0) same)))
      ∙ ap (λ (y : Entry). record { number = y.number.0; kind = y.kind } ∷ nodes_of es) same
      ∙ ap (λ l. record { number = e.number.0; kind = e.kind } ∷ l) (sym (ap (λ b. cond b (nodes_of es) (nodes_behind es (suc g) p)) (eq-eqb p (suc g) here)))
  | inr there ↦
      let at2 : entry_at es (suc g) p ≡ Some e = sym (ap (λ b. cond b (Some x) (entry_at es (suc g) p)) (apart p (suc g) there)) ∙ at in
      let r = in_range es (suc g) p e at2 in
      let lt = s.rise (suc g) p x e (at_front x es g (suc g) refl) at r.0 in
      skip q x.live (record { number = x.number.0; kind = x.kind }) (nodes_of es) (λ _. apart q x.number.0 (λ t. omega arith))
      ∙ from_place es (suc g) p q e (sorted_tail x es g s) at2 live num
      ∙ ap (λ l. record { number = e.number.0; kind = e.kind } ∷ l) (sym (ap (λ b. cond b (nodes_of es) (nodes_behind es (suc g) p)) (apart p (suc g) there)))
]

pub from_none : (es : List Entry) (g q : ℕ) → ((p : ℕ) → IsFound es g q p → ⊥) → from_number q (nodes_of es) ≡ []
from_none [] g q none = refl
from_none (x ∷ es) g q none =
    skip q x.live (record { number = x.number.0; kind = x.kind }) (nodes_of es)
    (λ live. apart q x.number.0 (λ s. none (suc g) (record { entry = x; at = at_front x es g (suc g) refl; live = live; number = sym s })))
    ∙ from_none es (suc g) q (λ p f. none p (record { entry = f.entry; at = behind x es g p f.entry f.at; live = f.live; number = f.number }))

pub kind_found : (es : List Entry) (g q p : ℕ) (e : Entry) → IsSorted es g → IsFound es g q p → entry_at es g p ≡ Some e → kind_of (nodes_of es) q ≡ Some e.kind
kind_found es g q p e s f at =
    let both : Some e ≡ Some f.entry = sym at ∙ f.at in
    let same : e ≡ f.entry = cc in
    ap kind_at (from_place es g p q e s at (ap (λ (y : Entry). y.live) same ∙ f.live) (ap (λ (y : Entry). y.number.0) same ∙ f.number))

pub kind_none : (es : List Entry) (g q : ℕ) → ((p : ℕ) → IsFound es g q p → ⊥) → kind_of (nodes_of es) q ≡ None
kind_none es g q none = ap kind_at (from_none es g q none)

-- who has a kind is found
pub must_be : (es : List Entry) (g q : ℕ) → ((p : ℕ) → IsFound es g q p → ⊥) → (o : Option NodeFor) → o ≡ kind_of (nodes_of es) q → IsSome o → ⊥
must_be es g q none None e some = cc
must_be es g q none (Some k) e some = let bad : Some k ≡ None = e ∙ kind_none es g q none in cc
