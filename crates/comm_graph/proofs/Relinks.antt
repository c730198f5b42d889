-- What other links at one entry change, and what they leave.
use Rattle.std.proofs.Common.{◌≡◌, ◌≢◌, ℕ, suc, Bool, true, false, not, cond, ◌&&◌, nat_eq, List, [], ◌∷◌, Option, Some, None, refl, sym, ap, ◌∙◌, arith, inl, inr, eq-eqb}
use Rattle.std.specs.Option.{option_map, option_map_or}
use Rattle.std.proofs.lemmas.Bool.{cases_eq, and_parts}
use Rattle.std.proofs.lemmas.Bool.Decides.{eqb_tells}
use Rattle.stab_base.specs.declared.numbers.ThreadId.{ThreadId}
use Rattle.stab_base.specs.declared.numbers.Seq.{Seq}
use Rattle.comm_graph.specs.declared.node.NodeFor.{NodeFor}
use Rattle.comm_graph.specs.declared.table.Links.{Links}
use Rattle.comm_graph.specs.declared.table.Line.{Line}
use Rattle.comm_graph.specs.declared.table.Line.TheVariants.{Thread, Readers}
use Rattle.comm_graph.specs.declared.table.Entry.{Entry}
use Rattle.comm_graph.specs.Node.{Node, first_of, touches, reads}
use Rattle.comm_graph.specs.Table.{links_of, relinked, stands, look, entry_at, change, shape, nodes_of, Keeps}
use Rattle.comm_graph.proofs.Touches.{touched_by, reads_one}
use Rattle.comm_graph.proofs.Tables.{change_same, change_other, change_length, apart}

-- what is read of other entries
pub look_other : {X : Type 0} (f : Entry → X) (d : X) (h : Entry → Entry) (es : List Entry) (g x k : ℕ) → k ≢ x → look f d (change h g x es) g k ≡ look f d es g k
look_other f d h es g x k n = ap (λ o. option_map_or f o d) (change_other h es g x k n)

fused : {X : Type 0} (f : Entry → X) (d : X) (h : Entry → Entry) (o : Option Entry) → option_map_or f (option_map h o) d ≡ option_map_or (λ e. f (h e)) o d
fused f d h None = refl
fused f d h (Some e) = refl

-- what is read of the changed one
pub look_same : {X : Type 0} (f : Entry → X) (d : X) (h : Entry → Entry) (es : List Entry) (g x : ℕ) → look f d (change h g x es) g x ≡ look (λ e. f (h e)) d es g x
look_same f d h es g x = ap (λ o. option_map_or f o d) (change_same h es g x) ∙ fused f d h (entry_at es g x)

agree : {X : Type 0} (f f' : Entry → X) (d : X) (o : Option Entry) → ((e : Entry) → f' e ≡ f e) → option_map_or f' o d ≡ option_map_or f o d
agree f f' d None s = refl
agree f f' d (Some e) s = s e

-- what a change leaves is read as before everywhere
pub look_kept : {X : Type 0} (f : Entry → X) (d : X) (h : Entry → Entry) (es : List Entry) (g x k : ℕ) → ((e : Entry) → f (h e) ≡ f e) → look f d (change h g x es) g k ≡ look f d es g k
look_kept f d h es g x k s = elim (cases_eq k x) [
  | inl e ↦ ap (look f d (change h g x es) g) e ∙ look_same f d h es g x ∙ agree f (λ y. f (h y)) d (entry_at es g x) s ∙ sym (ap (look f d es g) e)
  | inr n ↦ look_other f d h es g x k n
]

by_shape : (line : Line) → Seq × NodeFor × Bool → Bool
by_shape (Thread t) s = s.2 && touches t.0 s.1
by_shape (Readers q) s = s.2 && reads q.0 s.1

by_shape_is : (line : Line) (e : Entry) → by_shape line (shape e) ≡ stands line e
unfolding by_shape
by_shape_is (Thread t) e = refl
by_shape_is (Readers q) e = refl

pub stands-shape : (line : Line) (e f : Entry) → shape f ≡ shape e → stands line f ≡ stands line e
stands-shape line e f s = sym (by_shape_is line f) ∙ ap (by_shape line) s ∙ by_shape_is line e

nodes_cons : (e f : Entry) (ns : List Node) → shape f ≡ shape e → cond f.live (record { number = f.number.0; kind = f.kind } ∷ ns) ns ≡ cond e.live (record { number = e.number.0; kind = e.kind } ∷ ns) ns
nodes_cons e f ns s = ap (λ (p : Seq × NodeFor × Bool). cond p.2 (record { number = p.0.0; kind = p.1 } ∷ ns) ns) s

pub nodes_kept : (h : Entry → Entry) (es : List Entry) (g x : ℕ) → ((e : Entry) → shape (h e) ≡ shape e) → nodes_of (change h g x es) ≡ nodes_of es
nodes_kept h [] g x s = refl
nodes_kept h (e ∷ es) g x s = elim (cases_eq x (suc g)) [
  | inl q ↦ ap (λ b. nodes_of (cond b (h e ∷ es) (e ∷ change h (suc g) x es))) (eq-eqb x (suc g) q) ∙ nodes_cons e (h e) (nodes_of es) (s e)
  | inr n ↦ ap (λ b. nodes_of (cond b (h e ∷ es) (e ∷ change h (suc g) x es))) (apart x (suc g) n) ∙ ap (λ ns. cond e.live (record { number = e.number.0; kind = e.kind } ∷ ns) ns) (nodes_kept h es (suc g) x s)
]

-- a change that leaves shapes
pub keeps : (h : Entry → Entry) (es : List Entry) (g x : ℕ) → ((e : Entry) → shape (h e) ≡ shape e) → Keeps es (change h g x es) g
keeps h es g x s = record {
  count = change_length h es g x;
  nodes = nodes_kept h es g x s;
  shapes = λ k. look_kept (λ e. Some (shape e)) None h es g x k (λ e. ap Some (s e));
}

pub keeps_twice : (es fs gs : List Entry) (g : ℕ) → Keeps es fs g → Keeps fs gs g → Keeps es gs g
keeps_twice es fs gs g a b = record {
  count = b.count ∙ a.count;
  nodes = b.nodes ∙ a.nodes;
  shapes = λ k. b.shapes k ∙ a.shapes k;
}

cond_shape : (b : Bool) (x y e : Entry) → shape x ≡ shape e → shape y ≡ shape e → shape (cond b x y) ≡ shape e
cond_shape true x y e p q = p
cond_shape false x y e p q = q

cond_reader : (b : Bool) (x y : Entry) (v : ℕ) → x.last_reader ≡ v → y.last_reader ≡ v → (cond b x y).last_reader ≡ v
cond_reader true x y v p q = p
cond_reader false x y v p q = q

module _ (h : Links → Links) where
  pub relinked_shape : (line : Line) (e : Entry) → shape (relinked h line e) ≡ shape e
  relinked_shape (Thread t) e = cond_shape (nat_eq (first_of e.kind).0 t.0) _ _ e refl refl
  relinked_shape (Readers q) e = refl

  pub relinked_reader : (line : Line) (e : Entry) → (relinked h line e).last_reader ≡ e.last_reader
  relinked_reader (Thread t) e = cond_reader (nat_eq (first_of e.kind).0 t.0) _ _ e.last_reader refl refl
  relinked_reader (Readers q) e = refl

  own : (e : Entry) (t : ThreadId) (b : Bool) → nat_eq (first_of e.kind).0 t.0 ≡ b → links_of (Thread t) (cond b (record e { first = h e.first }) (record e { second = h e.second })) ≡ h (cond b e.first e.second)
  own e t true s = ap (λ b. cond b (h e.first) e.second) s
  own e t false s = ap (λ b. cond b e.first (h e.second)) s

  pub relinked_own : (line : Line) (e : Entry) → links_of line (relinked h line e) ≡ h (links_of line e)
  relinked_own (Thread t) e = own e t (nat_eq (first_of e.kind).0 t.0) refl
  relinked_own (Readers q) e = refl

  other_thread : (e : Entry) (t u : ThreadId) (b c : Bool) → nat_eq (first_of e.kind).0 t.0 ≡ b → nat_eq (first_of e.kind).0 u.0 ≡ c → c ≡ not b
      → links_of (Thread u) (cond b (record e { first = h e.first }) (record e { second = h e.second })) ≡ cond c e.first e.second
  other_thread e t u true c s r n = ap (λ x. cond x (h e.first) e.second) (r ∙ n) ∙ sym (ap (λ x. cond x e.first e.second) n)
  other_thread e t u false c s r n = ap (λ x. cond x e.first (h e.second)) (r ∙ n) ∙ sym (ap (λ x. cond x e.first e.second) n)

  -- of two threads that a node touches one is its first
  differ : (k : NodeFor) (t u : ℕ) → t ≢ u → touches t k ≡ true → touches u k ≡ true → nat_eq (first_of k).0 u ≡ not (nat_eq (first_of k).0 t)
  differ k t u n a b = elim (eqb_tells (first_of k).0 t) [
    | inl y ↦ apart (first_of k).0 u (λ s. n (omega (arith, y.1))) ∙ sym (ap not y.0)
    | inr m ↦ elim (eqb_tells (first_of k).0 u) [
      | inl y ↦ y.0 ∙ sym (ap not m.0)
      | inr m2 ↦ elim (touched_by t k a) [
        | inl e ↦ absurd (m.1 e)
        | inr s ↦ elim (touched_by u k b) [
          | inl e ↦ absurd (m2.1 e)
          | inr r ↦
              let same : s.0 ≡ r.0 = (let both : Some s.0 ≡ Some r.0 = sym s.1 ∙ r.1 in cc) in absurd (n (sym s.2 ∙ ap (λ (x : ThreadId). x.0) same ∙ r.2))
        ]
      ]
    ]
  ]

  pub relinked_other : (line other : Line) (e : Entry) → other ≢ line → stands line e ≡ true → stands other e ≡ true → links_of other (relinked h line e) ≡ links_of other e
  relinked_other (Thread t) (Thread u) e n a b =
      other_thread e t u (nat_eq (first_of e.kind).0 t.0) (nat_eq (first_of e.kind).0 u.0) refl refl
      (differ e.kind t.0 u.0 (λ s. n (sym (ap (λ x. Thread (record { 0 = x })) s))) (and_parts e.live _ a).1 (and_parts e.live _ b).1)
  relinked_other (Thread t) (Readers q) e n a b = elim (nat_eq (first_of e.kind).0 t.0) as (λ c. (cond c (record e { first = h e.first }) (record e { second = h e.second })).reader ≡ e.reader) [ true ↦ refl | false ↦ refl ]
  relinked_other (Readers q) (Thread t) e n a b = refl
  relinked_other (Readers q) (Readers r) e n a b = absurd (n (ap (λ x. Readers (record { 0 = x })) (reads_one r.0 q.0 e.kind (and_parts e.live _ b).1 (and_parts e.live _ a).1)))
