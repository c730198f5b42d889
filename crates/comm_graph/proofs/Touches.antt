-- The threads that a node touches are its first and its second one.
use Rattle.std.proofs.Common.{◌≡◌, ◌≢◌, ℕ, Bool, true, false, cond, ◌||◌, nat_eq, Option, Some, None, refl, sym, ap, ◌∙◌, inl, inr, ◌⊎◌, eqb-true, eq-eqb}
use Rattle.std.proofs.lemmas.Bool.Decides.{eqb_tells}
use Rattle.stab_base.specs.declared.numbers.ThreadId.{ThreadId}
use Rattle.stab_base.specs.declared.numbers.Seq.{Seq}
use Rattle.comm_graph.specs.declared.node.NodeFor.{NodeFor}
use Rattle.comm_graph.specs.declared.node.NodeFor.TheVariants.{Enter, Spawn, Comm, Get, Set, NewRef, Pin}
use Rattle.comm_graph.specs.Node.{first_of, second_of, unless, other_of, acts, touches, reads, read_by}

one : (t a : ℕ) → (nat_eq t a || false) ≡ true → a ≡ t
one t a h = elim (eqb_tells t a) [ inl y ↦ sym y.1 | inr n ↦ absurd (cc (n.0)) ]

two : (t a b : ℕ) → (nat_eq t a || (nat_eq t b || false)) ≡ true → (a ≡ t) ⊎ (b ≡ t)
two t a b h = elim (eqb_tells t a) [ inl y ↦ inl (sym y.1) | inr n ↦ inr (one t b (sym (ap (λ x. x || (nat_eq t b || false)) n.0) ∙ h)) ]

abbrev pub Second : NodeFor → ℕ → Type 0
Second k t = (x : ThreadId) × (second_of k ≡ Some x) × (x.0 ≡ t)

pub touched_by : (t : ℕ) (k : NodeFor) → touches t k ≡ true → ((first_of k).0 ≡ t) ⊎ Second k t
touched_by t (Enter a) h = inl (one t a.0 h)
touched_by t (Spawn a b) h = elim (two t a.0 b.0 h) [ inl e ↦ inl e | inr e ↦ inr (b, refl, e) ]
touched_by t (Comm a b) h = elim (two t a.0 b.0 h) [ inl e ↦ inl e | inr e ↦ inr (b, refl, e) ]
touched_by t (Get a q) h = inl (one t a.0 h)
touched_by t (Set a) h = inl (one t a.0 h)
touched_by t (NewRef a) h = inl (one t a.0 h)
touched_by t (Pin a) h = inl (one t a.0 h)

yes : (t : ℕ) (b : Bool) → (nat_eq t t || b) ≡ true
yes t b = elim (eqb_tells t t) [ inl y ↦ ap (λ x. x || b) y.0 | inr n ↦ absurd (n.1 refl) ]

pub first_touched : (k : NodeFor) → touches (first_of k).0 k ≡ true
first_touched (Enter a) = yes a.0 false
first_touched (Spawn a b) = yes a.0 _
first_touched (Comm a b) = yes a.0 _
first_touched (Get a q) = yes a.0 false
first_touched (Set a) = yes a.0 false
first_touched (NewRef a) = yes a.0 false
first_touched (Pin a) = yes a.0 false

-- who acts in a node is touched by it
pub acting_touched : (t : ℕ) (k : NodeFor) → acts t k ≡ true → touches t k ≡ true
acting_touched t (Enter a) h = h
acting_touched t (Spawn a b) h = let e = one t a.0 h in ap (λ x. touches x (Spawn a b)) (sym e) ∙ first_touched (Spawn a b)
acting_touched t (Comm a b) h = h
acting_touched t (Get a q) h = h
acting_touched t (Set a) h = h
acting_touched t (NewRef a) h = h
acting_touched t (Pin a) h = h

-- a node reads one write
pub reads_one : (p q : ℕ) (k : NodeFor) → reads p k ≡ true → reads q k ≡ true → p ≡ q
reads_one p q (Enter a) h i = absurd (cc)
reads_one p q (Spawn a b) h i = absurd (cc)
reads_one p q (Comm a b) h i = absurd (cc)
reads_one p q (Get a r) h i = eqb-true p r.0 h ∙ sym (eqb-true q r.0 i)
reads_one p q (Set a) h i = absurd (cc)
reads_one p q (NewRef a) h i = absurd (cc)
reads_one p q (Pin a) h i = absurd (cc)

unless_parts : (t : ℕ) (o : Option ThreadId) (x : ThreadId) → unless t o ≡ Some x → (o ≡ Some x) × (x.0 ≢ t)
unless_parts t None x h = absurd (cc)
unless_parts t (Some u) x h = elim (eqb_tells u.0 t) [
  | inl y ↦ (let none : None ≡ Some x = sym (ap (λ b. cond b None (Some u)) y.0) ∙ h in absurd (cc))
  | inr n ↦ (let some : Some u ≡ Some x = sym (ap (λ b. cond b None (Some u)) n.0) ∙ h in (some, λ e. n.1 (let same : u ≡ x = cc in ap (λ (v : ThreadId). v.0) same ∙ e)))
]

-- the second thread, where it isn't the first one again
pub other_parts : (k : NodeFor) (x : ThreadId) → other_of k ≡ Some x → (second_of k ≡ Some x) × (x.0 ≢ (first_of k).0)
other_parts k x h = unless_parts (first_of k).0 (second_of k) x h

pub touched_two : (t : ℕ) (k : NodeFor) → touches t k ≡ true → (t ≡ (first_of k).0) ⊎ ((x : ThreadId) × (other_of k ≡ Some x) × (x.0 ≡ t))
touched_two t k h = elim (touched_by t k h) [
  | inl e ↦ inl (sym e)
  | inr s ↦ elim (eqb_tells s.0.0 (first_of k).0) [
    | inl y ↦ inl (sym s.2 ∙ y.1)
    | inr n ↦ inr (s.0, ap (unless (first_of k).0) s.1 ∙ ap (λ b. cond b None (Some s.0)) n.0, s.2)
  ]
]

pub reads_it : (k : NodeFor) (q : Seq) → read_by k ≡ Some q → reads q.0 k ≡ true
reads_it (Enter a) q h = absurd (cc)
reads_it (Spawn a b) q h = absurd (cc)
reads_it (Comm a b) q h = absurd (cc)
reads_it (Get a r) q h = let s : r ≡ q = cc in eq-eqb q.0 r.0 (ap (λ (x : Seq). x.0) (sym s))
reads_it (Set a) q h = absurd (cc)
reads_it (NewRef a) q h = absurd (cc)
reads_it (Pin a) q h = absurd (cc)

pub reads_nothing : (k : NodeFor) (m : ℕ) → read_by k ≡ None → reads m k ≡ false
reads_nothing (Enter a) m h = refl
reads_nothing (Spawn a b) m h = refl
reads_nothing (Comm a b) m h = refl
reads_nothing (Get a r) m h = absurd (cc)
reads_nothing (Set a) m h = refl
reads_nothing (NewRef a) m h = refl
reads_nothing (Pin a) m h = refl
