-- Entries by their places, after a change, a push and a drop.
use Rattle.std.proofs.Common.{◌≡◌, ◌≢◌, ℕ, zero, suc, ◌+◌, ◌-◌, ◌<◌, ◌≤◌, true, false, cond, nat_eq, List, [], ◌∷◌, ◌++◌, length, Some, None, refl, sym, ap, ◌∙◌, arith, inl, inr, eq-eqb, get_or}
use Rattle.std.specs.Option.{option_map}
use Rattle.std.specs.List.{slice_get, slice_set}
use Rattle.std.proofs.lemmas.Bool.{cases_eq, cases_lt}
use Rattle.std.proofs.lemmas.Bool.Decides.{eqb_tells}
use Rattle.comm_graph.specs.declared.table.Entry.{Entry}
use Rattle.std.proofs.lemmas.Option.{slice_get_within}
use Rattle.comm_graph.specs.Table.{entry_at, change, IsSorted, IsFound}

pub apart : (a b : ℕ) → a ≢ b → nat_eq a b ≡ false
apart a b ne = elim (eqb_tells a b) [ inl t ↦ absurd (ne t.1) | inr f ↦ f.0 ]

pub below_none : (es : List Entry) (g p : ℕ) → p ≤ g → entry_at es g p ≡ None
below_none [] g p le = refl
below_none (e ∷ es) g p le = ap (λ b. cond b (Some e) (entry_at es (suc g) p)) (apart p (suc g) (λ s. omega arith)) ∙ below_none es (suc g) p (omega arith)

pub at_behind : (e : Entry) (es : List Entry) (g p : ℕ) → suc g < p → entry_at (e ∷ es) g p ≡ entry_at es (suc g) p
at_behind e es g p lt = ap (λ b. cond b (Some e) (entry_at es (suc g) p)) (apart p (suc g) (λ s. omega arith))

pub at_front : (e : Entry) (es : List Entry) (g p : ℕ) → p ≡ suc g → entry_at (e ∷ es) g p ≡ Some e
at_front e es g p s = ap (λ b. cond b (Some e) (entry_at es (suc g) p)) (eq-eqb p (suc g) s)

pub at_index : (es : List Entry) (g i p : ℕ) → p ≡ suc g + i → entry_at es g p ≡ slice_get es i
at_index [] g i p s = refl
at_index (e ∷ es) g zero p s = at_front e es g p (omega arith)
at_index (e ∷ es) g (suc i) p s = at_behind e es g p (omega arith) ∙ at_index es (suc g) i p (omega arith)

pub in_range : (es : List Entry) (g p : ℕ) (e : Entry) → entry_at es g p ≡ Some e → (g < p) × (p ≤ g + length es)
in_range [] g p e h = absurd (cc)
in_range (x ∷ es) g p e h = elim (cases_eq p (suc g)) [
  | inl s ↦ (omega arith, omega arith)
  | inr n ↦ let r = in_range es (suc g) p e (sym (ap (λ b. cond b (Some x) (entry_at es (suc g) p)) (apart p (suc g) n)) ∙ h) in (omega arith, omega arith)
]

pub change_low : (f : Entry → Entry) (es : List Entry) (g p : ℕ) → p ≤ g → change f g p es ≡ es
change_low f [] g p le = refl
change_low f (e ∷ es) g p le = ap (λ b. cond b (f e ∷ es) (e ∷ change f (suc g) p es)) (apart p (suc g) (λ s. omega arith)) ∙ ap (λ r. e ∷ r) (change_low f es (suc g) p (omega arith))

pub change_set : (f : Entry → Entry) (es : List Entry) (g i p : ℕ) (d : Entry) → p ≡ suc g + i → i < length es → d ≡ get_or es i d → slice_set es i (f d) ≡ change f g p es
change_set f [] g i p d s lt at = absurd (omega arith)
change_set f (e ∷ es) g zero p d s lt at = ap (λ x. f x ∷ es) at ∙ sym (ap (λ b. cond b (f e ∷ es) (e ∷ change f (suc g) p es)) (eq-eqb p (suc g) (omega arith)))
change_set f (e ∷ es) g (suc i) p d s lt at =
    ap (λ r. e ∷ r) (change_set f es (suc g) i p d (omega arith) (omega arith) at)
    ∙ sym (ap (λ b. cond b (f e ∷ es) (e ∷ change f (suc g) p es)) (apart p (suc g) (λ n. omega arith)))

pub change_same : (f : Entry → Entry) (es : List Entry) (g p : ℕ) → entry_at (change f g p es) g p ≡ option_map f (entry_at es g p)
change_same f [] g p = refl
change_same f (e ∷ es) g p = elim (cases_eq p (suc g)) [
  | inl s ↦ ap (λ b. entry_at (cond b (f e ∷ es) (e ∷ change f (suc g) p es)) g p) (eq-eqb p (suc g) s) ∙ at_front (f e) es g p s ∙ sym (ap (option_map f) (at_front e es g p s))
  | inr n ↦
      ap (λ b. entry_at (cond b (f e ∷ es) (e ∷ change f (suc g) p es)) g p) (apart p (suc g) n)
      ∙ ap (λ b. cond b (Some e) (entry_at (change f (suc g) p es) (suc g) p)) (apart p (suc g) n)
      ∙ change_same f es (suc g) p
      ∙ sym (ap (λ b. option_map f (cond b (Some e) (entry_at es (suc g) p))) (apart p (suc g) n))
]

pub change_other : (f : Entry → Entry) (es : List Entry) (g p k : ℕ) → k ≢ p → entry_at (change f g p es) g k ≡ entry_at es g k
change_other f [] g p k n = refl
change_other f (e ∷ es) g p k n = elim (cases_eq p (suc g)) [
  | inl s ↦
      ap (λ b. entry_at (cond b (f e ∷ es) (e ∷ change f (suc g) p es)) g k) (eq-eqb p (suc g) s)
      ∙ ap (λ b. cond b (Some (f e)) (entry_at es (suc g) k)) (apart k (suc g) (λ t. n (omega arith)))
      ∙ sym (ap (λ b. cond b (Some e) (entry_at es (suc g) k)) (apart k (suc g) (λ t. n (omega arith))))
  | inr m ↦
      ap (λ b. entry_at (cond b (f e ∷ es) (e ∷ change f (suc g) p es)) g k) (apart p (suc g) m)
      ∙ ap (λ r. cond (nat_eq k (suc g)) (Some e) r) (change_other f es (suc g) p k n)
]

pub push_other : (es : List Entry) (e : Entry) (g k : ℕ) → k ≢ suc (g + length es) → entry_at (es ++ e ∷ []) g k ≡ entry_at es g k
push_other [] e g k n = ap (λ b. cond b (Some e) None) (apart k (suc g) (λ s. n (omega arith)))
push_other (x ∷ es) e g k n = ap (λ r. cond (nat_eq k (suc g)) (Some x) r) (push_other es e (suc g) k (λ s. n (omega arith)))

pub push_same : (es : List Entry) (e : Entry) (g k : ℕ) → k ≡ suc (g + length es) → entry_at (es ++ e ∷ []) g k ≡ Some e
push_same [] e g k s = at_front e [] g k (omega arith)
push_same (x ∷ es) e g k s = at_behind x (es ++ e ∷ []) g k (omega arith) ∙ push_same es e (suc g) k (omega arith)

pub change_length : (f : Entry → Entry) (es : List Entry) (g p : ℕ) → length (change f g p es) ≡ length es
change_length f [] g p = refl
change_length f (e ∷ es) g p = elim (cases_eq p (suc g)) [
  | inl s ↦ ap (λ b. length (cond b (f e ∷ es) (e ∷ change f (suc g) p es))) (eq-eqb p (suc g) s)
  | inr n ↦ ap (λ b. length (cond b (f e ∷ es) (e ∷ change f (suc g) p es))) (apart p (suc g) n) ∙ ap suc (change_length f es (suc g) p)
]

-- entries that rise by place rise by index
pub sorted_get : (es : List Entry) (g i j : ℕ) (e f : Entry) → IsSorted es g → i < j → slice_get es i ≡ Some e → slice_get es j ≡ Some f → e.number.0 < f.number.0
sorted_get es g i j e f s lt a b = s.rise (suc g + i) (suc g + j) e f (at_index es g i (suc g + i) refl ∙ a) (at_index es g j (suc g + j) refl ∙ b) (omega arith)

pub same_entry : (es : List Entry) (i j : ℕ) (e f : Entry) → i ≡ j → slice_get es i ≡ Some e → slice_get es j ≡ Some f → e ≡ f
same_entry es i j e f s a b = let h : Some e ≡ Some f = sym a ∙ ap (slice_get es) s ∙ b in cc

pub found_at : (es : List Entry) (g i p q : ℕ) (e : Entry) → p ≡ suc g + i → slice_get es i ≡ Some e → e.number.0 ≡ q → e.live ≡ true → IsFound es g q p
found_at es g i p q e s at n l = record { entry = e; at = at_index es g i p s ∙ at; live = l; number = n }

-- where a node with the number stands, there is an index with its entry
pub index_of : (es : List Entry) (g p q : ℕ) → IsFound es g q p → (j : ℕ) × (e : Entry) × (slice_get es j ≡ Some e) × (e.number.0 ≡ q) × (e.live ≡ true)
index_of es g p q f =
    let r = in_range es g p f.entry f.at in
    (p - suc g, f.entry, sym (at_index es g (p - suc g) p (omega arith)) ∙ f.at, f.number, f.live)

-- the number is not there, where the first entry that is not below it is another one
pub none_found : (es : List Entry) (g i q : ℕ) (e : Entry) → IsSorted es g
    → ((k : ℕ) (x : Entry) → k < i → slice_get es k ≡ Some x → x.number.0 < q) → ((k : ℕ) (x : Entry) → i ≤ k → slice_get es k ≡ Some x → q ≤ x.number.0)
    → slice_get es i ≡ Some e → (e.number.0 ≡ q → e.live ≡ true → ⊥) → (p : ℕ) → IsFound es g q p → ⊥
none_found es g i q e s below above at other p f =
    let w = index_of es g p q f in
    elim (cases_eq w.0 i) [
      | inl same ↦ let eq = same_entry es w.0 i w.1 e same w.2 at in other (sym (ap (λ (x : Entry). x.number.0) eq) ∙ w.3) (sym (ap (λ (x : Entry). x.live) eq) ∙ w.4)
      | inr ne ↦ elim (cases_lt w.0 i) [
        | inl lt ↦ omega (arith, below w.0 w.1 lt w.2, w.3)
        | inr ge ↦ omega (arith, sorted_get es g i w.0 e w.1 s (omega arith) at w.2, above i e (omega arith) at, w.3)
      ]
    ]

pub none_past : (es : List Entry) (g i q : ℕ) → length es ≤ i → ((k : ℕ) (x : Entry) → k < i → slice_get es k ≡ Some x → x.number.0 < q) → (p : ℕ) → IsFound es g q p → ⊥
none_past es g i q le below p f =
    let w = index_of es g p q f in
    omega (arith, below w.0 w.1 (omega (arith, slice_get_within es w.0 w.1 w.2)) w.2, w.3)
