-- Entries after a drop at either end.
use Rattle.std.proofs.Common.{◌≡◌, ℕ, suc, ◌+◌, ◌<◌, Bool, true, false, not, cond, List, [], ◌∷◌, ◌++◌, length, get_or, ◌-◌, Option, Some, None, refl, sym, ap, subst, ◌∙◌, arith, inl, inr, length-append}
use Rattle.std.proofs.lemmas.Bool.{cases_eq, cases_lt, cases_Bool}
use Rattle.comm_graph.specs.declared.table.Entry.{Entry}
use Rattle.comm_graph.specs.Node.{Node}
use Rattle.comm_graph.specs.Table.{entry_at, nodes_of}
use Rattle.comm_graph.specs.Sound.{IsClosed, IsEndStruck, IsTrimmed, IsDropped, IsFirstBelow}
use Rattle.std.specs.Option.{IsSome, option_to_list}
use Rattle.std.proofs.lemmas.Option.{slice_get_read}
use Rattle.comm_graph.proofs.Tables.{push_other, push_same, in_range, at_index, at_behind}

clash : {X : Type 0} (b : Bool) → b ≡ true → b ≡ false → X
clash b t f = absurd (cc)

pub nodes_append : (es fs : List Entry) → nodes_of (es ++ fs) ≡ nodes_of es ++ nodes_of fs
nodes_append [] fs = refl
nodes_append (e ∷ es) fs = elim (cases_Bool e.live) [
  | inl t ↦ ap (λ b. cond b (record { number = e.number.0; kind = e.kind } ∷ nodes_of (es ++ fs)) (nodes_of (es ++ fs))) t ∙ ap (λ ns. record { number = e.number.0; kind = e.kind } ∷ ns) (nodes_append es fs)
      ∙ sym (ap (λ b. cond b (record { number = e.number.0; kind = e.kind } ∷ nodes_of es) (nodes_of es) ++ nodes_of fs) t)
  | inr f ↦ ap (λ b. cond b (record { number = e.number.0; kind = e.kind } ∷ nodes_of (es ++ fs)) (nodes_of (es ++ fs))) f ∙ nodes_append es fs
      ∙ sym (ap (λ b. cond b (record { number = e.number.0; kind = e.kind } ∷ nodes_of es) (nodes_of es) ++ nodes_of fs) f)
]

append_nil : (ns : List Node) → ns ++ [] ≡ ns
append_nil [] = refl
append_nil (n ∷ ns) = ap (λ r. n ∷ r) (append_nil ns)

pub trimmed_more : (es fs gs : List Entry) (e : Entry) (g : ℕ) → IsTrimmed es fs g → fs ≡ gs ++ e ∷ [] → e.live ≡ false → IsTrimmed es gs g
trimmed_more es fs gs e g t split dead =
    let n : length fs ≡ length gs + 1 = ap length split ∙ length-append gs (e ∷ []) in
    record {
      nodes =
          let last : nodes_of (e ∷ []) ≡ [] = ap (λ b. cond b (record { number = e.number.0; kind = e.kind } ∷ []) []) dead in
          sym (ap nodes_of split ∙ nodes_append gs (e ∷ []) ∙ ap (λ ns. nodes_of gs ++ ns) last ∙ append_nil (nodes_of gs)) ∙ t.nodes;
      count = let c = t.count in omega arith;
      kept = λ k x h.
          let r = in_range gs g k x h in
          t.kept k x (ap (λ l. entry_at l g k) split ∙ push_other gs e g k (λ s. omega arith) ∙ h);
      live = λ k x h l.
          let f = t.live k x h l in
          elim (cases_eq k (suc (g + length gs))) [
            | inl s ↦
                let both : Some x ≡ Some e = sym f ∙ ap (λ y. entry_at y g k) split ∙ push_same gs e g k s in
                let same : x ≡ e = cc in
                clash e.live (sym (ap (λ (y : Entry). y.live) same) ∙ l) dead
            | inr n2 ↦ sym (push_other gs e g k n2) ∙ sym (ap (λ y. entry_at y g k) split) ∙ f
          ];
    }

shift : (a b : ℕ) → a + suc b ≡ suc a + b
shift a b = omega arith

zero_more : (g : ℕ) → g ≡ g + 0
zero_more g = omega arith

-- what stands behind a part that is dropped
pub drop_other : (ds fs : List Entry) (g k : ℕ) → g + length ds < k → entry_at (ds ++ fs) g k ≡ entry_at fs (g + length ds) k
drop_other [] fs g k lt = ap (λ n. entry_at fs n k) (zero_more g)
drop_other (d ∷ ds) fs g k lt = at_behind d (ds ++ fs) g k (omega arith) ∙ drop_other ds fs (suc g) k (omega arith) ∙ ap (λ n. entry_at fs n k) (sym (shift g (length ds)))

append_assoc_one : (ds fs : List Entry) (e : Entry) → ds ++ (e ∷ fs) ≡ (ds ++ e ∷ []) ++ fs
append_assoc_one [] fs e = refl
append_assoc_one (d ∷ ds) fs e = ap (λ r. d ∷ r) (append_assoc_one ds fs e)

one_node : (e : Entry) → length (nodes_of (e ∷ [])) ≡ cond e.live 1 0
one_node e = let n : Node = record { number = e.number.0; kind = e.kind } in elim e.live as (λ b. length (cond b (n ∷ []) []) ≡ cond b 1 0) [ true ↦ refl | false ↦ refl ]

pub dropped_more : (es : List Entry) (g : ℕ) (fs : List Entry) (g' : ℕ) (gs : List Entry) (g'' q n : ℕ) (live : Bool) → IsDropped es g fs g' q n → IsFirstBelow fs g' gs g'' q live → IsDropped es g gs g'' q (n + cond live 1 0)
dropped_more es g fs g' gs g'' q n live d f =
    let ds = d.dropped in
    let e = f.first in
    let len = length-append ds (e ∷ []) in
    record {
      dropped = ds ++ e ∷ [];
      split = d.split ∙ ap (λ l. ds ++ l) f.split ∙ append_assoc_one ds gs e;
      moved = omega (arith, f.moved, d.moved);
      below = λ k x h. elim (cases_eq k (suc (g + length ds))) [
        | inl s ↦
            let both : Some x ≡ Some e = sym h ∙ push_same ds e g k s in
            let same : x ≡ e = cc in
            subst (λ (y : Entry). y.number.0 < q) (sym same) f.below
        | inr m ↦ d.below k x (sym (push_other ds e g k m) ∙ h)
      ];
      count =
          let a : length (nodes_of (ds ++ e ∷ [])) ≡ length (nodes_of ds) + cond e.live 1 0 = ap length (nodes_append ds (e ∷ [])) ∙ length-append (nodes_of ds) (nodes_of (e ∷ [])) ∙ ap (λ m. length (nodes_of ds) + m) (one_node e) in
          ap (λ m. m + cond live 1 0) d.count ∙ ap (λ b. length (nodes_of ds) + cond b 1 0) f.live_is ∙ sym a;
    }

-- the last entry
pub last_at : (es : List Entry) (g n : ℕ) (e : Entry) → n ≡ length es → 0 < n → e ≡ get_or es (n - 1) e → entry_at es g (g + length es) ≡ Some e
last_at es g n e len pos is = at_index es g (n - 1) (g + length es) (omega arith) ∙ slice_get_read es n (n - 1) e len (omega arith) is

pub closed_by : (es : List Entry) (g : ℕ) (e : Entry) → entry_at es g (g + length es) ≡ Some e → e.live ≡ true → IsClosed es g
closed_by es g e at live = λ x h. let both : Some x ≡ Some e = sym h ∙ at in let same : x ≡ e = cc in ap (λ (y : Entry). y.live) same ∙ live

pub closed_empty : (es : List Entry) (g : ℕ) → length es ≡ 0 → IsClosed es g
closed_empty es g z = λ x h. let r = in_range es g (g + length es) x h in absurd (omega arith)

pub popped : (es fs : List Entry) (g : ℕ) (o : Option Entry) → IsEndStruck es g → es ≡ fs ++ option_to_list o → IsSome o → (e : Entry) × (es ≡ fs ++ e ∷ []) × (e.live ≡ false)
popped es fs g None dead split some = absurd (cc)
popped es fs g (Some x) dead split some =
    let n : length es ≡ length fs + 1 = ap length split ∙ length-append fs (x ∷ []) in
    let both : Some x ≡ Some dead.last = sym (ap (λ y. entry_at y g (g + length es)) split ∙ push_same fs x g (g + length es) (omega arith)) ∙ dead.at in
    let same : x ≡ dead.last = cc in
    (x, split, ap (λ (y : Entry). y.live) same ∙ dead.dead)

pub struck_some : (es : List Entry) (g : ℕ) → IsEndStruck es g → 0 < length es
struck_some es g d = let r = in_range es g (g + length es) d.last d.at in omega arith

pub unnot_true : (b : Bool) → not b ≡ true → b ≡ false
unnot_true true h = absurd (cc)
unnot_true false h = refl

pub unnot_false : (b : Bool) → not b ≡ false → b ≡ true
unnot_false true h = refl
unnot_false false h = absurd (cc)

pub empty_from : (es : List Entry) (n : ℕ) → n ≡ length es → (0 < n → ⊥) → length es ≡ 0
empty_from es n len none = elim (cases_lt 0 n) [ inl lt ↦ absurd (none lt) | inr ge ↦ omega arith ]

pub first_at : (es : List Entry) (g n : ℕ) (e : Entry) → n ≡ length es → 0 < n → e ≡ get_or es 0 e → entry_at es g (suc g) ≡ Some e
first_at es g n e len pos is = at_index es g 0 (suc g) (omega arith) ∙ slice_get_read es n 0 e len pos is
