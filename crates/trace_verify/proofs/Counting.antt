-- An undo is counted once for each thread that it puts back.
use Rattle.std.proofs.Common.{◌≡◌, ℕ, suc, ◌+◌, ◌<◌, ◌≤◌, Bool, true, false, cond, ◌||◌, nat_eq, List, [], ◌∷◌, length, get_or, take, add-one, refl, sym, ap, ◌∙◌, arith}
use Rattle.std.proofs.Math.Seq.{take-suc}
use Rattle.std.specs.Prelude.{Option, Some, option_map, unwrap_or}
use Rattle.std.specs.BTreeMap.{is_at}
use Rattle.std.specs.Cmp.{nat_eq_equiv, nat_cmp_total, eq_by_cmp_equiv, unsigned_tied}
use Rattle.std.specs.Ordering.{nat_cmp}
use Rattle.std.specs.List.{list_any}
use Rattle.std.proofs.lemmas.Bool.{eqb-true, ne_eqb}
use Rattle.std.proofs.lemmas.List.Folds.{list_any-append}
use Rattle.stab_journal.specs.declared.event.Numbered.{Numbered}
use Rattle.stab_journal.specs.Label.{actors}
use Rattle.stab_journal.specs.Names.{has}
use Rattle.trace_verify.specs.declared.generations.Generations.{Generations}
use Rattle.trace_verify.specs.declared.generations.PutBack.{PutBack}
use Rattle.trace_verify.specs.Generations.{AreBefore, Counts, last, times}

-- the undo numbered q is counted for the threads that pass
abbrev pub CountsAll : ℕ → (ℕ → Bool) → Generations → Generations → Type 0
CountsAll q p g h = (u : ℕ) → (times h u ≡ cond (p u) (suc (times g u)) (times g u)) × (last h u ≡ cond (p u) q (last g u))

at_one : (q t k l k' l' : ℕ) (here passed : Bool) → l < q → k' ≡ cond passed (suc k) k → l' ≡ cond passed q l → cond here (cond (nat_eq l' q) k' (suc k')) k' ≡ cond (here || passed) (suc k) k
at_one q t k l k' l' true true lt times_are last_is = ap (λ b. cond b k' (suc k')) (ap (λ x. nat_eq x q) last_is ∙ nat_eq_equiv.refl q) ∙ times_are
at_one q t k l k' l' true false lt times_are last_is = ap (λ b. cond b k' (suc k')) (ap (λ x. nat_eq x q) last_is ∙ ne_eqb l q (λ e. omega arith)) ∙ ap suc times_are
at_one q t k l k' l' false true lt times_are last_is = times_are
at_one q t k l k' l' false false lt times_are last_is = times_are

last_one : (q l l' : ℕ) (here passed : Bool) → l' ≡ cond passed q l → cond here q l' ≡ cond (here || passed) q l
last_one q l l' true passed is = refl
last_one q l l' false passed is = is

-- one thread more
pub count_one : (q t : ℕ) (p : ℕ → Bool) (g h k : Generations) → AreBefore q g → CountsAll q p g h → Counts q t h k → CountsAll q (λ u. nat_eq u t || p u) g k
count_one q t p g h k before all one u = (
  (one u).0 ∙ at_one q t (times g u) (last g u) (times h u) (last h u) (nat_eq u t) (p u) (before u).1 (all u).0 (all u).1,
  (one u).1 ∙ last_one q (last g u) (last h u) (nat_eq u t) (p u) (all u).1,
)

of_cond : (b : Bool) (k l q k' l' : ℕ) → k ≤ l → l < q → k' ≡ cond b (suc k) k → l' ≡ cond b q l → (k' ≤ l') × (l' < q + 1)
of_cond true k l q k' l' le lt ks ls = (omega arith, omega arith)
of_cond false k l q k' l' le lt ks ls = (omega arith, omega arith)

-- what is counted of undos up to q
pub still_before : (q : ℕ) (p : ℕ → Bool) (g h : Generations) → AreBefore q g → CountsAll q p g h → AreBefore (q + 1) h
still_before q p g h before all u = of_cond (p u) (times g u) (last g u) q (times h u) (last h u) (before u).0 (before u).1 (all u).0 (all u).1

or_none : (b : Bool) → (b || false) ≡ b
or_none true = refl
or_none false = refl

or_swap : (a b c : Bool) → (b || (a || c)) ≡ (c || (a || b))
or_swap true true true = refl
or_swap true true false = refl
or_swap true false true = refl
or_swap true false false = refl
or_swap false true true = refl
or_swap false true false = refl
or_swap false false true = refl
or_swap false false false = refl

-- the thread acts in one of the first i steps
abbrev pub acts_so_far : List Numbered → ℕ → ℕ → Bool
acts_so_far ns i t = list_any (λ (n : Numbered). has (actors n.label) t) (take i ns)

-- one step more
pub count_step : (q i t u : ℕ) (ns : List Numbered) (d : Numbered) (g h k l : Generations) → AreBefore q g → i < length ns
    → ((x : ℕ) → has (actors (get_or ns i d).label) x ≡ (nat_eq x t || nat_eq x u)) → CountsAll q (acts_so_far ns i) g h → Counts q t h k → Counts q u k l → CountsAll q (acts_so_far ns (i + 1)) g l
count_step q i t u ns d g h k l before lt acts all one two x =
    let both = count_one q u (λ y. nat_eq y t || acts_so_far ns i y) g k l before (count_one q t (acts_so_far ns i) g h k before all one) two x in
    let is : acts_so_far ns (i + 1) x ≡ (nat_eq x u || (nat_eq x t || acts_so_far ns i x)) =
    ap (list_any (λ (n : Numbered). has (actors n.label) x)) (ap (λ k. take k ns) (add-one i) ∙ take-suc ns i d lt)
    ∙ list_any-append (λ (n : Numbered). has (actors n.label) x) (take i ns) (get_or ns i d ∷ [])
    ∙ ap (λ b. acts_so_far ns i x || b) (or_none (has (actors (get_or ns i d).label) x) ∙ acts x)
    ∙ sym (or_swap (nat_eq x t) (nat_eq x u) (acts_so_far ns i x)) in (
      both.0 ∙ ap (λ b. cond b (suc (times g x)) (times g x)) (sym is),
      both.1 ∙ ap (λ b. cond b q (last g x)) (sym is),
    )

same_key : (t u : ℕ) → is_at (nat_cmp t) u ≡ nat_eq u t
same_key t u = (eq_by_cmp_equiv nat_cmp_total).symm t u ∙ unsigned_tied u t

read_at : (f : PutBack → ℕ) (b : Bool) (v : PutBack) (o : Option PutBack) → unwrap_or (option_map f (cond b (Some v) o)) 0 ≡ cond b (f v) (unwrap_or (option_map f o) 0)
read_at f true v o = refl
read_at f false v o = refl

-- what is read after an entry was put in
pub read_after : (f : PutBack → ℕ) (t u : ℕ) (v : PutBack) (o o' : Option PutBack) → o' ≡ cond (is_at (nat_cmp t) u) (Some v) o → unwrap_or (option_map f o') 0 ≡ cond (nat_eq u t) (f v) (unwrap_or (option_map f o) 0)
read_after f t u v o o' is = ap (λ x. unwrap_or (option_map f x) 0) is ∙ read_at f (is_at (nat_cmp t) u) v o ∙ ap (λ b. cond b (f v) (unwrap_or (option_map f o) 0)) (same_key t u)

-- a thread that the undo didn't count yet
pub not_yet : (q t u : ℕ) (k l : ℕ → ℕ) → (l t ≡ q → ⊥) → cond (nat_eq u t) (k t + 1) (k u) ≡ cond (nat_eq u t) (cond (nat_eq (l u) q) (k u) (suc (k u))) (k u)
not_yet q t u k l apart =
    elim (nat_eq u t) as (λ b. nat_eq u t ≡ b → cond b (k t + 1) (k u) ≡ cond b (cond (nat_eq (l u) q) (k u) (suc (k u))) (k u)) [
      | true ↦ λ is.
          let same : u ≡ t = eqb-true u t is in
          add-one (k t) ∙ ap (λ x. suc (k x)) (sym same) ∙ sym (ap (λ b. cond b (k u) (suc (k u))) (ne_eqb (l u) q (λ e. apart (ap l (sym same) ∙ e))))
      | false ↦ λ is. refl
    ] refl

-- a thread that it counted
pub yet : (q t u : ℕ) (k l : ℕ → ℕ) → l t ≡ q → (k u ≡ cond (nat_eq u t) (cond (nat_eq (l u) q) (k u) (suc (k u))) (k u)) × (l u ≡ cond (nat_eq u t) q (l u))
yet q t u k l same =
    elim (nat_eq u t) as (λ b. nat_eq u t ≡ b → (k u ≡ cond b (cond (nat_eq (l u) q) (k u) (suc (k u))) (k u)) × (l u ≡ cond b q (l u))) [
      | true ↦ λ is.
          let at : l u ≡ q = ap l (eqb-true u t is) ∙ same in
          (sym (ap (λ b. cond b (k u) (suc (k u))) (ap (λ x. nat_eq x q) at ∙ nat_eq_equiv.refl q)), at)
      | false ↦ λ is. (refl, refl)
    ] refl
