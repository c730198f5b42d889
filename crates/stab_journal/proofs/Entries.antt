-- The numbers of the struck entries.
use Rattle.std.proofs.Common.{◌≡◌, ℕ, zero, suc, ◌+◌, ◌<◌, Bool, true, false, cond, ◌||◌, nat_eq, List, [], ◌∷◌, ◌++◌, length, Some, refl, sym, ap, ◌∙◌, arith, add-zero, eq-eqb}
use Rattle.std.specs.Ordering.{nat_cmp}
use Rattle.std.specs.Cmp.{nat_cmp_total, nat_eq_equiv}
use Rattle.std.specs.List.{slice_get, list_any, slice_set}
use Rattle.std.specs.FinSet.{contains, insert, from_list, contains-from_list_nat, same_set, nat_cmp-IsAntisymmetric}
use Rattle.stab_journal.specs.Entry.{Entry}
use Rattle.stab_journal.specs.View.{struck_from}
use Rattle.stab_journal.proofs.Events.{next_place, member_struck}
use Rattle.std.proofs.lemmas.Bool.Decides.{nat_tests}

-- one more entry that isn't struck
pub struck_from-push : (q : ℕ) (es : List Entry) (e : Entry) → e.struck ≡ false → struck_from q (es ++ e ∷ []) ≡ struck_from q es
struck_from-push q [] e new = ap (λ b. cond b (q ∷ []) []) new
struck_from-push q (x ∷ es) e new = ap (λ r. cond x.struck (q ∷ r) r) (struck_from-push (suc q) es e new)

abbrev has : List ℕ → ℕ → Bool
has ns q = list_any (λ y. nat_eq y q) ns

has-cond : (b : Bool) (q m : ℕ) (ns : List ℕ) → has (cond b (q ∷ ns) ns) m ≡ (cond b (nat_eq q m) false || has ns m)
has-cond true q m ns = refl
has-cond false q m ns = refl

-- numbers below the first aren't struck
struck_from-below : (q : ℕ) (es : List Entry) (m : ℕ) → m < q → has (struck_from q es) m ≡ false
struck_from-below q [] m low = refl
struck_from-below q (x ∷ es) m low =
    let later = struck_from-below (suc q) es m (omega arith) in
    let apart : nat_eq q m ≡ false = grind (arith, nat_tests) in
    has-cond x.struck q m (struck_from (suc q) es) ∙ elim x.struck as (λ b. (cond b (nat_eq q m) false || has (struck_from (suc q) es) m) ≡ false) [ true ↦ cc | false ↦ later ]

one_more : (i : ℕ) → suc i ≡ 1 + i
one_more i = omega arith

first_at : (b : Bool) (q : ℕ) (es : List Entry) → has (cond b (q ∷ struck_from (suc q) es) (struck_from (suc q) es)) (q + 0) ≡ b
first_at true q es = let same : nat_eq q (q + 0) ≡ true = eq-eqb q (q + 0) (sym (add-zero q)) in ap (λ b. b || has (struck_from (suc q) es) (q + 0)) same
first_at false q es = struck_from-below (suc q) es (q + 0) (omega arith)

later_at : (b : Bool) (q i : ℕ) (ns : List ℕ) → has (cond b (q ∷ ns) ns) (q + suc i) ≡ has ns (suc q + i)
later_at true q i ns = let apart : nat_eq q (q + suc i) ≡ false = grind (arith, nat_tests) in ap (λ b. b || has ns (q + suc i)) apart ∙ ap (has ns) (next_place q i)
later_at false q i ns = ap (has ns) (next_place q i)

-- the number of an entry is struck where the entry is
struck_from-at : (q : ℕ) (es : List Entry) (i : ℕ) (e : Entry) → slice_get es i ≡ Some e → has (struck_from q es) (q + i) ≡ e.struck
struck_from-at q [] i e at = cc
struck_from-at q (x ∷ es) zero e at = let same : x ≡ e = cc in first_at x.struck q es ∙ ap (λ (y : Entry). y.struck) same
struck_from-at q (x ∷ es) (suc i) e at = later_at x.struck q i (struck_from (suc q) es) ∙ struck_from-at (suc q) es i e at

twice : (a b c : Bool) → (a || c) ≡ (a || (cond b a false || c))
twice true b c = refl
twice false true c = refl
twice false false c = refl

or_swap : (a b c : Bool) → (a || (b || c)) ≡ (b || (a || c))
or_swap true true c = refl
or_swap true false c = refl
or_swap false b c = refl

-- an entry is struck: its number joins the others
struck_from-set : (q : ℕ) (es : List Entry) (i : ℕ) (e : Entry) (m : ℕ) → i < length es → e.struck ≡ true → has (struck_from q (slice_set es i e)) m ≡ (nat_eq (q + i) m || has (struck_from q es) m)
struck_from-set q [] i e m in_it struck = absurd (omega arith)
struck_from-set q (x ∷ es) zero e m in_it struck =
    ap (λ b. has (cond b (q ∷ struck_from (suc q) es) (struck_from (suc q) es)) m) struck
    ∙ twice (nat_eq q m) x.struck (has (struck_from (suc q) es) m)
    ∙ ap (λ b. nat_eq q m || b) (sym (has-cond x.struck q m (struck_from (suc q) es)))
    ∙ ap (λ n. nat_eq n m || has (struck_from q (x ∷ es)) m) (sym (add-zero q))
struck_from-set q (x ∷ es) (suc i) e m in_it struck =
    has-cond x.struck q m (struck_from (suc q) (slice_set es i e))
    ∙ ap (λ b. cond x.struck (nat_eq q m) false || b) (struck_from-set (suc q) es i e m (omega arith) struck)
    ∙ or_swap (cond x.struck (nat_eq q m) false) (nat_eq (suc q + i) m) (has (struck_from (suc q) es) m)
    ∙ ap (λ b. nat_eq (suc q + i) m || b) (sym (has-cond x.struck q m (struck_from (suc q) es)))
    ∙ ap (λ n. nat_eq n m || has (struck_from q (x ∷ es)) m) (sym (next_place q i))

-- the set of struck numbers tells whether an entry is struck
pub contains-struck : (es : List Entry) (i : ℕ) (e : Entry) → slice_get es i ≡ Some e → contains (from_list {R = nat_cmp} (struck_from 1 es)) (suc i) ≡ e.struck
contains-struck es i e at = contains-from_list_nat (struck_from 1 es) (suc i) ∙ ap (has (struck_from 1 es)) (one_more i) ∙ struck_from-at 1 es i e at

-- an entry is struck: its number joins the set
pub from_list-struck : (es : List Entry) (i : ℕ) (e : Entry) → i < length es → e.struck ≡ true → from_list {R = nat_cmp} (struck_from 1 (slice_set es i e)) ≡ insert (from_list (struck_from 1 es)) (suc i)
from_list-struck es i e in_it struck = same_set nat_cmp_total nat_cmp-IsAntisymmetric _ _ (λ m.
    contains-from_list_nat (struck_from 1 (slice_set es i e)) m
    ∙ struck_from-set 1 es i e m in_it struck
    ∙ ap (λ n. nat_eq n m || has (struck_from 1 es) m) (sym (one_more i))
    ∙ ap (λ b. b || has (struck_from 1 es) m) (nat_eq_equiv.symm (suc i) m)
    ∙ ap (λ b. nat_eq m (suc i) || b) (sym (contains-from_list_nat (struck_from 1 es) m))
    ∙ sym (member_struck (from_list (struck_from 1 es)) (suc i) m))
