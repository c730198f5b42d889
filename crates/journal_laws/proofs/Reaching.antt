-- What is reached is closed under dependence, and none of it is below m.
use Rattle.std.proofs.Common.{◌≡◌, ℕ, suc, ◌≤◌, ◌<◌, Bool, true, false, cond, nat_eq, List, [], ◌∷◌, refl, sym, ap, ◌∙◌, arith}
use Rattle.std.specs.Cmp.{nat_eq_equiv}
use Rattle.std.proofs.lemmas.Bool.{ne_eqb}
use Rattle.stab_journal.specs.declared.event.Numbered.{Numbered}
use Rattle.stab_journal.specs.Journal.{RiseFrom}
use Rattle.stab_journal.specs.Names.{has}
use Rattle.stab_journal.specs.Reached.{Lost, nothing_lost, lose, keep, after_step, depends, is_reached, reached_from, reached, rest}
use Rattle.journal_laws.proofs.Without.{IsClosedFrom, IsReachedBy}
use Rattle.journal_laws.proofs.Applying.{or_false}

has_other : (k q : ℕ) (ks : List ℕ) → k < q → has ks k ≡ false → has (q ∷ ks) k ≡ false
has_other k q ks lt none = ap (λ b. cond b true (has ks k)) (ne_eqb k q (λ e. omega arith)) ∙ none

pub has_this : (q : ℕ) (ks : List ℕ) → has (q ∷ ks) q ≡ true
has_this q ks = ap (λ b. cond b true (has ks q)) (nat_eq_equiv.refl q)

-- numbers that rise are not reached again
none_below : (m : ℕ) (ns : List Numbered) (x : Lost) (q k : ℕ) → RiseFrom q ns → k < q → has (reached_from m x ns) k ≡ false
none_below m [] x q k rise lt = refl
none_below m (n ∷ ns) x q k rise lt =
    elim (is_reached m n x) as (λ b. has (cond b (n.seq.0 ∷ reached_from m (lose n.label x) ns) (reached_from m (keep n.label x) ns)) k ≡ false) [
      | true ↦ has_other k n.seq.0 _ (omega (arith, rise.0)) (none_below m ns (lose n.label x) (suc n.seq.0) k rise.1 (omega (arith, rise.0)))
      | false ↦ none_below m ns (keep n.label x) (suc n.seq.0) k rise.1 (omega (arith, rise.0))
    ]

has_later : (k q : ℕ) (ks : List ℕ) → q < k → has (q ∷ ks) k ≡ has ks k
has_later k q ks lt = ap (λ b. cond b true (has ks k)) (ne_eqb k q (λ e. omega arith))

-- a step is among the numbers of the pass where the pass reaches it
here : (m q : ℕ) (n : Numbered) (ns : List Numbered) (x : Lost) → RiseFrom q (n ∷ ns) → has (reached_from m x (n ∷ ns)) n.seq.0 ≡ is_reached m n x
here m q n ns x rise =
    elim (is_reached m n x) as (λ b. has (cond b (n.seq.0 ∷ reached_from m (lose n.label x) ns) (reached_from m (keep n.label x) ns)) n.seq.0 ≡ b) [
      | true ↦ has_this n.seq.0 _
      | false ↦ none_below m ns (keep n.label x) (suc n.seq.0) n.seq.0 rise.1 (omega arith)
    ]

later : (m q k : ℕ) (n : Numbered) (ns : List Numbered) (x : Lost) → suc n.seq.0 ≤ k → has (reached_from m x (n ∷ ns)) k ≡ has (reached_from m (after_step (is_reached m n x) n.label x) ns) k
later m q k n ns x le =
    elim (is_reached m n x) as (λ b. has (cond b (n.seq.0 ∷ reached_from m (lose n.label x) ns) (reached_from m (keep n.label x) ns)) k ≡ has (reached_from m (after_step b n.label x) ns) k) [
      | true ↦ has_later k n.seq.0 _ (omega arith)
      | false ↦ refl
    ]

pub reached_by : (m : ℕ) (gone : ℕ → Bool) (ns : List Numbered) (x : Lost) (q : ℕ) → RiseFrom q ns → ((k : ℕ) → q ≤ k → gone k ≡ has (reached_from m x ns) k) → IsReachedBy m gone x ns
reached_by m gone [] x q rise is = tt
reached_by m gone (n ∷ ns) x q rise is =
    let this : gone n.seq.0 ≡ is_reached m n x = is n.seq.0 (omega (arith, rise.0)) ∙ here m q n ns x rise in (
      this,
      reached_by m gone ns (after_step (gone n.seq.0) n.label x) (suc n.seq.0) rise.1
          (λ k le. is k (omega (arith, rise.0)) ∙ later m q k n ns x le ∙ ap (λ b. has (reached_from m (after_step b n.label x) ns) k) (sym this)),
    )

-- what is reached is closed under dependence
pub closed_by : (m : ℕ) (gone : ℕ → Bool) (ns : List Numbered) (x : Lost) → IsReachedBy m gone x ns → IsClosedFrom gone x ns
closed_by m gone [] x by = tt
closed_by m gone (n ∷ ns) x by = (λ stays. (or_false (nat_eq m n.seq.0) (depends n.label x) (sym by.0 ∙ stays)).1, closed_by m gone ns _ by.1)

pub upward_closed : (run : List Numbered) (m q : ℕ) → RiseFrom q run → IsClosedFrom (has (reached run m)) nothing_lost run
upward_closed run m q rise = closed_by m (has (reached run m)) run nothing_lost (reached_by m (has (reached run m)) run nothing_lost q rise (λ k le. refl))

-- what stays of numbers that rise, rises
rise_more : (q : ℕ) (ns : List Numbered) (k : ℕ) → k ≤ q → RiseFrom q ns → RiseFrom k ns
rise_more q [] k le rise = tt
rise_more q (n ∷ ns) k le rise = (omega (arith, rise.0), rise.1)

pub rise_rest : (gone : ℕ → Bool) (q : ℕ) (ns : List Numbered) → RiseFrom q ns → RiseFrom q (rest gone ns)
rise_rest gone q [] rise = tt
rise_rest gone q (n ∷ ns) rise =
    elim (gone n.seq.0) as (λ b. RiseFrom q (cond b (rest gone ns) (n ∷ rest gone ns))) [
      | true ↦ rise_more (suc n.seq.0) (rest gone ns) q (omega (arith, rise.0)) (rise_rest gone (suc n.seq.0) ns rise.1)
      | false ↦ (rise.0, rise_rest gone (suc n.seq.0) ns rise.1)
    ]
