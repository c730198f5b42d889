-- The last cut of a run with one more step.
use Rattle.std.proofs.Common.{◌≡◌, ℕ, suc, ◌<◌, ◌≤◌, true, false, cond, nat_eq, List, [], ◌∷◌, ◌++◌, ap, arith}
use Rattle.std.specs.Prelude.{nat_lt}
use Rattle.std.proofs.lemmas.Bool.Decides.{nat_tests}
use Rattle.stab_journal.specs.declared.event.Numbered.{Numbered}
use Rattle.stab_journal.specs.Floor.{is_cut, floor_from}
use Rattle.stab_journal.specs.Journal.{RiseFrom}

pub less_is : (a b : ℕ) → a < b → nat_lt a b ≡ true
less_is a b h = grind (arith, nat_tests)

pub not_less : (a b : ℕ) → b ≤ a → nat_lt a b ≡ false
not_less a b h = grind (arith, nat_tests)

pub differs : (a b : ℕ) → b < a → nat_eq a b ≡ false
differs a b h = grind (arith, nat_tests)

pub differs_too : (a b : ℕ) → a < b → nat_eq a b ≡ false
differs_too a b h = grind (arith, nat_tests)

-- a step that is no cut leaves it
pub floor_snoc : (f : ℕ) (run : List Numbered) (n : Numbered) → is_cut n.label ≡ false → floor_from f (run ++ n ∷ []) ≡ floor_from f run
floor_snoc f [] n uncut = ap (λ b. cond b n.seq.0 f) uncut
floor_snoc f (k ∷ run) n uncut = floor_snoc (cond (is_cut k.label) k.seq.0 f) run n uncut

-- a cut is the last one
pub floor_cut : (f : ℕ) (run : List Numbered) (n : Numbered) → is_cut n.label ≡ true → floor_from f (run ++ n ∷ []) ≡ n.seq.0
floor_cut f [] n is = ap (λ b. cond b n.seq.0 f) is
floor_cut f (k ∷ run) n is = floor_cut (cond (is_cut k.label) k.seq.0 f) run n is

-- it stands before the next step
pub floor_below : (f p : ℕ) (run : List Numbered) (n : Numbered) → f < n.seq.0 → RiseFrom p (run ++ n ∷ []) → floor_from f run < n.seq.0
floor_below f p [] n low rise = low
floor_below f p (k ∷ run) n low rise =
    floor_below (cond (is_cut k.label) k.seq.0 f) (suc k.seq.0) run n
    (elim (is_cut k.label) as (λ b. cond b k.seq.0 f < n.seq.0) [ true ↦ before k.seq.0 run n rise.1 | false ↦ low ]) rise.1
  where
    before : (q : ℕ) (ns : List Numbered) (m : Numbered) → RiseFrom (suc q) (ns ++ m ∷ []) → q < m.seq.0
    before q [] m rise = omega (arith, rise.0)
    before q (j ∷ ns) m rise = omega (arith, rise.0, before j.seq.0 ns m rise.1)
