-- The survivors of a journal are its live steps in order.
use Rattle.std.proofs.Common.{◌≡◌, ℕ, zero, suc, ◌+◌, Bool, true, false, cond, ◌||◌, nat_eq, List, [], ◌∷◌, ◌++◌, IsSome, is_some, refl, sym, ap, ◌∙◌, arith, add-zero, eq-eqb}
use Rattle.std.specs.List.{AllByRecursion, list_any}
use Rattle.std.specs.Ordering.{nat_cmp}
use Rattle.std.specs.FinSet.{FinSet, contains}
use Rattle.std.proofs.lemmas.List.Folds.{list_any-append}
use Rattle.stab_journal.specs.declared.event.What.{What}
use Rattle.stab_journal.specs.declared.event.What.TheVariants.{Step, Undo, Release}
use Rattle.stab_journal.specs.declared.event.Event.{Event}
use Rattle.stab_journal.specs.declared.event.Numbered.{Numbered}
use Rattle.stab_journal.specs.Event.{label_of}
use Rattle.stab_journal.specs.Journal.{Journal, label_at, IsLive, step_at, survivors_from, survivors, RiseFrom, IsSurvivor, AreSurvivors}
use Rattle.stab_journal.proofs.Events.{next_place, label_in}

later : (q : ℕ) (ns : List Numbered) → RiseFrom (suc q) ns → RiseFrom q ns
later q [] rise = tt
later q (n ∷ ns) rise = (omega (arith, rise.0), rise.1)

rise_step : (b : Bool) (q : ℕ) (w : What) (ns : List Numbered) → RiseFrom (suc q) ns → RiseFrom q (cond b [] (step_at q w) ++ ns)
rise_step true q w ns rise = later q ns rise
rise_step false q (Step l) ns rise = (omega arith, rise)
rise_step false q (Undo t m) ns rise = later q ns rise
rise_step false q (Release k) ns rise = later q ns rise

-- their numbers rise
rise : (struck : FinSet nat_cmp) (q : ℕ) (es : List Event) → RiseFrom q (survivors_from struck q es)
rise struck q [] = tt
rise struck q (e ∷ es) = rise_step (contains struck q) q e.what (survivors_from struck (suc q) es) (rise struck (suc q) es)

-- each is a live step
each_step : (j : Journal) (b : Bool) (q : ℕ) (w : What) (ns : List Numbered) → contains j.struck q ≡ b → label_at j.events q ≡ label_of w → AllByRecursion (IsSurvivor j) ns → AllByRecursion (IsSurvivor j) (cond b [] (step_at q w) ++ ns)
each_step j true q w ns kept label all = all
each_step j false q (Step l) ns kept label all = (record { label = label; live = record { step = ap is_some label; kept = kept } }, all)
each_step j false q (Undo t m) ns kept label all = all
each_step j false q (Release k) ns kept label all = all

each_from : (j : Journal) (q : ℕ) (es : List Event) → ((i : ℕ) → label_at j.events (q + i) ≡ label_in es i) → AllByRecursion (IsSurvivor j) (survivors_from j.struck q es)
each_from j q [] there = tt
each_from j q (e ∷ es) there =
    each_step j (contains j.struck q) q e.what (survivors_from j.struck (suc q) es) refl
    (ap (label_at j.events) (sym (add-zero q)) ∙ there 0)
    (each_from j (suc q) es (λ i. ap (label_at j.events) (sym (next_place q i)) ∙ there (suc i)))

-- each live step is among them
every_first : (b : Bool) (q : ℕ) (w : What) (ns : List Numbered) → b ≡ false → IsSome (label_of w) → list_any (λ (n : Numbered). nat_eq n.seq.0 (q + 0)) (cond b [] (step_at q w) ++ ns) ≡ true
every_first true q w ns kept step = cc
every_first false q (Step l) ns kept step = ap (λ b. b || list_any (λ (n : Numbered). nat_eq n.seq.0 (q + 0)) ns) (eq-eqb q (q + 0) (sym (add-zero q)))
every_first false q (Undo t m) ns kept step = cc
every_first false q (Release k) ns kept step = cc

or_true : (b c : Bool) → c ≡ true → (b || c) ≡ true
or_true true c is = refl
or_true false c is = is

every_from : (struck : FinSet nat_cmp) (q : ℕ) (es : List Event) (i : ℕ) → contains struck (q + i) ≡ false → IsSome (label_in es i) → list_any (λ (n : Numbered). nat_eq n.seq.0 (q + i)) (survivors_from struck q es) ≡ true
every_from struck q [] i kept step = cc
every_from struck q (e ∷ es) zero kept step = every_first (contains struck q) q e.what (survivors_from struck (suc q) es) (ap (contains struck) (sym (add-zero q)) ∙ kept) step
every_from struck q (e ∷ es) (suc i) kept step =
    list_any-append (λ (n : Numbered). nat_eq n.seq.0 (q + suc i)) (cond (contains struck q) [] (step_at q e.what)) (survivors_from struck (suc q) es)
    ∙ or_true _ _ (ap (λ m. list_any (λ (n : Numbered). nat_eq n.seq.0 m) (survivors_from struck (suc q) es)) (next_place q i)
    ∙ every_from struck (suc q) es i (ap (contains struck) (sym (next_place q i)) ∙ kept) step)

one_more : (i : ℕ) → suc i ≡ 1 + i
one_more i = omega arith

every_live : (j : Journal) (q : ℕ) → IsLive j q → list_any (λ (n : Numbered). nat_eq n.seq.0 q) (survivors j) ≡ true
every_live j zero live = let step = live.step in cc
every_live j (suc i) live =
    ap (λ m. list_any (λ (n : Numbered). nat_eq n.seq.0 m) (survivors j)) (one_more i)
    ∙ every_from j.struck 1 j.events i (ap (contains j.struck) (sym (one_more i)) ∙ live.kept) live.step

-- the survivors of a journal are its live steps, each once and in order
pub are_survivors : (j : Journal) → AreSurvivors j (survivors j)
are_survivors j = record {
  rising = rise j.struck 1 j.events;
  each = each_from j 1 j.events (λ i. ap (label_at j.events) (sym (one_more i)));
  every = every_live j;
}
