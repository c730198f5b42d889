-- Nothing is read after a cut.
use Rattle.std.proofs.Common.{◌≡◌, ℕ, Bool, true, false, cond, ◌&&◌, List, [], ◌∷◌, length, map as each, refl, sym, ap, ◌∙◌, arith}
use Rattle.std.specs.Prelude.{filter, nat_le, nat_lt}
use Rattle.std.proofs.lemmas.Bool.Decides.{nat_tests}
use Rattle.stab_journal.specs.declared.event.Label.{Label}
use Rattle.stab_journal.specs.declared.event.Numbered.{Numbered}
use Rattle.stab_journal.specs.Floor.{floor}
use Rattle.stab_journal.specs.Journal.{Journal, survivors}
use Rattle.stab_journal.specs.Label.{actors}
use Rattle.stab_journal.specs.Names.{has}
use Rattle.own_steps.specs.Own.{steps_of}
use Rattle.commit_book.specs.declared.rollback.Rollback.{Rollback}
use Rattle.commit_book.specs.OwnSteps.{IsRead, steps_within}

between_none : (f k : ℕ) (b : Bool) → (nat_lt f k && nat_le k f && b) ≡ false
between_none f k b = ap (λ c. c && b) (neither f k)
  where
    neither : (f k : ℕ) → (nat_lt f k && nat_le k f) ≡ false
    neither f k = elim (nat_lt f k) as (λ c. nat_lt f k ≡ c → (c && nat_le k f) ≡ false) [ true ↦ λ less. not_le f k less | false ↦ λ off. refl ] refl
      where
        not_le : (f k : ℕ) → nat_lt f k ≡ true → nat_le k f ≡ false
        not_le f k h = grind (arith, nat_tests)

abbrev filter_of : ℕ → (Label → Bool) → List Numbered → List Numbered
filter_of f p ns = filter (λ (k : Numbered). nat_lt f k.seq.0 && nat_le k.seq.0 f && p k.label) ns

abbrev numbers_of : List Numbered → List ℕ
numbers_of ns = each (λ (k : Numbered). k.seq.0) ns

none_within : (f : ℕ) (p : Label → Bool) (ns : List Numbered) → steps_within f f p ns ≡ []
none_within f p [] = refl
none_within f p (n ∷ ns) = ap (λ b. numbers_of (cond b (n ∷ filter_of f p ns) (filter_of f p ns))) (between_none f n.seq.0 (p n.label)) ∙ none_within f p ns

-- nothing is read after a cut, which is the last event
pub read_from_cut : (j : Journal) (r : Rollback) (q : ℕ) → r.read ≡ q → r.floor.0 ≡ q → ((t : ℕ) → steps_of r.own t ≡ []) → r.lost.items ≡ [] → q ≡ length j.events → floor (survivors j) ≡ q → IsRead j r
read_from_cut j r q read floor_is own lost last cut = record {
  read = omega (arith, read, last);
  floor = floor_is ∙ sym cut;
  cut = omega (arith, read, floor_is);
  own = λ t. own t ∙ sym (nothing (λ l. has (actors l) t));
  lost = lost;
}
  where
    nothing : (p : Label → Bool) → steps_within r.floor.0 r.read p (survivors j) ≡ []
    nothing p = ap (λ n. steps_within n r.read p (survivors j)) floor_is ∙ ap (λ n. steps_within q n p (survivors j)) read ∙ none_within q p (survivors j)
