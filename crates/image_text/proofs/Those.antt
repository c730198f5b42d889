-- Numbers that pass a test, one after the other.
use Rattle.std.proofs.Common.{◌≡◌, ℕ, zero, suc, ◌+◌, ◌-◌, ◌<◌, ◌≤◌, Bool, true, false, cond, List, [], ◌∷◌, ◌++◌, refl, sym, ap, ◌∙◌, arith, append_assoc}
use Rattle.std.specs.Prelude.{Some, None}
use Rattle.std.specs.List.{flat_map}
use Rattle.std.proofs.lemmas.Bool.{false≢true}
use Rattle.std.proofs.lemmas.List.{append-nil}
use Rattle.language.specs.Above.{IsLeastAbove}
use Rattle.image_text.specs.Rising.{those}

module _ (has : ℕ → Bool) where
  -- the least one is the first
  first_of : (a n k : ℕ) → a ≤ k → k < a + n → has k ≡ true → ((m : ℕ) → a ≤ m → has m ≡ true → k ≤ m) → those has a n ≡ k ∷ those has (suc k) ((a + n) - suc k)
  first_of a zero k low high there least = absurd (omega arith)
  first_of a (suc n) k low high there least =
      elim (has a) as (λ b. has a ≡ b → cond b (a ∷ those has (suc a) n) (those has (suc a) n) ≡ k ∷ those has (suc k) ((a + suc n) - suc k)) [
        | true ↦ λ here.
            let up : k ≤ a = least a (omega arith) here in
            let same : a ≡ k = omega arith in
            let left : n ≡ (a + suc n) - suc a = omega arith in
            ap (λ (j : ℕ). a ∷ those has (suc a) j) left ∙ ap (λ (j : ℕ). j ∷ those has (suc j) ((a + suc n) - suc j)) same
        | false ↦ λ not_here.
            let other : a ≡ k → ⊥ = λ same. false≢true (sym not_here ∙ ap has same ∙ there) in
            let above : suc a ≤ k = omega (arith, other) in
            let moved : suc a + n ≡ a + suc n = omega arith in
            first_of (suc a) n k above (omega arith) there (λ m le is. least m (omega arith) is) ∙ ap (λ (j : ℕ). k ∷ those has (suc k) (j - suc k)) moved
      ] refl

  none_of : (a n : ℕ) → ((m : ℕ) → a ≤ m → has m ≡ false) → those has a n ≡ []
  none_of a zero none = refl
  none_of a (suc n) none = ap (λ b. cond b (a ∷ those has (suc a) n) (those has (suc a) n)) (none a (omega arith)) ∙ none_of (suc a) n (λ m le. none m (omega arith))

  module _ (f : ℕ → List ℕ) (next : ℕ) (below : (c : ℕ) → has c ≡ true → (1 ≤ c) × (c < next)) where
    -- the text so far and that of the numbers behind the last one are the whole text
    abbrev pub IsSoFar : ℕ → List ℕ → List ℕ → Type 0
    IsSoFar last first out = first ++ flat_map f (those has 1 (next - 1)) ≡ out ++ flat_map f (those has (suc last) (next - suc last))

    pub none_so_far : (out : List ℕ) → IsSoFar 0 out out
    none_so_far out = refl

    pub one_so_far : (last k : ℕ) (first out new : List ℕ) → IsSoFar last first out → IsLeastAbove has last (Some k) → new ≡ out ++ f k → IsSoFar k first new
    one_so_far last k first out new h least more =
        let under = (below k least.1).1 in
        let count : (suc last + (next - suc last)) - suc k ≡ next - suc k = omega (arith, least.0) in
        h
        ∙ ap (λ (ks : List ℕ). out ++ flat_map f ks) (first_of (suc last) (next - suc last) k (omega (arith, least.0)) (omega (arith, least.0)) least.1 (λ m le is. least.2 m (omega arith) is))
        ∙ ap (λ (j : ℕ). out ++ (f k ++ flat_map f (those has (suc k) j))) count
        ∙ sym (append_assoc out (f k) (flat_map f (those has (suc k) (next - suc k))))
        ∙ ap (λ (t : List ℕ). t ++ flat_map f (those has (suc k) (next - suc k))) (sym more)

    pub all_so_far : (last : ℕ) (first out : List ℕ) → IsSoFar last first out → IsLeastAbove has last None → out ≡ first ++ flat_map f (those has 1 (next - 1))
    all_so_far last first out h none =
        sym (h ∙ ap (λ (ks : List ℕ). out ++ flat_map f ks) (none_of (suc last) (next - suc last) (λ m le. none m (omega arith))) ∙ append-nil out)
