-- The pieces of bytes round a mark.
use Rattle.std.proofs.Common.{◌≡◌, ◌≢◌, ℕ, zero, suc, ◌+◌, ◌<◌, ◌≤◌, Bool, true, false, not, cond, eqb, ltb, List, [], ◌∷◌, ◌++◌, length, take, drop, Some, None, refl, sym, ap, subst, ◌∙◌, arith}
use Rattle.std.specs.List.{position, position_or_len}
use Rattle.std.proofs.lemmas.Bool.{ltb-true, ltb-false}
use Rattle.text_lines.specs.Lines.{longer, split}

-- where the first mark stands, or the length
abbrev pub place : ℕ → List ℕ → ℕ
place mark bytes = position_or_len (λ b. eqb b mark) bytes

-- what stands before the first mark is the first piece
split_at : (mark : ℕ) (bytes : List ℕ) → place mark bytes < length bytes → split mark bytes ≡ take (place mark bytes) bytes ∷ split mark (drop (suc (place mark bytes)) bytes)
split_at mark [] less = absurd (omega arith)
split_at mark (b ∷ bytes) less =
    elim (eqb b mark) as (λ t. cond (not t) (1 + place mark bytes) 0 < length (b ∷ bytes) → cond t ([] ∷ split mark bytes) (longer b (split mark bytes)) ≡ take (cond (not t) (1 + place mark bytes) 0) (b ∷ bytes) ∷ split mark (drop (suc (cond (not t) (1 + place mark bytes) 0)) (b ∷ bytes))) [
      | true ↦ λ _. refl
      | false ↦ λ h.
          let more : suc (place mark bytes) ≡ 1 + place mark bytes = omega arith in
          ap (longer b) (split_at mark bytes (omega arith)) ∙ ap (λ n. take n (b ∷ bytes) ∷ split mark (drop (suc n) (b ∷ bytes))) more
    ] less

-- without a mark there is one piece
split_none : (mark : ℕ) (bytes : List ℕ) → length bytes ≤ place mark bytes → split mark bytes ≡ bytes ∷ []
split_none mark [] more = refl
split_none mark (b ∷ bytes) more =
    elim (eqb b mark) as (λ t. length (b ∷ bytes) ≤ cond (not t) (1 + place mark bytes) 0 → cond t ([] ∷ split mark bytes) (longer b (split mark bytes)) ≡ (b ∷ bytes) ∷ []) [
      | true ↦ λ h. absurd (omega arith)
      | false ↦ λ h. ap (longer b) (split_none mark bytes (omega arith))
    ] more

pub cut_none : (mark : ℕ) (bytes : List ℕ) → None ≡ position (λ b. eqb b mark) bytes → split mark bytes ≡ bytes ∷ []
cut_none mark bytes none =
    elim (ltb (place mark bytes) (length bytes)) as (λ t. ltb (place mark bytes) (length bytes) ≡ t → None ≡ cond t (Some (place mark bytes)) None → split mark bytes ≡ bytes ∷ []) [
      | true ↦ λ _ h. cc
      | false ↦ λ e _. split_none mark bytes (ltb-false _ _ e)
    ] refl none

pub cut_some : (mark : ℕ) (bytes : List ℕ) (end : ℕ) → Some end ≡ position (λ b. eqb b mark) bytes → (end < length bytes) × (split mark bytes ≡ take end bytes ∷ split mark (drop (suc end) bytes))
cut_some mark bytes end some =
    elim (ltb (place mark bytes) (length bytes)) as (λ t. ltb (place mark bytes) (length bytes) ≡ t → Some end ≡ cond t (Some (place mark bytes)) None → (end < length bytes) × (split mark bytes ≡ take end bytes ∷ split mark (drop (suc end) bytes))) [
      | true ↦ λ e h.
          let less = ltb-true _ _ e in
          let same : place mark bytes ≡ end = cc in
          subst (λ n. (n < length bytes) × (split mark bytes ≡ take n bytes ∷ split mark (drop (suc n) bytes))) same (less, split_at mark bytes less)
      | false ↦ λ _ h. cc
    ] refl some
