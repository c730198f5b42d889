-- Lists in which one number stands at most.
use Rattle.std.proofs.Common.{◌≡◌, ℕ, Bool, true, false, cond, ◌||◌, nat_eq, List, [], ◌∷◌, refl, sym, ap, ◌∙◌}
use Rattle.std.specs.Cmp.{nat_eq_equiv}
use Rattle.std.specs.List.{IsDistinct}
use Rattle.std.proofs.lemmas.Bool.{false≢true, eqb-true}
use Rattle.linked_lists.specs.Lists.{is_listed}

-- no number but t stands there, and t once at most
pub record HasOnly (t : ℕ) (xs : List ℕ) : Type 0 where
  pub once : IsDistinct nat_eq xs
  pub others : (u : ℕ) → nat_eq u t ≡ false → is_listed u xs ≡ false

front : (t x : ℕ) (xs : List ℕ) → ((u : ℕ) → nat_eq u t ≡ false → is_listed u (x ∷ xs) ≡ false) → x ≡ t
front t x xs others = by (nat_eq x t) refl
  where
    by : (b : Bool) → nat_eq x t ≡ b → x ≡ t
    by true at = eqb-true x t at
    by false at = absurd (false≢true (sym (others x at) ∙ ap (λ b. b || is_listed x xs) (nat_eq_equiv.refl x)))

or_false : (a b : Bool) → (a || b) ≡ false → b ≡ false
or_false true b is = absurd (false≢true (sym is))
or_false false b is = is

one_front : (t x : ℕ) → x ≡ t → x ∷ [] ≡ cond {A = List ℕ} (nat_eq t x || false) (t ∷ []) []
one_front t x same = ap (λ k. k ∷ []) same ∙ ap (λ b. cond {A = List ℕ} (b || false) (t ∷ []) []) (sym (nat_eq_equiv.refl t) ∙ ap (nat_eq t) (sym same))

one_shape : (t : ℕ) (xs : List ℕ) → HasOnly t xs → xs ≡ cond {A = List ℕ} (is_listed t xs) (t ∷ []) []
unfolding IsDistinct
one_shape t [] only = refl
one_shape t (x ∷ []) only = one_front t x (front t x [] only.others)
one_shape t (x ∷ y ∷ ys) only =
    let first : x ≡ t = front t x (y ∷ ys) only.others in
    let second : y ≡ t = front t y ys (λ u other. or_false (nat_eq u x) (is_listed u (y ∷ ys)) (only.others u other)) in
    absurd (false≢true (sym only.once.0.0 ∙ ap (nat_eq x) (second ∙ sym first) ∙ nat_eq_equiv.refl x))

-- two such lists are one where both have it or none does
pub one_list : (t : ℕ) (xs ys : List ℕ) → HasOnly t xs → HasOnly t ys → is_listed t xs ≡ is_listed t ys → xs ≡ ys
one_list t xs ys only_xs only_ys same = one_shape t xs only_xs ∙ ap (λ b. cond {A = List ℕ} b (t ∷ []) []) same ∙ sym (one_shape t ys only_ys)
