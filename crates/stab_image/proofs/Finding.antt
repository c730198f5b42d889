-- The threads of a state, one after the other, with how often each was put back.
use Rattle.std.proofs.Common.{◌≡◌, ℕ, ◌<◌, ◌≤◌, Bool, true, false, cond, List, [], ◌∷◌, ◌++◌, refl, sym, ap, subst, ◌∙◌, arith}
use Rattle.std.specs.Prelude.{Option, Some, None, IfSome, is_some, nat_eq, nat_le}
use Rattle.std.specs.Ordering.{nat_cmp}
use Rattle.std.specs.Cmp.{nat_cmp_total, nat_eq_equiv}
use Rattle.std.specs.FinMap as map
use Rattle.std.specs.FinMap.{FinMap, nat_cmp-IsAntisymmetric, from_entries_push, get-from_entries}
use Rattle.std.proofs.lemmas.Bool.{false≢true, eqb-true, ne_eqb}
use Rattle.std.proofs.lemmas.Bool.Decides.{nat_tests}
use Rattle.language.specs.Above.{IsLeastAbove}
use Rattle.language.specs.Expression.{Expr}
use Rattle.language.specs.Plain.{PlainState, standing}
use Rattle.language.proofs.Applying.{get_inserted}

-- the threads up to the last one that was found have their numbers, and no other number has one
pub record SoFar (s : PlainState) (f : ℕ → ℕ) (m : FinMap nat_cmp ℕ) (last : ℕ) : Type 0 where
  pub each : (t : ℕ) → t ≤ last → IfSome (standing s t) (λ e. map.get m t ≡ Some (f t))
  pub only : (t : ℕ) → standing s t ≡ None → map.get m t ≡ None
  pub later : (t : ℕ) → last < t → map.get m t ≡ None

none_if : (o : Option Expr) (P : Type 0) → o ≡ None → IfSome o (λ e. P)
none_if None P h = tt
none_if (Some e) P h = absurd (let no : Some e ≡ None = h in cc)

any_if : (o : Option Expr) (P : Type 0) → P → IfSome o (λ e. P)
any_if None P p = tt
any_if (Some e) P p = p

none_of : (o : Option Expr) → is_some o ≡ false → o ≡ None
none_of None h = refl
none_of (Some e) h = absurd (false≢true (sym h))

not_true : (b : Bool) → (b ≡ true → ⊥) → b ≡ false
not_true true h = absurd (h refl)
not_true false h = refl

abbrev pub nothing : FinMap nat_cmp ℕ
nothing = map.from_entries []

nothing_found : (t : ℕ) → map.get nothing t ≡ None
nothing_found t = get-from_entries nat_cmp_total [] t

-- before the first thread
pub none_found : (s : PlainState) (f : ℕ → ℕ) → standing s 0 ≡ None → SoFar s f nothing 0
none_found s f none = record {
  each = λ t le. none_if (standing s t) _ (ap (standing s) (let is : t ≡ 0 = omega arith in is) ∙ none);
  only = λ t h. nothing_found t;
  later = λ t lt. nothing_found t;
}

module _ (s : PlainState) (f : ℕ → ℕ) (es : List (ℕ × ℕ)) (last t : ℕ) (e : Expr) (h : SoFar s f (map.from_entries es) last) (least : IsLeastAbove (map.contains_key s.threads) last (Some t)) (there : standing s t ≡ Some e) where
  abbrev pub after : FinMap nat_cmp ℕ
  after = map.from_entries (es ++ (t, f t) ∷ [])

  found_at : (u : ℕ) → map.get after u ≡ cond (nat_eq u t) (Some (f t)) (map.get (map.from_entries {R = nat_cmp} es) u)
  found_at u =
      ap (λ (m : FinMap nat_cmp ℕ). map.get m u) (from_entries_push nat_cmp_total nat_cmp-IsAntisymmetric es t (f t) (sym (get-from_entries nat_cmp_total es t) ∙ h.later t least.0))
      ∙ get_inserted (map.from_entries es) t (f t) u

  apart : (u : ℕ) → nat_eq u t ≡ false → map.get after u ≡ map.get (map.from_entries {R = nat_cmp} es) u
  apart u is = found_at u ∙ ap (λ b. cond b (Some (f t)) (map.get (map.from_entries {R = nat_cmp} es) u)) is

  between : (u : ℕ) → last < u → u ≤ t → nat_eq u t ≡ false → standing s u ≡ None
  between u lt le is = none_of (standing s u) (not_true (map.contains_key s.threads u) (λ yes.
      let up : t ≤ u = least.2 u lt yes in
      let same : u ≡ t = omega arith in
      false≢true (sym is ∙ ap (λ k. nat_eq k t) same ∙ nat_eq_equiv.refl t)))

  each_of : (u : ℕ) → u ≤ t → IfSome (standing s u) (λ x. map.get after u ≡ Some (f u))
  each_of u le =
      elim (nat_eq u t) as (λ b. nat_eq u t ≡ b → IfSome (standing s u) (λ x. map.get after u ≡ Some (f u))) [
        | true ↦ λ is. any_if (standing s u) _ (found_at u ∙ ap (λ b. cond b (Some (f t)) (map.get (map.from_entries {R = nat_cmp} es) u)) is ∙ ap (λ k. Some (f k)) (sym (eqb-true u t is)))
        | false ↦ λ is.
            (elim (nat_le u last) as (λ b. nat_le u last ≡ b → IfSome (standing s u) (λ x. map.get after u ≡ Some (f u))) [
              | true ↦ λ low. subst (λ (o : Option ℕ). IfSome (standing s u) (λ x. o ≡ Some (f u))) (sym (apart u is)) (h.each u (let fits : u ≤ last = grind (arith, nat_tests) in fits))
              | false ↦ λ high. none_if (standing s u) _ (between u (let lt : last < u = grind (arith, nat_tests) in lt) le is)
            ]) refl
      ] refl

  pub one_found : SoFar s f after t
  one_found = record {
    each = each_of;
    only = λ u none.
        elim (nat_eq u t) as (λ b. nat_eq u t ≡ b → map.get after u ≡ None) [
          | true ↦ λ is. absurd (let at : Some e ≡ None = sym there ∙ ap (standing s) (sym (eqb-true u t is)) ∙ none in cc)
          | false ↦ λ is. apart u is ∙ h.only u none
        ] refl;
    later = λ u lt. apart u (ne_eqb u t (λ same. omega arith)) ∙ h.later u (omega (arith, least.0));
  }

-- behind the last thread
pub all_found : (s : PlainState) (f : ℕ → ℕ) (m : FinMap nat_cmp ℕ) (last : ℕ) → SoFar s f m last → IsLeastAbove (map.contains_key s.threads) last None → (t : ℕ) → IfSome (standing s t) (λ e. map.get m t ≡ Some (f t))
all_found s f m last h none t =
    elim (nat_le t last) as (λ b. nat_le t last ≡ b → IfSome (standing s t) (λ e. map.get m t ≡ Some (f t))) [
      | true ↦ λ low. h.each t (let fits : t ≤ last = grind (arith, nat_tests) in fits)
      | false ↦ λ high. none_if (standing s t) _ (none_of (standing s t) (none t (let lt : last < t = grind (arith, nat_tests) in lt)))
    ] refl
