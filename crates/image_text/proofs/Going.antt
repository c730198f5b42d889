-- What is written of a map, entry by entry.
use Rattle.std.proofs.Common.{◌≡◌, ℕ, ◌+◌, ◌<◌, false, List, [], ◌∷◌, ◌++◌, length, get_or, take, refl, sym, ap, ◌∙◌, append_assoc}
use Rattle.std.specs.Prelude.{Some, None}
use Rattle.std.specs.List.{flat_map}
use Rattle.std.specs.Ordering.{nat_cmp}
use Rattle.std.specs.FinMap as map
use Rattle.std.specs.FinMap.{FinMap, entries}
use Rattle.std.proofs.lemmas.List.{take_more, append-nil}
use Rattle.std.proofs.lemmas.List.Concat.{flat_map-append}
use Rattle.language.specs.Above.{IsLeastAbove}
use Rattle.image_text.proofs.Left.{IsLeft, IsNextOf, all_left, next_left, none_left}

-- the text so far and that of what is left are the whole text
pub record IsGoing {X : Type 0} (f : ℕ × X → List ℕ) (m : FinMap nat_cmp X) (n : ℕ) (first out : List ℕ) : Type 0 where
  pub left : List (ℕ × X)
  pub is_left : IsLeft m n left
  pub whole : first ++ flat_map f (entries m) ≡ out ++ flat_map f left

module _ {X : Type 0} (f : ℕ × X → List ℕ) (m : FinMap nat_cmp X) where
  pub at_first : (out : List ℕ) → map.contains_key m 0 ≡ false → IsGoing f m 0 out out
  at_first out none = record { left = entries m; is_left = all_left m none; whole = refl }

  pub one_more : (n k : ℕ) (x : X) (first out new : List ℕ) → IsGoing f m n first out → IsLeastAbove (map.contains_key m) n (Some k) → map.get m k ≡ Some x → new ≡ out ++ f (k, x) → IsGoing f m k first new
  one_more n k x first out new h least at more =
      let next : IsNextOf m k x h.left = next_left m n k x h.left h.is_left least at in
      record {
        left = next.rest;
        is_left = next.later;
        whole =
            h.whole ∙ ap (λ (es : List (ℕ × X)). out ++ flat_map f es) next.first
            ∙ sym (append_assoc out (f (k, x)) (flat_map f next.rest))
            ∙ ap (λ (t : List ℕ). t ++ flat_map f next.rest) (sym more);
      }

  pub at_last : (n : ℕ) (first out : List ℕ) → IsGoing f m n first out → IsLeastAbove (map.contains_key m) n None → out ≡ first ++ flat_map f (entries m)
  at_last n first out h none =
      sym (h.whole ∙ ap (λ (es : List (ℕ × X)). out ++ flat_map f es) (none_left m n h.left h.is_left none) ∙ append-nil out)

-- one element of a list more
pub one_listed : {X : Type 0} (f : X → List ℕ) (xs : List X) (first out new : List ℕ) (i : ℕ) (d : X) → i < length xs → out ≡ first ++ flat_map f (take i xs) → new ≡ out ++ f (get_or xs i d) → new ≡ first ++ flat_map f (take (i + 1) xs)
one_listed f xs first out new i d within so_far more =
    more ∙ ap (λ (t : List ℕ). t ++ f (get_or xs i d)) so_far
    ∙ append_assoc first (flat_map f (take i xs)) (f (get_or xs i d))
    ∙ ap (λ (t : List ℕ). first ++ t) (sym (ap (flat_map f) (take_more xs i d within) ∙ flat_map-append f (take i xs) (get_or xs i d ∷ []) ∙ ap (λ (t : List ℕ). flat_map f (take i xs) ++ t) (append-nil (f (get_or xs i d)))))
