-- Lists of texts, compared text by text.
use Rattle.std.proofs.Common.{◌≡◌, ℕ, List, [], ◌∷◌, Bool, ◌&&◌, map, nat_eq, refl, ap, ◌∙◌}
use Rattle.std.specs.Bool.{Decides}
use Rattle.std.specs.Cmp.Lexicographic.{pointwise}
use Rattle.std.proofs.lemmas.Bool.Decides.{Decides-eqb}
use Rattle.std.proofs.lemmas.Slice.Eq.{slice_eq-Decides}

pointwise-map : {A : Type 0} (f : A → List ℕ) (xs ys : List A) → pointwise (λ x y. pointwise nat_eq (f x) (f y)) xs ys ≡ pointwise (pointwise nat_eq) (map f xs) (map f ys)
pointwise-map f [] [] = refl
pointwise-map f [] (y ∷ ys) = refl
pointwise-map f (x ∷ xs) [] = refl
pointwise-map f (x ∷ xs) (y ∷ ys) = ap (λ b. pointwise nat_eq (f x) (f y) && b) (pointwise-map f xs ys)

-- comparing the bytes of each text decides whether the lists of texts are equal
pub texts_eq-Decides : {A : Type 0} (f : A → List ℕ) (xs ys : List A) (r : Bool) → r ≡ pointwise (λ x y. pointwise nat_eq (f x) (f y)) xs ys → Decides r (map f xs ≡ map f ys)
texts_eq-Decides f xs ys r e =
    slice_eq-Decides (λ a b. slice_eq-Decides Decides-eqb a b (pointwise nat_eq a b) refl) (map f xs) (map f ys) r (e ∙ pointwise-map f xs ys)
