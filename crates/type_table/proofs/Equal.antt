-- What the derived comparison of shapes says.
use Rattle.std.proofs.Common.{◌≡◌, ℕ, zero, suc, Bool, true, false, ◌&&◌, ◌||◌, nat_eq, List, [], ◌∷◌, slice_get, Some, refl, sym, ap, ◌∙◌}
use Rattle.std.specs.List.{list_any, position}
use Rattle.std.specs.Cmp.{nat_eq_equiv}
use Rattle.std.proofs.lemmas.Bool.{false≢true, eqb-true}
use Rattle.std.proofs.lemmas.List.Quantifiers.{position-Some}
use Rattle.std.proofs.lemmas.Option.{slice_get-get_or}
use Rattle.type_table.specs.declared.shape.TypeId.{TypeId}
use Rattle.type_table.specs.declared.shape.TypeShape.{TypeShape}
use Rattle.type_table.specs.declared.shape.TypeShape.TheVariants as shape
use Rattle.type_table.specs.contracts.shape.TypeShapePartialEq.TheImpl.{eq-value}

same_number : (a b : TypeId) → nat_eq a.0 b.0 ≡ true → a ≡ b
same_number a b h = ap (λ n. record { 0 = n }) (eqb-true a.0 b.0 h)

and_true : (x y : Bool) → (x && y) ≡ true → (x ≡ true) × (y ≡ true)
and_true true y h = (refl, h)
and_true false y h = absurd (false≢true h)

pub equal_is : (s t : TypeShape) → eq-value.it s t ≡ true → s ≡ t
equal_is shape.Unit shape.Unit h = refl
equal_is shape.Bool shape.Bool h = refl
equal_is shape.Int shape.Int h = refl
equal_is shape.Text shape.Text h = refl
equal_is (shape.Chan a) (shape.Chan b) h = ap shape.Chan (same_number a b h)
equal_is (shape.Ref a) (shape.Ref b) h = ap shape.Ref (same_number a b h)
equal_is (shape.Pair a b) (shape.Pair c d) h = let parts = and_true (nat_eq a.0 c.0) (nat_eq b.0 d.0) h in ap (λ x. shape.Pair x b) (same_number a c parts.0) ∙ ap (shape.Pair c) (same_number b d parts.1)
equal_is _ _ h = absurd (false≢true h)

pub equal_same : (s : TypeShape) → eq-value.it s s ≡ true
equal_same shape.Unit = refl
equal_same shape.Bool = refl
equal_same shape.Int = refl
equal_same shape.Text = refl
equal_same (shape.Chan a) = nat_eq_equiv.refl a.0
equal_same (shape.Ref a) = nat_eq_equiv.refl a.0
equal_same (shape.Pair a b) = ap (λ x. x && nat_eq b.0 b.0) (nat_eq_equiv.refl a.0) ∙ nat_eq_equiv.refl b.0

-- where a shape is found
pub position_found : (s : TypeShape) (shapes : List TypeShape) (i : ℕ) → Some i ≡ position (eq-value.it s) shapes → slice_get shapes i ≡ Some s
position_found s shapes i h =
    let p = position-Some (eq-value.it s) shapes i s (sym h) in
    slice_get-get_or shapes i s p.0 ∙ ap Some (sym (equal_is s _ p.1))

or_false : (a b : Bool) → (a || b) ≡ false → (a ≡ false) × (b ≡ false)
or_false true b h = absurd (false≢true (sym h))
or_false false b h = (refl, h)

some_is : {X : Type 0} {a b : X} → Some a ≡ Some b → a ≡ b
some_is h = cc

-- a shape that is nowhere found
pub nowhere : (s : TypeShape) (shapes : List TypeShape) (i : ℕ) → list_any (eq-value.it s) shapes ≡ false → slice_get shapes i ≡ Some s → ⊥
nowhere s [] i h found = cc
nowhere s (x ∷ shapes) zero h found = false≢true (sym (or_false (eq-value.it s x) _ h).0 ∙ ap (eq-value.it s) (some_is found) ∙ equal_same s)
nowhere s (x ∷ shapes) (suc i) h found = nowhere s shapes i (or_false (eq-value.it s x) _ h).1 found
