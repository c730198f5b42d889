-- How many pure steps an expression makes, up to a number, is fixed, and so is where they lead.
use Rattle.std.proofs.Common.{◌≡◌, ℕ, zero, suc, ◌<◌, ◌≤◌, Option, Some, None, refl, sym, ap, ◌∙◌, arith}
use Rattle.std.specs.Prelude.{option_and_then}
use Rattle.language.specs.Table.{Language, pure_of, pure_steps}
use Rattle.journal_laws.proofs.Surviving.{some_is, some_none}

module _ {E : Type 0} (g : Language E) where
  -- so many steps lead there, which are as many as may be made, or as many as there are
  pub record MakesAll (most : ℕ) (e : E) (n : ℕ) (end : E) : Type 0 where
    pub made : pure_steps g n e ≡ Some end
    pub within : n ≤ most
    pub stops : n < most → pure_of g (g.look end) ≡ None

  pub record AreSame (n m : ℕ) (e f : E) : Type 0 where
    pub steps : n ≡ m
    pub end : e ≡ f

  stuck : {X : Type 0} (n : ℕ) (e end : E) → pure_of g (g.look e) ≡ None → pure_steps g (suc n) e ≡ Some end → X
  stuck n e end none made = absurd (some_none (sym made ∙ ap (option_and_then (pure_steps g n)) none))

  pub same_steps : (most n m : ℕ) (e end other : E) → MakesAll most e n end → MakesAll most e m other → AreSame n m end other
  same_steps most zero zero e end other a b = record { steps = refl; end = some_is (sym a.made ∙ b.made) }
  same_steps most zero (suc m) e end other a b =
      let within = b.within in
      let below : 0 < most = omega (arith, within) in
      stuck m e other (ap (λ x. pure_of g (g.look x)) (some_is a.made) ∙ a.stops below) b.made
  same_steps most (suc n) zero e end other a b =
      let within = a.within in
      let below : 0 < most = omega (arith, within) in
      stuck n e end (ap (λ x. pure_of g (g.look x)) (some_is b.made) ∙ b.stops below) a.made
  same_steps zero (suc n) (suc m) e end other a b = let within = a.within in absurd (omega (arith, within))
  same_steps (suc most) (suc n) (suc m) e end other a b = by (pure_of g (g.look e)) refl (λ f. same_steps most n m f end other)
    where
      by : (o : Option E) → pure_of g (g.look e) ≡ o → ((f : E) → MakesAll most f n end → MakesAll most f m other → AreSame n m end other) → AreSame (suc n) (suc m) end other
      by None at same = stuck n e end at a.made
      by (Some f) at same =
          let within_a = a.within in
          let within_b = b.within in
          let s = same f
          (record { made = ap (option_and_then (pure_steps g n)) (sym at) ∙ a.made; within = omega (arith, within_a); stops = λ low. a.stops (omega (arith, low)) })
          (record { made = ap (option_and_then (pure_steps g m)) (sym at) ∙ b.made; within = omega (arith, within_b); stops = λ low. b.stops (omega (arith, low)) })
          in
          record { steps = ap suc s.steps; end = s.end }
