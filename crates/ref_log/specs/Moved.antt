-- How far a cut has come.
use Rattle.std.specs.Prelude.{◌≡◌, ℕ, ◌≤◌, ◌++◌, List, length, take, drop}
use Rattle.std.specs.List.{AllByRecursion}
use Rattle.ref_log.specs.declared.places.Recent.{Recent}
use Rattle.ref_log.specs.declared.places.Reference.{Reference}
use Rattle.ref_log.specs.Log.{kept}
use Rattle.ref_log.specs.Layout.{of_reference, settled_at, IsLinked}

-- of the references xs₀ and the recent writes es₀ the first i writes are cut at q: the first so many of es stay, and from the i-th on es is as it was
pub record IsCutSoFar (q : ℕ) (xs₀ : List Reference) (es₀ : List Recent) (i stay : ℕ) (xs : List Reference) (es : List Recent) : Type 0 where
  pub few : stay ≤ i
  pub writes : (s : ℕ) → settled_at xs s ++ of_reference s (take stay es) ≡ kept q (settled_at xs₀ s ++ of_reference s (take i es₀))
  pub above : (s : ℕ) → AllByRecursion (λ w. q ≤ w.number) (of_reference s (take stay es))
  pub settled : (s : ℕ) → AllByRecursion (λ w. w.number ≤ q) (settled_at xs s)
  pub linked : IsLinked xs (take stay es)
  pub rest : drop i es ≡ drop i es₀
  pub long : length es ≡ length es₀
  pub places : length xs ≡ length xs₀
