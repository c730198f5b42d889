-- Lists of threads with their generations.
use Rattle.std.proofs.Common.{◌≡◌, ℕ, ◌<◌, ◌≤◌, List, [], ◌∷◌, ◌++◌, refl, ap, arith}
use Rattle.std.specs.Prelude.{Some, None, IfSome, is_some}
use Rattle.std.specs.Ordering.{nat_cmp}
use Rattle.std.specs.FinMap as map
use Rattle.std.specs.FinMap.{FinMap}
use Rattle.language.specs.Plain.{PlainState, standing}
use Rattle.trace_verify.specs.declared.generations.Generations.{Generations}
use Rattle.trace_verify.specs.Generations.{times}
use Rattle.image_text.specs.Rising.{IsRising}
use Rattle.stab_image.specs.Found.{AreFound}

-- the numbers rise, from above the first one up to the last one
abbrev pub IsRisingTo : {X : Type 0} → ℕ → List (ℕ × X) → ℕ → Type 0
IsRisingTo n [] last = n ≤ last
IsRisingTo n (e ∷ es) last = (n < e.0) × IsRisingTo e.0 es last

pub is_rising : {X : Type 0} (n last : ℕ) (es : List (ℕ × X)) → IsRisingTo n es last → IsRising n es
is_rising n last [] h = tt
is_rising n last (e ∷ es) h = (h.0, is_rising e.0 last es h.1)

pub one_rising : {X : Type 0} (n last t : ℕ) (es : List (ℕ × X)) (x : X) → IsRisingTo n es last → last < t → IsRisingTo n (es ++ (t, x) ∷ []) t
one_rising n last t [] x h up = (omega arith, omega arith)
one_rising n last t (e ∷ es) x h up = (h.0, one_rising e.0 last t es x h.1 up)

-- the threads that were found are those of the state
pub same_keys : (s : PlainState) (g : Generations) (m : FinMap nat_cmp ℕ) → AreFound s g m → (t : ℕ) → map.contains_key m t ≡ map.contains_key s.threads t
same_keys s g m found t =
    elim (standing s t) as (λ o. standing s t ≡ o → IfSome o (λ e. map.get m t ≡ Some (times g t)) → map.contains_key m t ≡ is_some o) [
      | (Some e) ↦ λ is there. ap is_some there
      | None ↦ λ is there. ap is_some (found.only t is)
    ] refl (found.each t)
