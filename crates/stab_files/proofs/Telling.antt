-- What a writer that says what it holds tells as a sink.
use Rattle.std.proofs.Common.{◌≡◌, ℕ, Bool, true, false, List, ◌++◌, Option, Some, None, refl, ap}
use Rattle.std.specs.Prelude.{IsSome}
use Rattle.std.proofs.lemmas.Bool.{false≢true}
use Rattle.std.specs.Io.KnownBytes.{Appends as Grows}
use Rattle.stab_base.specs.Gain.{SomePrefix}
use Rattle.stab_files.specs.OutSink.{told_if}
use Rattle.stab_files.specs.Told.{Appends, AppendsPrefix}

-- known bytes that grew are still known
pub still_known : (old new : Option (List ℕ)) (bytes : List ℕ) → IsSome old → Grows old new bytes → IsSome new
still_known None new bytes some grown = absurd (false≢true some)
still_known (Some xs) None bytes some grown = absurd grown
still_known (Some xs) (Some ys) bytes some grown = refl

module _ (tells : Bool) (old new : Option (List ℕ)) where
  grown_known : (bytes : List ℕ) → IsSome old → Grows old new bytes → Appends old new bytes
  grown_known bytes some grown = elim old as (λ o. IsSome o → Grows o new bytes → Appends o new bytes) [
    | None ↦ λ none any. absurd (false≢true none)
    | (Some xs) ↦ λ some grown. elim new as (λ n. Grows (Some xs) n bytes → Appends (Some xs) n bytes) [
      | None ↦ λ no. absurd no
      | (Some ys) ↦ λ is. ap (λ (zs : List ℕ). Some zs) is
    ] grown
  ] some grown

  pub told_grows : (bytes : List ℕ) → (tells ≡ true → IsSome old) → Grows old new bytes → Appends (told_if tells old) (told_if tells new) bytes
  told_grows bytes known grown = elim tells as (λ b. (b ≡ true → IsSome old) → Appends (told_if b old) (told_if b new) bytes) [
    | true ↦ λ k. grown_known bytes (k refl) grown
    | false ↦ λ k. refl
  ] known

  pub told_prefix : (bytes : List ℕ) → (tells ≡ true → IsSome old) → SomePrefix (Grows old new) bytes → AppendsPrefix (told_if tells old) (told_if tells new) bytes
  told_prefix bytes known h = record { front = h.front; back = h.back; split = h.split; fact = told_grows h.front known h.fact }
