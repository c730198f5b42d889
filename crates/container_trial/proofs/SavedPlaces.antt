-- What is saved once one more control is, and once some went.
use Rattle.std.proofs.Common.{◌≡◌, ℕ, ◌<◌, ◌≤◌, ◌+◌, ◌*◌, ◌⊎◌, inl, inr, Bool, true, false, cond, ◌&&◌, nat_eq, List, [], ◌∷◌, ◌++◌, Option, Some, None, IsSome, refl, sym, subst, arith}
use Rattle.std.specs.List.{All}
use Rattle.std.proofs.lemmas.Bool.{eqb-true, cases_eq, cases_lt}
use Rattle.std.proofs.lemmas.Bool.Decides.{nat_tests}
use Rattle.std.proofs.lemmas.List.Elements.{All-push, All-weaker}
use Rattle.stab_base.specs.declared.numbers.Seq.{Seq}
use Rattle.stab_base.specs.declared.numbers.ThreadId.{ThreadId}
use Rattle.checkpoint_store.specs.Saved.{Place, Saved, saved_at, is_place}

-- the number of the place is below the next one
pub below_more : (r u q t next : ℕ) (x y : Bool) (o p : Option ℕ) → nat_eq r q ≡ x → nat_eq u t ≡ y → next ≤ q * 2048 + t → (IsSome p → r * 2048 + u < next) → IsSome (cond (x && y) o p) → r * 2048 + u < q * 2048 + t + 1
below_more r u q t next true true o p event thread low old some = let e = eqb-true r q event in let f = eqb-true u t thread in omega arith
below_more r u q t next true false o p event thread low old some = omega (arith, old some)
below_more r u q t next false y o p event thread low old some = omega (arith, old some)

-- it stands before the place
pub is_before : (r u q t next : ℕ) → r * 2048 + u < next → next ≤ q * 2048 + t → t ≤ 1000 → (r < q) ⊎ ((r ≡ q) × (u < t))
is_before r u q t next under low few = elim (cases_lt r q) [
  | inl y ↦ inl (omega arith)
  | inr z ↦ inr (omega arith, omega arith)
]

kept : (b : Bool) (control : ℕ) (o : Option ℕ) → IsSome o → IsSome (cond b (Some control) o)
kept true control o some = refl
kept false control o some = some

here : (b : Bool) (control : ℕ) (o : Option ℕ) → b ≡ true → IsSome (cond b (Some control) o)
here true control o is = refl
here false control o is = absurd (cc)

self : (q t : ℕ) → (nat_eq q q && nat_eq t t) ≡ true
self q t = grind (arith, nat_tests)

-- something is saved at one place more
pub there_more : (old new : Saved ℕ) (places : List Place) (q : Seq) (t : ThreadId) (control : ℕ) → ((r : Seq) (u : ThreadId) → saved_at new r u ≡ cond (is_place q t r u) (Some control) (saved_at old r u))
    → All (λ (p : Place). IsSome (saved_at old p.0 p.1)) places → All (λ (p : Place). IsSome (saved_at new p.0 p.1)) (places ++ (q, t) ∷ [])
there_more old new places q t control is all =
    let P : Place → Type 0 = λ p. IsSome (saved_at new p.0 p.1) in
    All-push P places (q, t)
    (All-weaker (λ (p : Place). IsSome (saved_at old p.0 p.1)) P (λ p some. subst IsSome (sym (is p.0 p.1)) (kept (is_place q t p.0 p.1) control (saved_at old p.0 p.1) some)) places all)
    (subst IsSome (sym (is q t)) (here (is_place q t q t) control (saved_at old q t) (self q.0 t.0)))

-- what is left was saved before
pub was_there : (b : Bool) (o : Option ℕ) → IsSome (cond b None o) → IsSome o
was_there true o some = absurd (cc)
was_there false o some = some
