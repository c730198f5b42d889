-- Slots that are passed over.
use Rattle.std.proofs.Common.{◌≡◌, ℕ, zero, suc, ◌+◌, ◌-◌, ◌≤◌, List, [], ◌∷◌, ◌++◌, length, replicate, refl, ap, ◌∙◌, append-nil, append_assoc, sym, arith}
use Rattle.stab_base.specs.Datum.{Datum, unit}
use Rattle.step_eval.specs.Scoped.{bound}

replicate-end : (n : ℕ) (v : Datum) → replicate n v ++ v ∷ [] ≡ replicate (suc n) v
replicate-end zero v = refl
replicate-end (suc n) v = ap (λ vs. v ∷ vs) (replicate-end n v)

pub no-unit : (env : List Datum) (i : ℕ) → i ≡ length env → env ≡ env ++ replicate (i - length env) unit
no-unit env i e = sym (ap (λ n. env ++ replicate n unit) (let none : i - length env ≡ 0 = omega arith in none) ∙ append-nil env)

-- one more is passed
pub more-units : (env xs ys : List Datum) (i : ℕ) → length env ≤ i → xs ≡ env ++ replicate (i - length env) unit → ys ≡ xs ++ unit ∷ [] → ys ≡ env ++ replicate (i + 1 - length env) unit
more-units env xs ys i h is more =
    let n : suc (i - length env) ≡ i + 1 - length env = omega arith in
    more ∙ ap (λ zs. zs ++ unit ∷ []) is
    ∙ append_assoc env (replicate (i - length env) unit) (unit ∷ [])
    ∙ ap (λ zs. env ++ zs) (replicate-end (i - length env) unit)
    ∙ ap (λ k. env ++ replicate k unit) n

pub all-units : (env xs ys : List Datum) (i x : ℕ) (v : Datum) → i ≡ x → xs ≡ env ++ replicate (i - length env) unit → ys ≡ xs ++ v ∷ [] → ys ≡ bound env x v
all-units env xs ys i x v e is more = more ∙ ap (λ zs. zs ++ v ∷ []) (is ∙ ap (λ k. env ++ replicate (k - length env) unit) e)
