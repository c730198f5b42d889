-- Writes below a number.
use Rattle.std.proofs.Common.{◌≡◌, ℕ, ◌<◌, true, false, not, cond, ◌||◌, nat_eq, List, [], ◌∷◌, Some, IsFalse, refl, sym, ap, ◌∙◌, arith, eq-eqb, ne_eqb}
use Rattle.std.specs.Option.{option_map_or}
use Rattle.std.specs.List.{All, AllByRecursion, last_or}
use Rattle.std.proofs.lemmas.Bool.{or_right}
use Rattle.std.proofs.lemmas.List.Elements.{recursion_from_All, All-from_recursion}
use Rattle.ref_log.specs.Log.{Write, last_of, has_write, has_below, without, kept}
use Rattle.ref_log.specs.Calls.{struck, after_call}

last_from : (v w : Write) (ws : List Write) → last_or (Some v) ws ≡ Some w → has_write w.number (v ∷ ws) ≡ true
last_from v w [] e = ap (λ b. b || false) (eq-eqb w.number v.number (sym (ap (λ o. option_map_or (λ (x : Write). x.number) o 0) e)))
last_from v w (u ∷ ws) e = or_right (nat_eq w.number v.number) (has_write w.number (u ∷ ws)) (last_from u w ws e)

-- the last write is among them
pub last_listed : (ws : List Write) (w : Write) → last_of ws ≡ Some w → has_write w.number ws ≡ true
last_listed [] w e = absurd (cc)
last_listed (v ∷ ws) w e = last_from v w ws e

none_from : (q : ℕ) (ws : List Write) → AllByRecursion (λ w. w.number < q) ws → has_write q ws ≡ false
none_from q [] all = refl
none_from q (w ∷ ws) all = ap (λ b. b || has_write q ws) (ne_eqb q w.number (omega (arith, all.0))) ∙ none_from q ws all.1

-- none has the number that all are below
pub not_listed : (q : ℕ) (ws : List Write) → All (λ w. w.number < q) ws → IsFalse (has_write q ws)
not_listed q ws all = none_from q ws (recursion_from_All (λ w. w.number < q) ws all)

kept_all : (q b : ℕ) (ws : List Write) → AllByRecursion (λ w. w.number < b) ws → AllByRecursion (λ w. w.number < b) (kept q ws)
kept_all q b [] all = all
kept_all q b (w ∷ ws) all =
    elim (has_below q ws) as (λ x. AllByRecursion (λ w. w.number < b) (cond x (kept q ws) (w ∷ ws))) [
      | true ↦ kept_all q b ws all.1
      | false ↦ all
    ]

-- what a cut leaves is below what all were below
pub kept_below : (q b : ℕ) (ws : List Write) → All (λ w. w.number < b) ws → All (λ w. w.number < b) (kept q ws)
kept_below q b ws all = All-from_recursion (λ w. w.number < b) (kept q ws) (kept_all q b ws (recursion_from_All (λ w. w.number < b) ws all))

without_all : (q b : ℕ) (ws : List Write) → AllByRecursion (λ w. w.number < b) ws → AllByRecursion (λ w. w.number < b) (without q ws)
without_all q b [] all = all
without_all q b (w ∷ ws) all =
    elim (nat_eq q w.number) as (λ x. AllByRecursion (λ w. w.number < b) (cond (not x) (w ∷ without q ws) (without q ws))) [
      | true ↦ without_all q b ws all.1
      | false ↦ (all.0, without_all q b ws all.1)
    ]

-- and so is what a strike leaves
pub struck_below : (r s q b : ℕ) (ws : List Write) → All (λ w. w.number < b) ws → All (λ w. w.number < b) (after_call (struck r q) s ws)
struck_below r s q b ws all =
    elim (nat_eq r s) as (λ x. All (λ w. w.number < b) (cond x (without q ws) ws)) [
      | true ↦ All-from_recursion (λ w. w.number < b) (without q ws) (without_all q b ws (recursion_from_All (λ w. w.number < b) ws all))
      | false ↦ all
    ]
