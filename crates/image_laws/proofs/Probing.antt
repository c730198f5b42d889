-- Probes of a history and of the events that continue it.
use Rattle.std.proofs.Common.{◌≡◌, ℕ, suc, ◌+◌, List, [], ◌∷◌, ◌++◌, length, refl, sym, ap, subst, ◌∙◌, append_assoc, arith}
use Rattle.std.specs.Prelude.{ℤ, slice_get, IfSome, zero}
use Rattle.stab_journal.specs.declared.event.Event.{Event}
use Rattle.stab_journal.specs.Script.{probed, probed_by, script_at, FollowsScript}
use Rattle.stab_journal.specs.Since.{FollowsSince}

pub probed_append : (es ks : List Event) → probed (es ++ ks) ≡ probed es ++ probed ks
probed_append [] ks = refl
probed_append (e ∷ es) ks = ap (λ l. probed_by e.what ++ l) (probed_append es ks) ∙ sym (append_assoc (probed_by e.what) (probed es) (probed ks))

-- each number is that of the script, from the u-th on
abbrev Follow : List ℤ → ℕ → List ℤ → Type 0
Follow script u xs = (i : ℕ) → IfSome (slice_get xs i) (λ n. n ≡ script_at script (u + i))

both : (script : List ℤ) (u v : ℕ) (xs ys : List ℤ) → v ≡ u + length xs → Follow script u xs → Follow script v ys → Follow script u (xs ++ ys)
both script u v [] ys at f g i = subst (λ (k : ℕ). IfSome (slice_get ys i) (λ n. n ≡ script_at script (k + i))) at' (g i)
  where
    at' : v ≡ u
    at' = omega arith
both script u v (x ∷ xs) ys at f g zero = f zero
both script u v (x ∷ xs) ys at f g (suc i) =
    subst (λ (k : ℕ). IfSome (slice_get (xs ++ ys) i) (λ n. n ≡ script_at script k)) (omega arith)
    (both script (u + 1) v xs ys (omega arith) (λ j. subst (λ (k : ℕ). IfSome (slice_get xs j) (λ n. n ≡ script_at script k)) (omega arith) (f (suc j))) g i)

from_zero : (script : List ℤ) (xs : List ℤ) → ((i : ℕ) → IfSome (slice_get xs i) (λ n. n ≡ script_at script i)) → Follow script 0 xs
from_zero script xs f i = subst (λ (k : ℕ). IfSome (slice_get xs i) (λ n. n ≡ script_at script k)) (omega arith) (f i)

to_zero : (script : List ℤ) (xs : List ℤ) → Follow script 0 xs → (i : ℕ) → IfSome (slice_get xs i) (λ n. n ≡ script_at script i)
to_zero script xs f i = subst (λ (k : ℕ). IfSome (slice_get xs i) (λ n. n ≡ script_at script k)) (omega arith) (f i)

-- a history that follows the script, and events that follow what is left of it
pub follows_on : (script : List ℤ) (used : ℕ) (es ks : List Event) → used ≡ length (probed es) → FollowsScript script es → FollowsSince script used ks → FollowsScript script (es ++ ks)
follows_on script used es ks at f g =
    to_zero script _ (subst (λ (l : List ℤ). Follow script 0 l) (sym (probed_append es ks)) (both script 0 used (probed es) (probed ks) (omega arith) (from_zero script (probed es) f) g))
