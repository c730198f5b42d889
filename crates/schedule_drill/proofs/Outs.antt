-- The leases that are out, and the entries that are kept of them.
use Rattle.std.proofs.Common.{◌≡◌, ℕ, cond, length, List, [], ◌∷◌, None, refl, sym, ap, ◌∙◌, arith}
use Rattle.std.specs.List.{AllByRecursion}
use Rattle.std.specs.List.Sorted.{IsStrictlySortedBy}
use Rattle.std.specs.Ordering.{nat_cmp}
use Rattle.std.specs.declared.cmp.Ordering.TheVariants.{Less}
use Rattle.std.specs.Cmp.{nat_cmp_total, eq_by_cmp_equiv}
use Rattle.std.specs.Map.{keys_of, lookup, values_of}
use Rattle.std.specs.BTreeMap.{is_at}
use Rattle.std.specs.FinMap as map
use Rattle.std.specs.FinMap.{put, remove, from_entries, same_map, nat_cmp-IsAntisymmetric, get-remove, entries-insert, len-empty, len-entries}
use Rattle.std.specs.FinMap.Entries.{by_order}
use Rattle.language.proofs.Maps.{get_looked}
use Rattle.schedule_drill.specs.declared.held.Held.{Held}
use Rattle.schedule_drill.specs.Out.{Out}

-- one entry less
pub left_map : {X : Type 0} (es fs : List (ℕ × X)) (k : ℕ) → ((x : ℕ) → lookup (is_at (nat_cmp x)) fs ≡ cond (is_at (nat_cmp k) x) None (lookup (is_at (nat_cmp x)) es)) → from_entries {R = nat_cmp} fs ≡ remove (from_entries es) k
left_map es fs k h = same_map nat_cmp_total nat_cmp-IsAntisymmetric _ _ (λ x.
    get_looked fs x ∙ h x ∙ ap (λ b. cond b None (lookup (is_at (nat_cmp x)) es)) ((eq_by_cmp_equiv nat_cmp_total).symm k x)
    ∙ sym (get-remove nat_cmp_total (from_entries es) k x ∙ ap (cond (is_at (nat_cmp x) k) None) (get_looked es x)))

-- the leases, in the order of their numbers
abbrev pub held_in : Out → List Held
held_in out = map.values out

module _ {X : Type 0} where
  none : (es : List (ℕ × X)) → length es ≡ 0 → es ≡ []
  none [] h = refl
  none (e ∷ es) h = absurd (omega (arith, h))

  put_before : (k : ℕ) (v : X) (es : List (ℕ × X)) → AllByRecursion (λ y. nat_cmp k y ≡ Less) (keys_of es) → put nat_cmp k v es ≡ (k, v) ∷ es
  put_before k v [] h = refl
  put_before k v (e ∷ es) h = ap (λ r. by_order r ((k, v) ∷ e ∷ es) ((e.0, v) ∷ es) (e ∷ put nat_cmp k v es)) h.0

  -- entries in the order of their numbers are those of their map
  pub entries_are : (es : List (ℕ × X)) → IsStrictlySortedBy nat_cmp (keys_of es) → map.entries (from_entries {R = nat_cmp} es) ≡ es
  unfolding IsStrictlySortedBy
  entries_are [] h = none (map.entries map.empty) (sym (len-entries map.empty) ∙ len-empty nat_cmp X)
  entries_are (e ∷ es) h = entries-insert nat_cmp_total (from_entries es) e.0 e.1 ∙ ap (put nat_cmp e.0 e.1) (entries_are es h.1) ∙ put_before e.0 e.1 es h.0

pub values_are : (es : List (ℕ × Held)) → IsStrictlySortedBy nat_cmp (keys_of es) → held_in (from_entries es) ≡ values_of es
values_are es h = ap values_of (entries_are es h)
