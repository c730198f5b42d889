-- What a store has, as a map from events and threads to controls.
use Rattle.std.specs.Prelude.{◌≡◌, ◌⊎◌, ℕ, ◌<◌, Bool, Option, refl, nat_eq, nat_lt, ◌&&◌}
use Rattle.std.specs.declared.cmp.Ordering.{Ordering}
use Rattle.std.specs.Ordering.{nat_cmp, ordering_then}
use Rattle.std.specs.Coded.{Coded, code_by, coded×, coded_ℕ}
use Rattle.std.specs.FinMap.{FinMap, get, code}
use Rattle.stab_base.specs.declared.numbers.Seq.{Seq}
use Rattle.stab_base.specs.declared.numbers.ThreadId.{ThreadId}

-- an event and one of its actors
abbrev pub Place : Type 0
Place = Seq × ThreadId

-- by the event, and then by the thread
abbrev pub place_cmp : Place → Place → Ordering
place_cmp a b = ordering_then (nat_cmp a.0.0 b.0.0) (nat_cmp a.1.0 b.1.0)

-- at most one control at each place, and for how many more there is room
pub record Saved (C : Type 0) : Type 0 where
  pub controls : FinMap place_cmp C
  pub spare : ℕ

-- a place is stored as a pair of numbers, and a store as the pair of its fields
abbrev pub coded_place : Coded Place
coded_place = code_by (ℕ × ℕ) (coded× coded_ℕ coded_ℕ) (λ p. (p.0.0, p.1.0)) (λ n. (record { 0 = n.0 }, record { 0 = n.1 })) (λ _. refl)

abbrev pub saved_code : {C : Type 0} → Coded C → Coded (Saved C)
saved_code {C} control =
    code_by (FinMap place_cmp C × ℕ) (coded× (code coded_place control) coded_ℕ) (λ s. (s.controls, s.spare)) (λ p. record { controls = p.0; spare = p.1 }) (λ _. refl)

-- what a thread had before an event, if that is saved
abbrev pub saved_at : {C : Type 0} → Saved C → Seq → ThreadId → Option C
saved_at s q t = get s.controls (q, t)

-- k is the place p
abbrev pub same_place : Place → Place → Bool
same_place p k = nat_eq k.0.0 p.0.0 && nat_eq k.1.0 p.1.0

-- r and u are the event q and the thread t
abbrev pub is_place : Seq → ThreadId → Seq → ThreadId → Bool
is_place q t r u = same_place (q, t) (r, u)

-- a place of an earlier event, or of the same one and a thread of a smaller number
abbrev pub IsBelow : Place → Place → Type 0
IsBelow a b = (a.0.0 < b.0.0) ⊎ ((a.0.0 ≡ b.0.0) × (a.1.0 < b.1.0))

-- a place of an event before q
abbrev pub before : Seq → Place → Bool
before q p = nat_lt p.0.0 q.0

-- a place of the event q
abbrev pub at : Seq → Place → Bool
at q p = nat_eq p.0.0 q.0
