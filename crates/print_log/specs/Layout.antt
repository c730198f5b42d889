-- How the prints since the last cut are kept: a struck one leaves a hole.
use Rattle.std.specs.Prelude.{ℕ, ◌<◌, ◌-◌, List, [], ◌∷◌, ◌++◌, length, slice_get, Option, Some, None, IfSome, IsSome}
use Rattle.std.specs.List.{AllByRecursion}
use Rattle.stab_base.specs.Datum.{Datum}
use Rattle.print_log.specs.declared.recent.Entry.{Entry}
use Rattle.print_log.specs.Log.{Print}

abbrev pub print_in : ℕ → Option Datum → List Print
print_in q None = []
print_in q (Some v) = record { number = q; value = v } ∷ []

-- the prints that entries hold
abbrev pub live : List Entry → List Print
live [] = []
live (e ∷ es) = print_in e.number.0 e.value ++ live es

-- the numbers rise
abbrev pub IsRising : List Entry → Type 0
IsRising [] = Unit {0}
IsRising (e ∷ es) = AllByRecursion (λ (k : Entry). e.number.0 < k.number.0) es × IsRising es

-- the last entry is no hole
abbrev pub EndsLive : List Entry → Type 0
EndsLive es = IfSome (slice_get es (length es - 1)) (λ (e : Entry). IsSome e.value)

-- what holds of all entries
pub record IsSound (es : List Entry) : Type 0 where
  pub rising : IsRising es
  pub ends : EndsLive es
