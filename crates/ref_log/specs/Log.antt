-- A log of writes, as callers see it.
use Rattle.std.specs.Prelude.{◌≢◌, ◌<◌, IsTrue, drop, ℕ, Bool, not, List, [], Option, Some, None, unwrap_or, refl, nat_eq, nat_lt, cond, ◌∷◌, filter}
use Rattle.std.specs.List.{AllByRecursion, list_any, last_or}
use Rattle.std.specs.Ordering.{nat_cmp}
use Rattle.std.specs.Coded.{Coded, code_by, coded×, coded_ℕ, coded_list}
use Rattle.std.specs.FinMap as map
use Rattle.std.specs.FinMap.{FinMap}
use Rattle.stab_base.specs.Datum.{Datum}
use Rattle.stab_base.specs.DatumCode.{coded_datum}

-- a write: the number of its event, and the value that it wrote
pub record Write : Type 0 where
  pub number : ℕ
  pub value : Datum

-- the number of the last cut, 0 before the first, of each reference that is there its writes in rising order of number,
-- below which number references have a place, and for how many more writes there is room
pub record Log : Type 0 where
  pub last_cut : ℕ
  pub references : FinMap nat_cmp (List Write)
  pub places : ℕ
  pub spare : ℕ

-- proofs store a write and a log as the tuples of their fields
abbrev pub coded_write : Coded Write
coded_write = code_by (ℕ × Datum) (coded× coded_ℕ coded_datum) (λ w. (w.number, w.value)) (λ p. record { number = p.0; value = p.1 }) (λ _. refl)

abbrev pub coded_log : Coded Log
coded_log =
    code_by (ℕ × (FinMap nat_cmp (List Write) × (ℕ × ℕ))) (coded× coded_ℕ (coded× (map.code coded_ℕ (coded_list coded_write)) (coded× coded_ℕ coded_ℕ))) (λ l. (l.last_cut, (l.references, (l.places, l.spare)))) (λ p. record { last_cut = p.0; references = p.1.0; places = p.1.1.0; spare = p.1.1.1 }) (λ _. refl)

-- the writes of the reference r, none where it isn't there
abbrev pub writes_of : Log → ℕ → List Write
writes_of log r = unwrap_or (map.get log.references r) []

-- the last of some writes
abbrev pub last_of : List Write → Option Write
last_of ws = last_or None ws

-- whether a write of the number q is among some
abbrev pub has_write : ℕ → List Write → Bool
has_write q ws = list_any (λ w. nat_eq q w.number) ws

-- whether a write below q is among some
abbrev pub has_below : ℕ → List Write → Bool
has_below q ws = list_any (λ w. nat_lt w.number q) ws

-- the writes of other numbers than q
abbrev pub without : ℕ → List Write → List Write
without q ws = filter (λ w. not (nat_eq q w.number)) ws

-- of writes in rising order the last one below q and all above it: one goes where a later one is below q
abbrev pub kept : ℕ → List Write → List Write
kept q [] = []
kept q (w ∷ ws) = cond (has_below q ws) (kept q ws) (w ∷ ws)

-- the numbers of the writes rise
abbrev pub IsRising : List Write → Type 0
IsRising [] = Unit {0}
IsRising (w ∷ ws) = AllByRecursion (λ v. w.number < v.number) ws × IsRising ws

-- the writes of each reference rise, and all but the first are above the last cut
pub record IsInOrder (log : Log) : Type 0 where
  pub rising : (r : ℕ) → IsRising (writes_of log r)
  pub recent : (r p : ℕ) → IsTrue (has_write p (drop 1 (writes_of log r))) → log.last_cut < p

-- what holds of every log: its writes are in order, and a reference that is there has a write
pub record IsSound (log : Log) : Type 0 where
  pub order : IsInOrder log
  pub there : (r : ℕ) → map.get log.references r ≢ Some []
