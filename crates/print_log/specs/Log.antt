-- What was printed, as callers see it.
use Rattle.std.specs.Prelude.{ℕ, Bool, not, List, ◌++◌, filter, map as each, nat_eq, refl}
use Rattle.std.specs.List.{list_any}
use Rattle.std.specs.Coded.{Coded, code_by, coded×, coded_ℕ, coded_list}
use Rattle.stab_base.specs.Datum.{Datum}
use Rattle.stab_base.specs.DatumCode.{coded_datum}

-- a print: the number of its step, and the value
pub record Print : Type 0 where
  pub number : ℕ
  pub value : Datum

-- the values that are final; the prints since the last cut, in the order in which they came; for how many more prints there is
-- room, and for how many more final values
pub record Prints : Type 0 where
  pub finals : List Datum
  pub recent : List Print
  pub spare : ℕ
  pub places : ℕ

-- proofs store both as the tuples of their fields
abbrev pub coded_print : Coded Print
coded_print = code_by (ℕ × Datum) (coded× coded_ℕ coded_datum) (λ p. (p.number, p.value)) (λ p. record { number = p.0; value = p.1 }) (λ _. refl)

abbrev pub coded_prints : Coded Prints
coded_prints =
    code_by (List Datum × (List Print × (ℕ × ℕ))) (coded× (coded_list coded_datum) (coded× (coded_list coded_print) (coded× coded_ℕ coded_ℕ))) (λ p. (p.finals, (p.recent, (p.spare, p.places)))) (λ p. record { finals = p.0; recent = p.1.0; spare = p.1.1.0; places = p.1.1.1 }) (λ _. refl)

-- all values, in the order of their prints
abbrev pub values : Prints → List Datum
values p = p.finals ++ each (λ (x : Print). x.value) p.recent

-- whether a print of the number q is among some
abbrev pub has_print : ℕ → List Print → Bool
has_print q ps = list_any (λ p. nat_eq q p.number) ps

-- the prints of other numbers than q
abbrev pub without : ℕ → List Print → List Print
without q ps = filter (λ p. not (nat_eq q p.number)) ps
