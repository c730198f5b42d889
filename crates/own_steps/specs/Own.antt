-- Steps of threads, as callers see them.
use Rattle.std.specs.Prelude.{◌-◌, ℕ, List, [], Option, length, slice_get, slice_index_or, take, refl}
use Rattle.std.specs.Coded.{Coded, code_by, coded×, coded_ℕ, coded_list}

-- the steps of each thread in the order in which they were pushed, by the thread's number; for how many steps places are taken; and for how many more there is room
pub record Seen : Type 0 where
  pub steps : List (List ℕ)
  pub count : ℕ
  pub spare : ℕ

-- it is stored as the tuple of its fields
abbrev pub seen_code : Coded Seen
seen_code =
    code_by (List (List ℕ) × (ℕ × ℕ)) (coded× (coded_list (coded_list coded_ℕ)) (coded× coded_ℕ coded_ℕ)) (λ s. (s.steps, (s.count, s.spare))) (λ p. record { steps = p.0; count = p.1.0; spare = p.1.1 }) (λ _. refl)

-- the steps of the thread t, none where it has no place
abbrev pub steps_of : Seen → ℕ → List ℕ
steps_of s t = slice_index_or s.steps t []

-- the last of some steps
abbrev pub last_step : List ℕ → Option ℕ
last_step qs = slice_get qs (length qs - 1)

-- all but the last
abbrev pub but_last : List ℕ → List ℕ
but_last qs = take (length qs - 1) qs
