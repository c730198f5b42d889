-- Lists of places, as callers see them.
use Rattle.std.specs.Prelude.{◌≡◌, ℕ, ◌≤◌, Bool, true, false, not, nat_eq, List, [], ◌∷◌, filter, slice_index_or, refl, if◌then◌else◌}
use Rattle.std.specs.List.{IsDistinct, list_any}
use Rattle.std.specs.Coded.{Coded, code_by, coded×, coded_ℕ, coded_list}

-- the lists by number, how many places there are, and for how many more of either there is room
pub record Seen : Type 0 where
  pub lists : List (List ℕ)
  pub places : ℕ
  pub spare_lists : ℕ
  pub spare : ℕ

-- it is stored as the tuple of its fields
abbrev pub seen_code : Coded Seen
seen_code =
    code_by (List (List ℕ) × (ℕ × (ℕ × ℕ)))
    (coded× (coded_list (coded_list coded_ℕ)) (coded× coded_ℕ (coded× coded_ℕ coded_ℕ)))
    (λ s. (s.lists, (s.places, (s.spare_lists, s.spare))))
    (λ p. record { lists = p.0; places = p.1.0; spare_lists = p.1.1.0; spare = p.1.1.1 })
    (λ _. refl)

-- whether the place t stands in the list
abbrev pub is_listed : ℕ → List ℕ → Bool
is_listed t list = list_any (nat_eq t) list

-- the list without the place t
abbrev pub without : ℕ → List ℕ → List ℕ
without t list = filter (λ u. not (nat_eq t u)) list

-- what stands after the place t in the list
abbrev pub following : ℕ → List ℕ → List ℕ
following t [] = []
following t (u ∷ list) = if nat_eq t u then list else following t list

-- the list with the number h, empty where there is none
abbrev pub list_at : List (List ℕ) → ℕ → List ℕ
list_at lists h = slice_index_or lists h []

-- the place t stands in none of the lists
abbrev pub StandsNowhere : ℕ → List (List ℕ) → Type 0
StandsNowhere t lists = (h : ℕ) → is_listed t (list_at lists h) ≡ false

-- what holds of all lists: each place in them is there, once in a list and in one list only
pub record IsSound (s : Seen) : Type 0 where
  pub there : (h t : ℕ) → is_listed t (list_at s.lists h) ≡ true → (1 ≤ t) × (t ≤ s.places)
  pub once : (h : ℕ) → IsDistinct nat_eq (list_at s.lists h)
  pub apart : (h k t : ℕ) → is_listed t (list_at s.lists h) ≡ true → is_listed t (list_at s.lists k) ≡ true → h ≡ k
