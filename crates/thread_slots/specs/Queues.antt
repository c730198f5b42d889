-- The two lists of threads, over linked lists that are made when they are needed first.
use Rattle.std.specs.Prelude.{◌≡◌, ◌≢◌, ℕ, ◌<◌, ◌≤◌, ◌^◌, List, [], length, nat_eq, refl, if◌then◌else◌}
use Rattle.std.specs.Coded.{Coded, code_by, coded×, coded_ℕ, coded_list}
use Rattle.linked_lists.specs.Lists.{Seen}

-- the ready threads and the leased ones, the longest so first, how many threads have a place, and how many more can have one
pub record Queues : Type 0 where
  pub ready : List ℕ
  pub leased : List ℕ
  pub places : ℕ
  pub spare : ℕ

-- it is stored as the tuple of its fields
abbrev pub queues_code : Coded Queues
queues_code =
    code_by (List ℕ × (List ℕ × (ℕ × ℕ)))
    (coded× (coded_list coded_ℕ) (coded× (coded_list coded_ℕ) (coded× coded_ℕ coded_ℕ)))
    (λ q. (q.ready, (q.leased, (q.places, q.spare))))
    (λ p. record { ready = p.0; leased = p.1.0; places = p.1.1.0; spare = p.1.1.1 })
    (λ _. refl)

-- for how many places more there is room: for none before there are two lists
abbrev pub spare_of : Seen → ℕ
spare_of s = if nat_eq (length s.lists) 2 then s.spare else 0

-- there are two lists, or none and no place; and places are numbers of threads
pub record IsMade (s : Seen) : Type 0 where
  pub two : length s.lists ≢ 2 → (s.lists ≡ []) × (s.places ≡ 0)
  pub fits : s.places < 2 ^ 32
