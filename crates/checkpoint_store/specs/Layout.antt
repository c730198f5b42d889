-- What callers see, from how it is kept: entries in rising order of their places, some of them holes.
use Rattle.std.specs.Prelude.{ℕ, ◌-◌, ◌<◌, Bool, List, [], ◌∷◌, Option, Some, None, IsSome, length, map, nat_eq, nat_lt, ◌&&◌, ◌||◌, cond}
use Rattle.std.specs.List.{AllPairs, slice_index_or}
use Rattle.std.specs.VecDeque.{deque_len, deque_capacity}
use Rattle.std.specs.declared.collections.VecDeque.{VecDeque}
use Rattle.std.specs.FinMap as fin
use Rattle.std.specs.FinMap.{FinMap}
use Rattle.checkpoint_store.specs.declared.entries.Entry.{Entry}
use Rattle.checkpoint_store.specs.Saved.{Place, place_cmp, same_place, IsBelow, Saved}

-- whether a place is below another
abbrev pub is_below : Place → Place → Bool
is_below a b = nat_lt a.0.0 b.0.0 || (nat_eq a.0.0 b.0.0 && nat_lt a.1.0 b.1.0)

-- each place is below all that come after it
abbrev pub Rises : List Place → Type 0
Rises = AllPairs IsBelow

module _ {C : Type 0} where
  abbrev pub places_of : List (Entry C) → List Place
  places_of = map (λ (e : Entry C). e.place)

  -- what the entries have at a place
  abbrev pub found : List (Entry C) → Place → Option C
  found [] k = None
  found (e ∷ es) k = cond (same_place e.place k) e.control (found es k)

  -- controls with what an entry has at its place
  abbrev pub with_control : Place → Option C → FinMap place_cmp C → FinMap place_cmp C
  with_control k None controls = fin.remove controls k
  with_control k (Some c) controls = fin.insert controls k c

  -- the controls of all entries
  abbrev pub controls_of : List (Entry C) → FinMap place_cmp C
  controls_of [] = fin.empty
  controls_of (e ∷ es) = with_control e.place e.control (controls_of es)

  -- the places rise, and the last entry is no hole
  pub record IsKept (es : List (Entry C)) : Type 0 where
    pub rises : Rises (places_of es)
    pub full : (d : Entry C) → 0 < length es → IsSome (slice_index_or es (length es - 1) d).control

  module _ {Z : Type 0} where
    -- for how many more entries there is room
    abbrev pub spare_in : VecDeque (Entry C) Z → ℕ
    spare_in q = deque_capacity q - deque_len q

    abbrev pub saved_in : VecDeque (Entry C) Z → Saved C
    saved_in q = record { controls = controls_of q.items; spare = spare_in q }
