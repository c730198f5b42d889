-- What each kind of step tells.
use Rattle.std.specs.Prelude.{◌≡◌, ◌≢◌, ℕ, ◌+◌, true, false, List, [], ◌∷◌, ◌++◌, length, if◌then◌else◌, nat_le}
use mathlib.Core.List.{IsPrefix}
use Rattle.atomic_table.specs.Table.{Me, Step, rest}
use Rattle.stab_journal.specs.Own.{own}
use Rattle.stab_journal.specs.declared.event.Event.{Event}
use Rattle.turn_floor.specs.Served.{AreOf}
use Rattle.turn_floor.specs.Start.{Start, no_start}
use Rattle.turn_floor.specs.Turn.{view_of}
use Rattle.turn_floor.specs.declared.view.View.{View}

-- take: it holds, and has seen the history that it found
abbrev pub holding : View → List Event → View
holding v whole = view_of v.worker v.start whole v.olds v.own true v.seats v.last

-- store of the front: it has seen the longer history, and its own events are those of it that carry its number
abbrev pub showing : View → List Event → View
showing v whole = view_of v.worker v.start whole v.olds (own v.worker whole) true v.seats v.last

-- give: it holds nothing
abbrev pub giving : View → View
giving v = view_of v.worker v.start v.seen v.olds v.own false v.seats v.last

-- split: the first seat has given out one number more
abbrev pub dealer : View → View
dealer v = view_of v.worker v.start v.seen v.olds v.own v.holds v.seats (v.last + 1)

-- split: the new seat has that number, and has seen what the floor was given
abbrev pub dealt : View → View
dealt v = view_of (v.last + 1) v.start v.start.events [] (own (v.last + 1) v.start.events) false 1 0

abbrev pub longer : List Event → List Event → List Event
longer xs ys = if nat_le (length xs) (length ys) then ys else xs

-- join: it has seen the longer of both lists, and keeps all that either had seen
abbrev pub both : View → View → View
both v w = view_of v.worker v.start (longer v.seen w.seen) (v.seen ∷ w.seen ∷ v.olds ++ w.olds) v.own v.holds (v.seats + w.seats) v.last

-- join: the other is left with nothing
abbrev pub spent : View
spent = view_of 0 no_start [] [] [] false 0 0

module _ {S : Type 0} (Keeps : Start → S → Type 0) (events_of : S → List Event) where
  -- the seat has the state, whose history begins with all that it had seen and has the events that it knows as its own
  pub record Found (v : View) (k : S) : Type 0 where
    pub keeps : Keeps v.start k
    pub seen_is : IsPrefix v.seen (events_of k)
    pub own_is : v.own ≡ own v.worker (events_of k)
    pub named : AreOf v.start.workers (events_of k)

  abbrev pub Took : Me S View → Me S View → Type 0
  Took m n = (k : S) × (n ≡ (holding m.0 (events_of k), (0, k) ∷ m.1)) × Found m.0 k

  -- a take, where the turn was free, and else a miss, which changes nothing
  abbrev pub taken : Step S → Me S View → ℕ → Me S View → Type 0
  taken st m found n = (found ≡ 0 → Took m n) × (found ≢ 0 → n ≡ m)

  abbrev pub shown : Step S → Me S View → ℕ → Me S View → Type 0
  shown st m found n = (k : S) → m.1 ≡ (0, k) ∷ [] → n ≡ (showing m.0 (events_of k), m.1)

module _ {S : Type 0} where
  abbrev pub given : Step S → Me S View → ℕ → Me S View → Type 0
  given st m found n = n ≡ (giving m.0, rest m.1)

  -- the seat holds the slot alone, of whose value P holds
  abbrev pub Carries : Me S View → (S → Type 0) → Type 0
  Carries m P = (k : S) × (m.1 ≡ (0, k) ∷ []) × P k
