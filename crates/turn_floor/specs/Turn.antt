-- The rule of the turn: what is in the table, and what each seat knows.
use Rattle.std.specs.Prelude.{◌≡◌, ℕ, ◌+◌, ◌<◌, ◌≤◌, Bool, true, false, List, [], ◌∷◌, length, nat_eq}
use Rattle.std.specs.List.{AllByRecursion}
use mathlib.Core.Option.{Option, none, some}
use mathlib.Core.List.{IsPrefix}
use lib.ListN.{get_elem?}
use Rattle.atomic_table.specs.Table.{State}
use Rattle.stab_journal.specs.Own.{own}
use Rattle.stab_journal.specs.declared.event.Event.{Event}
use Rattle.stab_journal.specs.declared.event.Recorded.{Recorded}
use Rattle.turn_floor.specs.Served.{AddsOf, AreOf}
use Rattle.turn_floor.specs.Start.{Start}
use Rattle.turn_floor.specs.declared.view.View.{View}

abbrev pub view_of : ℕ → Start → List Event → List (List Event) → List Recorded → Bool → ℕ → ℕ → View
view_of worker start seen olds own holds seats last = record { worker = worker; start = start; seen = seen; olds = olds; own = own; holds = holds; seats = seats; last = last }

-- worker 1 has seen what the floor was given, and the numbers to the last one were given out
abbrev pub dealing : Start → ℕ → View
dealing start last = view_of 1 start start.events [] (own 1 start.events) false 1 last

-- no other number was given out
abbrev pub first_view : Start → View
first_view start = dealing start 1

-- how many seats were given out, by the views of those that weren't joined away
abbrev pub total_seats : List View → ℕ
total_seats [] = 0
total_seats (v ∷ vs) = v.seats + total_seats vs

-- whether the seat is the holder
abbrev pub is_here : Option ℕ → ℕ → Bool
is_here none id = false
is_here (some i) id = nat_eq i id

-- what a seat that wasn't joined away knows of the whole history, the worker number last given out and the holder
pub record Fits (start : Start) (whole : List Event) (last : ℕ) (holder : Option ℕ) (id : ℕ) (v : View) : Type 0 where
  pub start_is : v.start ≡ start
  pub seen_is : IsPrefix v.seen whole
  pub olds_are : AllByRecursion (λ (old : List Event). IsPrefix old whole) v.olds
  pub own_is : v.own ≡ own v.worker whole
  pub positive : 1 ≤ v.worker
  pub within : v.worker ≤ last
  pub last_is : 0 < v.last → (id ≡ 0) × (v.last ≡ last)
  pub holds_is : v.holds ≡ is_here holder id
  pub saw_all : v.holds ≡ true → v.seen ≡ whole

-- What the slot holds is seen by two readers: what a value that lies at home keeps of the start, and its history.
module _ {S : Type 0} (Keeps : Start → S → Type 0) (events_of : S → List Event) where
  -- the turn word, the front word and the slot: at home where nobody holds, and else out
  abbrev pub Placed : Start → List Event → List ℕ → List (Option S) → Option ℕ → Type 0
  Placed start whole words homes none = (words ≡ 0 ∷ length whole ∷ []) × (k : S) × (homes ≡ some k ∷ []) × Keeps start k × (events_of k ≡ whole)
  Placed start whole words homes (some i) = (words ≡ 1 ∷ length whole ∷ []) × (homes ≡ none ∷ [])

  -- views that were joined away, which count no seat, are excepted from all of this
  pub record Turned (start : Start) (s : State S View) : Type 0 where
    pub whole : List Event
    pub last : ℕ
    pub holder : Option ℕ
    pub placed : Placed start whole s.words s.homes holder
    pub holder_lives : (i : ℕ) → holder ≡ some i → (v : View) × (get_elem? s.views i ≡ some v) × (0 < v.seats)
    pub each : (id : ℕ) (v : View) → get_elem? s.views id ≡ some v → 0 < v.seats → Fits start whole last holder id v
    pub apart : (i j : ℕ) (v w : View) → get_elem? s.views i ≡ some v → get_elem? s.views j ≡ some w → 0 < v.seats → 0 < w.seats → v.worker ≡ w.worker → i ≡ j
    pub counted : total_seats s.views ≡ last
    pub room : last ≤ start.workers
    pub named : AreOf start.workers whole
    pub grown : AddsOf last start.events whole
