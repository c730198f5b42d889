-- A floor and a pass as contracts see them.
use Rattle.std.specs.Prelude.{◌≡◌, ℕ, ◌+◌, ◌<◌, ◌≤◌, slice_index_or, List, [], length, true, false, if◌then◌else◌, nat_eq, refl}
use Rattle.std.specs.List.{All}
use Rattle.std.specs.Coded.{Coded, code_by, coded×, coded_list, coded_ℕ}
use Rattle.atomic_table.specs.Seated.{TableId}
use Rattle.stab_journal.specs.Own.{own}
use Rattle.stab_journal.specs.declared.event.Event.{Event}
use Rattle.turn_floor.specs.Start.{Start}
use Rattle.turn_floor.specs.declared.view.View.{View}

-- which floor it is, and what it was given
pub record FloorParts : Type 0 where
  pub table : TableId
  pub start : Start

-- the floor that a pass is of, its worker's number, the history as far as it has seen it, and how often its calls were told
-- that they committed and that they were stale
pub record PassParts : Type 0 where
  pub floor : FloorParts
  pub worker : ℕ
  pub seen : List Event
  pub commits : ℕ
  pub stale : ℕ

abbrev pub floor_of : TableId → Start → FloorParts
floor_of table start = record { table = table; start = start }

abbrev pub pass_of : FloorParts → ℕ → List Event → ℕ → ℕ → PassParts
pass_of floor worker seen commits stale = record { floor = floor; worker = worker; seen = seen; commits = commits; stale = stale }

-- the pass of a worker before its first turn: it has seen what the floor was given
abbrev pub new_pass : FloorParts → ℕ → PassParts
new_pass floor worker = pass_of floor worker floor.start.events 0 0

-- passes of the floor, one for each of its workers, in the order of their numbers
pub record AreAll (floor : FloorParts) (passes : List PassParts) : Type 0 where
  pub own : All (λ (p : PassParts). p.floor ≡ floor) passes
  pub every : length passes ≡ floor.start.workers
  pub in_order : (k : ℕ) (d : PassParts) → k < length passes → (slice_index_or passes k d).worker ≡ k + 1

-- both are stored as the tuples of their parts
abbrev pub floor_code : Coded TableId → Coded Start → Coded FloorParts
floor_code table_code starts = code_by (TableId × Start) (coded× table_code starts) (λ f. (f.table, f.start)) (λ p. floor_of p.0 p.1) (λ _. refl)

abbrev pub pass_code : Coded FloorParts → Coded Event → Coded PassParts
pass_code floors events =
    code_by (FloorParts × (ℕ × (List Event × (ℕ × ℕ)))) (coded× floors (coded× coded_ℕ (coded× (coded_list events) (coded× coded_ℕ coded_ℕ)))) (λ p. (p.floor, (p.worker, (p.seen, (p.commits, p.stale))))) (λ p. pass_of p.0 p.1.0 p.1.1.0 p.1.1.1.0 p.1.1.1.1) (λ _. refl)

-- the last number that a pass knows of: worker 1 gave all of them out
abbrev pub last_of : ℕ → ℕ → ℕ
last_of worker workers = if nat_eq worker 1 then workers else 0

-- a pass between its turns: its view, the worker's number and how many events it has seen
pub record IsPass (v : View) (worker seen : ℕ) : Type 0 where
  pub number_is : v.worker ≡ worker
  pub positive : 1 ≤ worker
  pub within : worker ≤ v.start.workers
  pub few : v.start.workers ≤ 64
  pub idle : v.holds ≡ false
  pub one_seat : v.seats ≡ 1
  pub last_is : v.last ≡ last_of worker v.start.workers
  pub len_is : length v.seen ≡ seen
  pub own_is : v.own ≡ own v.worker v.seen
