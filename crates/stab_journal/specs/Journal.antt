-- A journal: events, numbered from 1, and the numbers of the steps that were struck.
use Rattle.std.specs.Prelude.{◌≡◌, ℕ, zero, suc, ◌^◌, ◌<◌, true, false, cond, List, [], ◌∷◌, ◌++◌, length, Option, None, IsSome, slice_get, option_and_then, refl, ◌≤◌, Some, nat_eq}
use Rattle.std.specs.List.{AllByRecursion, list_any}
use Rattle.std.specs.Ordering.{nat_cmp}
use Rattle.std.specs.Coded.{Coded, code_by, coded×, coded_list, coded_ℕ}
use Rattle.std.specs.FinSet.{FinSet, code, contains}
use Rattle.stab_journal.specs.declared.event.Label.{Label}
use Rattle.stab_journal.specs.declared.event.What.{What}
use Rattle.stab_journal.specs.declared.event.What.TheVariants.{Step}
use Rattle.stab_journal.specs.declared.event.Event.{Event}
use Rattle.stab_journal.specs.declared.event.Numbered.{Numbered}
use Rattle.stab_journal.specs.Event.{AreEvents, label_of, weight_of}

-- the events in order, the numbers of the struck ones, and for how many more events there is room
pub record Journal : Type 0 where
  pub events : List Event
  pub struck : FinSet nat_cmp
  pub spare : ℕ

-- a journal is stored as the tuple of its parts
abbrev pub journal_code : Coded Event → Coded Journal
journal_code event_code =
    code_by (List Event × (FinSet nat_cmp × ℕ)) (coded× (coded_list event_code) (coded× (code coded_ℕ) coded_ℕ)) (λ j. (j.events, (j.struck, j.spare))) (λ p. record { events = p.0; struck = p.1.0; spare = p.1.1 }) (λ _. refl)

-- the event with a number, the first being 1
abbrev pub event_at : List Event → ℕ → Option Event
event_at events zero = None
event_at events (suc i) = slice_get events i

-- the label of the step with a number
abbrev pub label_at : List Event → ℕ → Option Label
label_at events q = option_and_then (λ (e : Event). label_of e.what) (event_at events q)

-- q is the number of a step that isn't struck
pub record IsLive (j : Journal) (q : ℕ) : Type 0 where
  pub step : IsSome (label_at j.events q)
  pub kept : contains j.struck q ≡ false

-- a step with its number, and nothing of an event that is no step
abbrev pub step_at : ℕ → What → List Numbered
step_at q (Step label) = record { seq = record { 0 = q }; label = label } ∷ []
step_at q _ = []

-- of events that are numbered from q on, the steps that aren't struck
abbrev pub survivors_from : FinSet nat_cmp → ℕ → List Event → List Numbered
survivors_from struck q [] = []
survivors_from struck q (e ∷ es) = cond (contains struck q) [] (step_at q e.what) ++ survivors_from struck (suc q) es

-- the surviving journal: the steps that aren't struck, in order, each with its number
abbrev pub survivors : Journal → List Numbered
survivors j = survivors_from j.struck 1 j.events

-- the numbers of steps rise strictly, and the first is q or more
abbrev pub RiseFrom : ℕ → List Numbered → Type 0
RiseFrom q [] = Unit {0}
RiseFrom q (n ∷ ns) = (q ≤ n.seq.0) × RiseFrom (suc n.seq.0) ns

-- a step with its number, as the journal has it
pub record IsSurvivor (j : Journal) (n : Numbered) : Type 0 where
  pub label : label_at j.events n.seq.0 ≡ Some n.label
  pub live : IsLive j n.seq.0

-- the steps that aren't struck, each once and in order
pub record AreSurvivors (j : Journal) (run : List Numbered) : Type 0 where
  pub rising : RiseFrom 1 run
  pub each : AllByRecursion (IsSurvivor j) run
  pub every : (q : ℕ) → IsLive j q → list_any (λ (n : Numbered). nat_eq n.seq.0 q) run ≡ true

-- what is true of every journal
pub record IsValid (j : Journal) : Type 0 where
  pub in_range : AreEvents 1 j.events
  pub steps_only : (q : ℕ) → contains j.struck q ≡ true → IsSome (label_at j.events q)
  pub weight : weight_of j.events < 2 ^ 64
  pub few : length j.events ≤ weight_of j.events
