-- What a machine that goes on from a cut knows of the events since.
use Rattle.std.specs.Prelude.{◌≡◌, ℕ, suc, ◌+◌, ◌≤◌, List, [], length, IsSome}
use Rattle.std.specs.List.{AllByRecursion}
use Rattle.stab_journal.specs.declared.event.Label.{Label}
use Rattle.stab_journal.specs.declared.event.Label.TheVariants.{Probe}
use Rattle.stab_journal.specs.declared.event.Event.{Event}
use Rattle.stab_journal.specs.declared.event.Numbered.{Numbered}
use Rattle.stab_journal.specs.declared.event.What.TheVariants.{Step}
use Rattle.stab_journal.specs.Event.{weigh, weight_of}
use Rattle.stab_journal.specs.Script.{probed, script_at}
use Rattle.stab_journal.specs.Since.{AreBelow, FollowsSince, generation_since}
use Rattle.stab_journal.specs.Surviving.{after_events}
use Rattle.language.specs.Plain.{PlainState, plain_step}
use Rattle.trace_verify.specs.Generations.{AreBefore, times}
use Rattle.trace_verify.specs.Parts.{run_in}
use Rattle.trace_verify.specs.Surviving.{IsKept}
use Rattle.image_laws.specs.Image.{Continues, MayStepSince, generation_at}
use Rattle.image_run.specs.declared.machine.Machine.{Machine}
use Rattle.image_run.specs.Next.{AreBelowNext, IsMadeBelow, IsMadeNext}
use Rattle.image_run.specs.Origin.{IsOrigin, image_of, max_next}

-- the number of the next event
abbrev pub number_of : Machine → ℕ
number_of m = m.origin.cut + length m.events.items + 1

abbrev pub run_of : Machine → List Numbered
run_of m = run_in m.surviving.parts

abbrev pub state_of : Machine → PlainState
state_of m = m.surviving.state.state

-- the worker that makes all events
abbrev pub worker : ℕ
worker = 1

-- the events continue the image, and their steps that no undo took away lead to the state
pub record IsPlayed (m : Machine) : Type 0 where
  pub kept : IsKept m.origin.state.state m.surviving
  pub since : m.surviving.parts.since ≡ m.origin.cut
  pub program : m.surviving.state.program ≡ m.origin.state.program
  pub below : AreBelow (number_of m) (run_of m)
  pub left : run_of m ≡ after_events (suc m.origin.cut) [] m.events.items
  pub continues : Continues (image_of m.origin) m.events.items (run_of m) (state_of m)

-- what is counted is so
pub record IsCounted (m : Machine) : Type 0 where
  pub follows : FollowsSince m.origin.script.items m.origin.used m.events.items
  pub probes : m.probes ≡ length (probed m.events.items)
  pub weight : m.weight ≡ weight_of m.events.items
  pub few : length m.events.items ≤ m.weight
  pub few_probes : m.probes ≤ length m.events.items
  pub before : AreBefore (number_of m) m.generations
  pub generations : (t : ℕ) → generation_since m.origin.cut (generation_at (image_of m.origin) t) t m.events.items ≡ generation_at (image_of m.origin) t + times m.generations t
  pub workers : AllByRecursion (λ (e : Event). e.worker ≡ worker) m.events.items

-- no number that is in use isn't below the next one
pub record IsNumbered (m : Machine) : Type 0 where
  pub low : m.origin.next.thread ≤ m.next.thread
  pub thread : m.next.thread ≤ max_next + length m.events.items
  pub chan : m.next.chan ≤ max_next + length m.events.items
  pub reference : m.next.reference ≤ max_next + length m.events.items
  pub origin : AreBelowNext m.next m.origin.state.state
  pub made : AllByRecursion (λ (n : Numbered). IsMadeBelow m.next n.label) (run_of m)

pub record IsAt (m : Machine) : Type 0 where
  pub origin : IsOrigin m.origin
  pub played : IsPlayed m
  pub counted : IsCounted m
  pub numbered : IsNumbered m

-- a probe gets what the script has for it
abbrev pub IsOfScript : Machine → Label → Type 0
IsOfScript m (Probe t i) = i ≡ script_at m.origin.script.items (m.origin.used + m.probes)
IsOfScript m l = Unit {0}

-- what is asked of a step beside that the language has it
pub record IsFitting (m : Machine) (l : Label) : Type 0 where
  pub may : MayStepSince (image_of m.origin) m.events.items (run_of m) (state_of m) l
  pub script : IsOfScript m l
  pub next : IsMadeNext m.next l
  pub some : 1 ≤ weigh (Step l)
  pub little : weigh (Step l) ≤ 10000

-- the step can be made
pub record MayMake (m : Machine) (l : Label) : Type 0 where
  pub has : IsSome (plain_step m.surviving.state.program (state_of m) (number_of m) l)
  pub fits : IsFitting m l

-- there is room for many more events
abbrev pub HasRoom : Machine → Type 0
HasRoom m = m.weight ≤ 20000000
