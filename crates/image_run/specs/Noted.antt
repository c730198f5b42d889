-- How a machine notes an event.
use Rattle.std.specs.Prelude.{◌≡◌, ◌+◌, [], ◌∷◌, ◌++◌, length}
use Rattle.stab_journal.specs.declared.event.What.{What}
use Rattle.stab_journal.specs.Event.{weigh}
use Rattle.stab_journal.specs.Script.{probed_by}
use Rattle.language.specs.Standing.{event}
use Rattle.image_run.specs.declared.machine.Machine.{Machine}
use Rattle.image_run.specs.Machine.{worker}
use Rattle.image_run.specs.Next.{next_after}

-- the event comes last and is counted; the rest is as it was
pub record IsNoted (old new : Machine) (what : What) : Type 0 where
  pub events : new.events.items ≡ old.events.items ++ event worker what ∷ []
  pub weight : new.weight ≡ old.weight + weigh what
  pub probes : new.probes ≡ old.probes + length (probed_by what)
  pub next : new.next ≡ next_after old.next what
  pub origin : new.origin ≡ old.origin
  pub surviving : new.surviving ≡ old.surviving
  pub generations : new.generations ≡ old.generations
