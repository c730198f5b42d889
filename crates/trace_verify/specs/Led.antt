-- Where events lead.
use Rattle.std.specs.Prelude.{◌≡◌, ℕ, ℤ, List, length}
use Rattle.stab_code.specs.Program.{ProgramParts}
use Rattle.stab_journal.specs.declared.event.Event.{Event}
use Rattle.stab_journal.specs.declared.event.Numbered.{Numbered}
use Rattle.stab_journal.specs.Generation.{generation}
use Rattle.stab_journal.specs.Script.{FollowsScript, probed}
use Rattle.language.specs.Standing.{StandsFor}
use Rattle.trace_verify.specs.declared.led.LedTo.{LedTo}
use Rattle.trace_verify.specs.Generations.{times}

-- the events stand for a run that ends in the state, and follow the script; so many probes were made, and so often was each thread put back
pub record IsLedTo (p : ProgramParts) (script : List ℤ) (events : List Event) (r : LedTo) : Type 0 where
  pub program : r.state.program ≡ p
  pub run : List Numbered
  pub stands : StandsFor p events run r.state.state
  pub follows : FollowsScript script events
  pub probes : r.probes ≡ length (probed events)
  pub generations : (t : ℕ) → times r.generations t ≡ generation t events
