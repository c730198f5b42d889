-- What a replay knows of the events so far.
use Rattle.std.specs.Prelude.{◌≡◌, ℕ, ℤ, ◌+◌, ◌<◌, List, [], ◌∷◌, ◌++◌, length, Option, Some, None, IsSome}
use Rattle.stab_code.specs.Program.{ProgramParts}
use Rattle.stab_journal.specs.declared.event.Event.{Event}
use Rattle.stab_journal.specs.declared.event.Label.{Label}
use Rattle.stab_journal.specs.declared.event.Label.TheVariants.{Probe}
use Rattle.stab_journal.specs.declared.event.What.{What}
use Rattle.stab_journal.specs.declared.event.What.TheVariants.{Step}
use Rattle.stab_journal.specs.Due.{released}
use Rattle.stab_journal.specs.Generation.{generation}
use Rattle.stab_journal.specs.Script.{FollowsScript, probed, script_at}
use Rattle.language.specs.Plain.{plain_step}
use Rattle.language.specs.Standing.{MayStep, StandsFor, event}
use Rattle.trace_verify.specs.declared.replay.Replay.{Replay}
use Rattle.trace_verify.specs.declared.verdict.Why.{Why}
use Rattle.trace_verify.specs.Generations.{AreBefore, times}
use Rattle.stab_journal.specs.Since.{AreBelow}
use Rattle.trace_verify.specs.Parts.{run_in}
use Rattle.trace_verify.specs.Surviving.{IsFromStart}
use Rattle.trace_verify.specs.Verdict.{IsWrong}

-- the replay may go on by the event numbered q
pub record IsReady (q : ℕ) (r : Replay) : Type 0 where
  pub kept : IsFromStart r.surviving
  pub below : AreBelow q (run_in r.surviving.parts)
  pub before : AreBefore q r.generations
  pub probes : r.probes < q

-- the events stand for the replay's steps and state, follow the script, and its numbers are theirs
pub record IsReplayed (p : ProgramParts) (script : List ℤ) (events : List Event) (r : Replay) : Type 0 where
  pub program : r.surviving.state.program ≡ p
  pub stands : StandsFor p events (run_in r.surviving.parts) r.surviving.state.state
  pub follows : FollowsScript script events
  pub probes : r.probes ≡ length (probed events)
  pub released : r.released ≡ released events
  pub generations : (t : ℕ) → times r.generations t ≡ generation t events

-- what is wrong with an event that comes after these
abbrev pub IsWrongFor : ProgramParts → List ℤ → List Event → Replay → What → Why → Type 0
IsWrongFor p script events r what why = IsWrong p script events (run_in r.surviving.parts) r.surviving.state.state what why

-- the event was played, whoever made it, or this is wrong with it
abbrev pub Follows : ProgramParts → List ℤ → List Event → Replay → Replay → What → Option Why → Type 0
Follows p script events old new what None =
    IsReady (length events + 2) new × ((worker : ℕ) → IsReplayed p script (events ++ event worker what ∷ []) new)
Follows p script events old new what (Some why) = IsWrongFor p script events old what why

-- a probe has the script's number
abbrev pub IsOfScript : List ℤ → List Event → Label → Type 0
IsOfScript script events (Probe t i) = i ≡ script_at script (length (probed events))
IsOfScript script events l = Unit {0}

-- the step may come if the language has it, or this is wrong with it then
abbrev pub Refuses : ProgramParts → List ℤ → List Event → Replay → Label → Option Why → Type 0
Refuses p script events r l None = IsOfScript script events l × MayStep events (run_in r.surviving.parts) r.surviving.state.state l
Refuses p script events r l (Some why) =
    IsSome (plain_step p r.surviving.state.state (length events + 1) l) → IsWrongFor p script events r (Step l) why
