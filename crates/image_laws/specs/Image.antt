-- What an image holds, the history for which it stands, and the events that continue it.
use Rattle.std.specs.Prelude.{◌≡◌, ℕ, ◌+◌, ◌≤◌, ℤ, false, List, [], ◌∷◌, ◌++◌, length, Some, None, IfSome, unwrap_or}
use Rattle.std.specs.Ordering.{nat_cmp}
use Rattle.std.specs.FinMap as map
use Rattle.std.specs.FinMap.{FinMap}
use Rattle.stab_base.specs.declared.numbers.ThreadId.{ThreadId}
use Rattle.stab_journal.specs.declared.event.Label.{Label}
use Rattle.stab_journal.specs.declared.event.Label.TheVariants.{Spawn, Cut, Refuse, Attempt}
use Rattle.stab_journal.specs.declared.event.What.TheVariants.{Step, Undo}
use Rattle.stab_journal.specs.declared.event.Event.{Event}
use Rattle.stab_journal.specs.declared.event.Numbered.{Numbered}
use Rattle.stab_journal.specs.Journal.{step_at}
use Rattle.stab_journal.specs.Reached.{without_reached}
use Rattle.stab_journal.specs.Generation.{generation}
use Rattle.stab_journal.specs.Numbers.{AreNext}
use Rattle.stab_journal.specs.Script.{FollowsScript, probed}
use Rattle.stab_journal.specs.Since.{is_mark_revocable_since, generation_since, FollowsSince}
use Rattle.stab_code.specs.Program.{ProgramParts}
use Rattle.language.specs.Plain.{PlainState, plain_step, standing, mark_in}
use Rattle.language.specs.Since.{MayUndoSince, end_from}
use Rattle.language.specs.Standing.{StandsFor, event}

-- the bytes of the program, the program, the script, how many probes were made, the number of the cut, the next numbers, the state, and
-- the generation of each of its threads
pub record Image : Type 0 where
  pub text : List ℕ
  pub program : ProgramParts
  pub script : List ℤ
  pub used : ℕ
  pub seq : ℕ
  pub next_thread : ℕ
  pub next_chan : ℕ
  pub next_ref : ℕ
  pub state : PlainState
  pub generations : FinMap nat_cmp ℕ

-- each thread of the state has a generation, and it is that of the events; no other number has one
pub record AreGenerationsOf (image : Image) (events : List Event) : Type 0 where
  pub each : (t : ℕ) → IfSome (standing image.state t) (λ e. map.get image.generations t ≡ Some (generation t events))
  pub only : (t : ℕ) → standing image.state t ≡ None → map.get image.generations t ≡ None

-- the events of a history of the program and the script up to a cut, whose state and numbers are the image's
pub record StandsAt (p : ProgramParts) (script : List ℤ) (events : List Event) (image : Image) : Type 0 where
  pub program_is : image.program ≡ p
  pub script_is : image.script ≡ script
  pub before : List Event
  pub worker : ℕ
  pub thread : ThreadId
  pub cut : events ≡ before ++ event worker (Step (Cut thread)) ∷ []
  pub run : List Numbered
  pub stands : StandsFor p events run image.state
  pub follows : FollowsScript script events
  pub used : image.used ≡ length (probed events)
  pub seq : image.seq ≡ length events
  pub next : AreNext events image.next_thread image.next_chan image.next_ref
  pub generations : AreGenerationsOf image events

-- the generation that a thread had at the cut; a new thread had none
abbrev pub generation_at : Image → ℕ → ℕ
generation_at image t = unwrap_or (map.get image.generations t) 0

-- what the events since the cut ask for beside the language: a new thread has a new number, a refuse that the thread's section can't be
-- taken back, an attempt that it gets the thread's generation
abbrev pub MayStepSince : Image → List Event → List Numbered → PlainState → Label → Type 0
MayStepSince image events run s (Spawn t u) = image.next_thread ≤ u.0
MayStepSince image events run s (Refuse t) = is_mark_revocable_since image.seq run (mark_in s t.0) ≡ false
MayStepSince image events run s (Attempt t g) = g ≡ generation_since image.seq (generation_at image t.0) t.0 events
MayStepSince image events run s label = Unit {0}

-- the events since the cut, the run that is left of them, and the state after it: as a history, from the image's state and numbers
pub data Continues (image : Image) : List Event → List Numbered → PlainState → Type 0 where
  nothing : Continues image [] [] image.state
  step : {events : List Event} {run : List Numbered} {before : PlainState} (after : PlainState) (worker : ℕ) (label : Label) →
      Continues image events run before →
      MayStepSince image events run before label →
      plain_step image.program before (image.seq + length events + 1) label ≡ Some after →
      Continues image (events ++ event worker (Step label) ∷ []) (run ++ step_at (image.seq + length events + 1) (Step label)) after
  undo : {events : List Event} {run : List Numbered} {before : PlainState} (after : PlainState) (worker : ℕ) (t m : ℕ) →
      Continues image events run before →
      MayUndoSince image.seq image.program run before t m →
      end_from image.program image.state (without_reached m run) ≡ Some after →
      Continues image (events ++ event worker (Undo (record { 0 = t }) (record { 0 = m })) ∷ []) (without_reached m run) after

-- the events continue the image up to the state, and follow its script
pub record IsContinuedBy (image : Image) (events : List Event) (s : PlainState) : Type 0 where
  pub run : List Numbered
  pub continues : Continues image events run s
  pub follows : FollowsSince image.script image.used events

-- a history of the program and the script that ends in the state
pub record IsHistoryTo (p : ProgramParts) (script : List ℤ) (events : List Event) (s : PlainState) : Type 0 where
  pub run : List Numbered
  pub stands : StandsFor p events run s
  pub follows : FollowsScript script events
