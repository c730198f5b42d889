-- Which histories are those of a run of a job, and what is wrong with any other.
use Rattle.std.specs.Prelude.{◌≡◌, ◌↔◌, ℕ, ℤ, ◌+◌, ◌<◌, true, List, ◌∷◌, ◌++◌, length, None, IsSome, nat_eq}
use Rattle.std.specs.List.{list_any}
use Rattle.stab_base.specs.declared.numbers.Seq.{Seq}
use Rattle.stab_base.specs.declared.numbers.ThreadId.{ThreadId}
use Rattle.stab_code.specs.Program.{ProgramParts}
use Rattle.stab_journal.specs.declared.event.Event.{Event}
use Rattle.stab_journal.specs.declared.event.Label.{Label}
use Rattle.stab_journal.specs.declared.event.Label.TheVariants.{Probe, Refuse, Attempt}
use Rattle.stab_journal.specs.declared.event.Numbered.{Numbered}
use Rattle.stab_journal.specs.declared.event.What.{What}
use Rattle.stab_journal.specs.declared.event.What.TheVariants.{Step, Undo, Release}
use Rattle.stab_journal.specs.Due.{final_prints, released}
use Rattle.stab_journal.specs.Floor.{is_mark_revocable}
use Rattle.stab_journal.specs.Generation.{generation}
use Rattle.stab_journal.specs.Journal.{Journal, IsLive}
use Rattle.stab_journal.specs.Script.{FollowsScript, probed, script_at}
use Rattle.language.specs.Plain.{PlainState, plain_step, mark_in}
use Rattle.language.specs.Standing.{MayUndo, Shows, StandsFor}
use Rattle.trace_verify.specs.declared.verdict.Verdict.{Verdict}
use Rattle.trace_verify.specs.declared.verdict.Verdict.TheVariants.{Yes, No}
use Rattle.trace_verify.specs.declared.verdict.Why.{Why}
use Rattle.trace_verify.specs.declared.verdict.Why.TheVariants.{NoStep, WrongProbe, WrongAttempt, Revocable, NotRevocable, WrongRelease, WrongSign}

-- what is wrong with an event that comes after these, which stand for the run and the state; a step that the language doesn't have has this fault alone
pub data IsWrong (p : ProgramParts) (script : List ℤ) (events : List Event) (run : List Numbered) (s : PlainState) : What → Why → Type 0 where
  -- the plain language has no such step from the state
  no_step : (l : Label) → plain_step p s (length events + 1) l ≡ None → IsWrong p script events run s (Step l) NoStep
  -- a probe has another number than the script has for it
  wrong_probe : (t : ThreadId) (i : ℤ) → IsSome (plain_step p s (length events + 1) (Probe t i)) →
      (i ≡ script_at script (length (probed events)) → ⊥) → IsWrong p script events run s (Step (Probe t i)) WrongProbe
  -- an attempt has another number than the thread's generation
  wrong_attempt : (t : ThreadId) (g : ℕ) → IsSome (plain_step p s (length events + 1) (Attempt t g)) →
      (g ≡ generation t.0 events → ⊥) → IsWrong p script events run s (Step (Attempt t g)) WrongAttempt
  -- a stabilize is refused whose section can be taken back
  revocable : (t : ThreadId) → IsSome (plain_step p s (length events + 1) (Refuse t)) →
      is_mark_revocable run (mark_in s t.0) ≡ true → IsWrong p script events run s (Step (Refuse t)) Revocable
  -- the thread of an undo isn't at a stabilize in this section, or that can't be taken back
  not_revocable : (t : ThreadId) (m : Seq) → (MayUndo p run s t.0 m.0 → ⊥) → IsWrong p script events run s (Undo t m) NotRevocable
  -- a release has another number than there are final values, or one that isn't greater than the last one's
  wrong_release : (k : ℕ) → ((k ≡ final_prints run) × (released events < k) → ⊥) → IsWrong p script events run s (Release k) WrongRelease

-- the events before the one numbered q are those of a run, and this is wrong with it
pub record FailsAt (p : ProgramParts) (script : List ℤ) (events : List Event) (q : ℕ) (why : Why) : Type 0 where
  pub before : List Event
  pub event : Event
  pub after : List Event
  pub is : events ≡ before ++ event ∷ after
  pub number : q ≡ length before + 1
  pub run : List Numbered
  pub state : PlainState
  pub stands : StandsFor p before run state
  pub follows : FollowsScript script before
  pub wrong : IsWrong p script before run state event.what why

-- a step with this number is in the run
abbrev pub is_in : List Numbered → ℕ → Type 0
is_in run q = list_any (λ (n : Numbered). nat_eq n.seq.0 q) run ≡ true

-- the event numbered q is struck exactly where it is a step that isn't in the run
abbrev pub IsSigned : Journal → List Numbered → ℕ → Type 0
IsSigned j run q = IsLive j q ↔ is_in run q

-- all events are those of a run, and the one numbered q is the first that is struck and stays, or that went and isn't struck
pub record IsSignedWrong (p : ProgramParts) (script : List ℤ) (j : Journal) (q : ℕ) : Type 0 where
  pub run : List Numbered
  pub state : PlainState
  pub stands : StandsFor p j.events run state
  pub follows : FollowsScript script j.events
  pub first : (k : ℕ) → k < q → IsSigned j run k
  pub wrong : IsSigned j run q → ⊥

-- all events are those of a run of the program, its probes got the script's numbers, and exactly the steps that were taken away are struck
pub record IsOfRun (p : ProgramParts) (script : List ℤ) (j : Journal) : Type 0 where
  pub run : List Numbered
  pub state : PlainState
  pub shows : Shows p j run state
  pub follows : FollowsScript script j.events

-- the history is one of a run, or this is the first event that fails; signs count last
pub data IsVerdict (p : ProgramParts) (script : List ℤ) (j : Journal) : Verdict → Type 0 where
  passes : IsOfRun p script j → IsVerdict p script j Yes
  fails : (q : Seq) (why : Why) → FailsAt p script j.events q.0 why → IsVerdict p script j (No q why)
  signs : (q : Seq) → IsSignedWrong p script j q.0 → IsVerdict p script j (No q WrongSign)
