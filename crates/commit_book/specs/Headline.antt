-- What the headline says of a book.
use Rattle.std.specs.Prelude.{◌≡◌, ◌↔◌, ℕ, true, false, List, [], ◌∷◌, ◌++◌, IsSomeAnd}
use Rattle.stab_base.specs.declared.numbers.Seq.{Seq}
use Rattle.stab_base.specs.declared.numbers.ThreadId.{ThreadId}
use Rattle.stab_code.specs.Program.{ProgramParts}
use Rattle.stab_journal.specs.declared.event.Event.{Event}
use Rattle.stab_journal.specs.declared.event.Numbered.{Numbered}
use Rattle.stab_journal.specs.declared.event.What.TheVariants.{Undo}
use Rattle.stab_journal.specs.Dependence.{Reaches}
use Rattle.stab_journal.specs.Floor.{is_mark_revocable}
use Rattle.stab_journal.specs.Journal.{survivors}
use Rattle.stab_journal.specs.Names.{has}
use Rattle.stab_journal.specs.Reached.{reached, without_reached}
use Rattle.stab_journal.specs.Script.{FollowsScript}
use Rattle.stab_journal.specs.Surviving.{run_of}
use Rattle.language.specs.Plain.{PlainState, IsRun, look_in, mark_in, standing}
use Rattle.language.specs.Standing.{StandsFor, MayUndo, event, is_stabilize}
use Rattle.step_eval.specs.ControlView.{expr_of}
use Rattle.commit_book.specs.Book.{BookView}
use Rattle.commit_book.specs.Channels.{AreChannels}
use Rattle.commit_book.specs.References.{HoldValues}
use Rattle.commit_book.specs.Threads.{AreThreads}

-- the step is one of the run
pub record StandsIn (run : List Numbered) (n : Numbered) : Type 0 where
  pub before : List Numbered
  pub after : List Numbered
  pub is : run ≡ before ++ n ∷ after

-- the steps that aren't struck are what the undos left, and a run of the plain language from the start state, whose probes got
-- the script's numbers; each event was due where it came; the book's threads, channels, references and output are those of the
-- state in which the run ends
pub record HasRun (b : BookView) : Type 0 where
  pub end : PlainState
  pub left : survivors b.history ≡ run_of b.history.events
  pub stands : StandsFor b.job.program b.history.events (run_of b.history.events) end
  pub run : IsRun b.job.program (survivors b.history) end
  pub script : FollowsScript b.job.script b.history.events
  pub threads : AreThreads (expr_of b.job.program) b.threads end
  pub channels : AreChannels b.offers.lines end
  pub references : HoldValues b.references end
  pub output : b.printed ≡ end.output

-- behind the first events stabilize is granted to the thread t, in the section entered at m: there the thread stood at stabilize
-- in that section, which could be taken back; the run loses what is reached from m, which is m and each step to which a chain of
-- direct dependences leads from m
pub record IsGranted (p : ProgramParts) (first : List Event) (worker : ℕ) (t : ThreadId) (m : Seq) : Type 0 where
  pub state : PlainState
  pub stands : StandsFor p first (run_of first) state
  pub may : MayUndo p (run_of first) state t.0 m.0
  pub left : run_of (first ++ event worker (Undo t m) ∷ []) ≡ without_reached m.0 (run_of first)
  pub entry : has (reached (run_of first) m.0) m.0 ≡ true
  pub gone : (n : Numbered) → StandsIn (run_of first) n
      → (has (reached (run_of first) m.0) n.seq.0 ≡ true) ↔ Reaches (run_of first) m.0 n

-- behind the first events stabilize is refused to the thread t: there it stood at stabilize, in no section or in one that
-- couldn't be taken back
pub record IsRefused (p : ProgramParts) (first : List Event) (t : ThreadId) : Type 0 where
  pub state : PlainState
  pub stands : StandsFor p first (run_of first) state
  pub at : IsSomeAnd (standing state t.0) (λ e. is_stabilize (look_in p e) ≡ true)
  pub due : is_mark_revocable (run_of first) (mark_in state t.0) ≡ false
