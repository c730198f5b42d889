-- Stands at which the same is written, whatever line is played.
use Rattle.std.specs.Prelude.{◌≡◌, ℕ, ◌<◌, ◌≤◌, List, Option, Some, None, IfSome}
use Rattle.std.specs.FinMap as map
use Rattle.stab_code.specs.Program.{ProgramParts}
use Rattle.stab_journal.specs.Generation.{generation}
use Rattle.thread_slots.specs.declared.state.State.TheVariants.{Leased}
use Rattle.thread_slots.specs.Slot.{Slot}
use Rattle.step_eval.specs.ControlView.{ControlView, expr_of}
use Rattle.step_eval.specs.Progress.{Advances, ProgressView}
use Rattle.commit_book.specs.declared.done.Done.{Done}
use Rattle.commit_book.specs.Book.{BookView}
use Rattle.commit_book.specs.Commits.{IsCurrent, IsMade, row_at}
use Rattle.lone_worker.specs.Desk.{desk_of}
use Rattle.schedule_drill.specs.declared.held.At.{At}
use Rattle.schedule_drill.specs.declared.held.At.TheVariants.{Lent, Stepped}
use Rattle.schedule_drill.specs.declared.held.Held.{Held}
use Rattle.schedule_drill.specs.Out.{IsStepped}
use Rattle.schedule_drill.specs.Played.{Stand}
use Rattle.schedule_drill.specs.Text.{done_text}

module _ (p q : ProgramParts) where
  -- two threads that are lent stand at one expression, and made as many steps
  abbrev pub IsOnePlace : At → At → Type 0
  IsOnePlace (Lent c) (Lent d) = expr_of p c ≡ expr_of q d
  IsOnePlace (Stepped f) (Stepped g) = (f.steps ≡ g.steps) × (expr_of p f.end ≡ expr_of q g.end)
  IsOnePlace _ _ = ⊥

  -- two leases that are out are one lease
  pub record IsOneHeld (h i : Held) : Type 0 where
    pub lease : h.lease ≡ i.lease
    pub at : IsOnePlace h.at i.at

  abbrev pub AreOne : Option Held → Option Held → Type 0
  AreOne None None = Unit {0}
  AreOne (Some h) (Some i) = IsOneHeld h i
  AreOne _ _ = ⊥

-- the control that was lent
abbrev pub origin_of : At → ControlView
origin_of (Lent control) = control
origin_of (Stepped progress) = progress.origin

-- a thread that wasn't put back since it was lent is as it was lent
abbrev pub IsStillLent : Held → Slot ControlView → Type 0
IsStillLent h slot = slot.generation ≡ h.lease.generation → (slot.state ≡ Leased) × (slot.control ≡ origin_of h.at)

-- a thread that is said to have made its pure steps made them
abbrev pub HasMade : ProgramParts → At → Type 0
HasMade p (Lent control) = Unit {0}
HasMade p (Stepped progress) = Advances p progress.origin progress.steps progress.end

-- the commit of a lease that is out was made
pub record IsMadeBy (old new : Stand) (what : List ℕ) (h : Held) : Type 0 where
  pub progress : ProgressView
  pub done : Done
  pub stepped : IsStepped old.book.job h.at progress
  pub current : IsCurrent old.book.threads h.lease progress.origin
  pub made : IsMade old.book new.book h.lease progress (row_at old.book h.lease progress) done
  pub told : what ≡ done_text done

-- the books have one desk, and the same leases are out
pub record AreAlike (a b : Stand) : Type 0 where
  pub desk : desk_of a.book ≡ desk_of b.book
  pub out : (k : ℕ) → AreOne a.book.job.program b.book.job.program (map.get a.out k) (map.get b.out k)

-- what is true of a lease that is out: its thread has a number, and was put back as often as then, or more often; if it is there
-- and was put back as often, it is as it was lent; and it made the steps that it is said to have made
pub record IsHeldTruly (b : BookView) (h : Held) : Type 0 where
  pub known : h.lease.thread < b.next.thread
  pub older : h.lease.generation ≤ generation h.lease.thread b.history.events
  pub still : IfSome (map.get b.threads h.lease.thread) (IsStillLent h)
  pub made : HasMade b.job.program h.at

-- the same of all leases that are out; no two are of one thread that was put back as often
pub record AreTrue (s : Stand) : Type 0 where
  pub held : (k : ℕ) → IfSome (map.get s.out k) (IsHeldTruly s.book)
  pub apart : (j k : ℕ) (h i : Held) → map.get s.out j ≡ Some h → map.get s.out k ≡ Some i → h.lease.thread ≡ i.lease.thread
      → h.lease.generation ≡ i.lease.generation → j ≡ k
