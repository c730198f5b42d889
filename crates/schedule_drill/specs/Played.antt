-- What each line of a script does.
use Rattle.std.specs.Prelude.{◌≡◌, ℕ, List, None, IsSomeAnd, decimal}
use Rattle.std.specs.FinMap as map
use Rattle.step_eval.specs.Progress.{ProgressView}
use Rattle.commit_book.specs.declared.done.Done.{Done}
use Rattle.commit_book.specs.declared.turn.Turn.{Turn}
use Rattle.commit_book.specs.declared.turn.Turn.TheVariants.{Work, Release}
use Rattle.commit_book.specs.Book.{BookView}
use Rattle.commit_book.specs.Commits.{IsCommitted}
use Rattle.commit_book.specs.Releases.{IsReleased}
use Rattle.commit_book.specs.Turns.{IsTurn}
use Rattle.drill_text.specs.declared.order.Order.{Order}
use Rattle.drill_text.specs.declared.order.Verb.{Verb}
use Rattle.drill_text.specs.declared.order.Verb.TheVariants.{Lease, Step, Commit}
use Rattle.drill_text.specs.declared.script.Line.{Line}
use Rattle.schedule_drill.specs.declared.held.At.TheVariants.{Lent, Stepped}
use Rattle.schedule_drill.specs.declared.held.Held.{Held}
use Rattle.schedule_drill.specs.Out.{Out, IsStepped, steps_now}
use Rattle.schedule_drill.specs.Text.{answered, done_text, turn_text}

-- where a drill is: its book, and the leases that are out
pub record Stand : Type 0 where
  pub book : BookView
  pub out : Out

abbrev pub stand : BookView → Out → Stand
stand book out = record { book = book; out = out }

-- the turn is worker k's next: a thread that is lent is out as lease k, values that are due are released, and else nothing changes
abbrev pub IsTaken : Stand → Stand → ℕ → Turn → Type 0
IsTaken old new k (Work lease control) =
    IsTurn old.book new.book k (Work lease control)
    × (new.out ≡ map.insert old.out k (record { lease = lease; at = Lent control }))
IsTaken old new k Release = IsTurn old.book old.book k Release × IsReleased old.book new.book k × (new.out ≡ old.out)
IsTaken old new k turn = IsTurn old.book new.book k turn × (new.out ≡ old.out)

-- `lease K`: worker K leases
pub record IsLeased (old new : Stand) (k : ℕ) (what : List ℕ) : Type 0 where
  pub turn : Turn
  pub taken : IsTaken old new k turn
  pub told : what ≡ turn_text old.book turn

-- `step K`: the thread makes its pure steps, if it didn't yet
pub record IsStep (old new : Stand) (k : ℕ) (what : List ℕ) (held : Held) : Type 0 where
  pub progress : ProgressView
  pub stepped : IsStepped old.book.job held.at progress
  pub book : new.book ≡ old.book
  pub out : new.out ≡ map.insert old.out k (record held { at = Stepped progress })
  pub told : what ≡ decimal (steps_now held.at progress)

-- `commit K`: it is committed with its pure steps, and lease K isn't out any more
pub record IsCommit (old new : Stand) (k : ℕ) (what : List ℕ) (held : Held) : Type 0 where
  pub progress : ProgressView
  pub done : Done
  pub stepped : IsStepped old.book.job held.at progress
  pub committed : IsCommitted old.book new.book held.lease progress done
  pub out : new.out ≡ map.remove old.out k
  pub told : what ≡ done_text done

-- what an order does: a lease that isn't out is taken, and one that is out is stepped or committed
abbrev pub IsObeyed : Stand → Stand → Verb → ℕ → List ℕ → Type 0
IsObeyed old new Lease k what = (map.get old.out k ≡ None) × IsLeased old new k what
IsObeyed old new Step k what = IsSomeAnd (map.get old.out k) (IsStep old new k what)
IsObeyed old new Commit k what = IsSomeAnd (map.get old.out k) (IsCommit old new k what)

-- the line is an order, and is obeyed; this is written
pub record IsAnswered (old new : Stand) (text : List ℕ) (order : Order) : Type 0 where
  pub what : List ℕ
  pub obeyed : IsObeyed old new order.verb order.lease what
  pub written : text ≡ answered order what

abbrev pub IsPlayed : Stand → Stand → Line → List ℕ → Type 0
IsPlayed old new line text = IsSomeAnd line.order (IsAnswered old new text)
