-- What a search over states keeps, and when it has looked at every state that schedules can reach.
use Rattle.std.specs.Prelude.{◌≡◌, ℕ, suc, ◌<◌, ℤ, true, List, slice_get, Option, Some, None, IsSomeAnd}
use Rattle.std.specs.FinMap as map
use Rattle.std.specs.FinSet as set
use Rattle.stab_base.specs.declared.fault.Fault.{Fault}
use Rattle.stab_code.specs.Program.{ProgramParts}
use Rattle.stab_journal.specs.declared.event.Label.{Label}
use Rattle.stab_journal.specs.declared.event.Label.TheVariants.{Probe, Refuse, Attempt}
use Rattle.stab_journal.specs.Script.{script_at}
use Rattle.language.specs.Plain.{PlainState, look_in, mark_in, plain_step, standing, start}
use Rattle.language.specs.Expression.{Expr}
use Rattle.language.specs.Standing.{is_stabilize}
use Rattle.language.specs.Table.{Look, done, fault}
use Rattle.journal_laws.specs.Known.{IsExprIn, IsKnown}
use Rattle.explore_laws.specs.Free.{is_free, is_open}
use Rattle.explore_laws.specs.Renamed.{AreLike}

-- what a history asks of a step as long as nothing was undone: a probe gets the script's next number, an attempt gets 0, and where
-- a stabilize is refused, it is in no section
abbrev pub IsAsked : List ℤ → PlainState → ℕ → Label → Type 0
IsAsked script s used (Probe t i) = i ≡ script_at script used
IsAsked script s used (Attempt t g) = g ≡ 0
IsAsked script s used (Refuse t) = mark_in s t.0 ≡ None
IsAsked script s used l = Unit {0}

-- how many probes are used after a step
abbrev pub uses : Label → ℕ → ℕ
uses (Probe t i) used = suc used
uses l used = used

-- free steps lead from the one state to the other
pub data Settles (p : ProgramParts) : PlainState → PlainState → Type 0 where
  here : (s : PlainState) → Settles p s s
  next : (s a n : PlainState) (q : ℕ) (l : Label) → is_free l ≡ true → plain_step p s q l ≡ Some a → Settles p a n → Settles p s n

-- a state that is kept, and how many probes were used up to it
pub record Stored : Type 0 where
  pub state : PlainState
  pub used : ℕ

-- free steps lead from the state to one that differs from a kept one by numbers alone
pub record IsCovered (p : ProgramParts) (stored : List Stored) (s : PlainState) (used : ℕ) : Type 0 where
  pub at : PlainState
  pub leads : Settles p s at
  pub place : ℕ
  pub found : Stored
  pub there : slice_get stored place ≡ Some found
  pub like : AreLike at found.state
  pub used_too : used ≡ found.used

-- what occurs in the state is there, and its numbers are bounded
pub record IsBounded (s : PlainState) : Type 0 where
  pub known : IsKnown IsExprIn s
  pub bound : ℕ
  pub threads : (t : ℕ) → map.contains_key s.threads t ≡ true → t < bound
  pub chans : (c : ℕ) → set.contains s.channels c ≡ true → c < bound
  pub references : (r : ℕ) → map.contains_key s.references r ≡ true → r < bound

-- the search has looked everywhere, and nowhere did a thread stand at a stabilize inside a section
pub record IsExplored (p : ProgramParts) (script : List ℤ) (stored : List Stored) : Type 0 where
  pub starts : IsCovered p stored (start p) 0
  pub bounded : (i : ℕ) (m : Stored) → slice_get stored i ≡ Some m → IsBounded m.state
  pub settled : (i : ℕ) (m : Stored) → slice_get stored i ≡ Some m → (q : ℕ) (l : Label) (a : PlainState) → is_free l ≡ true → plain_step p m.state q l ≡ Some a → ⊥
  pub closed : (i : ℕ) (m : Stored) → slice_get stored i ≡ Some m → (q : ℕ) (l : Label) (a : PlainState) → is_open l ≡ true → IsAsked script m.state m.used l
      → plain_step p m.state q l ≡ Some a → IsCovered p stored a (uses l m.used)
  pub inside : (i : ℕ) (m : Stored) → slice_get stored i ≡ Some m → (t : ℕ) → IsSomeAnd (standing m.state t) (λ e. is_stabilize (look_in p e) ≡ true) → mark_in m.state t ≡ None

-- one of the kept states differs from the state by numbers alone
pub record IsListed (stored : List Stored) (s : PlainState) : Type 0 where
  pub place : ℕ
  pub found : Stored
  pub there : slice_get stored place ≡ Some found
  pub like : AreLike s found.state

-- how a thread ended, if it did: with a fault or without
abbrev pub ended : Look Expr → Option (Option Fault)
ended (done v) = Some None
ended (fault k) = Some (Some k)
ended _ = None

-- a thread of one of the kept states failed so
pub record IsFailing (p : ProgramParts) (stored : List Stored) (k : Fault) : Type 0 where
  pub place : ℕ
  pub found : Stored
  pub there : slice_get stored place ≡ Some found
  pub thread : ℕ
  pub stands : IsSomeAnd (standing found.state thread) (λ e. ended (look_in p e) ≡ Some (Some k))
