-- What is kept of the surviving steps.
use Rattle.std.specs.Prelude.{◌≡◌, ℕ, ◌≤◌, Bool, true, false, ◌&&◌, option_map, List, ◌++◌, length, take, Option, Some, None, IfSome, Result, Ok, Err}
use Rattle.std.specs.List.{list_any}
use Rattle.stab_code.specs.Program.{ProgramParts}
use Rattle.stab_journal.specs.declared.event.Label.{Label}
use Rattle.stab_journal.specs.declared.event.Numbered.{Numbered}
use Rattle.stab_journal.specs.declared.event.What.TheVariants.{Step}
use Rattle.stab_journal.specs.Generation.{acts_in}
use Rattle.stab_journal.specs.Journal.{RiseFrom, step_at}
use Rattle.stab_journal.specs.Label.{actors}
use Rattle.stab_journal.specs.Names.{has, is_at}
use Rattle.stab_journal.specs.Reached.{reached, without_reached}
use Rattle.stab_journal.specs.Since.{is_revocable_since}
use Rattle.plain_language.specs.declared.play.PlayFault.{PlayFault}
use Rattle.plain_language.specs.declared.play.PlayFault.TheVariants.{NoStep, NoMemory}
use Rattle.plain_language.specs.declared.look.ActKind.TheVariants.{Stabilize}
use Rattle.plain_language.specs.declared.look.Look as told
use Rattle.plain_language.specs.declared.look.Look.TheVariants.{Act}
use Rattle.language.specs.Held.{Held}
use Rattle.language.specs.Plain.{PlainState, look_in, mark_in, plain_step, standing, start}
use Rattle.plain_language.specs.Seen.{seen}
use Rattle.language.specs.Since.{MayUndoSince, end_from}
use Rattle.journal_laws.specs.Known.{IsExprIn, IsKnown}
use Rattle.trace_verify.specs.declared.surviving.Surviving.{Surviving}
use Rattle.trace_verify.specs.Parts.{IsParted, run_in}

-- from a state, the first b of the settled steps lead to a state of the program
pub record LeadTo (from : PlainState) (p : ProgramParts) (b : ℕ) (settled : List Numbered) (to_here : Held) : Type 0 where
  pub program : to_here.program ≡ p
  pub based : b ≤ length settled
  pub base : end_from p from (take b settled) ≡ Some to_here.state

abbrev pub IsBased : PlainState → Surviving → Type 0
IsBased from s = LeadTo from s.state.program s.based s.parts.settled.items s.base

-- the first steps lead to the near state, if there is one
abbrev pub IsNear : PlainState → Surviving → Type 0
IsNear from s = IfSome s.near (LeadTo from s.state.program s.nearby (run_in s.parts))

-- a state in which each channel and each reference that occurs is there, from which steps whose numbers rise lead to another
pub record LeadsOn (p : ProgramParts) (from : PlainState) (run : List Numbered) (s : PlainState) : Type 0 where
  pub known : IsKnown IsExprIn from
  pub rises : RiseFrom 1 run
  pub ends : end_from p from run ≡ Some s

-- all steps lead from this state to the first one that is kept
pub record IsKept (from : PlainState) (s : Surviving) : Type 0 where
  pub parted : IsParted s.parts
  pub leads : LeadsOn s.state.program from (run_in s.parts) s.state.state
  pub based : IsBased from s
  pub near : IsNear from s

-- the steps are those of a run from the start
pub record IsFromStart (s : Surviving) : Type 0 where
  pub kept : IsKept (start s.state.program) s
  pub since : s.parts.since ≡ 0

-- the step is made, or the language has no such step; nothing is said where memory is missing
abbrev pub PlaysOn : PlainState → Surviving → Surviving → ℕ → Label → Result (Unit {0}) PlayFault → Type 0
PlaysOn from old new q l (Ok done) =
    IsKept from new × (new.state.program ≡ old.state.program) × (run_in new.parts ≡ run_in old.parts ++ step_at q (Step l))
    × (plain_step old.state.program old.state.state q l ≡ Some new.state.state) × (new.parts.since ≡ old.parts.since)
PlaysOn from old new q l (Err NoStep) = plain_step old.state.program old.state.state q l ≡ None
PlaysOn from old new q l (Err NoMemory) = Unit {0}

-- the section is taken back, and the steps that went are those that act as the reached ones do; or the thread may not take it back
abbrev pub TakesBack : PlainState → Surviving → Surviving → ℕ → ℕ → Option (List Numbered) → Type 0
TakesBack from old new t m None = MayUndoSince old.parts.since old.state.program (run_in old.parts) old.state.state t m → ⊥
TakesBack from old new t m (Some goes) =
    IsKept from new × (new.state.program ≡ old.state.program) × MayUndoSince old.parts.since old.state.program (run_in old.parts) old.state.state t m
    × (run_in new.parts ≡ without_reached m (run_in old.parts))
    × (end_from old.state.program from (without_reached m (run_in old.parts)) ≡ Some new.state.state)
    × ((u : ℕ) → list_any (λ (n : Numbered). has (actors n.label) u) goes ≡ acts_in (has (reached (run_in old.parts) m)) u (run_in old.parts))
    × (new.parts.since ≡ old.parts.since)

-- the thread is at a stabilize
abbrev pub is_at_stabilize : Option told.Look → Bool
is_at_stabilize (Some (Act Stabilize)) = true
is_at_stabilize look = false

-- the same as `MayUndoSince`, as a test
abbrev pub may_undo_since : ℕ → ProgramParts → List Numbered → PlainState → ℕ → ℕ → Bool
may_undo_since q p run s t m =
    is_at_stabilize (option_map (λ e. seen (look_in p e)) (standing s t)) && is_at (mark_in s t) m && is_revocable_since q run m
