-- The pass of the law: beside each state of a run stands the state that is there without the lost steps.
use Rattle.std.proofs.Common.{◌≡◌, ℕ, Bool, true, false, cond, ◌&&◌, List, [], ◌∷◌, ◌++◌, Option, Some}
use Rattle.std.specs.FinMap as map
use Rattle.std.specs.FinSet as set
use Rattle.stab_base.specs.Datum.{Datum}
use Rattle.stab_base.specs.declared.numbers.ThreadId.{ThreadId}
use Rattle.stab_base.specs.declared.numbers.RefId.{RefId}
use Rattle.stab_journal.specs.declared.event.Label.{Label}
use Rattle.stab_journal.specs.declared.event.Label.TheVariants.{Set}
use Rattle.stab_journal.specs.declared.event.Numbered.{Numbered}
use Rattle.stab_journal.specs.Label.{touched, written}
use Rattle.stab_journal.specs.Names.{has, is_at}
use Rattle.stab_journal.specs.Reached.{Lost, after_step, depends, is_reached, rest}
use Rattle.language.specs.Steps.{State, Effect, Table, effect_in, plain, next, after_steps}
use Rattle.journal_laws.specs.Surviving.{thread_of, value_of, prints}

-- no step that stays depends directly on one that goes
abbrev pub IsClosedFrom : (ℕ → Bool) → Lost → List Numbered → Type 0
IsClosedFrom gone x [] = Unit {0}
IsClosedFrom gone x (n ∷ ns) = (gone n.seq.0 ≡ false → depends n.label x ≡ false) × IsClosedFrom gone (after_step (gone n.seq.0) n.label x) ns

-- what is lost after the steps
abbrev pub lost_after : (ℕ → Bool) → Lost → List Numbered → Lost
lost_after gone x [] = x
lost_after gone x (n ∷ ns) = lost_after gone (after_step (gone n.seq.0) n.label x) ns

-- gone says of each step whether the pass reaches it
abbrev pub IsReachedBy : ℕ → (ℕ → Bool) → Lost → List Numbered → Type 0
IsReachedBy m gone x [] = Unit {0}
IsReachedBy m gone x (n ∷ ns) = (gone n.seq.0 ≡ is_reached m n x) × IsReachedBy m gone (after_step (gone n.seq.0) n.label x) ns

-- a state of a run, and the state that is there without the lost steps
pub record IsWithout {E : Type 0} (x : Lost) (s s' : State E) : Type 0 where
  pub same_threads : (t : ℕ) → x.threads t ≡ false → map.get s'.threads t ≡ map.get s.threads t
  pub lost_threads : (t : ℕ) → x.threads t ≡ true → map.contains_key s.threads t ≡ true
  pub same_references : (r : ℕ) → x.references r ≡ false → map.get s'.references r ≡ map.get s.references r
  pub lost_references : (r : ℕ) → x.references r ≡ true → map.contains_key s.references r ≡ true
  pub same_channels : (c : ℕ) → x.channels c ≡ false → set.contains s'.channels c ≡ set.contains s.channels c
  pub lost_channels : (c : ℕ) → x.channels c ≡ true → set.contains s.channels c ≡ true
  pub no_channels : (c : ℕ) → x.channels c ≡ true → set.contains s'.channels c ≡ false

module _ {E : Type 0} (effect : Table E) where
  -- where a thread stands before the first lost step that touches it, and else at the end
  abbrev pub stood : (ℕ → Bool) → ℕ → Option (State E) → List Numbered → Option E
  stood gone t s [] = thread_of s t
  stood gone t s (n ∷ ns) = cond (gone n.seq.0 && has (touched n.label) t) (thread_of s t) (stood gone t (next effect s n) ns)

  -- what the last write that stays gave a reference, and else what it holds now
  abbrev pub held : (ℕ → Bool) → ℕ → Option Datum → Option (State E) → List Numbered → Option Datum
  held gone r now s [] = now
  held gone r now s (n ∷ ns) = held gone r (cond (gone n.seq.0) now (cond (is_at (written n.label) r) (value_of (next effect s n) r) now)) (next effect s n) ns

  -- the end of what stays
  pub record IsSurvivor (gone : ℕ → Bool) (x : Lost) (s s' : State E) (steps : List Numbered) (end end' : State E) : Type 0 where
    pub run : after_steps effect (Some s') (rest gone steps) ≡ Some end'
    pub without : IsWithout (lost_after gone x steps) end end'
    pub kept : (t : ℕ) → x.threads t ≡ true → map.get end'.threads t ≡ map.get s'.threads t
    pub stands : (t : ℕ) → x.threads t ≡ false → map.get end'.threads t ≡ stood gone t (Some s) steps
    pub holds : (r : ℕ) → map.get end'.references r ≡ held gone r (map.get s'.references r) (Some s) steps
    pub output : end'.output ≡ s'.output ++ prints effect gone (Some s) steps

-- what the law asks of the table: each number that occurs in a state is in it, after a step too; so a reference that a thread would set is there
pub record IsClosedTable {E : Type 0} (effect : Table E) (IsKnown : State E → Type 0) : Type 0 where
  pub step : (s n : State E) (q : ℕ) (l : Label) → IsKnown s → plain effect s q l ≡ Some n → IsKnown n
  pub sets : (s : State E) (q : ℕ) (t : ThreadId) (r : RefId) (e : Effect E) → IsKnown s → effect_in effect s q (Set t r) ≡ Some e → map.contains_key s.references r.0 ≡ true
