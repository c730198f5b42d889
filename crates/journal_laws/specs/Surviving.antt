-- What the law of surviving runs says of the end of what stays.
use Rattle.std.specs.Prelude.{◌≡◌, ℕ, Bool, true, false, cond, not, ◌&&◌, List, [], ◌∷◌, ◌++◌, map as each, Option, Some, None, option_and_then}
use Rattle.std.specs.FinMap as map
use Rattle.std.specs.FinSet as set
use Rattle.stab_base.specs.Datum.{Datum}
use Rattle.stab_base.specs.declared.numbers.Seq.{Seq}
use Rattle.stab_journal.specs.declared.event.Numbered.{Numbered}
use Rattle.stab_journal.specs.Journal.{RiseFrom}
use Rattle.stab_journal.specs.Label.{spawned, touched, written}
use Rattle.stab_journal.specs.Names.{has, is_at}
use Rattle.stab_journal.specs.Reached.{rest}
use Rattle.stab_code.specs.Program.{ProgramParts}
use Rattle.language.specs.Plain.{PlainState, effect_of, start}
use Rattle.language.specs.Steps.{State, Effect, Table, effect_in, next, after_steps}
use Rattle.journal_laws.specs.Known.{IsExprIn, IsKnown}
use Rattle.journal_laws.specs.Lost.{is_hit, is_unmade, is_written, is_stale}

-- the number is one of these
abbrev pub is_among : List Seq → ℕ → Bool
is_among qs q = has (each (λ (s : Seq). s.0) qs) q

-- where a thread stands in a state, if both are there
abbrev pub thread_of : {E : Type 0} → Option (State E) → ℕ → Option E
thread_of s t = option_and_then (λ now. map.get now.threads t) s

-- what a reference holds in a state, if both are there
abbrev pub value_of : {E : Type 0} → Option (State E) → ℕ → Option Datum
value_of s r = option_and_then (λ now. map.get now.references r) s

module _ {E : Type 0} (effect : Table E) where
  abbrev pub printed_of : Option (Effect E) → List Datum
  printed_of None = []
  printed_of (Some e) = e.printed

  -- what a step prints from a state
  abbrev pub printed_at : Option (State E) → Numbered → List Datum
  printed_at None n = []
  printed_at (Some s) n = printed_of (effect_in effect s n.seq.0 n.label)

  -- what the steps that stay printed, in order
  abbrev pub prints : (ℕ → Bool) → Option (State E) → List Numbered → List Datum
  prints gone s [] = []
  prints gone s (n ∷ ns) = cond (gone n.seq.0) [] (printed_at s n) ++ prints gone (next effect s n) ns

module _ {E : Type 0} (effect : Table E) where
  -- of a run from start to end, at is the end of the steps that stay
  pub record IsLawful (gone : ℕ → Bool) (start : State E) (steps : List Numbered) (end at : State E) : Type 0 where
    -- these are a run
    pub run : after_steps effect (Some start) (rest gone steps) ≡ Some at
    -- a thread that no lost step touches stands where it stood
    pub threads : (t : ℕ) → is_hit gone t steps ≡ false → map.get at.threads t ≡ map.get end.threads t
    -- any other thread stands where it stood at the end of the steps before the first lost one that touches it: nowhere, where
    -- that one spawns it
    pub stands : (t : ℕ) (before : List Numbered) (n : Numbered) (after : List Numbered) → steps ≡ before ++ n ∷ after
        → is_hit gone t before ≡ false → gone n.seq.0 ≡ true → has (touched n.label) t ≡ true
        → map.get at.threads t ≡ thread_of (after_steps effect (Some start) before) t
    -- a reference whose last write isn't lost holds what it held
    pub references : (r : ℕ) → is_stale gone r false steps ≡ false → map.get at.references r ≡ map.get end.references r
    -- a reference holds what its last write that stays gave it
    pub falls_back : (r : ℕ) (before : List Numbered) (n : Numbered) (after : List Numbered) → steps ≡ before ++ n ∷ after
        → is_at (written n.label) r ≡ true → gone n.seq.0 ≡ false → is_written gone r after ≡ false
        → map.get at.references r ≡ value_of (after_steps effect (Some start) (before ++ n ∷ [])) r
    -- without such a write it is as in the start
    pub stays : (r : ℕ) → is_written gone r steps ≡ false → map.get at.references r ≡ map.get start.references r
    -- the channels are those whose making isn't lost
    pub channels : (c : ℕ) → set.contains at.channels c ≡ (set.contains end.channels c && not (is_unmade gone c steps))
    -- the output is that of the steps that stay
    pub output : at.output ≡ start.output ++ prints effect gone (Some start) steps

-- the steps that stay of a run from a state, whose numbers rise, are a run from it, and where it ends
pub record SurvivesFrom (p : ProgramParts) (gone : ℕ → Bool) (start : PlainState) (run : List Numbered) (end : PlainState) : Type 0 where
  pub at : PlainState
  pub rises : RiseFrom 1 (rest gone run)
  pub known : IsKnown IsExprIn at
  pub lawful : IsLawful (effect_of p) gone start run end at
  -- a thread that a lost step spawns isn't there
  pub unspawned : (u : ℕ) (before : List Numbered) (n : Numbered) (after : List Numbered) → run ≡ before ++ n ∷ after
      → gone n.seq.0 ≡ true → is_at (spawned n.label) u ≡ true → map.get at.threads u ≡ None

-- the same from the start state of the program
abbrev pub Survives : ProgramParts → (ℕ → Bool) → List Numbered → PlainState → Type 0
Survives p gone run end = SurvivesFrom p gone (start p) run end
