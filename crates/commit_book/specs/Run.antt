-- What a run says of the writes of references and of where its actors stood.
use Rattle.std.specs.Prelude.{ℕ, Bool, true, false, cond, ◌&&◌, nat_eq, List, [], ◌∷◌, ◌++◌, Option, Some, None}
use Rattle.stab_base.specs.Datum.{Datum}
use Rattle.stab_journal.specs.declared.event.Label.{Label}
use Rattle.stab_journal.specs.declared.event.Label.TheVariants.{Comm, Get, Enter}
use Rattle.stab_journal.specs.declared.event.Numbered.{Numbered}
use Rattle.stab_journal.specs.Label.{actors, written}
use Rattle.stab_journal.specs.Names.{has, is_at}
use Rattle.language.specs.Steps.{State, Table, next}
use Rattle.ref_log.specs.Log.{Write}
use Rattle.journal_laws.specs.Surviving.{thread_of, value_of}

-- the steps before which the controls of the actors are saved
abbrev pub saves : Label → Bool
saves (Enter t) = true
saves (Comm s r c) = true
saves (Get t r) = true
saves _ = false

abbrev pub write_of : ℕ → Option Datum → List Write
write_of q None = []
write_of q (Some v) = record { number = q; value = v } ∷ []

module _ {E : Type 0} (effect : Table E) where
  -- the writes of the reference r by these steps from a state, in order, each with the value that it left
  abbrev pub writes_in : ℕ → Option (State E) → List Numbered → List Write
  writes_in r s [] = []
  writes_in r s (n ∷ ns) =
      cond (is_at (written n.label) r) (write_of n.seq.0 (value_of (next effect s n) r)) [] ++ writes_in r (next effect s n) ns

  -- where the actor t of the step numbered q stood before it, if it is a step before which that is saved
  abbrev pub stood_at : ℕ → ℕ → Option (State E) → List Numbered → Option E
  stood_at q t s [] = None
  stood_at q t s (n ∷ ns) =
      cond (nat_eq q n.seq.0)
      (cond (saves n.label && has (actors n.label) t) (thread_of s t) None)
      (stood_at q t (next effect s n) ns)
