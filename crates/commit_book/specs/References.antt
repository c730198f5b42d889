-- The writes that are kept, and what references hold.
use Rattle.std.specs.Prelude.{◌≡◌, ℕ, List, [], Option, Some, option_map, unwrap_or}
use Rattle.std.specs.Ordering.{nat_cmp}
use Rattle.std.specs.FinMap as map
use Rattle.std.specs.FinMap.{FinMap}
use Rattle.stab_base.specs.Datum.{Datum}
use Rattle.stab_journal.specs.declared.event.Numbered.{Numbered}
use Rattle.stab_journal.specs.Floor.{floor}
use Rattle.ref_log.specs.Log.{Write, kept, last_of}
use Rattle.language.specs.Steps.{State, Table}
use Rattle.commit_book.specs.Run.{writes_in}

-- the writes that are kept of the reference r, none where it isn't there
abbrev pub writes_at : FinMap nat_cmp (List Write) → ℕ → List Write
writes_at references r = unwrap_or (map.get references r) []

-- of the run, each write above its last cut is kept, and of each reference the last one below it; the number of that cut is the
-- last cut's
pub record AreWrites {E : Type 0} (effect : Table E) (last_cut : ℕ) (references : FinMap nat_cmp (List Write)) (start : State E)
    (run : List Numbered) : Type 0 where
  pub cut : last_cut ≡ floor run
  pub writes : (r : ℕ) → writes_at references r ≡ kept (floor run) (writes_in effect r (Some start) run)

-- what the reference r holds, if it is there: the value of its last write
abbrev pub value_at : FinMap nat_cmp (List Write) → ℕ → Option Datum
value_at references r = option_map (λ (w : Write). w.value) (last_of (writes_at references r))

-- the references are those of the state, and each one's last write left what it holds
abbrev pub HoldValues : {E : Type 0} → FinMap nat_cmp (List Write) → State E → Type 0
HoldValues references s = (r : ℕ) → value_at references r ≡ map.get s.references r
