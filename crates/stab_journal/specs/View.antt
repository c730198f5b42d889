-- The journal that a history's fields stand for.
use Rattle.std.specs.Prelude.{◌≡◌, ℕ, zero, suc, ◌-◌, cond, List, [], ◌∷◌, Option, None, map, slice_get, vec_len, vec_capacity}
use Rattle.std.specs.FinSet.{from_list}
use Rattle.stab_journal.specs.Entry.{Entry}
use Rattle.stab_journal.specs.declared.history.History.TheInside.{Inside}
use Rattle.stab_journal.specs.Event.{weight_of}
use Rattle.stab_journal.specs.Journal.{Journal, IsValid}

-- the entry with a number, the first being 1
abbrev pub entry_with : List Entry → ℕ → Option Entry
entry_with es zero = None
entry_with es (suc i) = slice_get es i

-- of entries that are numbered from q on, the numbers of the struck ones
abbrev pub struck_from : ℕ → List Entry → List ℕ
struck_from q [] = []
struck_from q (e ∷ es) = cond e.struck (q ∷ struck_from (suc q) es) (struck_from (suc q) es)

abbrev pub journal_of : Inside → Journal
journal_of a = record {
  events = map (λ (e : Entry). e.event) a.entries.items;
  struck = from_list (struck_from 1 a.entries.items);
  spare = vec_capacity a.entries - vec_len a.entries;
}

-- the weight that is kept is the journal's
pub record IsKept (a : Inside) : Type 0 where
  pub valid : IsValid (journal_of a)
  pub weight : a.weight ≡ weight_of (journal_of a).events
