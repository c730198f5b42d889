-- What is reached from a step, found in one pass over the run: a step is reached where it depends directly on a reached one.
use Rattle.std.specs.Prelude.{ℕ, Bool, false, cond, not, ◌&&◌, ◌||◌, nat_eq, List, [], ◌∷◌, Option, Some, None}
use Rattle.std.specs.List.{list_any}
use Rattle.stab_journal.specs.declared.event.Label.{Label}
use Rattle.stab_journal.specs.declared.event.Numbered.{Numbered}
use Rattle.stab_journal.specs.Label.{actors, touched, written}
use Rattle.stab_journal.specs.Names.{read, made, has, is_at}

-- of the steps so far, what the lost ones touched, the references whose last write is lost, and the channels that lost ones made
pub record Lost : Type 0 where
  pub threads : ℕ → Bool
  pub references : ℕ → Bool
  pub channels : ℕ → Bool

-- before the first step
abbrev pub nothing_lost : Lost
nothing_lost = record { threads = λ _. false; references = λ _. false; channels = λ _. false }

-- after a step that is lost
abbrev pub lose : Label → Lost → Lost
lose l x = record {
  threads = λ t. has (touched l) t || x.threads t;
  references = λ r. is_at (written l) r || x.references r;
  channels = λ c. is_at (made l) c || x.channels c;
}

-- after a step that stays
abbrev pub keep : Label → Lost → Lost
keep l x = record x { references = λ r. not (is_at (written l) r) && x.references r }

-- after a step that is lost or stays
abbrev pub after_step : Bool → Label → Lost → Lost
after_step b l x = cond b (lose l x) (keep l x)

abbrev pub reads_of : Option ℕ → (ℕ → Bool) → Bool
reads_of None p = false
reads_of (Some r) p = p r

-- a step depends directly on a lost one
abbrev pub depends : Label → Lost → Bool
depends l x = list_any x.threads (actors l) || reads_of (read l) x.references

-- a step is the one numbered m, or depends directly on a lost one
abbrev pub is_reached : ℕ → Numbered → Lost → Bool
is_reached m n x = nat_eq m n.seq.0 || depends n.label x

-- of these steps, the numbers of those that are reached, where x is lost before them
abbrev pub reached_from : ℕ → Lost → List Numbered → List ℕ
reached_from m x [] = []
reached_from m x (n ∷ ns) = cond (is_reached m n x) (n.seq.0 ∷ reached_from m (lose n.label x) ns) (reached_from m (keep n.label x) ns)

-- the numbers of the steps of the run that are reached from m, in order
abbrev pub reached : List Numbered → ℕ → List ℕ
reached run m = reached_from m nothing_lost run

-- the steps whose numbers aren't gone
abbrev pub rest : (ℕ → Bool) → List Numbered → List Numbered
rest gone [] = []
rest gone (n ∷ ns) = cond (gone n.seq.0) (rest gone ns) (n ∷ rest gone ns)

-- the run without what is reached from m
abbrev pub without_reached : ℕ → List Numbered → List Numbered
without_reached m run = rest (has (reached run m)) run
