-- What the sets of a pass over a run say.
use Rattle.std.specs.Prelude.{ℕ, false, List}
use Rattle.std.specs.List.{list_any}
use Rattle.std.specs.Ordering.{nat_cmp, eq_by_cmp}
use Rattle.stab_journal.specs.Reached.{Lost}

-- the threads that lost steps touched, and the references whose last write is lost
abbrev pub lost_in : List ℕ → List ℕ → Lost
lost_in ts rs = record {
  threads = λ t. list_any (eq_by_cmp nat_cmp t) ts;
  references = λ r. list_any (eq_by_cmp nat_cmp r) rs;
  channels = λ _. false;
}
