-- The two parts in which surviving steps are kept.
use Rattle.std.specs.Prelude.{◌≡◌, ℕ, ◌<◌, ◌≤◌, true, false, count_by, List, ◌++◌}
use Rattle.std.specs.List.{AllByRecursion}
use Rattle.stab_journal.specs.declared.event.Numbered.{Numbered}
use Rattle.stab_journal.specs.Due.{is_print}
use Rattle.stab_journal.specs.Floor.{floor_from, is_cut}
use Rattle.trace_verify.specs.declared.parts.Parts.{Parts}

-- all steps, in order
abbrev pub run_in : Parts → List Numbered
run_in a = a.settled.items ++ a.recent.items

-- a list begins with another
pub record IsFront (front whole : List Numbered) : Type 0 where
  pub back : List Numbered
  pub is : whole ≡ front ++ back

-- the step stands up to the cut numbered f, which is no print
abbrev pub IsSettled : ℕ → Numbered → Type 0
IsSettled f n = (n.seq.0 ≤ f) × (is_print n.label ≡ true → n.seq.0 < f)

-- the step stands behind the cut numbered f, and is none
abbrev pub IsRecent : ℕ → Numbered → Type 0
IsRecent f n = (f < n.seq.0) × (is_cut n.label ≡ false)

-- of steps behind the cut numbered q, the first part ends with the last cut, which is numbered f, and k of its steps print
pub record AreParts (q f k : ℕ) (front back : List Numbered) : Type 0 where
  pub floor : floor_from q front ≡ f
  pub settled : AllByRecursion (IsSettled f) front
  pub recent : AllByRecursion (IsRecent f) back
  pub prints : k ≡ count_by (λ (n : Numbered). is_print n.label) front

abbrev pub IsParted : Parts → Type 0
IsParted a = AreParts a.since a.floor a.final_prints a.settled.items a.recent.items
