-- What is kept of the prints.
use Rattle.std.specs.Prelude.{◌≡◌, ℕ, ◌&&◌, nat_lt, List, filter, length, map as each}
use Rattle.stab_journal.specs.declared.event.Numbered.{Numbered}
use Rattle.stab_journal.specs.Due.{is_print, final_prints}
use Rattle.stab_journal.specs.Floor.{floor}
use Rattle.stab_journal.specs.Journal.{Journal, survivors}
use Rattle.print_log.specs.Log.{Print, Prints}

-- the numbers of some prints
abbrev pub numbers_of : List Print → List ℕ
numbers_of ps = each (λ (p : Print). p.number) ps

-- the numbers of the prints of the run above f
abbrev pub prints_above : ℕ → List Numbered → List ℕ
prints_above f run = each (λ (n : Numbered). n.seq.0) (filter (λ (n : Numbered). nat_lt f n.seq.0 && is_print n.label) run)

-- as many values are final as prints of the run, and the prints since the last cut are those of the run
pub record ArePrints (journal : Journal) (log : Prints) : Type 0 where
  pub finals : length log.finals ≡ final_prints (survivors journal)
  pub recent : numbers_of log.recent ≡ prints_above (floor (survivors journal)) (survivors journal)
