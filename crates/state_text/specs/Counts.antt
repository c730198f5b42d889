-- How many threads ended, failed and wait.
use Rattle.std.specs.Prelude.{◌≡◌, ◌+◌, not, ◌&&◌, List, count_by}
use Rattle.plain_language.specs.declared.look.Look as told
use Rattle.plain_language.specs.declared.look.Look.TheVariants.{Done, Failed, Pure, Act}
use Rattle.language.specs.Expression.{Expr}
use Rattle.language.specs.Shown.{is_done, is_fault}
use Rattle.language.specs.Table.{Look}
use Rattle.state_text.specs.declared.counts.Counts.{Counts}

-- these threads are counted
pub record AreCounts (looks : List (Look Expr)) (c : Counts) : Type 0 where
  pub ended : c.ended ≡ count_by is_done looks
  pub faulted : c.faulted ≡ count_by is_fault looks
  pub waiting : c.waiting ≡ count_by (λ l. not (is_done l) && not (is_fault l)) looks

-- one thread more
abbrev pub counted : told.Look → Counts → Counts
counted Done c = record c { ended = c.ended + 1 }
counted (Failed k) c = record c { faulted = c.faulted + 1 }
counted Pure c = record c { waiting = c.waiting + 1 }
counted (Act k) c = record c { waiting = c.waiting + 1 }
