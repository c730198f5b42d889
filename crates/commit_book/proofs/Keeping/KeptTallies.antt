-- The counts that are kept, after one step.
use Rattle.std.proofs.Common.{◌≡◌, ℕ, ◌+◌, ◌<◌, false, List, [], ◌∷◌, ◌++◌, length, sym, ap, ◌∙◌, arith, length-append}
use Rattle.std.specs.Prelude.{count_by, cond}
use Rattle.std.proofs.lemmas.List.Sums.{sum_by-append}
use Rattle.stab_code.specs.Program.{ProgramParts}
use Rattle.stab_journal.specs.declared.event.Event.{Event}
use Rattle.stab_journal.specs.declared.event.Label.{Label}
use Rattle.stab_journal.specs.declared.event.Numbered.{Numbered}
use Rattle.stab_journal.specs.declared.event.What.TheVariants.{Step}
use Rattle.stab_journal.specs.Due.{final_prints, released}
use Rattle.stab_journal.specs.Floor.{is_cut, floor}
use Rattle.stab_journal.specs.Journal.{Journal, step_at, survivors}
use Rattle.stab_journal.specs.Script.{probed_by, probed}
use Rattle.language.specs.Plain.{PlainState}
use Rattle.language.specs.Standing.{Shows, event}
use Rattle.commit_book.specs.Counts.{is_undo}
use Rattle.commit_book.proofs.Keeping.EventSteps.{finals_step, probed_snoc, released_snoc}
use Rattle.commit_book.proofs.Keeping.Floors.{floor_below}
use Rattle.commit_book.proofs.Keeping.JournalSteps.{numbered}
use Rattle.commit_book.proofs.Keeping.RoomRun.{next_rises}

-- a step of a worker
module _ (events : List Event) (worker : ℕ) (l : Label) where
  -- it is the next one that gets what its label says of a probe
  pub probes_now : length (probed (events ++ event worker (Step l) ∷ [])) ≡ length (probed events) + length (probed_by (Step l))
  probes_now = ap length (probed_snoc events (event worker (Step l))) ∙ length-append (probed events) (probed_by (Step l))

  -- it releases nothing, and undoes nothing
  pub released_now : released (events ++ event worker (Step l) ∷ []) ≡ released events
  released_now = released_snoc 0 events (event worker (Step l))

  pub undos_now : count_by is_undo (events ++ event worker (Step l) ∷ []) ≡ count_by is_undo events
  undos_now =
      let sum : count_by is_undo (events ++ event worker (Step l) ∷ []) ≡ count_by is_undo events + count_by is_undo (event worker (Step l) ∷ []) = sum_by-append (λ (e : Event). cond {A = ℕ} (is_undo e) 1 0) events (event worker (Step l) ∷ []) in
      let none : count_by is_undo (event worker (Step l) ∷ []) ≡ 0 = omega arith in
      omega (arith, sum, none)

-- if it is no cut, it makes no print final
pub finals_now : (p : ProgramParts) (old new : Journal) (run : List Numbered) (s : PlainState) (l : Label) → Shows p old run s → is_cut l ≡ false → survivors new ≡ survivors old ++ step_at (length old.events + 1) (Step l) → final_prints (survivors new) ≡ final_prints (survivors old)
finals_now p old new run s l shows uncut after =
    let n = numbered (length old.events + 1) l in
    let above : floor run < n.seq.0 = floor_below 0 1 run n (omega arith) (next_rises p old run s l shows) in
    ap final_prints after
    ∙ ap (λ ns. final_prints (ns ++ n ∷ [])) shows.left
    ∙ finals_step run n uncut above
    ∙ ap final_prints (sym shows.left)
