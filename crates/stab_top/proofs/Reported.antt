-- The report of a run.
use Rattle.std.proofs.Common.{◌≡◌, inl, ℕ, IfSome, Option, Some, None, refl, sym, subst}
use Rattle.std.specs.Prelude.{option_map}
use Rattle.stab_code.specs.JobParts.{JobParts}
use Rattle.commit_book.specs.Book.{BookView}
use Rattle.sink_lines.specs.Device.{Rests}
use Rattle.call_status.specs.declared.status.Status.{Status}
use Rattle.call_status.specs.declared.status.Status.TheVariants.{NoMemory}
use Rattle.call_report.specs.declared.report.Made.{Made}
use Rattle.call_report.specs.declared.report.Made.TheVariants as made
use Rattle.call_report.specs.Report.{Blames, Leaves, Outcome}
use Rattle.book_runs.specs.Ending as runs
use Rattle.book_runs.specs.Ending.{Writing}
use Rattle.stab_top.specs.Running.{IfBook, RunEnds}

module _ (writes : Writing) (workers : ℕ) (o : Outcome) where
  -- a run of this job, which equals the one that is asked for
  pub reported : (status : Status) (left : Option BookView) (job asked : JobParts) → o.report.status ≡ status → Leaves o.report (option_map made.Book left) → job ≡ asked
      → runs.RunEnds writes workers status job left o.sink o.sink_after → RunEnds writes workers o.report.status asked o
  reported status left job asked is leaves same ends =
      record { left = left; reported = leaves; ends = subst (λ s. runs.RunEnds writes workers s asked left o.sink o.sink_after) (sym is) (subst (λ j. runs.RunEnds writes workers status j left o.sink o.sink_after) same ends) }

  -- there was no memory for the job
  pub no_job : (job : JobParts) → o.report.status ≡ NoMemory → Blames o.report None → Rests o.sink o.sink_after → RunEnds writes workers o.report.status job o
  no_job job is bare rests = record {
    left = None;
    reported = record { made = bare.nothing; no_blame = bare.blame };
    ends = subst (λ s. runs.RunEnds writes workers s job None o.sink o.sink_after) (sym is) (inl (refl, rests));
  }

-- what is true of a book that is left is true of the one that is made
pub made_too : (P : BookView → Type 0) (left : Option BookView) (made_of : Option Made) → made_of ≡ option_map made.Book left → IfSome left P → IfBook made_of P
made_too P (Some book) made_of is holds = subst (λ o. IfBook o P) (sym is) holds
made_too P None made_of is holds = subst (λ o. IfBook o P) (sym is) tt
