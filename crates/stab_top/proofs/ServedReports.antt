-- The report of a run to which numbers came.
use Rattle.std.proofs.Common.{◌≡◌, ◌∙◌, inl, inr, ℕ, [], Option, Some, None, refl, sym, ap, subst}
use Rattle.std.specs.Prelude.{option_map}
use Rattle.stab_code.specs.JobParts.{JobParts, job_of}
use Rattle.stab_code.specs.Program.{ProgramParts}
use Rattle.stab_words.specs.declared.request.ServeArgs.{ServeArgs}
use Rattle.commit_book.specs.Book.{BookView}
use Rattle.live_rounds.specs.Numbers.{Heard}
use Rattle.sink_lines.specs.Device.{Device, Rests}
use Rattle.call_status.specs.declared.status.Status.{Status}
use Rattle.call_status.specs.declared.status.Status.TheVariants.{NoMemory}
use Rattle.call_report.specs.declared.report.Made.{Made}
use Rattle.call_report.specs.declared.report.Made.TheVariants as made
use Rattle.call_report.specs.Input.{Input}
use Rattle.call_report.specs.Report.{Blames, Outcome}
use Rattle.book_runs.specs.Serving.{ServedEnds, bad_place}
use Rattle.stab_top.specs.Serving.{IsServedBy, heard_by, served_blame}

module _ (args : ServeArgs) (program : ProgramParts) (before after : Input) (o : Outcome) where
  abbrev Ends : Status → JobParts → Option BookView → Type 0
  Ends status job left = ServedEnds args.workers status job left (heard_by before) (heard_by after) o.sink o.sink_after

  -- there was no memory for the source, or for the job
  pub unserved : o.report.status ≡ NoMemory → Blames o.report None → after ≡ before → Rests o.sink o.sink_after → IsServedBy args program before after o
  unserved is bare same rests = record {
    left = None;
    is_made = bare.nothing;
    is_blamed = bare.blame ∙ sym (ap (λ s. served_blame s (bad_place s after.last)) is);
    ends = inl (is, refl, ap heard_by same, rests);
  }

  -- the run of a job that equals the one that is asked for
  pub served_by : (status : Status) (bad : Option ℕ) (left : Option BookView) (job : JobParts) → o.report.status ≡ status → o.report.made ≡ option_map made.Book left → o.report.blame ≡ served_blame status bad
      → bad ≡ bad_place status after.last → job ≡ job_of program [] args.fuel args.quantum → Ends status job left → IsServedBy args program before after o
  served_by status bad left job is made_is blamed place same ends = record {
    left = left;
    is_made = made_is;
    is_blamed = blamed ∙ ap (served_blame status) place ∙ sym (ap (λ s. served_blame s (bad_place s after.last)) is);
    ends = subst (λ s. Ends s (job_of program [] args.fuel args.quantum) left) (sym is) (subst (λ j. Ends status j left) same ends);
  }

  abbrev as_input : Heard → Input
  as_input h = record { came = h.came; ended = h.ended; last = h.last }

  same_input : heard_by after ≡ heard_by before → after ≡ before
  same_input same = ap as_input same

  nothing_left : (left : Option BookView) (made_of : Option Made) (book : BookView) → made_of ≡ option_map made.Book left → left ≡ Some book → made_of ≡ None → after ≡ before
  nothing_left left made_of book made_is left_is none = absurd (let some : made_of ≡ Some (made.Book book) = made_is ∙ ap (λ l. option_map made.Book l) left_is in let wrong : ⊥ = cc in wrong)

  -- where no book is left, no number was taken
  pub untaken : (status : Status) (left : Option BookView) (job : JobParts) (made_of : Option Made) → made_of ≡ option_map made.Book left → Ends status job left → made_of ≡ None → after ≡ before
  untaken status left job made_of made_is (inl none) = λ bare. same_input none.2
  untaken status left job made_of made_is (inr s) = nothing_left left made_of s.ends.book made_is s.ends.is_left
