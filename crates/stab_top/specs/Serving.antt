-- What each status says of a run to which numbers come.
use Rattle.std.specs.Prelude.{◌≡◌, ℕ, [], Option, Some, None, option_map}
use Rattle.probe_text.specs.declared.fault.ProbesFault.TheVariants.{Line}
use Rattle.stab_code.specs.JobParts.{job_of}
use Rattle.stab_code.specs.Program.{ProgramParts}
use Rattle.stab_words.specs.declared.request.ServeArgs.{ServeArgs}
use Rattle.commit_book.specs.Book.{BookView}
use Rattle.live_rounds.specs.Numbers.{Heard}
use Rattle.call_status.specs.declared.role.Role.TheVariants.{Probes}
use Rattle.call_status.specs.declared.status.Status.{Status}
use Rattle.call_status.specs.declared.status.Status.TheVariants.{BadProbes, FileFault, TooBig}
use Rattle.call_report.specs.declared.report.Blame.{Blame}
use Rattle.call_report.specs.declared.report.Blame.TheVariants as blame
use Rattle.call_report.specs.declared.report.Made.TheVariants as made
use Rattle.call_report.specs.Call.{Call, LastSays}
use Rattle.call_report.specs.Report.{Outcome}
use Rattle.call_report.specs.Input.{Input}
use Rattle.call_report.specs.Reading.{program_form}
use Rattle.book_runs.specs.Serving.{ServedEnds, bad_place}

-- what is blamed: the line that is no number, by its place, or the numbers, which couldn't be read or are too many
abbrev pub served_blame : Status → Option ℕ → Option Blame
served_blame BadProbes bad = option_map (λ at. blame.Probes (Line at)) bad
served_blame FileFault bad = Some (blame.File Probes)
served_blame TooBig bad = Some (blame.File Probes)
served_blame status bad = None

abbrev pub heard_by : Input → Heard
heard_by input = record { came = input.came; ended = input.ended; last = input.last }

-- The book that the run leaves, if it leaves one, is all that the call made; the status says how far the run of the program came with
-- the numbers that came, what was written and what is blamed.
pub record IsServedBy (args : ServeArgs) (program : ProgramParts) (before after : Input) (o : Outcome) : Type 0 where
  pub left : Option BookView
  pub is_made : o.report.made ≡ option_map made.Book left
  pub is_blamed : o.report.blame ≡ served_blame o.report.status (bad_place o.report.status after.last)
  pub ends : ServedEnds args.workers o.report.status (job_of program [] args.fuel args.quantum) left
      (heard_by before) (heard_by after) o.sink o.sink_after

-- a run of the program in the file, to which numbers come
abbrev pub ServeSays : Call → ServeArgs → Type 0
ServeSays c args = LastSays program_form c args.file (λ program. IsServedBy args program c.input c.input_after c.outcome)
