-- What a call says of a trace that is judged.
use Rattle.std.specs.Prelude.{◌≡◌, ℤ, ℕ, List, [], ◌∷◌, ◌++◌, None, Some, codes, ◌⊎◌}
use Rattle.stab_code.specs.Program.{ProgramParts}
use Rattle.stab_journal.specs.Journal.{Journal}
use Rattle.stab_words.specs.declared.request.VerifyArgs.{VerifyArgs}
use Rattle.trace_verify.specs.declared.verdict.Verdict.{Verdict}
use Rattle.trace_verify.specs.declared.verdict.Verdict.TheVariants as verdicts
use Rattle.trace_verify.specs.Verdict.{IsVerdict}
use Rattle.call_status.specs.declared.status.Status.{Status}
use Rattle.call_status.specs.declared.status.Status.TheVariants.{Done, No, NoMemory, SinkFault}
use Rattle.sink_lines.specs.Device.{Gains, GainsPrefix}
use Rattle.call_report.specs.declared.report.Made.TheVariants as made
use Rattle.call_report.specs.Call.{Call, LastSays, NextSays, ScriptSays, status_of}
use Rattle.call_report.specs.Reading.{program_form, trace_form}
use Rattle.call_report.specs.Reason.{failing_words}
use Rattle.call_report.specs.Report.{Leaves, Outcome, Refuses}

-- `yes`, or `no` with the number of the event that fails and what is wrong with it
abbrev pub verdict_line : Verdict → List ℕ
verdict_line verdicts.Yes = codes "yes" ++ 10 ∷ []
verdict_line (verdicts.No q why) = codes "no" ++ (failing_words (verdicts.No q why) ++ 10 ∷ [])

-- the status of a verdict whose line was written
abbrev pub verdict_status : Verdict → Status
verdict_status verdicts.Yes = Done
verdict_status (verdicts.No q why) = No

-- the line of the verdict was written, and the status is the verdict's; or a prefix was written up to a fault, and it is
-- SinkFault
abbrev pub IsTold : Status → Verdict → Outcome → Type 0
IsTold status verdict o =
    ((status ≡ verdict_status verdict) × Gains o.sink o.sink_after (verdict_line verdict))
    ⊎ ((status ≡ SinkFault) × GainsPrefix o.sink o.sink_after (verdict_line verdict))

-- the history has this verdict, which is reported; its line was written, or a prefix up to a fault
pub record IsJudged (status : Status) (program : ProgramParts) (script : List ℤ) (history : Journal) (o : Outcome) : Type 0 where
  pub verdict : Verdict
  pub is : IsVerdict program script history verdict
  pub reported : Leaves o.report (Some (made.Verdict verdict))
  pub told : IsTold status verdict o

-- What a status says of a history that was to be judged. NoMemory is always allowed; other statuses don't occur.
abbrev pub VerdictEnds : Status → ProgramParts → List ℤ → Journal → Outcome → Type 0
VerdictEnds status program script history o =
    IsJudged status program script history o ⊎ ((status ≡ NoMemory) × Refuses o None)

-- the trace in the file, judged against the program and the script
abbrev pub TraceSays : Call → List ℕ → ProgramParts → List ℤ → Type 0
TraceSays c file program script =
    LastSays trace_form c file (λ history. VerdictEnds (status_of c) program script history c.outcome)

-- the program is read first, then the script, then the trace
abbrev pub VerifySays : Call → VerifyArgs → Type 0
VerifySays c args =
    NextSays program_form c args.file (λ program. ScriptSays c args.probes (λ script. TraceSays c args.trace program script))
