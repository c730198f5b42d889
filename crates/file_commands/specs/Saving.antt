-- What a call says of an image that is saved.
use Rattle.std.specs.Prelude.{◌≡◌, ◌≢◌, ◌<◌, ℕ, ℤ, List, None, Some}
use Rattle.stab_code.specs.Program.{ProgramParts}
use Rattle.stab_journal.specs.Journal.{Journal}
use Rattle.stab_text.specs.declared.fault.TextFault.{TextFault}
use Rattle.stab_text.specs.Text.{HasFault, IsTextOf}
use Rattle.stab_words.specs.declared.request.SaveArgs.{SaveArgs}
use Rattle.trace_verify.specs.declared.verdict.Verdict.{Verdict}
use Rattle.trace_verify.specs.declared.verdict.Verdict.TheVariants.{Yes}
use Rattle.trace_verify.specs.Verdict.{IsOfRun, IsVerdict}
use Rattle.image_commands.specs.Cuts.{cuts_in}
use Rattle.image_commands.specs.Saved.{IsImageOf}
use Rattle.call_status.specs.declared.role.Role.TheVariants.{Program}
use Rattle.call_status.specs.declared.status.Status.{Status}
use Rattle.call_status.specs.declared.status.Status.TheVariants.{BadText, Done, No, NoCut, NoMemory, SinkFault}
use Rattle.file_commands.specs.declared.saving.Source.{Source}
use Rattle.sink_lines.specs.Device.{Gains, GainsPrefix, Rests}
use Rattle.call_report.specs.declared.report.Blame.TheVariants as blame
use Rattle.call_report.specs.declared.report.Made.TheVariants as made
use Rattle.call_report.specs.Call.{Call, LastSays, NextSays, ScriptSays, status_of}
use Rattle.call_report.specs.Reading.{Form, trace_form}
use Rattle.call_report.specs.Report.{Blames, Leaves, Outcome, Refuses}

-- a program with its text
abbrev pub source_form : Form Source TextFault
source_form = record {
  role = Program;
  IsOf = λ bytes source. (source.text.items ≡ bytes) × IsTextOf bytes source.program;
  HasFault = HasFault;
  bad = BadText;
  blames = blame.Text;
}

-- the verdict on the history isn't yes
pub record IsRefusedBy (p : ProgramParts) (script : List ℤ) (j : Journal) (o : Outcome) : Type 0 where
  pub verdict : Verdict
  pub is : IsVerdict p script j verdict
  pub no : verdict ≢ Yes
  pub reported : Leaves o.report (Some (made.Verdict verdict))
  pub rests : Rests o.sink o.sink_after

-- the bytes were written, or a prefix of them up to a fault of the sink
abbrev pub IsPut : Status → List ℕ → Outcome → Type 0
IsPut Done bytes o = Blames o.report None × Gains o.sink o.sink_after bytes
IsPut SinkFault bytes o = Blames o.report None × GainsPrefix o.sink o.sink_after bytes
IsPut _ bytes o = ⊥

-- What each status says of a history of which the image at the n-th cut was to be saved. Want of memory is free, and no other status
-- comes.
abbrev pub SaveEnds : Status → List ℕ → ProgramParts → List ℤ → Journal → ℕ → Outcome → Type 0
SaveEnds Done text p script j n o = (bytes : List ℕ) × IsImageOf text p script j n bytes × IsPut Done bytes o
SaveEnds SinkFault text p script j n o = (bytes : List ℕ) × IsImageOf text p script j n bytes × IsPut SinkFault bytes o
SaveEnds NoCut text p script j n o = IsOfRun p script j × (cuts_in j.events < n) × Refuses o None
SaveEnds No text p script j n o = IsRefusedBy p script j o
SaveEnds NoMemory text p script j n o = Refuses o None
SaveEnds _ text p script j n o = ⊥

-- the trace of a file, of which the image at a cut was to be saved
abbrev pub CutSays : Call → SaveArgs → Source → List ℤ → Type 0
CutSays c args source script =
    LastSays trace_form c args.trace (λ history.
    SaveEnds (status_of c) source.text.items source.program script history args.at c.outcome)

-- the program is read first, then the script, then the trace
abbrev pub SaveSays : Call → SaveArgs → Type 0
SaveSays c args =
    NextSays source_form c args.file (λ source. ScriptSays c args.probes (λ script. CutSays c args source script))
