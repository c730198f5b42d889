-- A call, and what it says of the files that it reads.
use Rattle.std.specs.Prelude.{◌≡◌, ℕ, ℤ, Bool, List, [], Option, Some, None, ◌⊎◌}
use Rattle.number_source.specs.declared.came.Came.{Came}
use Rattle.stab_files.specs.Count.{Rose}
use Rattle.stab_files.specs.Entry.{Entry}
use Rattle.call_status.specs.declared.status.Status.{Status}
use Rattle.call_report.specs.declared.report.Blame.{Blame}
use Rattle.sink_lines.specs.Device.{Device, Rests, device}
use Rattle.call_report.specs.Input.{Input, input_of, no_input}
use Rattle.call_report.specs.Reading.{Form, Holds, ReadRefused, probes_form}
use Rattle.call_report.specs.Report.{Outcome, Refuses}

-- a call: the files before it, their fault count after it, the numbers that came before it and by its end, and its outcome
pub record Call : Type 0 where
  pub files : Device (List Entry)
  pub files_after : ℕ
  pub input : Input
  pub input_after : Input
  pub outcome : Outcome

-- the call with these files before and after it and this outcome, to which no numbers come
abbrev pub call_of : {F : Type 0} → (F → Option (List Entry)) → (F → ℕ) → F → F → Outcome → Call
call_of held faults files after outcome = record {
  files = device held faults files;
  files_after = faults after;
  input = no_input;
  input_after = no_input;
  outcome = outcome;
}

-- the call with these files and this source, if there is one, before and after it and this outcome
abbrev pub call_over : {F N : Type 0} → (F → Option (List Entry)) → (F → ℕ) → F → F →
    (N → List ℤ) → (N → Bool) → (N → Option Came) → Option N → Option N → Outcome → Call
call_over held faults files after came ended last source source_after outcome = record {
  files = device held faults files;
  files_after = faults after;
  input = input_of came ended last source;
  input_after = input_of came ended last source_after;
  outcome = outcome;
}

abbrev pub status_of : Call → Status
status_of c = c.outcome.report.status

-- nothing was made or written, no fault of the files was counted, and this is blamed
pub record Untouched (c : Call) (cause : Option Blame) : Type 0 where
  pub refuses : Refuses c.outcome cause
  pub no_fault : c.files_after ≡ c.files.faults

module _ {Content Fault : Type 0} (form : Form Content Fault) where
  -- The file was refused and nothing written; or it holds a content of which `Said` is true, with this fault count after it was
  -- read.
  abbrev pub ReadSays : Call → List ℕ → ℕ → (Content → Type 0) → Type 0
  ReadSays c file faults Said =
      (ReadRefused form c.outcome.report c.files file c.files_after × Rests c.outcome.sink c.outcome.sink_after)
      ⊎ ((content : Content) × Holds form c.files file faults content × Said content)

  -- `LastSays` for the last file that the call reads, `NextSays` for one after which it reads others
  abbrev pub LastSays : Call → List ℕ → (Content → Type 0) → Type 0
  LastSays c file Said = ReadSays c file c.files_after Said

  abbrev pub NextSays : Call → List ℕ → (Content → Type 0) → Type 0
  NextSays c file Said = ReadSays c file c.files.faults Said

-- the script that the words name: the one in the probe file, or an empty one
abbrev pub ScriptSays : Call → Option (List ℕ) → (List ℤ → Type 0) → Type 0
ScriptSays c None Said = Said []
ScriptSays c (Some file) Said = NextSays probes_form c file Said

-- the files or the sink counted a fault in this call
abbrev pub CountedFault : Call → Type 0
CountedFault c = Rose c.files.faults c.files_after ⊎ Rose c.outcome.sink.faults c.outcome.sink_after.faults
