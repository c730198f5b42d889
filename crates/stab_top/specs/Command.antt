-- What an execution of the program says, by its exit status.
use Rattle.std.specs.Prelude.{◌≡◌, ℕ, ℤ, Bool, List, [], Option, ◌⊎◌}
use Rattle.stab_files.specs.Entry.{Entry}
use Rattle.call_report.specs.declared.report.Report.{Report}
use Rattle.call_status.specs.declared.status.Status.{Status}
use Rattle.call_report.specs.Call.{Call}
use Rattle.call_report.specs.Input.{Input, input_of}
use Rattle.stab_words.specs.Asked.{asked}
use Rattle.number_source.specs.declared.came.Came.{Came}
use Rattle.stab_top.specs.Call.{Hears, Says}
use Rattle.sink_lines.specs.Device.{Device, Rests, Writes, device}
use Rattle.call_report.specs.Reason.{cause_words, reason_text}
use Rattle.call_status.specs.Status.{status_number}

-- the exit status is the status's number; the reason line with this cause was written to standard error, or a prefix up to a
-- fault, or nothing
abbrev pub EndsWith : Status → List ℕ → ℕ → Device (List ℕ) → Device (List ℕ) → Type 0
EndsWith status cause number errors after =
    (number ≡ status_number status) × (Writes errors after (reason_text status cause) ⊎ Rests errors after)

-- the files, the numbers that came, the output and standard error before and after an execution of the program, and its exit status
pub record Execution : Type 0 where
  pub files : Device (List Entry)
  pub files_after : ℕ
  pub input : Input
  pub input_after : Input
  pub sink : Device (List ℕ)
  pub sink_after : Device (List ℕ)
  pub errors : Device (List ℕ)
  pub errors_after : Device (List ℕ)
  pub number : ℕ

-- the execution with these files, numbers, output and standard error before and after it, and this exit status
abbrev pub execution_of : {F N K E : Type 0} → (F → Option (List Entry)) → (F → ℕ) → F → F →
    (N → List ℤ) → (N → Bool) → (N → Option Came) → Option N → Option N →
    (K → Option (List ℕ)) → (K → ℕ) → K → K → (E → Option (List ℕ)) → (E → ℕ) → E → E → ℕ → Execution
execution_of held f files files_after came ended last source source_after told k sink sink_after reasons e errors errors_after number = record {
  files = device held f files;
  files_after = f files_after;
  input = input_of came ended last source;
  input_after = input_of came ended last source_after;
  sink = device told k sink;
  sink_after = device told k sink_after;
  errors = device reasons e errors;
  errors_after = device reasons e errors_after;
  number = number;
}

-- an execution as a call with this report
abbrev pub call_with : Execution → Report → Call
call_with e report = record {
  files = e.files;
  files_after = e.files_after;
  input = e.input;
  input_after = e.input_after;
  outcome = record { sink = e.sink; sink_after = e.sink_after; report = report };
}

-- there were no words: the files counted no fault, no number was taken, and nothing was written except the reason line of this status
abbrev pub EndsWithoutWords : Status → Execution → Type 0
EndsWithoutWords status e =
    EndsWith status [] e.number e.errors e.errors_after × Rests e.sink e.sink_after × (e.files_after ≡ e.files.faults)
    × (e.input_after ≡ e.input)

-- there is a report that says what it must of these words, and the program ended with its status and cause
abbrev pub Executes : List (List ℕ) → Execution → Type 0
Executes words e =
    (report : Report) × EndsWith report.status (cause_words report) e.number e.errors e.errors_after
    × Says words (call_with e report) × Hears (asked words) (call_with e report)
