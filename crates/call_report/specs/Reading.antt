-- What a call says of the contents of the files that it reads.
use Rattle.std.specs.Prelude.{◌≡◌, ℕ, ℤ, List, [], Option, Some, None, Ok, Err, ◌⊎◌}
use Rattle.probe_text.specs.declared.fault.ProbesFault.{ProbesFault}
use Rattle.probe_text.specs.Probes as probes
use Rattle.stab_code.specs.Program.{ProgramParts}
use Rattle.stab_files.specs.Entry.{Entry}
use Rattle.stab_journal.specs.Journal.{Journal}
use Rattle.stab_words.specs.declared.request.RunArgs.{RunArgs}
use Rattle.stab_text.specs.declared.fault.TextFault.{TextFault}
use Rattle.stab_text.specs.Text.{HasFault, IsTextOf}
use Rattle.trace_text.specs.declared.fault.TraceFault.{TraceFault}
use Rattle.trace_text.specs.Reading as traces
use Rattle.trace_text.specs.Text.{entries}
use Rattle.call_status.specs.declared.role.Role.{Role}
use Rattle.call_status.specs.declared.role.Role.TheVariants.{Program, Probes, Trace}
use Rattle.call_status.specs.declared.status.Status.{Status}
use Rattle.call_status.specs.declared.status.Status.TheVariants.{BadProbes, BadText, BadTrace, NoMemory}
use Rattle.call_report.specs.declared.report.Blame.{Blame}
use Rattle.call_report.specs.declared.report.Blame.TheVariants as blame
use Rattle.call_report.specs.declared.report.Report.{Report}
use Rattle.sink_lines.specs.Device.{Device}
use Rattle.call_report.specs.Loading.{FileSays, Loads, blamed}
use Rattle.call_report.specs.Report.{Blames}

-- the content that the bytes of a file have, the fault of bytes that have none, and the status for such a fault
pub record Form (Content Fault : Type 0) : Type 1 where
  pub role : Role
  pub IsOf : List ℕ → Content → Type 0
  pub HasFault : List ℕ → Fault → Type 0
  pub bad : Status
  pub blames : Fault → Blame

abbrev pub program_form : Form ProgramParts TextFault
program_form = record { role = Program; IsOf = IsTextOf; HasFault = HasFault; bad = BadText; blames = blame.Text }

abbrev pub probes_form : Form (List ℤ) ProbesFault
probes_form = record {
  role = Probes;
  IsOf = λ bytes numbers. probes.reading bytes ≡ Ok numbers;
  HasFault = λ bytes fault. probes.reading bytes ≡ Err fault;
  bad = BadProbes;
  blames = blame.Probes;
}

abbrev pub trace_form : Form Journal TraceFault
trace_form = record {
  role = Trace;
  IsOf = λ bytes history. traces.reading bytes ≡ Ok (entries history);
  HasFault = λ bytes fault. traces.reading bytes ≡ Err fault;
  bad = BadTrace;
  blames = blame.Trace;
}

module _ {Content Fault : Type 0} (form : Form Content Fault) where
  -- the file holds this content, and no fault was counted
  pub record Holds (files : Device (List Entry)) (name : List ℕ) (faults : ℕ) (content : Content) : Type 0 where
    pub bytes : List ℕ
    pub loads : Loads form.role files name faults bytes
    pub is : form.IsOf bytes content

  -- the bytes have a fault, which is blamed
  pub record HaveFault (report : Report) (bytes : List ℕ) : Type 0 where
    pub status : report.status ≡ form.bad
    pub fault : Fault
    pub has : form.HasFault bytes fault
    pub blames : Blames report (Some (form.blames fault))

  -- why the bytes were refused: for their fault, or because memory ran out, which is always allowed
  abbrev pub BytesRefused : Report → List ℕ → Type 0
  BytesRefused report bytes = HaveFault report bytes ⊎ ((report.status ≡ NoMemory) × Blames report None)

  -- why nothing was read: the file couldn't be loaded, or its bytes were refused
  abbrev pub ReadRefused : Report → Device (List Entry) → List ℕ → ℕ → Type 0
  ReadRefused report files name faults =
      FileSays form.role report.status files name faults
      (Blames report (blamed report.status form.role)) (BytesRefused report)

-- ---- a run, with the script in a probe file or an empty one

module _ (files : Device (List Entry)) (faults : ℕ) (file : List ℕ) where
  -- the program was read, and then the script
  abbrev pub AreGivenBy : Option (List ℕ) → ProgramParts → List ℤ → Type 0
  AreGivenBy None program script = Holds program_form files file faults program × (script ≡ [])
  AreGivenBy (Some probes) program script =
      Holds program_form files file files.faults program × Holds probes_form files probes faults script

  -- the program was refused, or the script was
  abbrev pub AreRefusedBy : Option (List ℕ) → Report → Type 0
  AreRefusedBy None report = ReadRefused program_form report files file faults
  AreRefusedBy (Some probes) report =
      ReadRefused program_form report files file faults
      ⊎ ((program : ProgramParts) × Holds program_form files file files.faults program
      × ReadRefused probes_form report files probes faults)

abbrev pub AreGiven : Device (List Entry) → ℕ → RunArgs → ProgramParts → List ℤ → Type 0
AreGiven files faults args program script = AreGivenBy files faults args.file args.probes program script

abbrev pub AreRefused : Report → Device (List Entry) → ℕ → RunArgs → Type 0
AreRefused report files faults args = AreRefusedBy files faults args.file args.probes report
