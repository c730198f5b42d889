-- A run's program and its script, which are read one after the other.
use Rattle.std.proofs.Common.{◌≡◌, inl, inr, ℕ, ℤ, List, [], Option, Some, None, sym, subst}
use Rattle.stab_code.specs.Program.{ProgramParts}
use Rattle.stab_files.specs.Entry.{Entry}
use Rattle.sink_lines.specs.Device.{Device}
use Rattle.call_report.specs.Reading.{AreGivenBy, AreRefusedBy, Holds, ReadRefused, probes_form, program_form}
use Rattle.call_report.specs.declared.report.Report.{Report}
use Rattle.call_report.proofs.ReadFirst.{first, same_files}

module _ (files between : Device (List Entry)) (after : ℕ) (file : List ℕ) (named : Option (List ℕ)) (program : ProgramParts) where
  -- no probe file is named
  pub no_script : (script : List ℤ) → named ≡ None → Holds program_form files file after program → script ≡ [] → AreGivenBy files after file named program script
  no_script script is holds empty = subst (λ n. AreGivenBy files after file n program script) (sym is) (holds, empty)

  -- one is named, and was read, or refused
  pub with_script : (probes : List ℕ) (script : List ℤ) → named ≡ Some probes → between.told ≡ files.told → Holds program_form files file between.faults program → Holds probes_form between probes after script
      → AreGivenBy files after file named program script
  with_script probes script is told holds reads =
      subst (λ n. AreGivenBy files after file n program script) (sym is)
      (first program_form files file between.faults program holds, subst (λ f. Holds probes_form f probes after script) (same_files files between told holds.loads.no_fault) reads)

  pub script_refused : (probes : List ℕ) (report : Report) → named ≡ Some probes → between.told ≡ files.told → Holds program_form files file between.faults program → ReadRefused probes_form report between probes after
      → AreRefusedBy files after file named report
  script_refused probes report is told holds refused =
      subst (λ n. AreRefusedBy files after file n report) (sym is)
      (inr (program, first program_form files file between.faults program holds, subst (λ f. ReadRefused probes_form report f probes after) (same_files files between told holds.loads.no_fault) refused))

pub program_refused : (files : Device (List Entry)) (after : ℕ) (file : List ℕ) (named : Option (List ℕ)) (report : Report) → ReadRefused program_form report files file after → AreRefusedBy files after file named report
program_refused files after file None report refused = refused
program_refused files after file (Some probes) report refused = inl refused
