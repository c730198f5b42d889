-- A watched run whose file was refused has no book.
use Rattle.std.proofs.Common.{inl, inr, ℕ, List, Option, Some, None}
use Rattle.stab_files.specs.Entry.{Entry}
use Rattle.stab_journal.specs.declared.event.Event.{Event}
use Rattle.sink_lines.specs.Device.{Device}
use Rattle.call_report.specs.declared.report.Report.{Report}
use Rattle.call_report.specs.Reading.{AreRefusedBy, probes_form, program_form}
use Rattle.stab_top.specs.Running.{IfBook}
use Rattle.stab_top.proofs.Headline.{no_read_book}
use Rattle.stab_top.proofs.Wording.{no_events}

pub refused_none : (P : List Event → Type 0) (files : Device (List Entry)) (after : ℕ) (file : List ℕ) (named : Option (List ℕ)) (report : Report) → AreRefusedBy files after file named report → IfBook report.made (λ x. P x.history.events)
refused_none P files after file None report refused = no_events P report.made (no_read_book program_form report files file after refused)
refused_none P files after file (Some probes) report (inl refused) = no_events P report.made (no_read_book program_form report files file after refused)
refused_none P files after file (Some probes) report (inr (program, holds, refused)) = no_events P report.made (no_read_book probes_form report files probes after refused)
