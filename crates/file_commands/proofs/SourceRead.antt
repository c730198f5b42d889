-- A program that is read with its text.
use Rattle.std.proofs.Common.{ℕ, List, ◌≤◌, inl, inr, arith}
use Rattle.stab_journal.specs.Journal.{Journal}
use Rattle.stab_files.specs.Entry.{Entry}
use Rattle.sink_lines.specs.Device.{Device}
use Rattle.stab_image.specs.Limits.{max_number}
use Rattle.image_commands.proofs.ShortTraces.{journal_few}
use Rattle.std.specs.Prelude.{length}
use Rattle.call_report.specs.declared.report.Report.{Report}
use Rattle.call_report.specs.Reading.{BytesRefused, Holds, program_form, trace_form}
use Rattle.file_commands.specs.Saving.{source_form}

-- bytes that are refused as a program are refused as one with its text
pub as_source : (report : Report) (bytes : List ℕ) → BytesRefused program_form report bytes → BytesRefused source_form report bytes
as_source report bytes (inl h) = inl (record { status = h.status; fault = h.fault; has = h.has; blames = h.blames })
as_source report bytes (inr none) = inr none

-- a history that was read in a file has fewer events than an image may have
pub few_events : (files : Device (List Entry)) (name : List ℕ) (faults : ℕ) (j : Journal) → Holds trace_form files name faults j → length j.events ≤ max_number
few_events files name faults j h = omega (arith, journal_few h.bytes j h.is, h.loads.within)
