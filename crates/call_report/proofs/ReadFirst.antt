-- A file that is read before others.
use Rattle.std.proofs.Common.{◌≡◌, inr, ℕ, ℤ, List, Option, Some, refl, ap, sym, subst, ◌∙◌}
use Rattle.stab_files.specs.Entry.{Entry}
use Rattle.call_report.specs.Input.{no_input}
use Rattle.call_report.specs.Call.{Call, NextSays, ScriptSays}
use Rattle.sink_lines.specs.Device.{Device}
use Rattle.call_report.specs.Report.{Outcome}
use Rattle.call_report.specs.Reading.{Form, Holds, probes_form}

-- no fault was counted up to here
pub first : {Content Fault : Type 0} (form : Form Content Fault) (files : Device (List Entry)) (name : List ℕ) (faults : ℕ) (content : Content) → Holds form files name faults content → Holds form files name files.faults content
first form files name faults content h =
    record { bytes = h.bytes; loads = record { held = h.loads.held; within = h.loads.within; no_fault = refl }; is = h.is }

-- files that say the same and have the same fault count are the same
pub same_files : (files other : Device (List Entry)) → other.told ≡ files.told → other.faults ≡ files.faults → other ≡ files
same_files files other told faults =
    ap (λ t. record { told = t; faults = other.faults }) told ∙ ap (λ n. record { told = files.told; faults = n }) faults

-- the call that finds these files
abbrev pub finding : Outcome → ℕ → Device (List Entry) → Call
finding outcome after files = record { files = files; files_after = after; input = no_input; input_after = no_input; outcome = outcome }

-- the script was read, and then this is said of what was done with it
pub script_read : (outcome : Outcome) (after : ℕ) (files between : Device (List Entry)) (named : Option (List ℕ)) (file : List ℕ) (Said : Call → List ℤ → Type 0) (script : List ℤ) → named ≡ Some file →
    between.told ≡ files.told → Holds probes_form files file between.faults script → Said (finding outcome after between) script →
    ScriptSays (finding outcome after files) named (Said (finding outcome after files))
script_read outcome after files between named file Said script is told holds says =
    let same : between ≡ files = same_files files between told holds.loads.no_fault in
    subst (λ p. ScriptSays (finding outcome after files) p (Said (finding outcome after files))) (sym is)
    (inr (script, first probes_form files file between.faults script holds, subst (λ f. Said (finding outcome after f) script) same says))

-- a file was read, and then this is said of what was done with its content
pub next_read : {Content Fault : Type 0} (form : Form Content Fault) (outcome : Outcome) (after : ℕ) (files between : Device (List Entry)) (file : List ℕ) (Said : Call → Content → Type 0) (content : Content) →
    between.told ≡ files.told → Holds form files file between.faults content → Said (finding outcome after between) content →
    NextSays form (finding outcome after files) file (Said (finding outcome after files))
next_read form outcome after files between file Said content told holds says =
    let same : between ≡ files = same_files files between told holds.loads.no_fault in
    inr (content, first form files file between.faults content holds, subst (λ f. Said (finding outcome after f) content) same says)
