-- The numbers that probes get: who asks for one, and whether the script has it.
use Rattle.std.specs.Prelude.{Bool, true, false, List, ℤ, length, ◌≤◌}
use Rattle.stab_code.specs.JobParts.{longer}
use Rattle.stab_journal.specs.Script.{probed}
use Rattle.language.specs.Plain.{look_in}
use Rattle.language.specs.Table.{Look, act, probes}
use Rattle.step_eval.specs.ControlView.{expr_of}
use Rattle.step_eval.specs.Progress.{ProgressView}
use Rattle.commit_book.specs.Book.{BookView}

-- whether an expression that looks so stands at a probe
abbrev pub is_probe : {E : Type 0} → Look E → Bool
is_probe (act probes) = true
is_probe _ = false

-- whether the act that comes after the pure steps of a progress is a probe
abbrev pub asks_probe : ProgressView → Bool
asks_probe progress = is_probe (look_in progress.program (expr_of progress.program progress.end))

-- no probe has come past the script's end
abbrev pub IsWithinScript : BookView → Type 0
IsWithinScript b = length (probed b.history.events) ≤ length b.job.script

-- the book with these numbers behind its script
abbrev pub fed : BookView → List ℤ → BookView
fed b numbers = record b { job = longer b.job numbers }
