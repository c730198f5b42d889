-- What a report says of a call, and what a call leaves.
use Rattle.std.specs.Prelude.{◌≡◌, ℕ, List, Option, None}
use Rattle.call_report.specs.declared.report.Blame.{Blame}
use Rattle.call_report.specs.declared.report.Made.{Made}
use Rattle.call_report.specs.declared.report.Report.{Report}
use Rattle.sink_lines.specs.Device.{Device, Rests, device}

-- nothing was made, and this is blamed
pub record Blames (report : Report) (cause : Option Blame) : Type 0 where
  pub nothing : report.made ≡ None
  pub blame : report.blame ≡ cause

-- this was made, and nothing is blamed
pub record Leaves (report : Report) (work : Option Made) : Type 0 where
  pub made : report.made ≡ work
  pub no_blame : report.blame ≡ None

-- the outcome of a call: the sink before and after it, and the report
pub record Outcome : Type 0 where
  pub sink : Device (List ℕ)
  pub sink_after : Device (List ℕ)
  pub report : Report

-- the outcome with this report, and with this sink before and after it
abbrev pub outcome_of : {K : Type 0} → (K → Option (List ℕ)) → (K → ℕ) → K → K → Report → Outcome
outcome_of told faults sink after report =
    record { sink = device told faults sink; sink_after = device told faults after; report = report }

-- nothing was made, this is blamed, and nothing was written
abbrev pub Refuses : Outcome → Option Blame → Type 0
Refuses o cause = Blames o.report cause × Rests o.sink o.sink_after
