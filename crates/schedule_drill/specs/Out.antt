-- Leases that are out.
use Rattle.std.specs.Prelude.{◌≡◌, ℕ, List, [], ◌∷◌, IfSome}
use Rattle.std.specs.Ordering.{nat_cmp}
use Rattle.std.specs.FinMap as map
use Rattle.std.specs.FinMap.{FinMap}
use Rattle.stab_code.specs.JobParts.{JobParts}
use Rattle.stab_code.specs.Program.{ProgramParts}
use Rattle.step_eval.specs.ControlView.{Fits}
use Rattle.step_eval.specs.Progress.{ProgressView}
use Rattle.commit_book.specs.Book.{BookView}
use Rattle.commit_book.specs.Turns.{given_back}
use Rattle.lone_worker.specs.Turn.{IsAdvanced}
use Rattle.schedule_drill.specs.declared.held.At.{At}
use Rattle.schedule_drill.specs.declared.held.At.TheVariants.{Lent, Stepped}
use Rattle.schedule_drill.specs.declared.held.Held.{Held}

-- the leases that are out, by their numbers
abbrev pub Out : Type 0
Out = FinMap nat_cmp Held

-- where a lease's thread is when it is committed: it makes its pure steps once
abbrev pub IsStepped : JobParts → At → ProgressView → Type 0
IsStepped job (Lent control) progress = IsAdvanced job control progress
IsStepped job (Stepped made) progress = progress ≡ made

-- how many steps that is now: a second time none
abbrev pub steps_now : At → ProgressView → ℕ
steps_now (Lent control) progress = progress.steps
steps_now (Stepped made) progress = 0

-- the thread can step and be committed under the program
abbrev pub IsUnder : ProgramParts → At → Type 0
IsUnder p (Lent control) = Fits p control
IsUnder p (Stepped progress) = progress.program ≡ p

abbrev pub AreUnder : ProgramParts → Out → Type 0
AreUnder p out = (k : ℕ) → IfSome (map.get out k) (λ held. IsUnder p held.at)

-- leases given back, one after the other
abbrev pub all_given_back : BookView → List Held → BookView
all_given_back b [] = b
all_given_back b (held ∷ more) = all_given_back (given_back b held.lease) more
