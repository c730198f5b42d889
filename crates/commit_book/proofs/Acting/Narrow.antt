-- An act's step has a number of 32 bits.
use Rattle.std.proofs.Common.{◌≡◌, ℕ, suc, ◌+◌, ◌<◌, ◌≤◌, Bool, true, false, cond, List, [], ◌∷◌, length, length-append, nat_eq, refl, ap, ◌∙◌, arith}
use Rattle.stab_code.specs.JobParts.{JobParts}
use Rattle.stab_journal.specs.Journal.{Journal}
use Rattle.stab_journal.specs.declared.event.Label.{Label}
use Rattle.stab_journal.specs.declared.event.Label.TheVariants.{Local}
use Rattle.step_eval.specs.Progress.{ProgressView}
use Rattle.commit_book.specs.declared.parts.Parts.{Parts}
use Rattle.commit_book.specs.Acting.{AreAsBefore, IsLonger, MayAct}
use Rattle.commit_book.specs.Leases.{LeaseView}
use Rattle.commit_book.specs.Rows.{events_by, local_of, thread}
use Rattle.commit_book.proofs.Acting.SingleActs.{few_at}

-- the pure steps are one step at most
local_short : (worker t n : ℕ) → length (events_by worker (local_of t n)) ≤ 1
local_short worker t n = by (nat_eq n 0)
  where
    by : (b : Bool) → length (events_by worker (cond b [] (Local (thread t) n ∷ []))) ≤ 1
    by true = omega arith
    by false = omega arith

module _ (job : JobParts) (old : Parts) (lease : LeaseView) (progress : ProgressView) (may : MayAct job old lease progress) (planned begins : Parts) (before : AreAsBefore old planned) (longer : IsLonger planned.history begins.history lease.worker (local_of lease.thread progress.steps)) where
  pub narrow : (q : ℕ) → q ≡ length begins.history.events + 1 → q < 4294967296
  narrow q is =
      let long : length begins.history.events ≡ length planned.history.events + length (events_by lease.worker (local_of lease.thread progress.steps)) =
      ap length longer.events ∙ length-append planned.history.events (events_by lease.worker (local_of lease.thread progress.steps)) in
      let same : length planned.history.events ≡ length old.history.events = ap (λ (j : Journal). length j.events) before.history in
      omega (arith, is, long, same, local_short lease.worker lease.thread progress.steps, few_at job old lease progress may)
