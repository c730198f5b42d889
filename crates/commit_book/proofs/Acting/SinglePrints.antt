-- The step of a print, from what its calls leave.
use Rattle.std.proofs.Common.{◌≡◌, ℕ, ◌+◌, ◌≤◌, [], ◌∷◌, length, Some, refl, ap, ◌∙◌, arith}
use Rattle.stab_base.specs.Datum.{unit}
use Rattle.stab_code.specs.JobParts.{JobParts}
use Rattle.stab_journal.specs.declared.event.Label.TheVariants.{Print}
use Rattle.language.specs.Look.{answered}
use Rattle.step_eval.specs.declared.act.Act.TheVariants as own
use Rattle.step_eval.specs.Acts.{first_of}
use Rattle.step_eval.specs.Asked.{operands_of}
use Rattle.step_eval.specs.ControlView.{expr_of}
use Rattle.step_eval.specs.Progress.{ProgressView}
use Rattle.commit_book.specs.declared.parts.Parts.{Parts}
use Rattle.commit_book.specs.Acting.{AreAsBefore, IsLonger, MayAct, StandsAt}
use Rattle.commit_book.specs.Layout.{view_of}
use Rattle.commit_book.specs.Leases.{LeaseView}
use Rattle.commit_book.specs.Rows.{local_of, thread}
use Rattle.commit_book.specs.Step.{next_seq}
use Rattle.commit_book.proofs.Acting.Effects.{print_effect}
use Rattle.commit_book.proofs.Keeping.JournalSteps.{journal_step}
use Rattle.commit_book.proofs.Keeping.KeptLocal.{IsReady}
use Rattle.commit_book.proofs.Keeping.KeptSteps.{plain_step, print_plain, script_now}
use Rattle.commit_book.proofs.Keeping.Prints.{IsPutBehind, printing, values_more}
use Rattle.commit_book.proofs.Keeping.SeenAfter.{pushed_of}
use Rattle.commit_book.proofs.Acting.SingleActs.{IsStepped, ready_at}
use Rattle.commit_book.proofs.Acting.SingleLabels.{none_more, low_now}

-- a print has an operand
pub one_long : (n : ℕ) → Some 1 ≡ Some n → 1 ≤ n
one_long n is = let same : 1 ≡ n = cc in omega arith

module _ (job : JobParts) (old : Parts) (lease : LeaseView) (progress : ProgressView) (may : MayAct job old lease progress) (planned begins : Parts) (before : AreAsBefore old planned) (longer : IsLonger planned.history begins.history lease.worker (local_of lease.thread progress.steps)) (rest : begins ≡ record planned { history = begins.history }) where
  abbrev ready : IsReady (view_of job old) (view_of job begins) may.kept.shown.state (thread lease.thread) (expr_of job.program progress.end)
  ready = ready_at job old lease progress may planned begins before longer rest

  pub printed_at : (done : Parts) → StandsAt job.program progress.end own.Print
      → IsLonger begins.history done.history lease.worker (Print (thread lease.thread) ∷ [])
      → IsPutBehind begins.printed done.printed (length begins.history.events + 1) (first_of (operands_of progress.end))
      → done ≡ record begins { history = done.history; printed = done.printed }
      → IsStepped job old lease progress may planned begins before longer rest done (Print (thread lease.thread)) (record { mine = answered (expr_of job.program progress.end) unit; other = expr_of job.program progress.end; value = unit; printed = first_of (operands_of progress.end) ∷ [] })
  printed_at done at history printed is =
      let l = Print (thread lease.thread) in
      let pushed = pushed_of job begins done lease.worker l history in
      record {
        one = refl;
        uncut = refl;
        history = history;
        journal = journal_step (view_of job begins) (view_of job done) ready.run ready.state lease.worker l (record { mine = answered (expr_of job.program progress.end) unit; other = expr_of job.program progress.end; value = unit; printed = first_of (operands_of progress.end) ∷ [] }) ready.journal
            (tt)
            (print_effect job.program ready.state (next_seq (view_of job begins)) (thread lease.thread) (expr_of job.program progress.end) ready.stands (first_of (operands_of progress.end)) at.look)
            refl refl
            (plain_step (view_of job begins) (view_of job done) ready.run ready.state lease.worker ready.journal l (record { mine = answered (expr_of job.program progress.end) unit; other = expr_of job.program progress.end; value = unit; printed = first_of (operands_of progress.end) ∷ [] }) (print_plain (thread lease.thread)) pushed
            (record { threads = (low_now job old lease progress may planned begins before longer rest, tt); chans = tt; refs = tt })
            (script_now (view_of job begins) (view_of job done) ready.run ready.state lease.worker ready.journal l pushed refl)
            (values_more begins.printed done.printed (length begins.history.events + 1) (first_of (operands_of progress.end)) printed)
            (ap (view_of job) is));
        slots = ap (λ k. k.slots) is;
        rollback = ap (λ k. k.rollback) is;
        prints = printing begins.printed done.printed (length begins.history.events + 1) (first_of (operands_of progress.end)) l refl printed;
        probes = ap (λ k. k.tallies) is ∙ none_more begins.tallies;
      }
