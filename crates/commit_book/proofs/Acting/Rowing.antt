-- Which row an act is in.
use Rattle.std.proofs.Common.{◌≡◌, ℕ, true, List, refl, ap, ◌∙◌}
use Rattle.std.proofs.lemmas.Bool.{false≢true}
use Rattle.stab_base.specs.Datum.{Datum}
use Rattle.stab_code.specs.Program.{ProgramParts}
use Rattle.stab_journal.specs.Journal.{survivors}
use Rattle.language.specs.Expression.{Expr}
use Rattle.language.specs.Plain.{look_in}
use Rattle.language.specs.Program.{body}
use Rattle.language.specs.Redex.{mark}
use Rattle.language.specs.Table.{Look, act}
use Rattle.step_eval.specs.declared.act.Act.{Act}
use Rattle.step_eval.specs.declared.act.Act.TheVariants as own
use Rattle.step_eval.specs.Acts.{act_with}
use Rattle.step_eval.specs.Asked.{operands_of}
use Rattle.step_eval.specs.ControlView.{ControlView, expr_of}
use Rattle.step_eval.specs.Progress.{ProgressView}
use Rattle.commit_book.specs.Acting.{StandsAt, is_simple, offer_of, row_by}
use Rattle.commit_book.specs.Book.{BookView, offered}
use Rattle.commit_book.specs.Commits.{row_at}
use Rattle.commit_book.specs.Doing.{offer_at}
use Rattle.commit_book.specs.Leases.{LeaseView}
use Rattle.commit_book.specs.Rows.{row_of, section_row}

-- an act after which the thread always goes on
simple_row : (b : BookView) (t : ℕ) (e : Expr) (fs : ℕ → Expr) (vs : List Datum) (a : Act) → is_simple a ≡ true → row_of b t e (act (act_with fs vs a)) ≡ row_by b t a
simple_row b t e fs vs (own.Spawn f) h = refl
simple_row b t e fs vs own.NewChan h = refl
simple_row b t e fs vs own.NewRef h = refl
simple_row b t e fs vs (own.Get r) h = refl
simple_row b t e fs vs (own.Set r) h = refl
simple_row b t e fs vs (own.Send c) h = absurd (false≢true h)
simple_row b t e fs vs (own.Recv c) h = absurd (false≢true h)
simple_row b t e fs vs (own.Pick c d) h = absurd (false≢true h)
simple_row b t e fs vs (own.Enter f) h = refl
simple_row b t e fs vs own.Stabilize h = absurd (false≢true h)
simple_row b t e fs vs own.Cut h = refl
simple_row b t e fs vs own.Pin h = refl
simple_row b t e fs vs own.Print h = refl
simple_row b t e fs vs own.Probe h = refl
simple_row b t e fs vs own.Attempt h = refl

own_offer : (fs : ℕ → Expr) (vs : List Datum) (a : Act) → offer_at (act (act_with fs vs a)) ≡ offer_of a
own_offer fs vs (own.Spawn f) = refl
own_offer fs vs own.NewChan = refl
own_offer fs vs own.NewRef = refl
own_offer fs vs (own.Get r) = refl
own_offer fs vs (own.Set r) = refl
own_offer fs vs (own.Send c) = refl
own_offer fs vs (own.Recv c) = refl
own_offer fs vs (own.Pick c d) = refl
own_offer fs vs (own.Enter f) = refl
own_offer fs vs own.Stabilize = refl
own_offer fs vs own.Cut = refl
own_offer fs vs own.Pin = refl
own_offer fs vs own.Print = refl
own_offer fs vs own.Probe = refl
own_offer fs vs own.Attempt = refl

module _ (b : BookView) (lease : LeaseView) (progress : ProgressView) where
  row_under : (k : Look Expr) → look_in b.job.program (expr_of b.job.program progress.end) ≡ k → row_at b lease progress ≡ row_of b lease.thread (expr_of b.job.program progress.end) k
  row_under k is = ap (row_of b lease.thread (expr_of b.job.program progress.end)) is

  pub row_simple : (a : Act) → StandsAt b.job.program progress.end a → is_simple a ≡ true → row_at b lease progress ≡ row_by b lease.thread a
  row_simple a at simple =
      row_under (act (act_with (body b.job.program) (operands_of progress.end) a)) at.look
      ∙ simple_row b lease.thread (expr_of b.job.program progress.end) (body b.job.program) (operands_of progress.end) a simple

  pub row_stabilize : StandsAt b.job.program progress.end own.Stabilize → row_at b lease progress ≡ section_row (survivors b.history) lease.thread (mark (expr_of b.job.program progress.end))
  row_stabilize at = row_under (act (act_with (body b.job.program) (operands_of progress.end) own.Stabilize)) at.look

-- with what a thread waits that stands at an act
pub offers_by : (p : ProgramParts) (c : ControlView) (a : Act) → StandsAt p c a → offered p c ≡ offer_of a
offers_by p c a at = ap offer_at at.look ∙ own_offer (body p) (operands_of c) a
