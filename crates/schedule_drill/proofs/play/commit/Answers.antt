use Rattle.std.proofs.Common.{◌≡◌, sym, ap, subst₂, ◌∙◌}
use Rattle.stab_code.specs.JobParts.{JobParts}
use Rattle.commit_book.specs.Book.{BookView}
use Rattle.schedule_drill.specs.Out.{AreUnder}
use Rattle.schedule_drill.proofs.Jobs.{committed_job}
use Rattle.schedule_drill.proofs.Under.{on_any, one_less}
use Rattle.schedule_drill.proofs.play.commit.Goals as goal

pub returns-in-Ok-clause-under : goal.returns-in-Ok-clause-under
returns-in-Ok-clause-under c =
    let job : c.commit.new.self.job ≡ c.args.book.now.job =
    committed_job c.stepped.new.book c.commit.new.self c.in_ok-_steps.lease c.in_ok-_steps.progress c.in-Ok.done c.in-Ok.ensures.done
    ∙ ap (λ (b : BookView). b.job) c.in_ok-_steps.ensures.book
    in
    on_any c.commit_line.result (AreUnder c.commit.new.self.job.program c.take.new.self)
    (subst₂ AreUnder (sym (ap (λ (j : JobParts). j.program) job)) (sym c.take.ensures.left) (one_less c.args.book.now.job.program c.args.leases.now c.args.k c.requires.under))
