use Rattle.std.proofs.Common.{refl, sym, subst, ◌∙◌}
use Rattle.std.specs.Prelude.{◌↔◌, IsTrue}
use Rattle.std.proofs.lemmas.Bool.{false≢true}
use Rattle.std.proofs.lemmas.Result.{on_err_weaker}
use Rattle.commit_book.specs.declared.done.Done.{Done}
use Rattle.commit_book.specs.Book.{BookView}
use Rattle.commit_book.specs.Commits.{IsCommitted, IsCurrent}
use Rattle.commit_book.proofs.Acting.Committed.{committed_late, current_by, late_by}
use Rattle.commit_book.proofs.book.Book.commit.Goals as goal

pub returns-then-not-is_current-clause-done : goal.returns-then-not-is_current-clause-done
returns-then-not-is_current-clause-done c =
    let tests : IsTrue c.is_current.result ↔ IsCurrent c.args.self.now.threads c.args.lease c.origin.result.now =
    subst (λ (b : BookView). IsTrue c.is_current.result ↔ IsCurrent b.threads c.args.lease c.origin.result.now) c.self.view_is c.is_current.ensures in
    committed_late c.args.self.now c.stale.new.self c.args.lease c.args.progress c.stale.result
    (late_by c.is_current.result c.args.self.now.threads c.args.lease c.origin.result.now c.args.progress.origin tests c.origin.ensures c.if-not-is_current.true) c.stale.ensures.late

pub returns-then-is_over-clause-done : goal.returns-then-is_over-clause-done
returns-then-is_over-clause-done c =
    let tests : IsTrue c.is_current.result ↔ IsCurrent c.args.self.now.threads c.args.lease c.origin.result.now =
    subst (λ (b : BookView). IsTrue c.is_current.result ↔ IsCurrent b.threads c.args.lease c.origin.result.now) c.self.view_is c.is_current.ensures in
    let current = current_by c.is_current.result c.args.self.now.threads c.args.lease c.origin.result.now c.args.progress.origin tests c.origin.ensures c.if-not-is_current.false in
    subst (λ (d : Done). IsCommitted c.args.self.now c.over.new.self c.args.lease c.args.progress d) (sym c.over.ensures.weight) (current, c.is_over.ensures.over.0 c.if-is_over.true, refl, c.over.ensures.given)

pub commit_current-requires-clause-current : goal.commit_current-requires-clause-current
commit_current-requires-clause-current c =
    let tests : IsTrue c.is_current.result ↔ IsCurrent c.args.self.now.threads c.args.lease c.origin.result.now =
    subst (λ (b : BookView). IsTrue c.is_current.result ↔ IsCurrent b.threads c.args.lease c.origin.result.now) c.self.view_is c.is_current.ensures in
    current_by c.is_current.result c.args.self.now.threads c.args.lease c.origin.result.now c.args.progress.origin tests c.origin.ensures c.if-not-is_current.false

pub commit_current-requires-clause-going : goal.commit_current-requires-clause-going
commit_current-requires-clause-going c = λ heavy. false≢true (sym c.if-is_over.false ∙ c.is_over.ensures.over.1 heavy)

pub returns-clause-memory : goal.returns-clause-memory
returns-clause-memory c =
    let tests : IsTrue c.is_current.result ↔ IsCurrent c.args.self.now.threads c.args.lease c.origin.result.now =
    subst (λ (b : BookView). IsTrue c.is_current.result ↔ IsCurrent b.threads c.args.lease c.origin.result.now) c.self.view_is c.is_current.ensures in
    let current = current_by c.is_current.result c.args.self.now.threads c.args.lease c.origin.result.now c.args.progress.origin tests c.origin.ensures c.if-not-is_current.false in
    on_err_weaker c.commit_current.result (λ _. (current, λ heavy. false≢true (sym c.if-is_over.false ∙ c.is_over.ensures.over.1 heavy))) c.commit_current.ensures.err
