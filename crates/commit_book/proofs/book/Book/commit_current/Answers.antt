use Rattle.std.proofs.Common.{◌≡◌, ℕ, ◌+◌, ◌-◌, length, refl, sym, ap, subst, ◌∙◌, arith}
use Rattle.stab_code.specs.Program.{ProgramParts}
use Rattle.step_eval.specs.Progress.{Advances}
use Rattle.commit_book.specs.Book.{BookView}
use Rattle.commit_book.specs.Commits.{IsCommitted}
use Rattle.commit_book.proofs.Acting.Committed.{book_after, book_as_before, committed_on_time, grown, on_time, may_commit, short}
use Rattle.commit_book.proofs.Keeping.SeenAfter.{view_same}
use Rattle.commit_book.proofs.book.Book.commit_current.Goals as goal

pub overflow_add-first : goal.overflow_add-first
overflow_add-first c =
    let time = on_time c.self.inside.job c.self.inside.parts c.args.lease c.args.progress c.args.self.now c.self.view_is c.requires.current c.requires.going c.fuel-fuel.ensures.limits in
    let few = short c.self.inside.job c.self.inside.parts c.args.lease c.args.progress time c.len.ensures.valid in
    let len = c.len.ensures.len in
    omega (arith, few, len)

pub perform-requires : goal.perform-requires
perform-requires c =
    let time = on_time c.self.inside.job c.self.inside.parts c.args.lease c.args.progress c.args.self.now c.self.view_is c.requires.current c.requires.going c.fuel-fuel.ensures.limits in
    let same : c.args.progress.program ≡ c.self.inside.job.program = c.requires.program ∙ ap (λ (b : BookView). b.job.program) (sym c.self.view_is) in
    let made = subst (λ (p : ProgramParts). Advances p c.args.progress.origin c.args.progress.steps c.args.progress.end) same c.end-end.ensures.made in
    let below = c.steps-steps.type_inv in
    let steps = c.steps-steps.ensures in
    record { may = may_commit c.self.inside.job c.self.inside.parts c.args.lease c.args.progress c.self.invariant.kept time.limits made (omega (arith, below, steps)) time.current time.light c.len.ensures.valid }

pub invariant_of-self : goal.invariant_of-self
invariant_of-self c =
    let time = on_time c.self.inside.job c.self.inside.parts c.args.lease c.args.progress c.args.self.now c.self.view_is c.requires.current c.requires.going c.fuel-fuel.ensures.limits in
    book_after c.self.inside.job c.self.inside.parts c.perform.new.self c.args.lease c.args.progress c.in-Ok.outcome c.in-Ok.ensures.done (short c.self.inside.job c.self.inside.parts c.args.lease c.args.progress time c.len.ensures.valid) c.perform.ensures.kept

pub taken-requires-clause-first : goal.taken-requires-clause-first
taken-requires-clause-first c =
    let more = (grown c.self.inside.job c.self.inside.parts c.perform.new.self c.args.lease c.args.progress c.in-Ok.outcome c.in-Ok.ensures.done).0 in
    let len = c.len.ensures.len in
    omega (arith, more, len)

pub taken-requires-clause-few : goal.taken-requires-clause-few
taken-requires-clause-few c =
    let time = on_time c.self.inside.job c.self.inside.parts c.args.lease c.args.progress c.args.self.now c.self.view_is c.requires.current c.requires.going c.fuel-fuel.ensures.limits in
    let few = short c.self.inside.job c.self.inside.parts c.args.lease c.args.progress time c.len.ensures.valid in
    let more = (grown c.self.inside.job c.self.inside.parts c.perform.new.self c.args.lease c.args.progress c.in-Ok.outcome c.in-Ok.ensures.done).1 in
    omega (arith, few, more)

pub invariant_of-self-in-Err : goal.invariant_of-self-in-Err
invariant_of-self-in-Err c = book_as_before c.self.inside.job c.self.inside.parts c.perform.new.self c.in-Err.ensures.err c.perform.ensures.kept c.self.invariant

pub returns-in-Ok-clause-done : goal.returns-in-Ok-clause-done
returns-in-Ok-clause-done c =
    let time = on_time c.self.inside.job c.self.inside.parts c.args.lease c.args.progress c.args.self.now c.self.view_is c.requires.current c.requires.going c.fuel-fuel.ensures.limits in
    subst (λ (b : BookView). IsCommitted b c.taken.new.self c.args.lease c.args.progress c.taken.result) c.self.view_is
    (committed_on_time c.self.inside.job c.self.inside.parts c.perform.new.self c.args.lease c.args.progress c.in-Ok.outcome c.in-Ok.ensures.done c.taken.new.self (record { 0 = c.len.result + 1 })
    (length c.perform.new.self.history.events + 1 - (c.len.result + 1)) c.taken.result time.current time.light (ap (λ (n : ℕ). n + 1) c.len.ensures.len) refl c.taken.ensures.answer c.taken.ensures.new)

pub returns-in-Err-clause-err : goal.returns-in-Err-clause-err
returns-in-Err-clause-err c = view_same c.self.inside.job c.self.inside.parts c.perform.new.self c.in-Err.ensures.err ∙ c.self.view_is

pub returns-in-Err-clause-shown : goal.returns-in-Err-clause-shown
returns-in-Err-clause-shown c = c.perform.ensures.kept.shown
