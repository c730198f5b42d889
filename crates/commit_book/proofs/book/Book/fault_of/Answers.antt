use Rattle.std.proofs.Common.{ap, ◌∙◌}
use Rattle.std.specs.FinMap as map
use Rattle.commit_book.specs.Book.{fault_at}
use Rattle.commit_book.proofs.Threads.Telling.{fault_is, fits_of}
use Rattle.commit_book.proofs.book.Book.fault_of.Goals as goal

pub returns-in-Failed-clause-fault : goal.returns-in-Failed-clause-fault
returns-in-Failed-clause-fault c =
    let p = c.self.inside.job.program in
    let o = map.get c.self.inside.parts.slots.threads c.args.t.0 in
    fault_is p o c.in_ok-control.field-0.now _ c.in_ok-control.ensures (c.in-Failed.ensures p c.self.invariant.kept.valid (fits_of p o c.in_ok-control.field-0.now c.in_ok-control.ensures (c.self.invariant.kept.shown.shows.threads.fit c.args.t.0)))
    ∙ ap (λ b. fault_at b c.args.t.0) c.self.view_is

pub returns-in-Going-clause-fault : goal.returns-in-Going-clause-fault
returns-in-Going-clause-fault c =
    let p = c.self.inside.job.program in
    let o = map.get c.self.inside.parts.slots.threads c.args.t.0 in
    fault_is p o c.in_ok-control.field-0.now _ c.in_ok-control.ensures (c.in-Going.ensures p c.self.invariant.kept.valid (fits_of p o c.in_ok-control.field-0.now c.in_ok-control.ensures (c.self.invariant.kept.shown.shows.threads.fit c.args.t.0)))
    ∙ ap (λ b. fault_at b c.args.t.0) c.self.view_is

pub returns-in-Done-clause-fault : goal.returns-in-Done-clause-fault
returns-in-Done-clause-fault c =
    let p = c.self.inside.job.program in
    let o = map.get c.self.inside.parts.slots.threads c.args.t.0 in
    fault_is p o c.in_ok-control.field-0.now _ c.in_ok-control.ensures (c.in-Done.ensures p c.self.invariant.kept.valid (fits_of p o c.in_ok-control.field-0.now c.in_ok-control.ensures (c.self.invariant.kept.shown.shows.threads.fit c.args.t.0)))
    ∙ ap (λ b. fault_at b c.args.t.0) c.self.view_is
