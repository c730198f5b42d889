use Rattle.std.proofs.Common.{refl}
use Rattle.commit_book.specs.declared.rollback.Rollback.{Rollback}
use Rattle.commit_book.proofs.Undoing.GatheredLines.{gathered_all}
use Rattle.commit_book.proofs.rollback.Rollback.gather.Goals as goal

pub returns : goal.returns
returns c =
    let new : Rollback = record c.args.self.now { own = c.take_lost.new.own; lost = c.take_lost.new.lost } in
    record { gathered = gathered_all c.args.self.now new c.take_lost.ensures (refl, refl, refl) }
