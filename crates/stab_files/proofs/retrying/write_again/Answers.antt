use Rattle.std.proofs.KnownBytes.{Keeps-trans}
use Rattle.stab_files.proofs.Moved.{wrote_nothing}
use Rattle.stab_files.proofs.retrying.write_again.Goals as goal

pub returns-in-Ok-eq0-clause-err : goal.returns-in-Ok-eq0-clause-err
returns-in-Ok-eq0-clause-err g c =
    let last = wrote_nothing _ _ c.write.result c.args.piece.now _ c.write.ensures.bytes c.in-Ok-eq0.is c.in-Ok-eq0.field-0-test in
    Keeps-trans _ _ _ c.loop.invariant last
