use Rattle.std.proofs.Common.{◌∙◌}
use Rattle.stab_files.proofs.Moved.{appends_next}
use Rattle.stab_files.proofs.out_sink.write_out.Goals as goal

pub loop-rest-preserved : goal.loop-rest-preserved
loop-rest-preserved g c =
    let (done, split, appended, quiet) = c.loop-rest.invariant in
    let (all, parts, grown) = appends_next _ _ _ c.args.piece.now done c.loop-rest.rest.now c.in-Ok.count split appended c.in-Ok.ensures.bytes in
    (all, parts, grown, c.in-Ok.ensures.counted ∙ quiet)
