use Rattle.std.proofs.Common.{◌∙◌, sym}
use Rattle.stab_watch.proofs.Tallying.{counts_more}
use Rattle.stab_watch.proofs.reading.counted.Goals as goal

pub loop-i-preserved : goal.loop-i-preserved
loop-i-preserved c =
    counts_more c.args.history.now.events c.loop-i.i c.loop-i.undos c.loop-i.cuts c.once-undos.result c.once-cuts.result c.is_undo.result c.is_cut.result c.unwrap-event.result
    (sym c.get.ensures.event ∙ c.unwrap-event.ensures) c.is_undo.ensures c.is_cut.ensures c.once-undos.ensures c.once-cuts.ensures c.loop-i.invariant
