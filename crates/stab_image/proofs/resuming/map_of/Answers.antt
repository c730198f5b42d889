use Rattle.std.proofs.Common.{◌∙◌, arith}
use Rattle.stab_image.proofs.Bare.{insert_more}
use Rattle.stab_image.proofs.resuming.map_of.Goals as goal

pub loop-pair-preserved : goal.loop-pair-preserved
loop-pair-preserved c = c.in_ok-insert.ensures.entries ∙ insert_more c.args.pairs.now c.loop-pair.map.entries c.loop-pair.pair-index c.requires c.loop-pair.invariant (omega arith)
