use Rattle.std.proofs.Common.{◌<◌, length, sym, ◌∙◌, arith}
use Rattle.checkpoint_store.proofs.Order.{under_more, over_more}
use Rattle.checkpoint_store.proofs.entries.count_below.Goals as goal

pub loop-low-preserved-then-is_below : goal.loop-low-preserved-then-is_below
loop-low-preserved-then-is_below g c =
    let es = c.args.entries.now.items in
    let inside : c.probe-at.result < length es = omega (arith, c.probe-at.ensures.1, c.loop-low.invariant.within) in
    record {
      order = omega (arith, c.probe-at.ensures.1);
      within = c.loop-low.invariant.within;
      under = under_more es c.args.place c.probe-at.result c.index.result.now c.requires inside c.index.ensures (sym c.is_below.ensures ∙ c.if-is_below.true);
      over = c.loop-low.invariant.over;
    }

pub loop-low-preserved : goal.loop-low-preserved
loop-low-preserved g c =
    let es = c.args.entries.now.items in
    let inside : c.probe-at.result < length es = omega (arith, c.probe-at.ensures.1, c.loop-low.invariant.within) in
    record {
      order = c.probe-at.ensures.0;
      within = omega (arith, inside);
      under = c.loop-low.invariant.under;
      over = over_more es c.args.place c.probe-at.result c.index.result.now c.requires inside c.index.ensures (sym c.is_below.ensures ∙ c.if-is_below.false);
    }
