use Rattle.image_text.specs.ImageText.{reference_line}
use Rattle.image_text.proofs.Going.{at_first, at_last, one_more}
use Rattle.image_text.proofs.writing.put_references.Goals as goal

pub loop-r-init : goal.loop-r-init
loop-r-init c = at_first reference_line c.args.state.now.state.references c.args.out.now.items c.requires

pub loop-r-preserved : goal.loop-r-preserved
loop-r-preserved c =
    one_more reference_line c.args.state.now.state.references c.loop-r.last c.in-Some.r.0 c.in-Some.v.now c.args.out.now.items c.loop-r.out.items c.put_reference.new.out.items
    c.loop-r.invariant c.in-Some.ensures.least c.in-Some.ensures.holds c.in_ok-put_reference.ensures

pub returns : goal.returns
returns c = at_last reference_line c.args.state.now.state.references c.loop-r.last c.args.out.now.items c.loop-r.out.items c.loop-r.invariant c.in_default.ensures.least
