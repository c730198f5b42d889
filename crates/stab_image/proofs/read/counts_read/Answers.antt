use Rattle.image_lines.specs.Counts.{counts_in, counts_of}
use Rattle.stab_image.proofs.ReadSteps.{counts_place, counts_right, given}
use Rattle.stab_image.proofs.read.counts_read.Goals as goal

pub state_read-requires-clause-counts : goal.state_read-requires-clause-counts
state_read-requires-clause-counts c =
    let at = c.args.at in
    let rest = c.args.rest.now in
    counts_right at rest (counts_of c.in-Ok.counts) (given counts_of c.in_ok-counts.field-0 (counts_in at rest) c.in_ok-counts.ensures c.in-Ok.counts c.in-Ok.is)

pub state_read-requires-clause-place : goal.state_read-requires-clause-place
state_read-requires-clause-place c =
    let at = c.args.at in
    let rest = c.args.rest.now in
    counts_place at rest (counts_of c.in-Ok.counts) (given counts_of c.in_ok-counts.field-0 (counts_in at rest) c.in_ok-counts.ensures c.in-Ok.counts c.in-Ok.is) c.requires.place
