use Rattle.stab_image.proofs.ReadSteps.{of_program}
use Rattle.stab_image.proofs.read.read_behind.Goals as goal

pub returns-in_ok-counts_read-in-Ok : goal.returns-in_ok-counts_read-in-Ok
returns-in_ok-counts_read-in-Ok c =
    of_program c.args.text.now c.args.at c.args.rest.now c.in-Ok.program c.in_ok-counts_read-in-Ok.field-0 c.in-Ok.ensures.program c.in_ok-counts_read-in-Ok.ensures
