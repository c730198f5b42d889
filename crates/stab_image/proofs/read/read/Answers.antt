use Rattle.std.proofs.Common.{sym}
use Rattle.stab_image.proofs.ReadSteps.{opened, rest_within, short_text, unopened}
use Rattle.stab_image.proofs.read.read.Goals as goal

pub overflow_sub-bytes : goal.overflow_sub-bytes
overflow_sub-bytes c = rest_within c.args.bytes.now c.in-Ok.text.now c.in-Ok.rest.now (sym c.in-Ok.ensures)

pub read_behind-requires-clause-short : goal.read_behind-requires-clause-short
read_behind-requires-clause-short c = short_text c.args.bytes.now c.in-Ok.text.now c.in-Ok.rest.now (sym c.in-Ok.ensures)

pub returns-in-Ok : goal.returns-in-Ok
returns-in-Ok c = opened c.args.bytes.now c.in-Ok.text.now c.in-Ok.rest.now (sym c.in-Ok.ensures) c.read_behind.result c.read_behind.ensures

pub returns-in-Err : goal.returns-in-Err
returns-in-Err c = unopened c.args.bytes.now c.in-Err.fault c.fault_of.result (sym c.in-Err.ensures) c.fault_of.ensures
