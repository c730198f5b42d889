use Rattle.stab_image.proofs.ReadSteps.{answer_fault, answer_image, answer_whole}
use Rattle.stab_image.proofs.read.read_image.Goals as goal

pub returns-clause-image : goal.returns-clause-image
returns-clause-image c = answer_image c.args.bytes.now c.read.result c.read.ensures

pub returns-clause-whole : goal.returns-clause-whole
returns-clause-whole c = λ i text. answer_whole c.args.bytes.now i c.read.result text c.read.ensures

pub returns-clause-fault : goal.returns-clause-fault
returns-clause-fault c = answer_fault c.args.bytes.now c.read.result c.read.ensures
