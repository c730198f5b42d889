use Rattle.image_lines.proofs.BodyLaws.{body_back, body_was}
use Rattle.image_lines.proofs.laws.bodies_read_back.Goals as goal

pub returns-clause-written : goal.returns-clause-written
returns-clause-written c = body_back

pub returns-clause-exact : goal.returns-clause-exact
returns-clause-exact c = body_was
