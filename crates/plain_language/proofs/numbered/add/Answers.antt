use Rattle.language.proofs.Maps.{added_set}
use Rattle.plain_language.proofs.numbered.add.Goals as goal

pub returns : goal.returns
returns c = added_set _ _ _ (λ q. c.in_ok-insert.ensures.updates.0 q)
