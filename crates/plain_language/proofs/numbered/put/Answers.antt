use Rattle.language.proofs.Maps.{entered_map}
use Rattle.plain_language.proofs.numbered.put.Goals as goal

pub returns : goal.returns
returns g c = entered_map _ _ _ _ (λ q. c.in_ok-insert.ensures.updates.0 q)
