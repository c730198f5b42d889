use Rattle.ref_log.proofs.SoundLemmas.{order_always, order_fresh}
use Rattle.ref_log.proofs.law.sound_law.Goals as goal

pub returns : goal.returns
returns c = λ calls fresh log empty leads. order_always calls fresh log leads (order_fresh fresh empty)
