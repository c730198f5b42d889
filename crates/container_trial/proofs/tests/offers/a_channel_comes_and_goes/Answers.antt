use Rattle.std.proofs.Common.{ap, ◌∙◌}
use Rattle.std.specs.Ordering.{nat_cmp}
use Rattle.std.specs.FinMap.{get, get-empty}
use Rattle.rendezvous.proofs.CallerLemmas.{made_line}
use Rattle.container_trial.proofs.tests.offers.a_channel_comes_and_goes.Goals as goal

pub make-requires : goal.make-requires
make-requires g c = ap (λ m. get m 7) c.new-offers.ensures.lines ∙ get-empty nat_cmp 7

pub unmake-requires : goal.unmake-requires
unmake-requires g c = made_line c.new-offers.result.lines c.make.new.self.lines 7 c.in_ok-make.ensures.ok
