use Rattle.std.proofs.Common.{ap, ◌∙◌, subst, sym}
use Rattle.turn_floor.specs.Served.{AreOf}
use Rattle.worker_rounds.proofs.Sharing.{none_seen_yet}
use Rattle.worker_rounds.proofs.shared.run_named.Goals as goal

pub new-requires-clause-named : goal.new-requires-clause-named
new-requires-clause-named g c = subst (AreOf c.args.workers) (sym c.requires.empty) tt

pub run_floor-requires-clause-new : goal.run_floor-requires-clause-new
run_floor-requires-clause-new g c κs within =
    none_seen_yet _ _ c.in-Ok-new.passes.items c.in-Ok-new.ensures.passes (ap (λ s. s.events) c.in-Ok-new.ensures.start ∙ c.requires.empty)
