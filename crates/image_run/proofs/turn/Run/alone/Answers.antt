use Rattle.std.proofs.Common.{sym, ap, ◌∙◌}
use Rattle.std.proofs.lemmas.Bool.{false≢true}
use Rattle.ready_steps.specs.Ready.{rests_at}
use Rattle.image_run.proofs.turn.Run.alone.Goals as goal

pub unreachable-requires : goal.unreachable-requires
unreachable-requires c = false≢true (sym c.requires.ready ∙ ap rests_at (sym c.in-None.ensures))
