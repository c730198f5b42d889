use Rattle.image_commands.proofs.Judged.{of_yes}
use Rattle.image_commands.proofs.saving.save.Goals as goal

pub saved_at-requires-clause-of_run : goal.saved_at-requires-clause-of_run
saved_at-requires-clause-of_run c = of_yes _ _ c.args.history.now c.in_ok-verdict.verdict c.in-Yes.is c.in_ok-verdict.ensures
