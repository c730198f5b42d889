use Rattle.std.proofs.Common.{◌∙◌, ap, sym}
use Rattle.language.specs.Busy.{busy_at}
use Rattle.language.proofs.Finding.{position_busy}
use Rattle.plain_language.proofs.redex.busy_part.Goals as goal

pub returns-else-first_counts_alone : goal.returns-else-first_counts_alone
returns-else-first_counts_alone c =
    c.first_busy.ensures ∙ position_busy c.args.parts.now ∙ ap (λ b. busy_at b c.args.parts.now) (sym c.if-first_counts_alone.false ∙ c.first_counts_alone.ensures)
