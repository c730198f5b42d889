use Rattle.std.proofs.Common.{◌∙◌, ap}
use Rattle.language.specs.Redex.{cap, rebuild}
use Rattle.plain_language.proofs.expr.Expr.entered.Goals as goal

pub returns : goal.returns
returns c =
    c.capped.ensures
    ∙ ap cap (c.rebuilt-2.ensures ∙ ap (λ e. rebuild e c.in_ok-section.field-0) c.in_ok-copy.ensures ∙ ap (rebuild c.args.self.now) c.in_ok-section.ensures)
