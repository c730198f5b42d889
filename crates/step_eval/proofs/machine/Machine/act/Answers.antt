-- An act has as many operands as its form has parts.
use Rattle.std.proofs.Common.{sym, ◌∙◌}
use Rattle.step_eval.specs.View.{here_of}
use Rattle.step_eval.proofs.Turning.{act-operands}
use Rattle.step_eval.proofs.machine.Machine.act.Goals as goal

pub returns-in-Form-clause-operands : goal.returns-in-Form-clause-operands
returns-in-Form-clause-operands c =
    let p = c.args.p.now in
    act-operands p c.head_at.ensures.valid c.in-Form.n c.in-Form._from (here_of c.args.self.now) (sym c.site.ensures ∙ c.in-Form.is) c.requires c.head_at.result.now (sym c.head_at.ensures.head) c.act_at.result c.act_at.ensures.operands c.act_at.ensures.whole
