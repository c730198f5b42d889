use Rattle.std.proofs.Common.{ap, sym, ◌∙◌}
use Rattle.stab_parse.specs.Moves.{joined}
use Rattle.stab_parse.specs.Takes.{left_side}
use Rattle.stab_parse.proofs.Settling.{joins}
use Rattle.stab_parse.proofs.reader.Reader.join.Goals as goal

pub returns : goal.returns
returns c = record {
  ok = joins c.args.level c.in-Some.left c.args.seen c.in_ok-whole.whole c.args.self.now c.two.new.self
      (sym (c.in-Some.ensures ∙ ap (λ o. left_side c.args.level o) c.top.ensures))
      (c.in_ok-whole.ensures.ok ∙ ap (λ fs. joined c.in-Some.left.op c.in-Some.left.seen c.args.seen (record c.args.self.now { frames = fs })) c.let_go.ensures);
}
