use Rattle.std.proofs.Common.{ap, refl, sym, ◌∙◌}
use Rattle.stab_parse.specs.Moves.{Refused, in_top, item, outcome, popped}
use Rattle.stab_parse.proofs.parser.Parser.item_done.Goals as goal

pub returns-in-None : goal.returns-in-None
returns-in-None c =
    let r = popped c.args.self.now.reader in
    record {
      ok = ap (λ fs. outcome Refused (record c.args.self.now.reader { frames = fs })) c.pop.ensures.below
          ∙ sym (c.in-None.ensures.item refl c.args.name c.args.seen r) ∙ ap (λ top. in_top (item c.args.name) top c.args.seen r) c.pop.ensures.top;
    }
