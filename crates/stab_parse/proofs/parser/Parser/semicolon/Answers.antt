use Rattle.std.proofs.Common.{◌≡◌, IfOk, None, refl, subst, sym}
use Rattle.stab_parse.specs.Moves.{did, in_top, item, popped, semicolon}
use Rattle.stab_parse.proofs.parser.Parser.semicolon.Goals as goal

pub returns-in-None : goal.returns-in-None
returns-in-None c =
    let r = popped c.args.self.now.reader in
    record {
      ok = subst (λ whole. IfOk c.item_done-in-None.result (λ a. did a c.item_done-in-None.new.self ≡ whole))
          (sym (subst (λ top. in_top semicolon top c.args.seen r ≡ in_top (item None) top c.args.seen r) c.top.ensures (c.in-None.ensures.none refl c.args.seen r)))
          c.item_done-in-None.ensures.ok;
    }
