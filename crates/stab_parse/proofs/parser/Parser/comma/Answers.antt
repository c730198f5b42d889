use Rattle.std.proofs.Common.{◌≡◌, IfOk, ap, subst, sym, ◌∙◌}
use Rattle.stab_parse.specs.Moves.{comma, did, in_top, owed_in, popped}
use Rattle.stab_parse.proofs.parser.Parser.comma.Goals as goal

pub returns-in-Some : goal.returns-in-Some
returns-in-Some c =
    let r = popped c.args.self.now.reader in
    record {
      ok = subst (λ whole. IfOk c.owed_in.result (λ a. did a c.owed_in.new.self ≡ whole))
          (ap (λ fs. owed_in c.in-Some.frame (record c.args.self.now.reader { frames = fs })) c.pop.ensures.below
          ∙ sym (c.in-Some.ensures.some r) ∙ ap (λ top. in_top comma top c.args.seen r) c.pop.ensures.top) c.owed_in.ensures.ok;
    }
