use Rattle.std.proofs.Common.{◌≡◌, IfOk, false, subst}
use Rattle.stab_parse.specs.Frames.{top_of}
use Rattle.stab_parse.specs.Moves.{closes, did}
use Rattle.stab_parse.specs.Takes.{is_operator}
use Rattle.stab_parse.proofs.Settling.{stands_alone}
use Rattle.stab_parse.proofs.parser.Parser.closes.Goals as goal

pub returns : goal.returns
returns c =
    let alone : is_operator (top_of c.args.self.now.reader.frames) ≡ false = cc (c.is_operator.ensures, c.top.ensures, c.if-is_operator.false) in
    record { ok = subst (λ whole. IfOk c.behind_top.result (λ a. did a c.behind_top.new.self ≡ closes c.args.symbol c.args.span whole)) (stands_alone c.args.seen c.args.self.now.reader alone) c.behind_top.ensures.ok }
