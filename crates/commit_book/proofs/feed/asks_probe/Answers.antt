use Rattle.commit_book.proofs.Numbers.Asking.{no_act, other_act}
use Rattle.commit_book.proofs.feed.asks_probe.Goals as goal

pub returns-in_default-matches : goal.returns-in_default-matches
returns-in_default-matches c =
    other_act c.args.progress.now c.end.result.now c.end.ensures.end c.end.ensures.made c.ask.result c.ask.ensures.look c.in-Act.act c.in-Act.is c.in_default-matches.not-Probe

pub returns-in_default : goal.returns-in_default
returns-in_default c = no_act c.args.progress.now c.end.result.now c.end.ensures.end c.end.ensures.made c.ask.result c.ask.ensures.look c.in_default.not-Act
