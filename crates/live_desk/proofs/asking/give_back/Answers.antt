use Rattle.live_desk.proofs.Answering.{gave}
use Rattle.live_desk.proofs.asking.give_back.Goals as goal

pub returns : goal.returns
returns c = gave c.args.book.now c.serve.new.book c.args.waiting.now.items c.requires.live c.args.worker c.args.lease c.serve.result c.serve.ensures
