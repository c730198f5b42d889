use Rattle.live_desk.proofs.Answering.{released}
use Rattle.live_desk.proofs.asking.release.Goals as goal

pub returns : goal.returns
returns c = released c.args.book.now c.serve.new.book c.args.waiting.now.items c.requires.live c.args.worker c.args.text c.serve.result c.serve.ensures
