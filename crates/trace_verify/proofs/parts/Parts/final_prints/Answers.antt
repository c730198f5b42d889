use Rattle.trace_verify.proofs.Parting.{final_is}
use Rattle.trace_verify.proofs.parts.Parts.final_prints.Goals as goal

pub returns : goal.returns
returns c = final_is c.args.self.now.since c.args.self.now.floor c.args.self.now.final_prints c.args.self.now.settled.items c.args.self.now.recent.items c.requires.parted
