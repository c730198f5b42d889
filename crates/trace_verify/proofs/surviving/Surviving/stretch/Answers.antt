use Rattle.std.proofs.Common.{arith}
use Rattle.trace_verify.proofs.Stretching.{none_noted, some_noted}
use Rattle.trace_verify.proofs.surviving.Surviving.stretch.Goals as goal

pub returns-clause-stretched : goal.returns-clause-stretched
returns-clause-stretched c = λ from kept.
    some_noted from c.args.self.now c.made_in.new.state c.add.new.self c.args.seq.0 c.args.t c.in_ok-made.made c.if-made-eq0.false kept c.requires.below c.requires.above c.in_ok-made.ensures.made
    c.in_ok-add.ensures.parted c.in_ok-add.ensures.run c.in_ok-add.ensures.settled c.add.ensures.since

pub returns-then-made-eq0-clause-stretched : goal.returns-then-made-eq0-clause-stretched
returns-then-made-eq0-clause-stretched c = λ from kept.
    none_noted from c.args.self.now c.made_in.new.state c.args.seq.0 c.args.t c.args.most c.in_ok-made.made c.if-made-eq0.true c.requires.some c.in_ok-made.ensures.made c.in_ok-made.ensures.all
