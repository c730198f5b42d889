use Rattle.std.proofs.Common.{arith}
use Rattle.image_run.proofs.machine.Machine.generation.Goals as goal

pub overflow_add-result : goal.overflow_add-result
overflow_add-result c =
    let m = c.args.self.now in
    omega (arith, c.generation_at_cut.ensures, c.of.ensures, c.requires.at.origin.generations c.args.t.0, c.requires.at.origin.cut, (c.requires.at.counted.before c.args.t.0).0, (c.requires.at.counted.before c.args.t.0).1, c.requires.at.counted.few, c.requires.room)
