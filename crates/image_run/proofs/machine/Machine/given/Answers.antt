use Rattle.std.proofs.Common.{arith, rules}
use Rattle.image_run.proofs.Fitting.{chan_free, reference_free, small, state_known, thread_free}
use Rattle.image_run.proofs.machine.Machine.given.Goals as goal

pub returns-clause-opened : goal.returns-clause-opened
returns-clause-opened c =
    let m = c.args.self.now in
    let at = c.requires.at in
    record {
      thread = thread_free m at;
      chan = chan_free m at;
      reference = reference_free m at;
      probe = search rules;
      generation = small c.generation.result (omega (arith, c.generation.ensures, at.origin.generations c.args.t.0, at.origin.cut, (at.counted.before c.args.t.0).0, (at.counted.before c.args.t.0).1, at.counted.few, c.requires.room));
      known = state_known m at;
    }
