use Rattle.std.proofs.Common.{◌<◌, length, arith}
use Rattle.std.specs.Io.Take.{take_limit}
use Rattle.log_file.proofs.Whole.{whole_read}
use Rattle.log_file.proofs.system.read_whole.Goals as goal

pub returns-in-Ok-2-clause-answer : goal.returns-in-Ok-2-clause-answer
returns-in-Ok-2-clause-answer g c =
    let bytes = c.read_to_end.new.buf in
    let short : length bytes.items < take_limit c.take.result =
    omega (arith, bytes.ok.0, bytes.ok.1, bytes.small, c.len.ensures, c.if-len-limit.false, c.saturating_add.ensures, c.take.ensures.limit, c.ranges.limit.fits) in
    whole_read g.R.Read.remaining c.take.result c.args.reader c.new-bytes.result.items bytes.items c.take.ensures.inner c.new-bytes.ensures.items c.in-Ok-2.ensures.bytes short
