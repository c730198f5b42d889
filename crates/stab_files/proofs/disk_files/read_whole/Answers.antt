use Rattle.std.proofs.Common.{rules, take}
use Rattle.stab_files.proofs.Moved.{consumes_within}
use Rattle.stab_files.proofs.disk_files.read_whole.Goals as goal

pub returns-then-is_err-clause-sparing : goal.returns-then-is_err-clause-sparing
returns-then-is_err-clause-sparing g c =
    consumes_within _ _ _ c.loop-chunk.bytes.items c.args.limit c.loop-chunk.invariant.1 (take c.in-Ok.count c.read.new.buf) (search rules) c.in-Ok.ensures.bytes
