use Rattle.std.proofs.Common.{◌<◌, arith, length, slice_index}
use Rattle.comm_graph.specs.Table.{thread}
use Rattle.comm_graph.proofs.Joins.{links_after}
use Rattle.comm_graph.proofs.Ahead.{ahead_in_line, ahead_none}
use Rattle.comm_graph.proofs.walk.following.Goals as goal

pub returns-then-t-len : goal.returns-then-t-len
returns-then-t-len c =
    let t = c.args.table.now in
    let lt = c.if-t-len.true in
    let few : c.args.t.0 < length c.args.tails.now.items = omega (arith, c.len.ensures, c.args.tails.now.ok.0) in
    ahead_in_line t.entries.items t.gone (length c.args.tails.now.items) c.args.t.0 c.args.place (slice_index c.args.tails.now.items c.args.t.0) c.links.result.after
    (c.requires.tails c.args.t.0 few) (c.requires.line few)
    (links_after (thread c.args.t.0) t.entries.items t.gone c.args.place c.entry.result.now c.links.result c.entry.ensures c.links.ensures)

pub returns-else-place-end : goal.returns-else-place-end
returns-else-place-end c =
    let t = c.args.table.now in
    ahead_none t.entries.items t.gone (length c.args.tails.now.items) c.args.t.0 c.args.place (omega arith)
