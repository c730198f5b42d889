use Rattle.comm_graph.proofs.Tables.{in_range}
use Rattle.comm_graph.proofs.edges.next_of_second.Goals as goal

pub entry-requires : goal.entry-requires
entry-requires c = let t = c.args.table.now in in_range t.entries.items t.gone c.args.place c.requires.live.entry c.requires.live.at

pub next_acting-requires-clause-place : goal.next_acting-requires-clause-place
next_acting-requires-clause-place c = let t = c.args.table.now in in_range t.entries.items t.gone c.args.place c.requires.live.entry c.requires.live.at
