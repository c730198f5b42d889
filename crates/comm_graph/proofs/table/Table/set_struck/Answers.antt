use Rattle.std.proofs.Common.{◌-◌, sym, arith}
use Rattle.comm_graph.specs.Table.{struck}
use Rattle.comm_graph.proofs.Tables.{change_low, change_set}
use Rattle.comm_graph.proofs.table.Table.set_struck.Goals as goal

pub returns-then-place-self-clause-entries : goal.returns-then-place-self-clause-entries
returns-then-place-self-clause-entries c =
    change_set struck c.args.self.now.entries.items c.args.self.now.gone (c.args.place - c.args.self.now.gone - 1) c.args.place c.index-entry.result.now (omega arith) (omega arith) c.index-entry.ensures

pub returns-else-place-self-clause-entries : goal.returns-else-place-self-clause-entries
returns-else-place-self-clause-entries c = sym (change_low struck c.args.self.now.entries.items c.args.self.now.gone c.args.place (omega arith))
