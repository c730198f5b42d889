use Rattle.std.proofs.Common.{◌-◌, sym, ap, ◌∙◌, arith}
use Rattle.std.specs.List.{slice_set}
use Rattle.comm_graph.specs.Table.{with_after}
use Rattle.comm_graph.proofs.Tables.{change_low, change_set}
use Rattle.comm_graph.proofs.table.Table.set_after.Goals as goal

pub returns-then-place-self-clause-entries : goal.returns-then-place-self-clause-entries
returns-then-place-self-clause-entries c =
    ap (slice_set c.args.self.now.entries.items (c.args.place - c.args.self.now.gone - 1)) c.with_after.ensures
    ∙ change_set (with_after c.args.line c.args.after) c.args.self.now.entries.items c.args.self.now.gone (c.args.place - c.args.self.now.gone - 1) c.args.place c.index-entry.result.now (omega arith) (omega arith) c.index-entry.ensures

pub returns-else-place-self-clause-entries : goal.returns-else-place-self-clause-entries
returns-else-place-self-clause-entries c = sym (change_low (with_after c.args.line c.args.after) c.args.self.now.entries.items c.args.self.now.gone c.args.place (omega arith))
