use Rattle.std.proofs.Common.{◌∙◌}
use Rattle.comm_graph.proofs.Ends.{trimmed_more}
use Rattle.comm_graph.proofs.table.Table.trim.Goals as goal

pub loop-preserved : goal.loop-preserved
loop-preserved c =
    let w = c.pop_struck.ensures.some c.loop-test.true in
    record {
      gone = c.pop_struck.ensures.gone ∙ c.loop.invariant.gone;
      trimmed = trimmed_more c.args.self.now.entries.items c.loop.self.entries.items c.pop_struck.new.self.entries.items w.0 c.args.self.now.gone c.loop.invariant.trimmed w.1 w.2;
      capacity = c.pop_struck.ensures.capacity ∙ c.loop.invariant.capacity;
    }
