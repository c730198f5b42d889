use Rattle.std.proofs.Common.{arith}
use Rattle.comm_graph.proofs.Ends.{popped, struck_some}
use Rattle.comm_graph.proofs.table.Table.pop_struck.Goals as goal

pub returns-then-struck-clause-some : goal.returns-then-struck-clause-some
returns-then-struck-clause-some c =
    let t = c.args.self.now in
    let dead = c.ends_struck-struck.ensures.struck c.if-struck.true in
    let some = struck_some t.entries.items t.gone dead in
    λ _. popped t.entries.items c.pop_back-struck.new.self.items t.gone c.pop_back-struck.result dead c.pop_back-struck.ensures.items (c.pop_back-struck.ensures.variant.1 (omega (arith, t.entries.ok.0)))
