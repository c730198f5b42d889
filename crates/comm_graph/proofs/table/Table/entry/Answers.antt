use Rattle.std.proofs.Common.{◌-◌, ◌∙◌, arith}
use Rattle.std.proofs.lemmas.Option.{slice_get_read}
use Rattle.comm_graph.proofs.Tables.{at_index}
use Rattle.comm_graph.proofs.table.Table.entry.Goals as goal

pub returns : goal.returns
returns c =
    let s = c.args.self.now in
    at_index s.entries.items s.gone (c.args.place - s.gone - 1) c.args.place (omega arith)
    ∙ slice_get_read s.entries.items _ _ c.index.result.now s.entries.ok.0 (omega (arith, s.entries.ok.0)) c.index.ensures
