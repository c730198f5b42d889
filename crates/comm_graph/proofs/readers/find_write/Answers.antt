use Rattle.comm_graph.proofs.Tables.{in_range}
use Rattle.comm_graph.proofs.ReaderLines.{write_found, write_else, write_none, so_some, so_none}
use Rattle.comm_graph.proofs.readers.find_write.Goals as goal

pub only_write-requires : goal.only_write-requires
only_write-requires c = let t = c.args.table.now in in_range t.entries.items t.gone c.in-Some.place c.in-Some.ensures.found.entry c.in-Some.ensures.found.at

pub returns-in-Some : goal.returns-in-Some
returns-in-Some c =
    let t = c.args.table.now in
    record {
      found = so_some c.only_write.result _ _ c.only_write.ensures.write (λ w h. write_found t.entries.items t.gone c.args.number.0 c.in-Some.place w c.in-Some.ensures.found h.0 h.1);
      none = so_none c.only_write.result _ _ c.only_write.ensures.other (λ h. write_else t.entries.items t.gone c.args.number.0 c.in-Some.place c.requires.sorted c.in-Some.ensures.found h);
    }

pub returns-in-None-clause-none : goal.returns-in-None-clause-none
returns-in-None-clause-none c = let t = c.args.table.now in write_none t.entries.items t.gone c.args.number.0 c.in-None.ensures.none
