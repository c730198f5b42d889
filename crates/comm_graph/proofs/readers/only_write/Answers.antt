use Rattle.std.proofs.Common.{◌∙◌, refl, sym, ap}
use Rattle.std.proofs.lemmas.Bool.{false≢true}
use Rattle.comm_graph.specs.declared.table.Entry.{Entry}
use Rattle.comm_graph.specs.Node.{is_write}
use Rattle.comm_graph.proofs.ReaderLines.{one_entry}
use Rattle.comm_graph.proofs.readers.only_write.Goals as goal

pub returns-then-is_write : goal.returns-then-is_write
returns-then-is_write c = record {
  write = (refl, λ e at. ap (λ (x : Entry). is_write x.kind) (one_entry c.args.table.now.entries.items c.args.table.now.gone c.args.place e c.entry.result.now at c.entry.ensures) ∙ sym c.is_write.ensures ∙ c.if-is_write.true);
  other = tt;
}

pub returns-else-is_write : goal.returns-else-is_write
returns-else-is_write c = record {
  write = tt;
  other = λ e at w. false≢true (sym c.if-is_write.false ∙ c.is_write.ensures ∙ sym (ap (λ (x : Entry). is_write x.kind) (one_entry c.args.table.now.entries.items c.args.table.now.gone c.args.place e c.entry.result.now at c.entry.ensures)) ∙ w);
}
