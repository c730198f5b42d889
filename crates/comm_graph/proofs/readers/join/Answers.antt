use Rattle.std.proofs.Common.{◌∙◌, sym, ap, subst, arith}
use Rattle.comm_graph.specs.declared.table.Entry.{Entry}
use Rattle.comm_graph.specs.Table.{change, with_last_reader, readers, IsLineBut, BesideReaders, AreReaders}
use Rattle.comm_graph.proofs.Tables.{in_range}
use Rattle.comm_graph.proofs.Touches.{reads_it}
use Rattle.comm_graph.proofs.ReaderLines.{none_of, reading, readers_joined, beside_readers, whole_readers, no_read, no_write, one_entry}
use Rattle.comm_graph.proofs.readers.join.Goals as goal

pub entry-requires : goal.entry-requires
entry-requires c = let t = c.args.table.now in in_range t.entries.items t.gone c.in-Some-find_write.write c.in-Some-find_write.ensures.found.entry c.in-Some-find_write.ensures.found.at

pub join-requires-clause-place : goal.join-requires-clause-place
join-requires-clause-place c = let t = c.args.table.now in in_range t.entries.items t.gone c.args.place c.requires.node.entry c.requires.node.at

pub join-requires-clause-member : goal.join-requires-clause-member
join-requires-clause-member c =
    let t = c.args.table.now in
    reading t.entries.items t.gone c.args.place c.args.kind.now c.in-Some.number.0 c.requires.node ∙ reads_it c.args.kind.now c.in-Some.number (sym c.in-Some.ensures)

pub join-requires-clause-alone : goal.join-requires-clause-alone
join-requires-clause-alone c = c.requires.alone c.in-Some.number.0 (join-requires-clause-member c)

pub join-requires-clause-line : goal.join-requires-clause-line
join-requires-clause-line c =
    let t = c.args.table.now in
    let w = c.in-Some-find_write.ensures.found in
    let same = one_entry t.entries.items t.gone c.in-Some-find_write.write c.entry.result.now w.entry c.entry.ensures w.at in
    subst (λ v. IsLineBut t.entries.items t.gone (readers c.in-Some.number.0) v c.args.place) (ap (λ (e : Entry). e.last_reader) (sym same))
    (subst (λ v. IsLineBut t.entries.items t.gone (readers v) w.entry.last_reader c.args.place) w.number (c.requires.lines c.in-Some-find_write.write w.entry w.at w.live w.write))

pub set_last_reader-requires : goal.set_last_reader-requires
set_last_reader-requires c =
    let t = c.args.table.now in
    let r = in_range t.entries.items t.gone c.in-Some-find_write.write c.in-Some-find_write.ensures.found.entry c.in-Some-find_write.ensures.found.at in
    omega (arith, c.join.ensures.gone, c.join.ensures.beside.keeps.count)

pub returns-in-Some-find_write-clause-beside : goal.returns-in-Some-find_write-clause-beside
returns-in-Some-find_write-clause-beside c =
    let t = c.args.table.now in
    let fs = c.join.new.table.entries.items in
    let q = c.in-Some.number in
    subst (λ gs. BesideReaders t.entries.items gs t.gone) (sym (c.set_last_reader.ensures.entries ∙ ap (λ n. change (with_last_reader c.args.place) n c.in-Some-find_write.write fs) c.join.ensures.gone))
    (beside_readers t.entries.items fs t.gone c.args.place q.0 c.in-Some-find_write.write c.args.kind.now c.requires.node c.requires.sorted (reads_it c.args.kind.now q (sym c.in-Some.ensures)) c.in-Some-find_write.ensures.found c.join.ensures.beside c.args.place)

pub returns-in-Some-find_write-clause-lines : goal.returns-in-Some-find_write-clause-lines
returns-in-Some-find_write-clause-lines c =
    let t = c.args.table.now in
    let fs = c.join.new.table.entries.items in
    let q = c.in-Some.number in
    subst (λ gs. AreReaders gs t.gone) (sym (c.set_last_reader.ensures.entries ∙ ap (λ n. change (with_last_reader c.args.place) n c.in-Some-find_write.write fs) c.join.ensures.gone))
    (readers_joined t.entries.items fs t.gone c.args.place q.0 c.in-Some-find_write.write c.args.kind.now c.requires.node c.requires.sorted (reads_it c.args.kind.now q (sym c.in-Some.ensures)) c.in-Some-find_write.ensures.found c.join.ensures.beside c.join.ensures.joined c.requires.lines)

pub returns-in_default-find_write-clause-lines : goal.returns-in_default-find_write-clause-lines
returns-in_default-find_write-clause-lines c =
    let t = c.args.table.now in
    whole_readers t.entries.items t.gone c.args.place c.args.kind.now c.requires.node
    (no_write t.entries.items t.gone c.args.kind.now c.in-Some.number (sym c.in-Some.ensures) (none_of c.find_write.result _ c.find_write.ensures.none c.in_default-find_write.is))
    c.requires.lines

pub returns-in_default-clause-lines : goal.returns-in_default-clause-lines
returns-in_default-clause-lines c =
    let t = c.args.table.now in
    whole_readers t.entries.items t.gone c.args.place c.args.kind.now c.requires.node (no_read t.entries.items t.gone c.args.kind.now (sym c.read.ensures ∙ c.in_default.is)) c.requires.lines
