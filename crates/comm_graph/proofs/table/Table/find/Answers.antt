use Rattle.std.proofs.Common.{◌≡◌, ◌+◌, ◌∙◌, Some, sym, arith}
use Rattle.std.specs.List.{slice_get}
use Rattle.std.proofs.lemmas.Bool.{false≢true}
use Rattle.std.proofs.lemmas.Option.{slice_get_read}
use Rattle.comm_graph.proofs.Tables.{found_at, none_found, none_past}
use Rattle.comm_graph.proofs.table.Table.find.Goals as goal
use Rattle.comm_graph.proofs.table.Table.find.Goals.{else-entry-q-via-then-entry-q+else-entry, else-entry-q-via-else-entry-q}

pub returns-then-entry-clause-found : goal.returns-then-entry-clause-found
returns-then-entry-clause-found c =
    let s = c.args.self.now in
    let i = c.count_below-index.result in
    let at : slice_get s.entries.items i ≡ Some c.index-entry.result.now = slice_get_read s.entries.items _ _ c.index-entry.result.now s.entries.ok.0 (omega arith) c.index-entry.ensures in
    found_at s.entries.items s.gone i (s.gone + i + 1) c.args.q.0 c.index-entry.result.now (omega arith) at c.if-entry-q.true c.if-entry.true

pub returns-else-entry-q-clause-none : goal.returns-else-entry-q-clause-none
returns-else-entry-q-clause-none c =
    let s = c.args.self.now in
    let i = c.count_below-index.result in
    let at : slice_get s.entries.items i ≡ Some c.index-entry.result.now = slice_get_read s.entries.items _ _ c.index-entry.result.now s.entries.ok.0 (omega arith) c.index-entry.ensures in
    none_found s.entries.items s.gone i c.args.q.0 c.index-entry.result.now c.requires.sorted c.count_below-index.ensures.below c.count_below-index.ensures.above at
    (λ number live. elim c.else-entry-q.branch [
      | else-entry-q-via-then-entry-q+else-entry w ↦ false≢true (sym w.if-entry.false ∙ live)
      | else-entry-q-via-else-entry-q w ↦ w.if-entry-q.false number
    ])

pub returns-else-index-len-clause-none : goal.returns-else-index-len-clause-none
returns-else-index-len-clause-none c =
    let s = c.args.self.now in
    none_past s.entries.items s.gone c.count_below-index.result c.args.q.0 (omega (arith, s.entries.ok.0)) c.count_below-index.ensures.below
