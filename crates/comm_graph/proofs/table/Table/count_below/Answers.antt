use Rattle.std.proofs.Common.{◌≡◌, ◌+◌, ◌-◌, ◌/◌, Some, ap, arith, inl, inr}
use Rattle.std.proofs.lemmas.Bool.{cases_eq}
use Rattle.std.specs.List.{slice_get}
use Rattle.std.proofs.lemmas.Option.{slice_get_read}
use Rattle.comm_graph.specs.declared.table.Entry.{Entry}
use Rattle.comm_graph.proofs.Tables.{sorted_get, same_entry}
use Rattle.comm_graph.proofs.table.Table.count_below.Goals as goal

pub loop-low-preserved-then-index-q : goal.loop-low-preserved-then-index-q
loop-low-preserved-then-index-q c =
    let s = c.args.self.now in
    let m = c.loop-low.low + (c.loop-low.high - c.loop-low.low) / 2 in
    let at : slice_get s.entries.items m ≡ Some c.index.result.now = slice_get_read s.entries.items _ _ c.index.result.now s.entries.ok.0 (omega (arith, s.entries.ok.0)) c.index.ensures in
    record {
      order = omega arith;
      within = c.loop-low.invariant.within;
      under = λ k e lt h. elim (cases_eq k m) [
        | inl same ↦ omega (arith, ap (λ (x : Entry). x.number.0) (same_entry s.entries.items k m e c.index.result.now same h at))
        | inr other ↦ omega (arith, sorted_get s.entries.items s.gone k m e c.index.result.now c.requires (omega arith) h at)
      ];
      over = c.loop-low.invariant.over;
    }

pub loop-low-preserved : goal.loop-low-preserved
loop-low-preserved c =
    let s = c.args.self.now in
    let m = c.loop-low.low + (c.loop-low.high - c.loop-low.low) / 2 in
    let at : slice_get s.entries.items m ≡ Some c.index.result.now = slice_get_read s.entries.items _ _ c.index.result.now s.entries.ok.0 (omega (arith, s.entries.ok.0)) c.index.ensures in
    record {
      order = omega arith;
      within = omega arith;
      under = c.loop-low.invariant.under;
      over = λ k e le h. elim (cases_eq k m) [
        | inl same ↦ omega (arith, ap (λ (x : Entry). x.number.0) (same_entry s.entries.items k m e c.index.result.now same h at))
        | inr other ↦ omega (arith, sorted_get s.entries.items s.gone m k c.index.result.now e c.requires (omega arith) at h)
      ];
    }
