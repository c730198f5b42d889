-- A list by its number stands between where it begins and where it ends.
use Rattle.std.proofs.Common.{◌≤◌, length, ap, ◌∙◌, arith, rules}
use Rattle.flat_lists.specs.Stored.{start_of}
use Rattle.flat_lists.proofs.Storing.{count_of_lists, list_found}
use Rattle.flat_lists.proofs.lists.FlatLists.of.Goals as goal

pub start-from-requires : goal.start-from-requires
start-from-requires g c = omega (arith, c.requires, c.deref.ensures.len, c.self.inside.ends.ok.0, ap length c.self.view_is, count_of_lists 0 c.self.inside.ends.items c.self.inside.items.items)

pub index-requires : goal.index-requires
index-requires g c = omega (arith, c.requires, c.self.inside.ends.ok.0, ap length c.self.view_is, count_of_lists 0 c.self.inside.ends.items c.self.inside.items.items)

bounds : (g : _) (c : goal.After-deref-2 g) → (c.start-from.result ≤ c.index.result.now) × (c.index.result.now ≤ length c.deref-2.result.now)
bounds g c =
    let there = list_found c.self.inside.ends.items c.self.inside.items.items c.args.self.now c.args.i c.index.result.now c.self.invariant c.self.view_is c.requires c.index.ensures in
    let from = c.start-from.ensures ∙ ap (λ ends. start_of 0 ends c.args.i) c.deref.ensures.value in
    (omega (arith, from, there.0), omega (arith, there.1, ap length c.deref-2.ensures.value))

pub offset_bounds-deref-from : goal.offset_bounds-deref-from
offset_bounds-deref-from g c = omega (arith, (bounds g c).0, (bounds g c).1)

pub slice_bounds-result-count : goal.slice_bounds-result-count
slice_bounds-result-count g c = (bounds g c).0

pub slice_bounds-result-start : goal.slice_bounds-result-start
slice_bounds-result-start g c = let b = bounds g c in search rules

pub slice_bounds-result-end : goal.slice_bounds-result-end
slice_bounds-result-end g c = let b = bounds g c in search rules

pub returns : goal.returns
returns g c =
    let there = list_found c.self.inside.ends.items c.self.inside.items.items c.args.self.now c.args.i c.index.result.now c.self.invariant c.self.view_is c.requires c.index.ensures in
    rw (c.start-from.ensures, c.deref.ensures.value, c.deref-2.ensures.value, ← c.self.view_is) there.2
