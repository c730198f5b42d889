use Rattle.std.proofs.Common.{◌<◌, length, arith, refl, sym, ◌∙◌}
use Rattle.thread_slots.proofs.Placed.{number_of_live, changed-write, no_entry, live_above, of_entry, to_entry}
use Rattle.thread_slots.proofs.entries.put_back.Goals as goal

pub place-requires : goal.place-requires
place-requires g c = (number_of_live c.args.entries.now.items c.args.t.0 (live_above _ _ c.requires)).0

pub index_mut-requires : goal.index_mut-requires
index_mut-requires g c = omega (arith, c.args.entries.now.ok.0, (number_of_live c.args.entries.now.items c.args.t.0 (live_above _ _ c.requires)).1)

pub unreachable-requires : goal.unreachable-requires
unreachable-requires g c =
    let low : c.place.result < length c.args.entries.now.items = omega (arith, (number_of_live c.args.entries.now.items c.args.t.0 (live_above _ _ c.requires)).1) in
    no_entry c.args.entries.now.items c.args.t.0 c.place.result c.index_mut.result.now (omega arith) low (live_above _ _ c.requires) (sym c.index_mut.ensures.value ∙ c.in-None.is)

pub returns-clause-threads : goal.returns-clause-threads
returns-clause-threads g c =
    let low : c.place.result < length c.args.entries.now.items = omega (arith, (number_of_live c.args.entries.now.items c.args.t.0 (live_above _ _ c.requires)).1) in
    changed-write c.args.entries.now.items c.args.t.0 c.place.result _ c.in-Some.entry _ c.index_mut.result.now (omega arith) low (sym c.index_mut.ensures.value ∙ c.in-Some.is) refl

pub returns-clause-was : goal.returns-clause-was
returns-clause-was g c =
    let low : c.place.result < length c.args.entries.now.items = omega (arith, (number_of_live c.args.entries.now.items c.args.t.0 (live_above _ _ c.requires)).1) in
    to_entry c.args.entries.now.items c.args.t.0 c.place.result c.index_mut.result.now c.in-Some.entry _ (omega arith) low (sym c.index_mut.ensures.value ∙ c.in-Some.is) refl

pub overflow_add-entry : goal.overflow_add-entry
overflow_add-entry g c =
    let low : c.place.result < length c.args.entries.now.items = omega (arith, (number_of_live c.args.entries.now.items c.args.t.0 (live_above _ _ c.requires)).1) in
    let below : c.in-Some.entry.generation.0 < 18446744073709551615 = of_entry c.args.entries.now.items c.args.t.0 c.place.result c.index_mut.result.now c.in-Some.entry _ (omega arith) low (sym c.index_mut.ensures.value ∙ c.in-Some.is) c.requires in
    omega arith
