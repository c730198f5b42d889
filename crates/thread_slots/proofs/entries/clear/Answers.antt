use Rattle.std.proofs.Common.{◌<◌, length, set, arith, refl, sym, ap, ◌∙◌}
use Rattle.thread_slots.specs.Layout.{live}
use Rattle.thread_slots.proofs.Placed.{number_of_live, by_number-take, no_entry, to_entry}
use Rattle.thread_slots.proofs.entries.clear.Goals as goal

pub place-requires : goal.place-requires
place-requires g c = (number_of_live c.args.entries.now.items c.args.t.0 c.requires).0

pub index_mut-requires : goal.index_mut-requires
index_mut-requires g c = omega (arith, c.args.entries.now.ok.0, (number_of_live c.args.entries.now.items c.args.t.0 c.requires).1)

pub unreachable-requires : goal.unreachable-requires
unreachable-requires g c =
    let low : c.place.result < length c.args.entries.now.items = omega (arith, (number_of_live c.args.entries.now.items c.args.t.0 c.requires).1) in
    no_entry c.args.entries.now.items c.args.t.0 c.place.result c.index_mut.result.now (omega arith) low c.requires (sym c.index_mut.ensures.value ∙ sym c.take.ensures.value ∙ c.in-None.is)

pub returns-clause-threads : goal.returns-clause-threads
returns-clause-threads g c =
    ap (λ o. live (set c.args.entries.now.items c.place.result o)) c.take.ensures.after
    ∙ by_number-take c.args.entries.now.items c.args.t.0 c.place.result (omega arith) (omega (arith, (number_of_live c.args.entries.now.items c.args.t.0 c.requires).1))

pub returns-clause-was : goal.returns-clause-was
returns-clause-was g c =
    let low : c.place.result < length c.args.entries.now.items = omega (arith, (number_of_live c.args.entries.now.items c.args.t.0 c.requires).1) in
    to_entry c.args.entries.now.items c.args.t.0 c.place.result c.index_mut.result.now c.in-Some.entry _ (omega arith) low (sym c.index_mut.ensures.value ∙ sym c.take.ensures.value ∙ c.in-Some.is) refl
