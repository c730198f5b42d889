use Rattle.std.proofs.Common.{◌-◌, ◌<◌, length, None, option_map, arith, sym, ◌∙◌, ap}
use Rattle.std.proofs.lemmas.List.{get_or_default}
use Rattle.thread_slots.specs.Layout.{slot_of}
use Rattle.thread_slots.proofs.Placed.{none_at_0, none_past, get-places}
use Rattle.thread_slots.proofs.entries.entry_of.Goals as goal
use Rattle.thread_slots.proofs.entries.entry_of.Goals.{then-t-eq0-via-then-t-eq0, then-t-eq0-via-else-t-eq0+then-t-len}

pub returns-then-t-eq0 : goal.returns-then-t-eq0
returns-then-t-eq0 g c =
    elim c.then-t-eq0.branch [
      | then-t-eq0-via-then-t-eq0 w ↦ sym (none_at_0 c.args.entries.now.items c.args.t.0 w.if-t-eq0.true)
      | then-t-eq0-via-else-t-eq0+then-t-len w ↦ sym (none_past c.args.entries.now.items c.args.t.0 (c.args.t.0 - 1) (omega arith) (omega (arith, c.args.entries.now.ok.0)))
    ]

pub returns : goal.returns
returns g c =
    let low : c.place.result < length c.args.entries.now.items = omega (arith, c.args.entries.now.ok.0) in
    ap (option_map slot_of) (c.as_ref.ensures.value ∙ c.index.ensures ∙ get_or_default c.args.entries.now.items c.place.result c.index.result.now None low)
    ∙ sym (get-places c.args.entries.now.items c.args.t.0 c.place.result (omega arith))
