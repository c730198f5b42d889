-- A block binds its item's value, and goes on at its next item or its last part.
use Rattle.std.proofs.Common.{◌≡◌, ℕ, ◌+◌, ◌<◌, List, length, slice_get, Some, OnOk, refl, ap, sym, ◌∙◌, subst, arith}
use Rattle.std.specs.Arc.{arc_value}
use Rattle.std.proofs.lemmas.Option.{slice_get_within}
use Rattle.stab_base.specs.Datum.{Datum}
use Rattle.stab_code.specs.Program.{tree_at}
use Rattle.language.specs.Expression.{put}
use Rattle.language.specs.Outcome.{Outcome}
use Rattle.language.specs.Program.{expr_of}
use Rattle.step_eval.specs.Arrival.{Arrives, turned}
use Rattle.step_eval.specs.ControlView.{view_of}
use Rattle.step_eval.specs.FrameView.{FrameView}
use Rattle.step_eval.specs.Fits.{FormFits}
use Rattle.step_eval.specs.Meaning.{form_at, node_at, within_forms}
use Rattle.step_eval.specs.View.{here_of, round_of}
use Rattle.step_eval.proofs.Blocks.{fits-more, last-scoped, long, slot-is-ahead, turn-last, turn-more}
use Rattle.step_eval.proofs.Standing.{any-there, part-found, stepping-fits}
use Rattle.step_eval.proofs.machine.Running.item.Goals as goal

pub bind-requires-clause-ahead : goal.bind-requires-clause-ahead
bind-requires-clause-ahead c =
    let p = c.args.p.now in
    let n = c.args.n in
    let from = c.args.from in
    let here = here_of c.args.self.now.machine in
    let at = c.requires.at in
    let valid = c.node_at.ensures.valid in
    let fits = stepping-fits p n from here c.args.self.now.machine.mark (round_of c.args.self.now.machine) at in
    let slots = c.args.slots.now in
    let slot = c.slot_of-slot.result in
    slot-is-ahead p valid n from here slots slot at.at at.settled fits c.requires.head c.slot_of-slot.ensures

pub item_of-last-requires : goal.item_of-last-requires
item_of-last-requires c =
    let p = c.args.p.now in
    let n = c.args.n in
    let from = c.args.from in
    let here = here_of c.args.self.now.machine in
    let at = c.requires.at in
    let valid = c.node_at.ensures.valid in
    let fits = stepping-fits p n from here c.args.self.now.machine.mark (round_of c.args.self.now.machine) at in
    let slots = c.args.slots.now in
    let slot = c.slot_of-slot.result in
    let parts : length c.parts-parts.result.now ≡ length (node_at p n).parts = ap length c.parts-parts.ensures ∙ ap (λ m. length m.parts) c.node_at.ensures.node in
    let all : length (node_at p n).parts ≡ length slots + 1 = long p valid n from here slots slot at.at at.settled fits c.requires.head c.slot_of-slot.ensures in
    let e = c.if-next-slots.true in
    omega (arith, e, all, parts)

pub start-requires-clause-there : goal.start-requires-clause-there
start-requires-clause-there c =
    let p = c.args.p.now in
    let n = c.args.n in
    let from = c.args.from in
    let here = here_of c.args.self.now.machine in
    let at = c.requires.at in
    let valid = c.node_at.ensures.valid in
    let fits = stepping-fits p n from here c.args.self.now.machine.mark (round_of c.args.self.now.machine) at in
    let slots = c.args.slots.now in
    let slot = c.slot_of-slot.result in
    let end : from + 1 ≡ length slots = (let e = c.if-next-slots.true in omega (arith, e)) in
    let found : slice_get (node_at p n).parts (from + 1) ≡ Some c.item_of-last.result = part-found p n c.node_at.result c.parts-parts.result.now (from + 1) (from + 1) c.item_of-last.result c.node_at.ensures.node c.parts-parts.ensures c.item_of-last.ensures refl in
    any-there p valid n (from + 1) c.item_of-last.result fits.there found

pub start-requires-clause-scoped : goal.start-requires-clause-scoped
start-requires-clause-scoped c =
    let p = c.args.p.now in
    let n = c.args.n in
    let from = c.args.from in
    let here = here_of c.args.self.now.machine in
    let at = c.requires.at in
    let valid = c.node_at.ensures.valid in
    let fits = stepping-fits p n from here c.args.self.now.machine.mark (round_of c.args.self.now.machine) at in
    let slots = c.args.slots.now in
    let slot = c.slot_of-slot.result in
    let after : List Datum = arc_value c.bind.new.self.env in
    let goes = c.in_ok-bind.ensures.bound in
    let end : from + 1 ≡ length slots = (let e = c.if-next-slots.true in omega (arith, e)) in
    let found : slice_get (node_at p n).parts (from + 1) ≡ Some c.item_of-last.result = part-found p n c.node_at.result c.parts-parts.result.now (from + 1) (from + 1) c.item_of-last.result c.node_at.ensures.node c.parts-parts.ensures c.item_of-last.ensures refl in
    last-scoped p valid n from here slots slot at.at at.settled fits c.requires.head c.slot_of-slot.ensures after goes c.item_of-last.result end found

pub returns-then-next-slots : goal.returns-then-next-slots
returns-then-next-slots c =
    let p = c.args.p.now in
    let n = c.args.n in
    let from = c.args.from in
    let here = here_of c.args.self.now.machine in
    let at = c.requires.at in
    let valid = c.node_at.ensures.valid in
    let fits = stepping-fits p n from here c.args.self.now.machine.mark (round_of c.args.self.now.machine) at in
    let slots = c.args.slots.now in
    let slot = c.slot_of-slot.result in
    let after : List Datum = arc_value c.bind.new.self.env in
    let goes = c.in_ok-bind.ensures.bound in
    let end : from + 1 ≡ length slots = (let e = c.if-next-slots.true in omega (arith, e)) in
    let found : slice_get (node_at p n).parts (from + 1) ≡ Some c.item_of-last.result = part-found p n c.node_at.result c.parts-parts.result.now (from + 1) (from + 1) c.item_of-last.result c.node_at.ensures.node c.parts-parts.ensures c.item_of-last.ensures refl in
    let R : List FrameView → Type 0 = λ (r : List FrameView). OnOk c.start.result (Arrives p (view_of c.start.new.self) (within_forms p r (put (slice_get after) (expr_of (tree_at p c.item_of-last.result))))) in
    let O : Outcome → Type 0 = λ (o : Outcome). OnOk c.start.result (Arrives p (view_of c.start.new.self) (turned p (round_of c.args.self.now.machine) o)) in
    subst O (sym (turn-last p valid n from here slots slot at.at at.settled fits c.requires.head c.slot_of-slot.ensures after goes c.item_of-last.result end found)) (subst R c.bind.ensures.round c.start.ensures)

pub arrive-requires-clause-fits : goal.arrive-requires-clause-fits
arrive-requires-clause-fits c =
    let p = c.args.p.now in
    let n = c.args.n in
    let from = c.args.from in
    let here = here_of c.args.self.now.machine in
    let at = c.requires.at in
    let valid = c.node_at.ensures.valid in
    let fits = stepping-fits p n from here c.args.self.now.machine.mark (round_of c.args.self.now.machine) at in
    let slots = c.args.slots.now in
    let slot = c.slot_of-slot.result in
    let after : List Datum = arc_value c.bind.new.self.env in
    let goes = c.in_ok-bind.ensures.bound in
    let inside : from < length slots = slice_get_within slots from slot c.slot_of-slot.ensures in
    let more : from + 1 < length slots = (let e = c.if-next-slots.false in omega (arith, e)) in
    let P : ℕ → Type 0 = λ (k : ℕ). FormFits p n (from + 1) k in
    subst P (sym (ap (λ (v : FrameView). length v.env) c.next_item.ensures.here)) (fits-more p valid n from here slots slot at.at at.settled fits c.requires.head c.slot_of-slot.ensures after goes more)

pub returns : goal.returns
returns c =
    let p = c.args.p.now in
    let n = c.args.n in
    let from = c.args.from in
    let here = here_of c.args.self.now.machine in
    let at = c.requires.at in
    let valid = c.node_at.ensures.valid in
    let fits = stepping-fits p n from here c.args.self.now.machine.mark (round_of c.args.self.now.machine) at in
    let slots = c.args.slots.now in
    let slot = c.slot_of-slot.result in
    let after : List Datum = arc_value c.bind.new.self.env in
    let goes = c.in_ok-bind.ensures.bound in
    let inside : from < length slots = slice_get_within slots from slot c.slot_of-slot.ensures in
    let more : from + 1 < length slots = (let e = c.if-next-slots.false in omega (arith, e)) in
    let R : List FrameView → Type 0 = λ (r : List FrameView). OnOk c.arrive.result (Arrives p (view_of c.arrive.new.self) (within_forms p r (form_at p (here_of c.next_item.new.self)))) in
    let H : FrameView → Type 0 = λ (h : FrameView). OnOk c.arrive.result (Arrives p (view_of c.arrive.new.self) (within_forms p (round_of c.args.self.now.machine) (form_at p h))) in
    let O : Outcome → Type 0 = λ (o : Outcome). OnOk c.arrive.result (Arrives p (view_of c.arrive.new.self) (turned p (round_of c.args.self.now.machine) o)) in
    subst O (sym (turn-more p valid n from here slots slot at.at at.settled fits c.requires.head c.slot_of-slot.ensures after goes more)) (subst H c.next_item.ensures.here (subst R (c.next_item.ensures.round ∙ c.bind.ensures.round) c.arrive.ensures))
