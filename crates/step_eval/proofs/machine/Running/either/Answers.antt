-- `||` goes on at its right side or has its value.
use Rattle.std.proofs.Common.{◌≡◌, length, slice_get, true, false, Some, OnOk, refl, ap, sym, ◌∙◌, subst, arith}
use Rattle.std.specs.Prelude.{option_and_then}
use Rattle.stab_base.specs.Datum.{Datum}
use Rattle.stab_code.specs.declared.head.Head.TheVariants.{Two}
use Rattle.stab_code.specs.declared.head.Op.TheVariants.{Or}
use Rattle.language.specs.Expression.{value}
use Rattle.language.specs.Operands.{one_of, truth_of}
use Rattle.language.specs.Outcome.{Outcome}
use Rattle.step_eval.specs.Arrival.{Arrives, turned}
use Rattle.step_eval.specs.ControlView.{view_of}
use Rattle.step_eval.specs.Meaning.{node_at, within_forms}
use Rattle.step_eval.specs.View.{here_of, round_of}
use Rattle.step_eval.proofs.Standing.{any-part, any-there, part-found, stepping-fits}
use Rattle.step_eval.proofs.Turning.{or-some, parts-are}
use Rattle.step_eval.proofs.machine.Running.either.Goals as goal

pub item_of-right-requires : goal.item_of-right-requires
item_of-right-requires c =
    let p = c.args.p.now in
    let n = c.args.n in
    let here = here_of c.args.self.now.machine in
    let at = c.requires.at in
    let fits = stepping-fits p n 0 here c.args.self.now.machine.mark (round_of c.args.self.now.machine) at in
    let valid = c.node_at.ensures.valid in
    let long : length c.parts.result.now ≡ length (node_at p n).parts = ap length c.parts.ensures ∙ ap (λ m. length m.parts) c.node_at.ensures.node in
    let two : length (node_at p n).parts ≡ 2 = parts-are p valid n fits.there (Two Or) 2 c.requires.head refl in
    omega (arith, long)

pub start-requires-clause-there : goal.start-requires-clause-there
start-requires-clause-there c =
    let p = c.args.p.now in
    let n = c.args.n in
    let here = here_of c.args.self.now.machine in
    let at = c.requires.at in
    let fits = stepping-fits p n 0 here c.args.self.now.machine.mark (round_of c.args.self.now.machine) at in
    let valid = c.node_at.ensures.valid in
    let right : slice_get (node_at p n).parts 1 ≡ Some c.item_of-right.result = part-found p n c.node_at.result c.parts.result.now 1 1 c.item_of-right.result c.node_at.ensures.node c.parts.ensures c.item_of-right.ensures refl in
    any-there p valid n 1 c.item_of-right.result fits.there right

pub start-requires-clause-scoped : goal.start-requires-clause-scoped
start-requires-clause-scoped c =
    let p = c.args.p.now in
    let n = c.args.n in
    let here = here_of c.args.self.now.machine in
    let at = c.requires.at in
    let fits = stepping-fits p n 0 here c.args.self.now.machine.mark (round_of c.args.self.now.machine) at in
    let valid = c.node_at.ensures.valid in
    let right : slice_get (node_at p n).parts 1 ≡ Some c.item_of-right.result = part-found p n c.node_at.result c.parts.result.now 1 1 c.item_of-right.result c.node_at.ensures.node c.parts.ensures c.item_of-right.ensures refl in
    any-part p valid n (length here.env) 1 c.item_of-right.result (Two Or) fits c.requires.head refl right

pub returns-in-Some-false : goal.returns-in-Some-false
returns-in-Some-false c =
    let p = c.args.p.now in
    let n = c.args.n in
    let here = here_of c.args.self.now.machine in
    let at = c.requires.at in
    let fits = stepping-fits p n 0 here c.args.self.now.machine.mark (round_of c.args.self.now.machine) at in
    let valid = c.node_at.ensures.valid in
    let right : slice_get (node_at p n).parts 1 ≡ Some c.item_of-right.result = part-found p n c.node_at.result c.parts.result.now 1 1 c.item_of-right.result c.node_at.ensures.node c.parts.ensures c.item_of-right.ensures refl in
    let test : Some false ≡ option_and_then truth_of (one_of c.args.self.now.machine.done.items) = sym (c.in-Some-false.is ∙ ap Some c.in-Some-false.field-0-test) ∙ c.condition.ensures ∙ ap (λ vs. option_and_then truth_of (one_of vs)) c.as_slice.ensures.value in
    let O : Outcome → Type 0 = λ (o : Outcome). OnOk c.start.result (Arrives p (view_of c.start.new.self) (turned p (round_of c.args.self.now.machine) o)) in
    subst O (sym (or-some p valid n here at.at at.settled fits.there c.item_of-right.result right c.requires.head false test)) c.start.ensures

pub returns-in-Some-true : goal.returns-in-Some-true
returns-in-Some-true c =
    let p = c.args.p.now in
    let n = c.args.n in
    let here = here_of c.args.self.now.machine in
    let at = c.requires.at in
    let fits = stepping-fits p n 0 here c.args.self.now.machine.mark (round_of c.args.self.now.machine) at in
    let valid = c.node_at.ensures.valid in
    let right : slice_get (node_at p n).parts 1 ≡ Some c.item_of-right.result = part-found p n c.node_at.result c.parts.result.now 1 1 c.item_of-right.result c.node_at.ensures.node c.parts.ensures c.item_of-right.ensures refl in
    let test : Some true ≡ option_and_then truth_of (one_of c.args.self.now.machine.done.items) = sym (c.in-Some-true.is ∙ ap Some c.in-Some-true.field-0-test) ∙ c.condition.ensures ∙ ap (λ vs. option_and_then truth_of (one_of vs)) c.as_slice.ensures.value in
    let G : Datum → Type 0 = λ (v : Datum). OnOk c.give.result (Arrives p (view_of c.give.new.self) (within_forms p (round_of c.args.self.now.machine) (value v))) in
    let O : Outcome → Type 0 = λ (o : Outcome). OnOk c.give.result (Arrives p (view_of c.give.new.self) (turned p (round_of c.args.self.now.machine) o)) in
    subst O (sym (or-some p valid n here at.at at.settled fits.there c.item_of-right.result right c.requires.head true test)) (subst G c.truth.ensures c.give.ensures)
