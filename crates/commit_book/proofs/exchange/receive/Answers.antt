-- What a receiver gets.
use Rattle.std.specs.Prelude.{ℤ}
use mir.Val.{of_z, to_z}
use Rattle.std.proofs.Common.{◌≡◌, Some, Option, IsSome, SFits, w64, rules, sym, ap, subst, ◌∙◌}
use Rattle.std.proofs.lemmas.Int.{to_z-of_z}
use Rattle.language.specs.Effects.{picked_at}
use Rattle.language.specs.Plain.{language_of, look_in}
use Rattle.language.specs.Program.{body}
use Rattle.language.specs.Table.{act, picks, received_by}
use Rattle.rendezvous.specs.Offer.{receives_on}
use Rattle.step_eval.specs.declared.act.Act.{Act}
use Rattle.step_eval.specs.Asked.{operands_of}
use Rattle.step_eval.specs.ControlView.{expr_of}
use Rattle.commit_book.proofs.Acting.Exchanging.{offers_asked, on_ok, picked_look, received_pick, received_value, unpicked_look}
use Rattle.commit_book.proofs.exchange.receive.Goals as goal

pub answer-requires-clause-act : goal.answer-requires-clause-act
answer-requires-clause-act c =
    let p = c.args.program.now in
    let r = c.args.receiver.now in
    subst (λ (o : Option Act). IsSome o) c.ask.ensures.act (offers_asked (body p) (operands_of r) (receives_on c.args.c.0) (look_in p (expr_of p r)) c.ask.result (c.ask.ensures.look p c.requires.0.fits c.requires.0.found) c.requires.1)

pub returns-in-Some-clause-received : goal.returns-in-Some-clause-received
returns-in-Some-clause-received c =
    let p = c.args.program.now in
    let r = c.args.receiver.now in
    let e = expr_of p r in
    let looks : look_in p e ≡ act (picks c.in-Some.first.0 c.in-Some._second.0) =
    picked_look (body p) (operands_of r) (look_in p e) c.ask.result c.in-Some.first c.in-Some._second (c.ask.ensures.look p c.requires.0.fits c.requires.0.found) (sym c.picked_in.ensures ∙ c.in-Some.is) in
    let fits : SFits w64 c.index_of.result = search rules in
    let back : to_z w64 (of_z w64 c.index_of.result) ≡ c.index_of.result = to_z-of_z w64 c.index_of.result fits in
    on_ok c.pick.result (expr_of p c.pick.new.receiver ≡ picked_at e (to_z w64 (of_z w64 c.index_of.result)) c.args.v) (received_by (language_of p) c.args.c.0 e c.args.v (look_in p e) ≡ Some (expr_of p c.pick.new.receiver))
    (λ h. received_pick p c.args.c.0 e c.args.v c.in-Some.first.0 c.in-Some._second.0 looks c.requires.1 ∙ ap Some (ap (λ (i : ℤ). picked_at e i c.args.v) (sym c.index_of.ensures ∙ sym back) ∙ sym h))
    c.pick.ensures.picked

pub returns-in-None-clause-received : goal.returns-in-None-clause-received
returns-in-None-clause-received c =
    let p = c.args.program.now in
    let r = c.args.receiver.now in
    let e = expr_of p r in
    received_value p c.args.c.0 e c.args.v
    (unpicked_look (body p) (operands_of r) (look_in p e) c.ask.result (c.ask.ensures.look p c.requires.0.fits c.requires.0.found) (sym c.picked_in.ensures ∙ c.in-None.is)) c.requires.1
    ∙ ap Some (sym c.answer.ensures.expr)
