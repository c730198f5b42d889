-- Who offers to send is asked for a send.
use Rattle.std.proofs.Common.{◌≤◌, List, length, Option, IsSome, sym, subst}
use Rattle.stab_base.specs.Datum.{Datum}
use Rattle.language.specs.Plain.{look_in}
use Rattle.language.specs.Program.{body}
use Rattle.rendezvous.specs.Offer.{sends_on}
use Rattle.step_eval.specs.declared.act.Act.{Act}
use Rattle.step_eval.specs.declared.ask.Ask.{Ask}
use Rattle.step_eval.specs.Asked.{IsAsked, operands_of}
use Rattle.step_eval.specs.ControlView.{expr_of}
use Rattle.commit_book.proofs.Acting.Exchanging.{IsSending, IsAskedSend, asked_send, offers_asked, sends_asked, sends_look, two_operands}
use Rattle.commit_book.proofs.exchange.sent.Goals as goal

pub second-requires : goal.second-requires
second-requires c =
    let p = c.requires.0 in
    let s = c.args.sender.now in
    let can = c.requires.1.1.0 in
    let sends : IsSending c.ask-ask.result =
    sends_asked (body p) (operands_of s) c.requires.1.0 (look_in p (expr_of p s)) c.ask-ask.result (c.ask-ask.ensures.look p can.fits can.found) c.requires.1.1.1 in
    subst (λ (vs : List Datum). 2 ≤ length vs) (sym c.operands.ensures) (two_operands p (operands_of s) c.ask-ask.result sends (c.ask-ask.ensures.operands p can.fits))

pub returns-clause-act : goal.returns-clause-act
returns-clause-act c =
    let p = c.requires.0 in
    let s = c.args.sender.now in
    let can = c.requires.1.1.0 in
    subst (λ (o : Option Act). IsSome o) c.ask-ask.ensures.act
    (offers_asked (body p) (operands_of s) (sends_on c.requires.1.0) (look_in p (expr_of p s)) c.ask-ask.result (c.ask-ask.ensures.look p can.fits can.found) c.requires.1.1.1)

pub returns-clause-looks : goal.returns-clause-looks
returns-clause-looks c = λ p chan can on.
    let s = c.args.sender.now in
    let asked = c.ask-ask.ensures.look p can.fits can.found in
    let sending : IsAskedSend c.ask-ask.result = asked_send c.ask-ask.result (sends_asked (body p) (operands_of s) chan (look_in p (expr_of p s)) c.ask-ask.result asked on) in
    sends_look (body p) (operands_of s) chan (look_in p (expr_of p s)) sending.chan (subst (λ (a : Ask). IsAsked (body p) (operands_of s) (look_in p (expr_of p s)) a) sending.is asked) on
