-- Where a sender and a receiver stand after a meeting.
use Rattle.std.proofs.Common.{rules, ◌≡◌, Some, subst, ◌∙◌}
use Rattle.stab_base.specs.Datum.{Datum}
use Rattle.language.specs.Plain.{language_of, look_in}
use Rattle.language.specs.Table.{received_by}
use Rattle.step_eval.specs.Acts.{second_of}
use Rattle.step_eval.specs.Asked.{operands_of}
use Rattle.step_eval.specs.ControlView.{ControlView, expr_of}
use Rattle.commit_book.proofs.exchange.exchanged.Goals as goal

pub sent-requires : goal.sent-requires
sent-requires c = (c.args.program.now, (c.args.c.0, c.requires.sender))

pub returns : goal.returns
returns c = record {
  looks = c.sent.ensures.looks c.args.program.now c.args.c.0 c.requires.sender.0 c.requires.sender.1;
  sends = search rules;
  gets =
      let p = c.args.program.now in
      let y = expr_of p c.receive.new.receiver in
      let same : c.in_ok-received.received ≡ c.args.receiver.now = c.in_ok-received.ensures in
      let given : c.in_ok-v.v ≡ second_of (operands_of c.args.sender.now) = c.in_ok-v.ensures.same ∙ c.sent.ensures.value in
      subst (λ (x : ControlView). received_by (language_of p) c.args.c.0 (expr_of p x) (second_of (operands_of c.args.sender.now)) (look_in p (expr_of p x)) ≡ Some y) same
      (subst (λ (v : Datum). received_by (language_of p) c.args.c.0 (expr_of p c.in_ok-received.received) v (look_in p (expr_of p c.in_ok-received.received)) ≡ Some y) given c.in_ok-receive.ensures.received);
  sender_fits = search rules;
  receiver_fits = search rules;
}
