use Rattle.std.proofs.Common.{ℕ, sym, ap, ◌∙◌}
use Rattle.commit_book.specs.Meetings.{meeting_of}
use Rattle.commit_book.proofs.Acting.ExchangeCalls.{performed_meeting, performed_waiting}
use Rattle.commit_book.proofs.Acting.Matched.{offer_there}
use Rattle.commit_book.proofs.parts.Parts.exchange.Goals as goal

pub opposite-requires : goal.opposite-requires
opposite-requires c = record { there = offer_there c.args.job.now c.args.self.now c.args.lease.now c.args.progress c.requires.may c.args.offer c.requires.offers }

pub meet-requires-clause-meets : goal.meet-requires-clause-meets
meet-requires-clause-meets c = record {
  offer = c.args.offer;
  offers = c.requires.offers;
  meets = ap (λ (k : ℕ). meeting_of c.args.self.now.offers.lines k c.args.offer) (sym c.thread.ensures) ∙ sym c.opposite.ensures ∙ c.in-Some.is;
}

pub wait-requires-clause-alone : goal.wait-requires-clause-alone
wait-requires-clause-alone c = ap (λ (k : ℕ). meeting_of c.args.self.now.offers.lines k c.args.offer) (sym c.thread.ensures) ∙ sym c.opposite.ensures ∙ c.in-None.is

pub returns-in_ok-meet-in-Some-clause-done : goal.returns-in_ok-meet-in-Some-clause-done
returns-in_ok-meet-in-Some-clause-done c =
    performed_meeting c.args.job.now c.args.self.now c.meet.new.self c.args.lease.now c.args.progress c.args.offer c.requires.offers c.in-Some.meeting
    (ap (λ (k : ℕ). meeting_of c.args.self.now.offers.lines k c.args.offer) (sym c.thread.ensures) ∙ sym c.opposite.ensures ∙ c.in-Some.is) c.in_ok-meet-in-Some.ensures.done

pub returns-in_ok-wait-in-None-clause-done : goal.returns-in_ok-wait-in-None-clause-done
returns-in_ok-wait-in-None-clause-done c =
    performed_waiting c.args.job.now c.args.self.now c.wait.new.self c.args.lease.now c.args.progress c.args.offer c.requires.offers
    (ap (λ (k : ℕ). meeting_of c.args.self.now.offers.lines k c.args.offer) (sym c.thread.ensures) ∙ sym c.opposite.ensures ∙ c.in-None.is) c.in_ok-wait-in-None.ensures.done
