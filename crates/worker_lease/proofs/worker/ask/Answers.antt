use Rattle.std.proofs.Common.{ap, sym, subst}
use Rattle.turn_floor.specs.Served.{told_events}
use Rattle.turn_floor.proofs.Histories.{prefix_more}
use Rattle.worker_lease.specs.Releases.{HasNoRelease}
use Rattle.worker_lease.proofs.Asking.{same_releases, tells_none}
use Rattle.worker_lease.proofs.worker.ask.Goals as goal

pub with_turn-requires : goal.with_turn-requires
with_turn-requires g c = record {
  own = c.requires.own;
  fits = g.met.D.OnDesk.takes c.args.floor.now.start.job c.args.pass.now.worker c.args.ask c.requires.fits;
}

pub returns-clause-replies : goal.returns-clause-replies
returns-clause-replies g c =
    let s = c.with_turn.ensures.served in
    g.met.D.OnDesk.replies s.0 c.args.pass.now.worker c.args.ask c.with_turn.result s.1 s.2

pub returns-clause-fits : goal.returns-clause-fits
returns-clause-fits g c = g.met.D.OnDesk.says c.args.floor.now.start.job c.with_turn.new.pass.seen c.with_turn.result c.with_turn.ensures.fits

pub returns-clause-later : goal.returns-clause-later
returns-clause-later g c =
    let e = c.with_turn.ensures in
    let s = e.served in
    let old = c.args.pass.now in
    let new = c.with_turn.new.pass in
    let r = c.with_turn.result in
    let reply = g.met.D.OnDesk.replies s.0 old.worker c.args.ask r s.1 s.2 in
    let says = g.met.D.OnDesk.says c.args.floor.now.start.job new.seen r e.fits in
    let none = tells_none g.D.OnDesk.pauses c.args.floor.now.start.job new.seen c.args.ask r c.requires.work reply says.1 in
    record {
      floor = ap (λ p. p.floor) e.told;
      worker = ap (λ p. p.worker) e.told;
      grows = prefix_more old.seen _ s.3.adds.0 new.seen s.3.begins s.3.adds.1;
      releases = same_releases old.worker old.seen new.seen _ e.own (subst (λ t. HasNoRelease (told_events t new.seen)) (sym (g.met.D.OnDesk.tells r)) none);
    }
