use Rattle.std.proofs.Common.{◌≡◌, ◌+◌, add-one, sym, ap, subst, ◌∙◌, take, arith}
use Rattle.stab_journal.specs.Journal.{event_at}
use Rattle.stab_image.specs.Named.{AreNamed}
use Rattle.stab_image.proofs.Naming.{named_more}
use Rattle.stab_image.proofs.named.Named.by_first.Goals as goal

pub loop-i-preserved : goal.loop-i-preserved
loop-i-preserved c =
    let es = c.args.history.now.events in
    let at = sym (sym (c.unwrap-event.ensures) ∙ c.get.ensures.event ∙ ap (event_at es) (add-one c.loop-i.i)) in (
      named_more es c.loop-i.i c.unwrap-event.result c.loop-i.named c.and-named.result at c.and-named.ensures.thread c.and-named.ensures.chan c.and-named.ensures.reference c.loop-i.invariant.0,
      c.and-named.ensures.names (c.loop-i.i + 1) (rw c.unwrap-event.ensures at c.get.ensures.in_range).what c.loop-i.invariant.1,
    )

pub returns-clause-named : goal.returns-clause-named
returns-clause-named c =
    let all : c.loop-i.i ≡ c.args.count = omega (arith, c.loop-i-test.false, c.loop-i.auto.i-end) in
    subst (λ k. AreNamed (take k c.args.history.now.events) c.loop-i.named) all c.loop-i.invariant.0
