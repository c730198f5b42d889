use Rattle.std.proofs.Common.{sym, ap, subst, ◌∙◌}
use Rattle.stab_journal.specs.Event.{IsEvent}
use Rattle.stab_journal.specs.View.{entry_with}
use Rattle.stab_journal.proofs.Look.{in_range}
use Rattle.stab_journal.proofs.history.History.get.Goals as goal

pub returns-clause-in_range : goal.returns-clause-in_range
returns-clause-in_range c =
    let here = c.in_ok-entry.ensures ∙ ap (λ es. entry_with es c.args.q.0) c.deref.ensures.value in
    subst (IsEvent c.args.q.0) (sym c.event.ensures) (in_range c.self.inside.entries.items c.args.q.0 c.in_ok-entry.entry.now here c.self.invariant.valid.in_range)
