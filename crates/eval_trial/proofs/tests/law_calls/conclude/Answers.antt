use Rattle.std.proofs.Common.{◌≡◌, true, sym, subst}
use Rattle.stab_journal.specs.declared.event.Numbered.{Numbered}
use Rattle.stab_journal.specs.Dependence.{IsUpward}
use Rattle.stab_journal.specs.Names.{has}
use Rattle.eval_trial.specs.Alone.{events_of}
use Rattle.eval_trial.proofs.tests.law_calls.conclude.Goals as goal

pub survive-requires : goal.survive-requires
survive-requires c = subst (λ ks. IsUpward (λ (n : Numbered). has ks n.seq.0 ≡ true) c.args.run.now) (sym c.requires.gone) c.upward_closed.ensures

pub returns-clause-survives : goal.returns-clause-survives
returns-clause-survives c =
    let run = c.args.run.now in
    let left = c.undone_twice.ensures.left (events_of run) run c.args.end.now.state c.requires.stands in
    c.survive.ensures c.args.end.now.state left.1
