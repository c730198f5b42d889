use Rattle.std.proofs.Common.{◌≡◌, true, sym, subst}
use Rattle.stab_journal.specs.declared.event.Numbered.{Numbered}
use Rattle.stab_journal.specs.Dependence.{IsUpward}
use Rattle.stab_journal.specs.Names.{has}
use Rattle.eval_trial.proofs.tests.law_calls.call_laws_of_programs.Goals as goal

pub survive-requires : goal.survive-requires
survive-requires c = subst (λ ks. IsUpward (λ (n : Numbered). has ks n.seq.0 ≡ true) c.args.run.now) (sym c.requires.gone) c.upward_closed.ensures

pub survive_from-requires : goal.survive_from-requires
survive_from-requires c = record {
  rise = c.requires.rise;
  closed = subst (λ ks. IsUpward (λ (n : Numbered). has ks n.seq.0 ≡ true) c.args.run.now) (sym c.requires.gone) c.upward_closed.ensures;
}
