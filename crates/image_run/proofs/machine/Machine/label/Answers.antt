use Rattle.std.proofs.Common.{sym, subst}
use Rattle.std.specs.Prelude.{◌≡◌, IfSome, IsSome}
use Rattle.stab_journal.specs.declared.event.What.TheVariants.{Step}
use Rattle.stab_journal.specs.Event.{weigh}
use Rattle.image_run.specs.Machine.{number_of, state_of}
use Rattle.image_run.proofs.Fitting.{lone_some, may_make, one_weighed}
use Rattle.image_run.proofs.machine.Machine.label.Goals as goal

pub returns-clause-may : goal.returns-clause-may
returns-clause-may c =
    let m = c.args.self.now in
    may_make m c.requires.at c.args.t c.given.result c.given.ensures.given c.label_for.result c.args.look c.label_for.ensures.label
    (c.label_for.ensures.can m.surviving.state.program (state_of m) (number_of m) c.requires.look c.given.ensures.opened)

pub returns-clause-some : goal.returns-clause-some
returns-clause-some c = λ lone other. subst IsSome (sym c.label_for.ensures.label) (lone_some c.args.t c.given.result c.args.look lone other)

pub returns-clause-one : goal.returns-clause-one
returns-clause-one c = subst (λ o. IfSome o (λ l. weigh (Step l) ≡ 1)) (sym c.label_for.ensures.label) (one_weighed c.args.t c.given.result c.args.look)
