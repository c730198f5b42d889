-- An answer of the plan, and a gap.
use Rattle.std.proofs.Common.{◌<◌, ◌∙◌, ◌++◌, length, sym, ap, append-nil, arith, rules}
use Rattle.number_source.specs.Came.{numbers_in}
use Rattle.number_source.proofs.Plans.{answer_here, answer_passed, plan_here, plan_passed, taken, taken_gap}
use Rattle.number_source.proofs.mem_source.MemSource.next.Goals as goal

pub returns-in_default : goal.returns-in_default
returns-in_default c =
    let within : c.loop-self.self-inside.next < length c.loop-self.self-inside.plan.items = search rules in record {
      answer = sym (answer_here _ _ _ within c.index-answer.ensures c.args.wait c.in_default.not-Nothing) ∙ c.loop-self.invariant.answer;
      plan = sym (plan_here _ _ _ within c.index-answer.ensures c.args.wait c.in_default.not-Nothing) ∙ c.loop-self.invariant.behind;
      came = taken _ _ _ within c.index-answer.ensures ∙ ap (λ ns. ns ++ numbers_in c.index-answer.result.now) c.loop-self.invariant.came;
      waited = λ _. c.in_default.not-Nothing;
    }

pub returns-then-not-wait-clause-came : goal.returns-then-not-wait-clause-came
returns-then-not-wait-clause-came c =
    let within : c.loop-self.self-inside.next < length c.loop-self.self-inside.plan.items = search rules in
    taken_gap _ _ _ within c.index-answer.ensures c.in-Nothing.is ∙ c.loop-self.invariant.came ∙ sym (append-nil c.args.self.now.came)

pub loop-self-preserved : goal.loop-self-preserved
loop-self-preserved c =
    let within : c.loop-self.self-inside.next < length c.loop-self.self-inside.plan.items = search rules in record {
      within = omega arith;
      settled = c.loop-self.invariant.settled;
      answer = sym (answer_passed _ _ _ within c.index-answer.ensures c.args.wait c.if-not-wait.false c.in-Nothing.is) ∙ c.loop-self.invariant.answer;
      behind = sym (plan_passed _ _ _ within c.index-answer.ensures c.args.wait c.if-not-wait.false c.in-Nothing.is) ∙ c.loop-self.invariant.behind;
      came = taken_gap _ _ _ within c.index-answer.ensures c.in-Nothing.is ∙ c.loop-self.invariant.came;
    }
