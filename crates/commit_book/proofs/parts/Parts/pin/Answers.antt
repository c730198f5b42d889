use Rattle.std.proofs.Common.{rules, ◌≤◌, refl, sym, ap, subst, ◌∙◌}
use Rattle.commit_book.specs.declared.parts.Parts.{Parts}
use Rattle.step_eval.specs.declared.act.Act.TheVariants as own
use Rattle.commit_book.proofs.Acting.Acted.{in_ok, named_so, needs_act, needs_few, needs_fit, needs_fits, needs_there, needs_valid}
use Rattle.commit_book.proofs.Acting.Lasting.{pin_lasts}
use Rattle.commit_book.proofs.Acting.Needed.{nodes_above}
use Rattle.commit_book.proofs.Keeping.SeenAfter.{kept_same}
use Rattle.commit_book.proofs.Acting.SingleActs.{few_at, may_begin}
use Rattle.comm_graph.specs.Edge.{NodeList}
use Rattle.std.proofs.lemmas.Bool.{false≢true}
use Rattle.commit_book.proofs.parts.Parts.pin.Goals as goal

pub plan_node-requires : goal.plan_node-requires
plan_node-requires c = record { few = few_at c.args.job.now c.args.self.now c.args.lease.now c.args.progress c.requires.may }

pub returns-then-is_err-clause-back : goal.returns-then-is_err-clause-back
returns-then-is_err-clause-back c = refl

pub returns-then-is_err-clause-err : goal.returns-then-is_err-clause-err
returns-then-is_err-clause-err c = c.plan_node.ensures.before

pub returns-then-is_err-clause-kept : goal.returns-then-is_err-clause-kept
returns-then-is_err-clause-kept c =
    kept_same c.args.job.now c.args.self.now (c.plan_node.new.self) (c.plan_node.ensures.before) c.requires.may.kept

pub begin-control-requires : goal.begin-control-requires
begin-control-requires c =
    may_begin c.args.job.now c.args.self.now c.args.lease.now c.args.progress c.requires.may (c.plan_node.new.self) (c.plan_node.ensures.before) (in_ok c.plan_node.result c.is_err.result c.plan_node.ensures.spare c.is_err.ensures.value c.if-is_err.false)

pub push-q-requires-clause-more : goal.push-q-requires-clause-more
push-q-requires-clause-more c = c.begin-control.ensures.more

pub push-q-requires-clause-label : goal.push-q-requires-clause-label
push-q-requires-clause-label c =
    named_so c.args.job.now c.args.self.now c.args.lease.now c.args.progress c.requires.may c.thread.result c.thread.ensures

pub add-requires-clause-spare : goal.add-requires-clause-spare
add-requires-clause-spare c =
    subst (λ (k : NodeList). 1 ≤ k.spare) (sym (ap (λ (k : Parts). k.graph) c.push-q.ensures.rest ∙ ap (λ (k : Parts). k.graph) c.begin-control.ensures.rest)) (in_ok c.plan_node.result c.is_err.result c.plan_node.ensures.node c.is_err.ensures.value c.if-is_err.false)

pub add-requires-clause-above : goal.add-requires-clause-above
add-requires-clause-above c =
    nodes_above c.args.job.now c.args.self.now c.args.lease.now c.args.progress c.requires.may (c.plan_node.new.self) c.begin-control.new.self (c.plan_node.ensures.before) c.begin-control.ensures.history c.begin-control.ensures.rest c.push-q.new.self.graph.nodes (ap (λ (k : Parts). k.graph.nodes) c.push-q.ensures.rest) c.push-q.result.0 c.push-q.ensures.number

pub add-requires-clause-read : goal.add-requires-clause-read
add-requires-clause-read c = λ p h. absurd (false≢true h)

pub answer-requires-clause-there : goal.answer-requires-clause-there
answer-requires-clause-there c =
    needs_there c.args.job.now c.args.self.now c.args.lease.now c.args.progress c.requires.may (c.plan_node.new.self) c.begin-control.new.self (record c.push-q.new.self { graph = c.add.new.self }) (c.plan_node.ensures.before) c.begin-control.ensures.rest (ap (λ k. k.slots) c.push-q.ensures.rest) c.thread-3.result c.thread-3.ensures

pub answer-requires-clause-few : goal.answer-requires-clause-few
answer-requires-clause-few c =
    needs_few c.args.job.now c.args.self.now c.args.lease.now c.args.progress c.requires.may (c.plan_node.new.self) c.begin-control.new.self (record c.push-q.new.self { graph = c.add.new.self }) (c.plan_node.ensures.before) c.begin-control.ensures.rest (ap (λ k. k.slots) c.push-q.ensures.rest) (ap (λ (k : Parts). k.tallies.faulted) c.push-q.ensures.rest)

pub answer-requires-clause-valid : goal.answer-requires-clause-valid
answer-requires-clause-valid c =
    needs_valid c.args.job.now c.args.self.now c.args.lease.now c.args.progress c.requires.may c.deref.result.now (c.deref.ensures ∙ c.program.ensures.value)

pub answer-requires-clause-fits : goal.answer-requires-clause-fits
answer-requires-clause-fits c =
    needs_fits c.args.job.now c.args.self.now c.args.lease.now c.args.progress c.requires.may c.deref.result.now c.begin-control.result (c.deref.ensures ∙ c.program.ensures.value) c.begin-control.ensures.end

pub answer-requires-clause-fit : goal.answer-requires-clause-fit
answer-requires-clause-fit c =
    needs_fit c.args.job.now c.args.self.now c.args.lease.now c.args.progress c.requires.may (c.plan_node.new.self) c.begin-control.new.self (record c.push-q.new.self { graph = c.add.new.self }) (c.plan_node.ensures.before) c.begin-control.ensures.rest (ap (λ k. k.slots) c.push-q.ensures.rest) c.deref.result.now (c.deref.ensures ∙ c.program.ensures.value)

pub answer-requires-clause-act : goal.answer-requires-clause-act
answer-requires-clause-act c =
    needs_act c.args.job.now c.args.self.now c.args.lease.now c.args.progress c.requires.may own.Pin c.requires.at c.begin-control.result c.begin-control.ensures.end

pub returns : goal.returns
returns c =
    let lasts = pin_lasts c.args.job.now c.args.self.now c.args.lease.now c.args.progress c.requires.may (c.plan_node.new.self) c.begin-control.new.self (c.plan_node.ensures.before) c.begin-control.ensures.history c.begin-control.ensures.rest c.push-q.new.self c.answer.new.self c.thread.result c.thread.ensures c.push-q.ensures.rest c.deref.result.now c.thread-3.result c.begin-control.result (c.deref.ensures ∙ c.program.ensures.value) c.thread-3.ensures c.begin-control.ensures.end c.push-q.result c.push-q.ensures.number c.thread-2.result c.thread-2.ensures c.requires.at c.push-q.ensures.history c.add.new.self (ap (λ (k : NodeList). k.nodes) c.add.ensures) c.unit.result c.unit.ensures c.answer.ensures in
    record { done = lasts.0; back = search rules; err = search rules; kept = lasts.1 }
