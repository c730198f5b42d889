use Rattle.std.proofs.Common.{rules, ◌≤◌, length, refl, sym, ap, subst, ◌∙◌}
use Rattle.commit_book.specs.declared.parts.Parts.{Parts}
use Rattle.step_eval.specs.declared.act.Act.TheVariants as own
use Rattle.commit_book.proofs.Acting.Acted.{named_so, needs_act, needs_few, needs_fit, needs_fits, needs_there, needs_valid}
use Rattle.commit_book.proofs.Acting.Lasting.{set_lasts}
use Rattle.commit_book.proofs.Acting.Needed.{nodes_above, set_there, there_low, there_named, write_allowed}
use Rattle.commit_book.proofs.Keeping.SeenAfter.{kept_same}
use Rattle.commit_book.proofs.Acting.SingleActs.{few_at, may_begin}
use Rattle.comm_graph.specs.Edge.{NodeList}
use Rattle.std.proofs.lemmas.Bool.{false≢true}
use Rattle.ref_log.specs.Log.{Log}
use Rattle.std.proofs.Common.{List}
use Rattle.stab_base.specs.Datum.{Datum}
use Rattle.step_eval.specs.Asked.{operands_of}
use Rattle.commit_book.proofs.Acting.Lasting.{two_long}
use Rattle.step_eval.specs.Acts.{second_of}
use Rattle.commit_book.proofs.parts.Parts.set.Goals as goal

pub plan_write-requires : goal.plan_write-requires
plan_write-requires c = record { few = few_at c.args.job.now c.args.self.now c.args.lease.now c.args.progress c.requires.may }

pub second-requires : goal.second-requires
second-requires c =
    subst (λ (vs : List Datum). 2 ≤ length vs) (sym (c.operands.ensures ∙ ap operands_of c.end.ensures.end)) (two_long (length (operands_of c.args.progress.end)) c.requires.at.operands)

pub returns-in_default-clause-back : goal.returns-in_default-clause-back
returns-in_default-clause-back c = refl

pub returns-in_default-clause-err : goal.returns-in_default-clause-err
returns-in_default-clause-err c = c.in_default.ensures.before

pub returns-in_default-clause-kept : goal.returns-in_default-clause-kept
returns-in_default-clause-kept c =
    kept_same c.args.job.now c.args.self.now c.plan_write.new.self c.in_default.ensures.before c.requires.may.kept

pub begin-control-requires : goal.begin-control-requires
begin-control-requires c =
    may_begin c.args.job.now c.args.self.now c.args.lease.now c.args.progress c.requires.may (c.plan_write.new.self) (c.in-Ok.ensures.before) (c.in-Ok.ensures.spare)

pub push-q-requires-clause-more : goal.push-q-requires-clause-more
push-q-requires-clause-more c = c.begin-control.ensures.more

pub push-q-requires-clause-label : goal.push-q-requires-clause-label
push-q-requires-clause-label c =
    (named_so c.args.job.now c.args.self.now c.args.lease.now c.args.progress c.requires.may c.thread.result c.thread.ensures, there_named c.args.job.now c.args.self.now c.args.lease.now c.args.progress c.requires.may (c.plan_write.new.self) c.begin-control.new.self (c.in-Ok.ensures.before) c.begin-control.ensures.history c.begin-control.ensures.rest c.args.r (set_there c.args.job.now c.args.self.now c.args.lease.now c.args.progress c.requires.may (c.plan_write.new.self) c.begin-control.new.self (c.in-Ok.ensures.before) c.begin-control.ensures.history c.begin-control.ensures.rest c.args.r c.requires.at))

pub write-requires-clause-allowed : goal.write-requires-clause-allowed
write-requires-clause-allowed c =
    write_allowed c.args.job.now c.args.self.now c.args.lease.now c.args.progress c.requires.may (c.plan_write.new.self) c.begin-control.new.self (c.in-Ok.ensures.before) c.begin-control.ensures.history c.begin-control.ensures.rest c.push-q.new.self.log (ap (λ (k : Parts). k.log) c.push-q.ensures.rest) c.args.r (set_there c.args.job.now c.args.self.now c.args.lease.now c.args.progress c.requires.may (c.plan_write.new.self) c.begin-control.new.self (c.in-Ok.ensures.before) c.begin-control.ensures.history c.begin-control.ensures.rest c.args.r c.requires.at) c.push-q.result.0 c.push-q.ensures.number c.in-Ok.v

pub write-requires-clause-spare : goal.write-requires-clause-spare
write-requires-clause-spare c =
    subst (λ (k : Log). 1 ≤ k.spare) (sym (ap (λ (k : Parts). k.log) c.push-q.ensures.rest ∙ ap (λ (k : Parts). k.log) c.begin-control.ensures.rest)) c.in-Ok.ensures.place.0

pub add-requires-clause-spare : goal.add-requires-clause-spare
add-requires-clause-spare c =
    subst (λ (k : NodeList). 1 ≤ k.spare) (sym (ap (λ (k : Parts). k.graph) c.push-q.ensures.rest ∙ ap (λ (k : Parts). k.graph) c.begin-control.ensures.rest)) (c.in-Ok.ensures.node)

pub add-requires-clause-above : goal.add-requires-clause-above
add-requires-clause-above c =
    nodes_above c.args.job.now c.args.self.now c.args.lease.now c.args.progress c.requires.may (c.plan_write.new.self) c.begin-control.new.self (c.in-Ok.ensures.before) c.begin-control.ensures.history c.begin-control.ensures.rest c.push-q.new.self.graph.nodes (ap (λ (k : Parts). k.graph.nodes) c.push-q.ensures.rest) c.push-q.result.0 c.push-q.ensures.number

pub add-requires-clause-read : goal.add-requires-clause-read
add-requires-clause-read c = λ p h. absurd (false≢true h)

pub answer-requires-clause-there : goal.answer-requires-clause-there
answer-requires-clause-there c =
    needs_there c.args.job.now c.args.self.now c.args.lease.now c.args.progress c.requires.may (c.plan_write.new.self) c.begin-control.new.self (record c.push-q.new.self { log = c.write.new.self; graph = c.add.new.self }) (c.in-Ok.ensures.before) c.begin-control.ensures.rest (ap (λ k. k.slots) c.push-q.ensures.rest) c.thread-3.result c.thread-3.ensures

pub answer-requires-clause-few : goal.answer-requires-clause-few
answer-requires-clause-few c =
    needs_few c.args.job.now c.args.self.now c.args.lease.now c.args.progress c.requires.may (c.plan_write.new.self) c.begin-control.new.self (record c.push-q.new.self { log = c.write.new.self; graph = c.add.new.self }) (c.in-Ok.ensures.before) c.begin-control.ensures.rest (ap (λ k. k.slots) c.push-q.ensures.rest) (ap (λ (k : Parts). k.tallies.faulted) c.push-q.ensures.rest)

pub answer-requires-clause-valid : goal.answer-requires-clause-valid
answer-requires-clause-valid c =
    needs_valid c.args.job.now c.args.self.now c.args.lease.now c.args.progress c.requires.may c.deref.result.now (c.deref.ensures ∙ c.program.ensures.value)

pub answer-requires-clause-fits : goal.answer-requires-clause-fits
answer-requires-clause-fits c =
    needs_fits c.args.job.now c.args.self.now c.args.lease.now c.args.progress c.requires.may c.deref.result.now c.begin-control.result (c.deref.ensures ∙ c.program.ensures.value) c.begin-control.ensures.end

pub answer-requires-clause-fit : goal.answer-requires-clause-fit
answer-requires-clause-fit c =
    needs_fit c.args.job.now c.args.self.now c.args.lease.now c.args.progress c.requires.may (c.plan_write.new.self) c.begin-control.new.self (record c.push-q.new.self { log = c.write.new.self; graph = c.add.new.self }) (c.in-Ok.ensures.before) c.begin-control.ensures.rest (ap (λ k. k.slots) c.push-q.ensures.rest) c.deref.result.now (c.deref.ensures ∙ c.program.ensures.value)

pub answer-requires-clause-act : goal.answer-requires-clause-act
answer-requires-clause-act c =
    needs_act c.args.job.now c.args.self.now c.args.lease.now c.args.progress c.requires.may (own.Set c.args.r) c.requires.at c.begin-control.result c.begin-control.ensures.end

pub returns : goal.returns
returns c =
    let lasts = set_lasts c.args.job.now c.args.self.now c.args.lease.now c.args.progress c.requires.may (c.plan_write.new.self) c.begin-control.new.self (c.in-Ok.ensures.before) c.begin-control.ensures.history c.begin-control.ensures.rest c.push-q.new.self c.answer.new.self c.thread.result c.thread.ensures c.push-q.ensures.rest c.deref.result.now c.thread-3.result c.begin-control.result (c.deref.ensures ∙ c.program.ensures.value) c.thread-3.ensures c.begin-control.ensures.end c.push-q.result c.push-q.ensures.number c.thread-2.result c.thread-2.ensures c.args.r c.requires.at (set_there c.args.job.now c.args.self.now c.args.lease.now c.args.progress c.requires.may (c.plan_write.new.self) c.begin-control.new.self (c.in-Ok.ensures.before) c.begin-control.ensures.history c.begin-control.ensures.rest c.args.r c.requires.at) (there_low c.args.job.now c.args.self.now c.args.lease.now c.args.progress c.requires.may (c.plan_write.new.self) c.begin-control.new.self (c.in-Ok.ensures.before) c.begin-control.ensures.history c.begin-control.ensures.rest c.args.r (set_there c.args.job.now c.args.self.now c.args.lease.now c.args.progress c.requires.may (c.plan_write.new.self) c.begin-control.new.self (c.in-Ok.ensures.before) c.begin-control.ensures.history c.begin-control.ensures.rest c.args.r c.requires.at)) c.push-q.ensures.history c.write.new.self c.in-Ok.v (c.in-Ok.ensures.value ∙ c.second.ensures ∙ ap second_of (c.operands.ensures ∙ ap operands_of c.end.ensures.end)) c.write.ensures.after c.add.new.self (ap (λ (k : NodeList). k.nodes) c.add.ensures) c.unit.result c.unit.ensures c.answer.ensures in
    record { done = lasts.0; back = search rules; err = search rules; kept = lasts.1 }
