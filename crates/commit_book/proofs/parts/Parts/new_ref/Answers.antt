use Rattle.std.proofs.Common.{rules, ◌+◌, ◌<◌, ◌≤◌, length, refl, sym, ap, subst, ◌∙◌, arith}
use Rattle.commit_book.specs.declared.parts.Parts.{Parts}
use Rattle.step_eval.specs.declared.act.Act.TheVariants as own
use Rattle.commit_book.proofs.Acting.Acted.{named_so, needs_act, needs_few, needs_fit, needs_fits, needs_there, needs_valid}
use Rattle.commit_book.proofs.Acting.Lasting.{ref_lasts}
use Rattle.commit_book.proofs.Acting.Needed.{make_allowed, nodes_above, ref_away, ref_low, ref_named}
use Rattle.commit_book.proofs.Keeping.SeenAfter.{kept_same}
use Rattle.commit_book.proofs.Acting.SingleActs.{few_at, may_begin}
use Rattle.comm_graph.specs.Edge.{NodeList}
use Rattle.std.proofs.lemmas.Bool.{false≢true}
use Rattle.ref_log.specs.Log.{Log}
use Rattle.std.proofs.Common.{List}
use Rattle.stab_base.specs.Datum.{Datum}
use Rattle.step_eval.specs.Asked.{operands_of}
use Rattle.commit_book.proofs.Acting.Lasting.{one_long}
use Rattle.step_eval.specs.Acts.{first_of}
use Rattle.commit_book.proofs.parts.Parts.new_ref.Goals as goal

pub plan_write-requires : goal.plan_write-requires
plan_write-requires c = record { few = few_at c.args.job.now c.args.self.now c.args.lease.now c.args.progress c.requires.may }

pub first-requires : goal.first-requires
first-requires c =
    subst (λ (vs : List Datum). 1 ≤ length vs) (sym (c.operands.ensures ∙ ap operands_of c.end.ensures.end)) (one_long (length (operands_of c.args.progress.end)) c.requires.at.operands)

pub returns-in_default-clause-back : goal.returns-in_default-clause-back
returns-in_default-clause-back c = refl

pub returns-in_default-clause-err : goal.returns-in_default-clause-err
returns-in_default-clause-err c = c.in_default.ensures.before

pub returns-in_default-clause-kept : goal.returns-in_default-clause-kept
returns-in_default-clause-kept c =
    kept_same c.args.job.now c.args.self.now c.plan_write.new.self c.in_default.ensures.before c.requires.may.kept

pub begin-control-requires : goal.begin-control-requires
begin-control-requires c =
    may_begin c.args.job.now c.args.self.now c.args.lease.now c.args.progress c.requires.may (c.plan_write.new.self) (c.in-Ok.ensures.before) (c.in-Ok.ensures.spare)

pub push-q-requires-clause-more : goal.push-q-requires-clause-more
push-q-requires-clause-more c = c.begin-control.ensures.more

pub push-q-requires-clause-label : goal.push-q-requires-clause-label
push-q-requires-clause-label c =
    (named_so c.args.job.now c.args.self.now c.args.lease.now c.args.progress c.requires.may c.thread.result c.thread.ensures, ref_named c.args.job.now c.args.self.now c.args.lease.now c.args.progress c.requires.may c.args.self.now.next_ref refl)

pub make-requires-clause-allowed : goal.make-requires-clause-allowed
make-requires-clause-allowed c =
    make_allowed c.args.job.now c.args.self.now c.args.lease.now c.args.progress c.requires.may (c.plan_write.new.self) c.begin-control.new.self (c.in-Ok.ensures.before) c.begin-control.ensures.history c.begin-control.ensures.rest c.push-q.new.self.log (ap (λ (k : Parts). k.log) c.push-q.ensures.rest) c.args.self.now.next_ref (sym (ap (λ (k : Parts). k.next_ref) c.begin-control.ensures.rest ∙ c.in-Ok.ensures.before.ref)) c.push-q.result.0 c.push-q.ensures.number c.in-Ok.v

pub make-requires-clause-place : goal.make-requires-clause-place
make-requires-clause-place c =
    subst (λ (k : Log). c.args.self.now.next_ref < k.places) (sym (ap (λ (k : Parts). k.log) c.push-q.ensures.rest ∙ ap (λ (k : Parts). k.log) c.begin-control.ensures.rest)) c.in-Ok.ensures.place.1

pub make-requires-clause-spare : goal.make-requires-clause-spare
make-requires-clause-spare c =
    subst (λ (k : Log). 1 ≤ k.spare) (sym (ap (λ (k : Parts). k.log) c.push-q.ensures.rest ∙ ap (λ (k : Parts). k.log) c.begin-control.ensures.rest)) c.in-Ok.ensures.place.0

pub add-requires-clause-spare : goal.add-requires-clause-spare
add-requires-clause-spare c =
    subst (λ (k : NodeList). 1 ≤ k.spare) (sym (ap (λ (k : Parts). k.graph) c.push-q.ensures.rest ∙ ap (λ (k : Parts). k.graph) c.begin-control.ensures.rest)) (c.in-Ok.ensures.node)

pub add-requires-clause-above : goal.add-requires-clause-above
add-requires-clause-above c =
    nodes_above c.args.job.now c.args.self.now c.args.lease.now c.args.progress c.requires.may (c.plan_write.new.self) c.begin-control.new.self (c.in-Ok.ensures.before) c.begin-control.ensures.history c.begin-control.ensures.rest c.push-q.new.self.graph.nodes (ap (λ (k : Parts). k.graph.nodes) c.push-q.ensures.rest) c.push-q.result.0 c.push-q.ensures.number

pub add-requires-clause-read : goal.add-requires-clause-read
add-requires-clause-read c = λ p h. absurd (false≢true h)

pub overflow_add-self : goal.overflow_add-self
overflow_add-self c =
    let low = ref_low c.args.job.now c.args.self.now c.args.lease.now c.args.progress c.requires.may in let same = ap (λ (k : Parts). k.next_ref) c.push-q.ensures.rest ∙ ap (λ (k : Parts). k.next_ref) c.begin-control.ensures.rest ∙ c.in-Ok.ensures.before.ref in omega (arith, low, same)

pub answer-requires-clause-there : goal.answer-requires-clause-there
answer-requires-clause-there c =
    needs_there c.args.job.now c.args.self.now c.args.lease.now c.args.progress c.requires.may (c.plan_write.new.self) c.begin-control.new.self (record c.push-q.new.self { log = c.make.new.self; graph = c.add.new.self; next_ref = c.push-q.new.self.next_ref + 1 }) (c.in-Ok.ensures.before) c.begin-control.ensures.rest (ap (λ k. k.slots) c.push-q.ensures.rest) c.thread-3.result c.thread-3.ensures

pub answer-requires-clause-few : goal.answer-requires-clause-few
answer-requires-clause-few c =
    needs_few c.args.job.now c.args.self.now c.args.lease.now c.args.progress c.requires.may (c.plan_write.new.self) c.begin-control.new.self (record c.push-q.new.self { log = c.make.new.self; graph = c.add.new.self; next_ref = c.push-q.new.self.next_ref + 1 }) (c.in-Ok.ensures.before) c.begin-control.ensures.rest (ap (λ k. k.slots) c.push-q.ensures.rest) (ap (λ (k : Parts). k.tallies.faulted) c.push-q.ensures.rest)

pub answer-requires-clause-valid : goal.answer-requires-clause-valid
answer-requires-clause-valid c =
    needs_valid c.args.job.now c.args.self.now c.args.lease.now c.args.progress c.requires.may c.deref.result.now (c.deref.ensures ∙ c.program.ensures.value)

pub answer-requires-clause-fits : goal.answer-requires-clause-fits
answer-requires-clause-fits c =
    needs_fits c.args.job.now c.args.self.now c.args.lease.now c.args.progress c.requires.may c.deref.result.now c.begin-control.result (c.deref.ensures ∙ c.program.ensures.value) c.begin-control.ensures.end

pub answer-requires-clause-fit : goal.answer-requires-clause-fit
answer-requires-clause-fit c =
    needs_fit c.args.job.now c.args.self.now c.args.lease.now c.args.progress c.requires.may (c.plan_write.new.self) c.begin-control.new.self (record c.push-q.new.self { log = c.make.new.self; graph = c.add.new.self; next_ref = c.push-q.new.self.next_ref + 1 }) (c.in-Ok.ensures.before) c.begin-control.ensures.rest (ap (λ k. k.slots) c.push-q.ensures.rest) c.deref.result.now (c.deref.ensures ∙ c.program.ensures.value)

pub answer-requires-clause-act : goal.answer-requires-clause-act
answer-requires-clause-act c =
    needs_act c.args.job.now c.args.self.now c.args.lease.now c.args.progress c.requires.may own.NewRef c.requires.at c.begin-control.result c.begin-control.ensures.end

pub returns : goal.returns
returns c =
    let lasts = ref_lasts c.args.job.now c.args.self.now c.args.lease.now c.args.progress c.requires.may (c.plan_write.new.self) c.begin-control.new.self (c.in-Ok.ensures.before) c.begin-control.ensures.history c.begin-control.ensures.rest c.push-q.new.self c.answer.new.self c.thread.result c.thread.ensures c.push-q.ensures.rest c.deref.result.now c.thread-3.result c.begin-control.result (c.deref.ensures ∙ c.program.ensures.value) c.thread-3.ensures c.begin-control.ensures.end c.push-q.result c.push-q.ensures.number c.thread-2.result c.thread-2.ensures (record { 0 = c.args.self.now.next_ref }) refl c.requires.at (ref_away c.args.job.now c.args.self.now c.args.lease.now c.args.progress c.requires.may (c.plan_write.new.self) c.begin-control.new.self (c.in-Ok.ensures.before) c.begin-control.ensures.history c.begin-control.ensures.rest) c.push-q.ensures.history c.make.new.self c.in-Ok.v (c.in-Ok.ensures.value ∙ c.first.ensures ∙ ap first_of (c.operands.ensures ∙ ap operands_of c.end.ensures.end)) c.make.ensures.after c.add.new.self (ap (λ (k : NodeList). k.nodes) c.add.ensures) c.reference.result c.reference.ensures c.answer.ensures in
    record { done = lasts.0; back = search rules; err = search rules; kept = lasts.1 }
