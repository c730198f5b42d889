use Rattle.std.proofs.Common.{rules, ℕ, ◌<◌, ◌≤◌, refl, sym, ap, subst, ◌∙◌}
use Rattle.commit_book.specs.declared.parts.Parts.{Parts}
use Rattle.commit_book.proofs.Acting.Acted.{named_so, needs_few, needs_there}
use Rattle.commit_book.proofs.Acting.Lasted.{get_lasts}
use Rattle.commit_book.proofs.Acting.Narrow.{narrow}
use Rattle.commit_book.proofs.Acting.Needed.{got_before, got_there, held_at, nodes_above, read_at, read_before, save_behind, there_low, there_named}
use Rattle.commit_book.proofs.Keeping.SeenAfter.{kept_same}
use Rattle.commit_book.proofs.Acting.SingleActs.{few_at, may_begin}
use Rattle.comm_graph.specs.Edge.{NodeList}
use Rattle.checkpoint_store.specs.Saved.{Saved}
use Rattle.step_eval.specs.ControlView.{ControlView, Fits, expr_of}
use Rattle.std.proofs.Common.{◌≡◌}
use Rattle.std.specs.Prelude.{is_some}
use Rattle.step_eval.specs.Asked.{act_next}
use Rattle.commit_book.proofs.Acting.Acted.{needs_fits}
use Rattle.language.specs.Look.{answered}
use Rattle.std.specs.Prelude.{IfSome}
use Rattle.ref_log.specs.Log.{Write, last_of, writes_of}
use Rattle.std.proofs.lemmas.Bool.{eqb-true}
use Rattle.stab_code.specs.Program.{ProgramParts}
use Rattle.commit_book.proofs.parts.Parts.get.Goals as goal

pub plan_get-requires-clause-few : goal.plan_get-requires-clause-few
plan_get-requires-clause-few c =
    few_at c.args.job.now c.args.self.now c.args.lease.now c.args.progress c.requires.may

pub plan_get-requires-clause-there : goal.plan_get-requires-clause-there
plan_get-requires-clause-there c =
    got_before c.args.job.now c.args.self.now c.args.lease.now c.args.progress c.requires.may c.args.r c.requires.at

pub plan_get-requires-clause-act : goal.plan_get-requires-clause-act
plan_get-requires-clause-act c =
    ap (λ (g : ControlView). is_some (act_next g)) c.end.ensures.end ∙ ap is_some c.requires.at.next

pub plan_get-requires-clause-fits : goal.plan_get-requires-clause-fits
plan_get-requires-clause-fits c =
    needs_fits c.args.job.now c.args.self.now c.args.lease.now c.args.progress c.requires.may c.deref.result.now c.end.result.now (c.deref.ensures ∙ c.program.ensures.value) c.end.ensures.end

pub returns-in_default-clause-back : goal.returns-in_default-clause-back
returns-in_default-clause-back c = refl

pub returns-in_default-clause-err : goal.returns-in_default-clause-err
returns-in_default-clause-err c = c.in_default.ensures.before

pub returns-in_default-clause-kept : goal.returns-in_default-clause-kept
returns-in_default-clause-kept c =
    kept_same c.args.job.now c.args.self.now c.plan_get.new.self c.in_default.ensures.before c.requires.may.kept

pub begin-end-requires : goal.begin-end-requires
begin-end-requires c =
    may_begin c.args.job.now c.args.self.now c.args.lease.now c.args.progress c.requires.may (c.plan_get.new.self) (c.in-Ok.ensures.before) (c.in-Ok.ensures.spare)

pub push-q-requires-clause-more : goal.push-q-requires-clause-more
push-q-requires-clause-more c = c.begin-end.ensures.more

pub push-q-requires-clause-label : goal.push-q-requires-clause-label
push-q-requires-clause-label c =
    (named_so c.args.job.now c.args.self.now c.args.lease.now c.args.progress c.requires.may c.thread.result c.thread.ensures, there_named c.args.job.now c.args.self.now c.args.lease.now c.args.progress c.requires.may (c.plan_get.new.self) c.begin-end.new.self (c.in-Ok.ensures.before) c.begin-end.ensures.history c.begin-end.ensures.rest c.args.r (got_there c.args.job.now c.args.self.now c.args.lease.now c.args.progress c.requires.may (c.plan_get.new.self) c.begin-end.new.self (c.in-Ok.ensures.before) c.begin-end.ensures.history c.begin-end.ensures.rest c.args.r c.requires.at))

pub save-requires-clause-spare : goal.save-requires-clause-spare
save-requires-clause-spare c =
    subst (λ (k : Saved ControlView). 1 ≤ k.spare) (sym (ap (λ (k : Parts). k.store) c.push-q.ensures.rest ∙ ap (λ (k : Parts). k.store) c.begin-end.ensures.rest)) c.in-Ok.ensures.place

pub save-requires-clause-number : goal.save-requires-clause-number
save-requires-clause-number c =
    narrow c.args.job.now c.args.self.now c.args.lease.now c.args.progress c.requires.may c.plan_get.new.self c.begin-end.new.self c.in-Ok.ensures.before c.begin-end.ensures.history c.push-q.result.0 c.push-q.ensures.number

pub save-requires-clause-last : goal.save-requires-clause-last
save-requires-clause-last c =
    save_behind c.args.job.now c.args.self.now c.args.lease.now c.args.progress c.requires.may (c.plan_get.new.self) c.begin-end.new.self (c.in-Ok.ensures.before) c.begin-end.ensures.history c.begin-end.ensures.rest c.push-q.new.self.store (ap (λ (k : Parts). k.store.controls) c.push-q.ensures.rest) c.push-q.result c.thread-2.result c.push-q.ensures.number

pub add-requires-clause-spare : goal.add-requires-clause-spare
add-requires-clause-spare c =
    subst (λ (k : NodeList). 1 ≤ k.spare) (sym (ap (λ (k : Parts). k.graph) c.push-q.ensures.rest ∙ ap (λ (k : Parts). k.graph) c.begin-end.ensures.rest)) (c.in-Ok.ensures.node)

pub add-requires-clause-above : goal.add-requires-clause-above
add-requires-clause-above c =
    nodes_above c.args.job.now c.args.self.now c.args.lease.now c.args.progress c.requires.may (c.plan_get.new.self) c.begin-end.new.self (c.in-Ok.ensures.before) c.begin-end.ensures.history c.begin-end.ensures.rest c.push-q.new.self.graph.nodes (ap (λ (k : Parts). k.graph.nodes) c.push-q.ensures.rest) c.push-q.result.0 c.push-q.ensures.number

pub add-requires-clause-read : goal.add-requires-clause-read
add-requires-clause-read c =
    λ p h. subst (λ (n : ℕ). n < c.push-q.result.0) (sym (eqb-true p c.in-Ok.written.0 h)) (read_before c.args.job.now c.args.self.now c.args.lease.now c.args.progress c.requires.may (c.plan_get.new.self) c.begin-end.new.self (c.in-Ok.ensures.before) c.begin-end.ensures.history c.begin-end.ensures.rest c.args.r c.in-Ok.written.0 c.push-q.result.0 (read_at c.args.job.now c.args.self.now c.args.lease.now c.args.progress c.requires.may (c.plan_get.new.self) c.begin-end.new.self (c.in-Ok.ensures.before) c.begin-end.ensures.history c.begin-end.ensures.rest c.args.r c.requires.at c.in-Ok.written.0 (expr_of c.args.job.now.program c.in-Ok.control) (λ d. answered (expr_of c.args.job.now.program c.args.progress.end) d) (subst (λ (g : ControlView). IfSome (last_of (writes_of c.args.self.now.log c.args.r.0)) (λ (w : Write). (c.in-Ok.written.0 ≡ w.number) × (expr_of c.args.job.now.program c.in-Ok.control ≡ answered (expr_of c.args.job.now.program g) w.value))) c.end.ensures.end (subst (λ (p : ProgramParts). IfSome (last_of (writes_of c.args.self.now.log c.args.r.0)) (λ (w : Write). (c.in-Ok.written.0 ≡ w.number) × (expr_of p c.in-Ok.control ≡ answered (expr_of p c.end.result.now) w.value))) (c.deref.ensures ∙ c.program.ensures.value) c.in-Ok.ensures.read))).0 c.push-q.ensures.number)

pub go_on-requires-clause-there : goal.go_on-requires-clause-there
go_on-requires-clause-there c =
    needs_there c.args.job.now c.args.self.now c.args.lease.now c.args.progress c.requires.may (c.plan_get.new.self) c.begin-end.new.self (record c.push-q.new.self { store = c.save.new.self; graph = c.add.new.self }) (c.in-Ok.ensures.before) c.begin-end.ensures.rest (ap (λ k. k.slots) c.push-q.ensures.rest) c.thread-4.result c.thread-4.ensures

pub go_on-requires-clause-few : goal.go_on-requires-clause-few
go_on-requires-clause-few c =
    needs_few c.args.job.now c.args.self.now c.args.lease.now c.args.progress c.requires.may (c.plan_get.new.self) c.begin-end.new.self (record c.push-q.new.self { store = c.save.new.self; graph = c.add.new.self }) (c.in-Ok.ensures.before) c.begin-end.ensures.rest (ap (λ k. k.slots) c.push-q.ensures.rest) (ap (λ (k : Parts). k.tallies.faulted) c.push-q.ensures.rest)

pub returns : goal.returns
returns c =
    let lasts = get_lasts c.args.job.now c.args.self.now c.args.lease.now c.args.progress c.requires.may (c.plan_get.new.self) c.begin-end.new.self (c.in-Ok.ensures.before) c.begin-end.ensures.history c.begin-end.ensures.rest c.push-q.new.self c.go_on.new.self c.thread.result c.thread.ensures c.push-q.ensures.rest c.thread-4.result c.thread-4.ensures c.go_on.result c.in-Ok.control (subst (λ (p : ProgramParts). Fits p c.in-Ok.control) (c.deref.ensures ∙ c.program.ensures.value) c.in-Ok.ensures.fits) c.push-q.result c.push-q.ensures.number c.thread-2.result c.thread-3.result c.thread-2.ensures c.thread-3.ensures c.save.new.self c.begin-end.result c.begin-end.ensures.end c.save.ensures.saved c.add.new.self c.go_on.ensures.before c.go_on.ensures.gone c.args.r c.requires.at (held_at c.args.job.now c.args.self.now c.args.lease.now c.args.progress c.requires.may (c.plan_get.new.self) c.begin-end.new.self (c.in-Ok.ensures.before) c.begin-end.ensures.history c.begin-end.ensures.rest c.args.r c.requires.at) (there_low c.args.job.now c.args.self.now c.args.lease.now c.args.progress c.requires.may (c.plan_get.new.self) c.begin-end.new.self (c.in-Ok.ensures.before) c.begin-end.ensures.history c.begin-end.ensures.rest c.args.r (got_there c.args.job.now c.args.self.now c.args.lease.now c.args.progress c.requires.may (c.plan_get.new.self) c.begin-end.new.self (c.in-Ok.ensures.before) c.begin-end.ensures.history c.begin-end.ensures.rest c.args.r c.requires.at)) c.push-q.ensures.history c.in-Ok.written (ap (λ (k : NodeList). k.nodes) c.add.ensures) (read_at c.args.job.now c.args.self.now c.args.lease.now c.args.progress c.requires.may (c.plan_get.new.self) c.begin-end.new.self (c.in-Ok.ensures.before) c.begin-end.ensures.history c.begin-end.ensures.rest c.args.r c.requires.at c.in-Ok.written.0 (expr_of c.args.job.now.program c.in-Ok.control) (λ d. answered (expr_of c.args.job.now.program c.args.progress.end) d) (subst (λ (g : ControlView). IfSome (last_of (writes_of c.args.self.now.log c.args.r.0)) (λ (w : Write). (c.in-Ok.written.0 ≡ w.number) × (expr_of c.args.job.now.program c.in-Ok.control ≡ answered (expr_of c.args.job.now.program g) w.value))) c.end.ensures.end (subst (λ (p : ProgramParts). IfSome (last_of (writes_of c.args.self.now.log c.args.r.0)) (λ (w : Write). (c.in-Ok.written.0 ≡ w.number) × (expr_of p c.in-Ok.control ≡ answered (expr_of p c.end.result.now) w.value))) (c.deref.ensures ∙ c.program.ensures.value) c.in-Ok.ensures.read))) in
    record { done = lasts.0; back = search rules; err = search rules; kept = lasts.1 }
