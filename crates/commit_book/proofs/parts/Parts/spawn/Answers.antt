use Rattle.std.proofs.Common.{rules, ℕ, ◌<◌, ◌≤◌, [], ◌∷◌, ◌++◌, length, refl, sym, ap, subst, ◌∙◌}
use Rattle.std.specs.Prelude.{IsSome}
use Rattle.std.specs.List.{All}
use Rattle.stab_base.specs.declared.numbers.ThreadId.{ThreadId}
use Rattle.stab_code.specs.Program.{ProgramParts}
use Rattle.stab_code.specs.Valid.{IsValid}
use Rattle.stab_journal.specs.declared.event.Label.TheVariants.{Spawn}
use Rattle.stab_journal.specs.Event.{IsLabel}
use Rattle.comm_graph.specs.declared.node.NodeFor.TheVariants as node
use Rattle.comm_graph.specs.Node.{Node}
use Rattle.language.specs.Outcome.{called}
use Rattle.language.specs.Program.{body}
use Rattle.step_eval.specs.Asked.{act_next, operands_of}
use Rattle.step_eval.specs.ControlView.{ControlView, Fits}
use Rattle.step_eval.specs.Turns.{Takes}
use Rattle.commit_book.specs.declared.parts.Parts.{Parts}
use Rattle.commit_book.specs.Rows.{thread}
use Rattle.commit_book.specs.Threads.{AllControls}
use Rattle.commit_book.proofs.Acting.PairNeeds.{child_label, few_now, nodes_low, numbers_within}
use Rattle.commit_book.proofs.Keeping.SeenAfter.{kept_same}
use Rattle.commit_book.proofs.Acting.SingleActs.{few_at, may_begin}
use Rattle.commit_book.proofs.Acting.SpawnCalls.{few_joined, fit_joined, there_joined, start_lasts}
use Rattle.commit_book.proofs.parts.Parts.spawn.Goals as goal

pub plan_spawn-requires-clause-few : goal.plan_spawn-requires-clause-few
plan_spawn-requires-clause-few c = few_at c.args.job.now c.args.self.now c.args.lease.now c.args.progress c.requires.may

pub plan_spawn-requires-clause-takes : goal.plan_spawn-requires-clause-takes
plan_spawn-requires-clause-takes c =
    subst (λ (p : ProgramParts). Takes p c.args.f (length (operands_of c.end.result.now))) (sym (c.deref.ensures ∙ c.program.ensures.value))
    (subst (λ (g : ControlView). Takes c.args.job.now.program c.args.f (length (operands_of g))) (sym c.end.ensures.end) c.requires.at.operands)

pub returns-in_default-clause-back : goal.returns-in_default-clause-back
returns-in_default-clause-back c = refl

pub returns-in_default-clause-err : goal.returns-in_default-clause-err
returns-in_default-clause-err c = c.in_default.ensures.before

pub returns-in_default-clause-kept : goal.returns-in_default-clause-kept
returns-in_default-clause-kept c = kept_same c.args.job.now c.args.self.now c.plan_spawn.new.self c.in_default.ensures.before c.requires.may.kept

pub begin-control-requires : goal.begin-control-requires
begin-control-requires c = may_begin c.args.job.now c.args.self.now c.args.lease.now c.args.progress c.requires.may c.plan_spawn.new.self c.in-Ok.ensures.before c.in-Ok.ensures.spare

pub push-q-requires-clause-more : goal.push-q-requires-clause-more
push-q-requires-clause-more c = c.begin-control.ensures.more

pub push-q-requires-clause-label : goal.push-q-requires-clause-label
push-q-requires-clause-label c =
    subst (λ (k : ThreadId). IsLabel (Spawn k c.next_thread-u.result)) (sym (ap thread c.thread-t.ensures))
    (child_label c.args.job.now c.args.self.now c.args.lease.now c.args.progress c.requires.may c.next_thread-u.result c.plan_spawn.new.self.slots.next c.next_thread-u.ensures c.in-Ok.ensures.before.next)

pub add-requires-clause-spare : goal.add-requires-clause-spare
add-requires-clause-spare c =
    subst (λ (n : ℕ). 1 ≤ n) (sym (ap (λ (k : Parts). k.graph.spare) c.push-q.ensures.rest ∙ ap (λ (k : Parts). k.graph.spare) c.begin-control.ensures.rest)) c.in-Ok.ensures.node

pub add-requires-clause-above : goal.add-requires-clause-above
add-requires-clause-above c =
    subst (λ ns. All (λ (n : Node). n.number < c.push-q.result.0) ns) (sym (ap (λ (k : Parts). k.graph.nodes) c.push-q.ensures.rest))
    (nodes_low c.args.job.now c.args.self.now c.args.lease.now c.args.progress c.requires.may c.plan_spawn.new.self c.begin-control.new.self c.in-Ok.ensures.before c.begin-control.ensures.history c.begin-control.ensures.rest c.push-q.result c.push-q.ensures.number)

pub join-requires-clause-spare : goal.join-requires-clause-spare
join-requires-clause-spare c =
    subst (λ (n : ℕ). 1 ≤ n) (sym (ap (λ (k : Parts). k.slots.spare) c.push-q.ensures.rest ∙ ap (λ (k : Parts). k.slots.spare) c.begin-control.ensures.rest)) c.in-Ok.ensures.place

pub join-requires-clause-numbers : goal.join-requires-clause-numbers
join-requires-clause-numbers c =
    numbers_within c.args.job.now c.args.self.now c.args.lease.now c.args.progress c.requires.may c.push-q.new.self.slots.next
    (ap (λ (k : Parts). k.slots.next) c.push-q.ensures.rest ∙ ap (λ (k : Parts). k.slots.next) c.begin-control.ensures.rest ∙ c.in-Ok.ensures.before.next)

pub join-requires-clause-few : goal.join-requires-clause-few
join-requires-clause-few c =
    few_now c.args.job.now c.args.self.now c.args.lease.now c.args.progress c.requires.may c.push-q.new.self.tallies.faulted
    (ap (λ (k : Parts). k.tallies.faulted) c.push-q.ensures.rest ∙ ap (λ (k : Parts). k.tallies.faulted) c.begin-control.ensures.rest ∙ ap (λ k. k.faulted) c.in-Ok.ensures.before.tallies)

pub answer-requires-clause-there : goal.answer-requires-clause-there
answer-requires-clause-there c =
    let job = c.args.job.now in
    let child = c.in-Ok.child in
    let fits : Fits job.program child = subst (λ (p : ProgramParts). Fits p child) (c.deref.ensures ∙ c.program.ensures.value) c.in-Ok.ensures.fits in
    let joins = c.join.ensures job.program c.requires.may.kept.valid fits in
    let noted : Parts = record c.push-q.new.self { graph = c.add.new.self } in
    let threads = ap (λ (k : Parts). k.slots.threads) c.push-q.ensures.rest ∙ ap (λ (k : Parts). k.slots.threads) c.begin-control.ensures.rest ∙ c.in-Ok.ensures.before.threads in
    let next = ap (λ (k : Parts). k.slots.next) c.push-q.ensures.rest ∙ ap (λ (k : Parts). k.slots.next) c.begin-control.ensures.rest ∙ c.in-Ok.ensures.before.next in
    let count = ap (λ (k : Parts). k.tallies.faulted) c.push-q.ensures.rest ∙ ap (λ (k : Parts). k.tallies.faulted) c.begin-control.ensures.rest ∙ ap (λ k. k.faulted) c.in-Ok.ensures.before.tallies in
    there_joined job c.args.self.now c.args.lease.now c.args.progress c.requires.may noted c.join.new.self child joins threads next count c.thread-t.result.0 c.thread-t.ensures

pub answer-requires-clause-few : goal.answer-requires-clause-few
answer-requires-clause-few c =
    let job = c.args.job.now in
    let child = c.in-Ok.child in
    let fits : Fits job.program child = subst (λ (p : ProgramParts). Fits p child) (c.deref.ensures ∙ c.program.ensures.value) c.in-Ok.ensures.fits in
    let joins = c.join.ensures job.program c.requires.may.kept.valid fits in
    let noted : Parts = record c.push-q.new.self { graph = c.add.new.self } in
    let threads = ap (λ (k : Parts). k.slots.threads) c.push-q.ensures.rest ∙ ap (λ (k : Parts). k.slots.threads) c.begin-control.ensures.rest ∙ c.in-Ok.ensures.before.threads in
    let next = ap (λ (k : Parts). k.slots.next) c.push-q.ensures.rest ∙ ap (λ (k : Parts). k.slots.next) c.begin-control.ensures.rest ∙ c.in-Ok.ensures.before.next in
    let count = ap (λ (k : Parts). k.tallies.faulted) c.push-q.ensures.rest ∙ ap (λ (k : Parts). k.tallies.faulted) c.begin-control.ensures.rest ∙ ap (λ k. k.faulted) c.in-Ok.ensures.before.tallies in
    few_joined job c.args.self.now c.args.lease.now c.args.progress c.requires.may noted c.join.new.self child joins threads next count

pub answer-requires-clause-valid : goal.answer-requires-clause-valid
answer-requires-clause-valid c =
    subst (λ (p : ProgramParts). IsValid p) (sym (c.deref-2.ensures ∙ c.program-2.ensures.value)) c.requires.may.kept.valid

pub answer-requires-clause-fits : goal.answer-requires-clause-fits
answer-requires-clause-fits c =
    subst (λ (p : ProgramParts). Fits p c.begin-control.result) (sym (c.deref-2.ensures ∙ c.program-2.ensures.value))
    (subst (λ (g : ControlView). Fits c.args.job.now.program g) (sym c.begin-control.ensures.end) c.requires.may.made.fits)

pub answer-requires-clause-fit : goal.answer-requires-clause-fit
answer-requires-clause-fit c =
    let job = c.args.job.now in
    let child = c.in-Ok.child in
    let fits : Fits job.program child = subst (λ (p : ProgramParts). Fits p child) (c.deref.ensures ∙ c.program.ensures.value) c.in-Ok.ensures.fits in
    let joins = c.join.ensures job.program c.requires.may.kept.valid fits in
    let noted : Parts = record c.push-q.new.self { graph = c.add.new.self } in
    let threads = ap (λ (k : Parts). k.slots.threads) c.push-q.ensures.rest ∙ ap (λ (k : Parts). k.slots.threads) c.begin-control.ensures.rest ∙ c.in-Ok.ensures.before.threads in
    let next = ap (λ (k : Parts). k.slots.next) c.push-q.ensures.rest ∙ ap (λ (k : Parts). k.slots.next) c.begin-control.ensures.rest ∙ c.in-Ok.ensures.before.next in
    let count = ap (λ (k : Parts). k.tallies.faulted) c.push-q.ensures.rest ∙ ap (λ (k : Parts). k.tallies.faulted) c.begin-control.ensures.rest ∙ ap (λ k. k.faulted) c.in-Ok.ensures.before.tallies in
    subst (λ (p : ProgramParts). AllControls (Fits p) c.join.new.self.slots.threads) (sym (c.deref-2.ensures ∙ c.program-2.ensures.value))
    (fit_joined job c.args.self.now c.args.lease.now c.args.progress c.requires.may noted c.join.new.self child joins threads next count fits)

pub answer-requires-clause-act : goal.answer-requires-clause-act
answer-requires-clause-act c =
    subst (λ (g : ControlView). IsSome (act_next g)) (sym c.begin-control.ensures.end) (subst (λ o. IsSome o) (sym c.requires.at.next) refl)

pub returns : goal.returns
returns c =
    let job = c.args.job.now in
    let child = c.in-Ok.child in
    let fits : Fits job.program child = subst (λ (p : ProgramParts). Fits p child) (c.deref.ensures ∙ c.program.ensures.value) c.in-Ok.ensures.fits in
    let joins = c.join.ensures job.program c.requires.may.kept.valid fits in
    let noted : Parts = record c.push-q.new.self { graph = c.add.new.self } in
    let lasts = start_lasts job c.args.self.now c.args.lease.now c.args.progress c.requires.may c.args.f c.requires.at
    c.plan_spawn.new.self c.begin-control.new.self noted c.join.new.self c.answer.new.self c.in-Ok.ensures.before c.begin-control.ensures.history c.begin-control.ensures.rest
    child c.begin-control.result c.thread-t.result c.next_thread-u.result c.push-q.result c.unit.result c.deref.result.now c.deref-2.result.now
    (c.deref.ensures ∙ c.program.ensures.value) (c.deref-2.ensures ∙ c.program-2.ensures.value) c.thread-t.ensures c.next_thread-u.ensures
    (c.in-Ok.ensures.expr ∙ ap (λ (g : ControlView). called (body c.deref.result.now) c.args.f.0 (operands_of g)) c.end.ensures.end) fits c.push-q.ensures.number
    c.push-q.ensures.history
    (ap (λ k. k.nodes) c.add.ensures ∙ ap (λ (k : Parts). k.graph.nodes ++ record { number = c.push-q.result.0; kind = node.Spawn c.thread-t.result c.next_thread-u.result } ∷ []) c.push-q.ensures.rest)
    (ap (λ (k : Parts). record k { graph = c.add.new.self }) c.push-q.ensures.rest) joins
    c.begin-control.ensures.end c.unit.ensures c.answer.ensures in
    record { done = lasts.0; back = search rules; err = search rules; kept = lasts.1 }
