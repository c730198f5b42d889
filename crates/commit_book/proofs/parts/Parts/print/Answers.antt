use Rattle.std.proofs.Common.{rules, ◌≡◌, ℕ, ◌<◌, ◌≤◌, length, refl, sym, ap, subst, ◌∙◌}
use Rattle.stab_journal.specs.Event.{IsName}
use Rattle.stab_code.specs.Program.{ProgramParts}
use Rattle.stab_code.specs.Valid.{IsValid}
use Rattle.std.specs.Prelude.{IsSome, is_some}
use Rattle.std.specs.List.{AllByRecursion}
use Rattle.std.specs.FinMap as map
use Rattle.step_eval.specs.Asked.{act_next, operands_of}
use Rattle.step_eval.specs.ControlView.{ControlView, Fits}
use Rattle.print_log.specs.Log.{Print, Prints}
use Rattle.commit_book.specs.declared.counts.Tallies.{Tallies}
use Rattle.commit_book.specs.declared.parts.Parts.{Parts}
use Rattle.commit_book.specs.Acting.{AreAsBefore}
use Rattle.commit_book.proofs.Acting.SingleCalls.{few_failed, there_at}
use Rattle.commit_book.proofs.Keeping.SeenAfter.{kept_same}
use Rattle.commit_book.proofs.Acting.SingleActs.{few_at, may_begin, named_at}
use Rattle.commit_book.proofs.Acting.SinglePrints.{one_long}
use Rattle.std.proofs.Common.{◌++◌, [], ◌∷◌}
use Rattle.step_eval.specs.Acts.{first_of}
use Rattle.commit_book.proofs.Acting.Acted.{needs_fit}
use Rattle.commit_book.proofs.Acting.Lasting.{print_lasts}
use Rattle.commit_book.proofs.Keeping.Prints.{begun_prints, prints_below}
use Rattle.commit_book.proofs.parts.Parts.print.Goals as goal

pub plan_print-requires-clause-few : goal.plan_print-requires-clause-few
plan_print-requires-clause-few c = few_at c.args.job.now c.args.self.now c.args.lease.now c.args.progress c.requires.may

pub plan_print-requires-clause-operand : goal.plan_print-requires-clause-operand
plan_print-requires-clause-operand c =
    subst (λ (g : ControlView). 1 ≤ length (operands_of g)) (sym c.end.ensures.end) (one_long (length (operands_of c.args.progress.end)) c.requires.at.operands)

pub returns-in_default-clause-back : goal.returns-in_default-clause-back
returns-in_default-clause-back c = refl

pub returns-in_default-clause-err : goal.returns-in_default-clause-err
returns-in_default-clause-err c = c.in_default.ensures.before

pub returns-in_default-clause-kept : goal.returns-in_default-clause-kept
returns-in_default-clause-kept c = kept_same c.args.job.now c.args.self.now c.plan_print.new.self c.in_default.ensures.before c.requires.may.kept

pub begin-control-requires : goal.begin-control-requires
begin-control-requires c = may_begin c.args.job.now c.args.self.now c.args.lease.now c.args.progress c.requires.may c.plan_print.new.self c.in-Ok.ensures.before c.in-Ok.ensures.spare

pub push-q-requires-clause-more : goal.push-q-requires-clause-more
push-q-requires-clause-more c = c.begin-control.ensures.more

pub push-q-requires-clause-label : goal.push-q-requires-clause-label
push-q-requires-clause-label c = subst IsName (sym c.thread.ensures) (named_at c.args.job.now c.args.self.now c.args.lease.now c.args.progress c.requires.may)

pub answer-requires-clause-valid : goal.answer-requires-clause-valid
answer-requires-clause-valid c = subst (λ (p : ProgramParts). IsValid p) (sym (c.deref.ensures ∙ c.program.ensures.value)) c.requires.may.kept.valid

pub push-requires-clause-spare : goal.push-requires-clause-spare
push-requires-clause-spare c =
    subst (λ (k : Parts). 1 ≤ k.printed.spare) (sym c.push-q.ensures.rest)
    (subst (λ (k : Parts). 1 ≤ k.printed.spare) (sym c.begin-control.ensures.rest) c.in-Ok.ensures.place)

pub push-requires-clause-later : goal.push-requires-clause-later
push-requires-clause-later c =
    let begins = c.begin-control.new.self in
    let are = begun_prints c.args.self.now c.plan_print.new.self begins c.args.lease.now.worker c.args.lease.now.thread c.args.progress.steps c.in-Ok.ensures.before c.begin-control.ensures.history c.begin-control.ensures.rest c.requires.may.kept.prints in
    subst (λ (k : Parts). AllByRecursion (λ (p : Print). p.number < c.push-q.result.0) k.printed.recent) (sym c.push-q.ensures.rest)
    (subst (λ (n : ℕ). AllByRecursion (λ (p : Print). p.number < n) begins.printed.recent) (sym c.push-q.ensures.number) (prints_below begins.history begins.printed are))

slots_are : (old planned begins pushed : Parts) → AreAsBefore old planned → begins ≡ record planned { history = begins.history } → pushed ≡ record begins { history = pushed.history } → pushed.slots.threads ≡ old.slots.threads
slots_are old planned begins pushed before rest more = ap (λ (k : Parts). k.slots.threads) more ∙ ap (λ (k : Parts). k.slots.threads) rest ∙ before.threads

pub answer-requires-clause-there : goal.answer-requires-clause-there
answer-requires-clause-there c =
    subst (λ (t : ℕ). IsSome (map.get c.push-q.new.self.slots.threads t)) (sym c.thread-2.ensures)
    (there_at c.args.job.now c.args.self.now c.args.lease.now c.args.progress c.requires.may c.push-q.new.self.slots.threads (slots_are c.args.self.now c.plan_print.new.self c.begin-control.new.self c.push-q.new.self c.in-Ok.ensures.before c.begin-control.ensures.rest c.push-q.ensures.rest))

pub answer-requires-clause-few : goal.answer-requires-clause-few
answer-requires-clause-few c =
    subst (λ (k : Tallies). k.faulted < 4294967296) (sym (ap (λ (k : Parts). k.tallies) c.push-q.ensures.rest ∙ ap (λ (k : Parts). k.tallies) c.begin-control.ensures.rest ∙ c.in-Ok.ensures.before.tallies))
    (few_failed c.args.job.now c.args.self.now c.args.lease.now c.args.progress c.requires.may)

pub answer-requires-clause-fits : goal.answer-requires-clause-fits
answer-requires-clause-fits c =
    subst (λ (p : ProgramParts). Fits p c.begin-control.result) (sym (c.deref.ensures ∙ c.program.ensures.value))
    (subst (Fits c.args.job.now.program) (sym c.begin-control.ensures.end) c.requires.may.made.fits)

pub answer-requires-clause-act : goal.answer-requires-clause-act
answer-requires-clause-act c = ap (λ (g : ControlView). is_some (act_next g)) c.begin-control.ensures.end ∙ ap is_some c.requires.at.next

pub answer-requires-clause-fit : goal.answer-requires-clause-fit
answer-requires-clause-fit c =
    needs_fit c.args.job.now c.args.self.now c.args.lease.now c.args.progress c.requires.may (c.plan_print.new.self) c.begin-control.new.self (record c.push-q.new.self { printed = c.push.new.self }) (c.in-Ok.ensures.before) c.begin-control.ensures.rest (ap (λ k. k.slots) c.push-q.ensures.rest) c.deref.result.now (c.deref.ensures ∙ c.program.ensures.value)

pub returns : goal.returns
returns c =
    let lasts = print_lasts c.args.job.now c.args.self.now c.args.lease.now c.args.progress c.requires.may (c.plan_print.new.self) c.begin-control.new.self (c.in-Ok.ensures.before) c.begin-control.ensures.history c.begin-control.ensures.rest c.push-q.new.self c.answer.new.self c.thread.result c.thread.ensures c.push-q.ensures.rest c.deref.result.now c.thread-2.result c.begin-control.result (c.deref.ensures ∙ c.program.ensures.value) c.thread-2.ensures c.begin-control.ensures.end c.requires.at c.push-q.ensures.history (record c.push-q.new.self { printed = c.push.new.self }) refl c.push-q.result.0 c.push-q.ensures.number (record { finals = ap (λ (p : Prints). p.finals) c.push.ensures; recent = ap (λ (p : Prints). p.recent) c.push.ensures ∙ ap (λ v. c.push-q.new.self.printed.recent ++ record { number = c.push-q.result.0; value = v } ∷ []) (c.in-Ok.ensures.value ∙ ap (λ g. first_of (operands_of g)) c.end.ensures.end) }) c.unit.result c.unit.ensures c.answer.ensures in
    record { done = lasts.0; back = search rules; err = search rules; kept = lasts.1 }
