use Rattle.std.proofs.Common.{refl, ap, ◌∙◌}
use Rattle.stab_base.specs.declared.numbers.Seq.{Seq}
use Rattle.reach_line.specs.MarkList.{numbers}
use Rattle.commit_book.proofs.Acting.Acted.{needs_few, needs_there}
use Rattle.commit_book.proofs.Undoing.Granting.{done_again, err_again, marked_there, may_again, node_there, pinned_held}
use Rattle.commit_book.proofs.Keeping.SeenAfter.{kept_same}
use Rattle.commit_book.proofs.Acting.SingleActs.{few_at, may_begin}
use Rattle.commit_book.proofs.Undoing.TakeBack.{mark_within, next_some, read_low, spare_left, taken, taken_kept, thread_named, undoing, undos_low, weight_left}
use Rattle.commit_book.proofs.parts.Parts.take_back.Goals as goal

pub plan_undo-requires-clause-few : goal.plan_undo-requires-clause-few
plan_undo-requires-clause-few c = few_at c.args.job.now c.args.self.now c.args.lease.now c.args.progress c.requires.may

pub plan_undo-requires-clause-next : goal.plan_undo-requires-clause-next
plan_undo-requires-clause-next c = next_some c.args.job.now c.args.self.now c.args.lease.now c.args.progress c.requires.may

pub plan_undo-requires-clause-there : goal.plan_undo-requires-clause-there
plan_undo-requires-clause-there c = node_there c.args.job.now c.args.self.now c.args.lease.now c.args.progress c.requires.may c.args.mark.0 c.requires.mark c.requires.above

pub plan_undo-requires-clause-read : goal.plan_undo-requires-clause-read
plan_undo-requires-clause-read c = c.requires.may.kept.read

pub returns-in_default-clause-kept : goal.returns-in_default-clause-kept
returns-in_default-clause-kept c =
    kept_same c.args.job.now c.args.self.now c.plan_undo.new.self c.plan_undo.ensures.before c.requires.may.kept

pub holds_pin-requires : goal.holds_pin-requires
holds_pin-requires c = record { there = marked_there c.args.job.now c.args.self.now c.args.lease.now c.args.progress c.requires.may c.plan_undo.new.self c.plan_undo.ensures.before c.args.mark.0 c.requires.mark c.requires.above c.plan_undo.new.self.rollback.marks.nodes c.in-Ok.ensures.reached }

pub refuse-requires-clause-may : goal.refuse-requires-clause-may
refuse-requires-clause-may c = may_again c.args.job.now c.args.self.now c.args.lease.now c.args.progress c.requires.may c.plan_undo.new.self c.plan_undo.ensures.before

pub refuse-requires-clause-held : goal.refuse-requires-clause-held
refuse-requires-clause-held c =
    let pin = c.holds_pin.ensures.some c.if-holds_pin.true in
    pinned_held c.args.job.now c.args.self.now c.args.lease.now c.args.progress c.requires.may c.plan_undo.new.self c.plan_undo.ensures.before c.args.mark.0 c.requires.mark c.requires.above c.plan_undo.new.self.rollback.marks.nodes c.in-Ok.ensures.reached pin.0 pin.1

pub returns-then-holds_pin-clause-done : goal.returns-then-holds_pin-clause-done
returns-then-holds_pin-clause-done c = done_again c.args.job.now c.args.self.now c.args.lease.now c.args.progress c.requires.may c.plan_undo.new.self c.plan_undo.ensures.before c.refuse.new.self c.refuse.result c.refuse.ensures.done

pub returns-then-holds_pin-clause-err : goal.returns-then-holds_pin-clause-err
returns-then-holds_pin-clause-err c = err_again c.args.job.now c.args.self.now c.args.lease.now c.args.progress c.requires.may c.plan_undo.new.self c.plan_undo.ensures.before c.refuse.new.self c.refuse.result c.refuse.ensures.err

pub begin-end-requires : goal.begin-end-requires
begin-end-requires c = may_begin c.args.job.now c.args.self.now c.args.lease.now c.args.progress c.requires.may c.plan_undo.new.self c.plan_undo.ensures.before c.in-Ok.ensures.spare

pub go_on-requires-clause-there : goal.go_on-requires-clause-there
go_on-requires-clause-there c = needs_there c.args.job.now c.args.self.now c.args.lease.now c.args.progress c.requires.may c.plan_undo.new.self c.begin-end.new.self c.begin-end.new.self c.plan_undo.ensures.before c.begin-end.ensures.rest refl c.thread.result c.thread.ensures

pub go_on-requires-clause-few : goal.go_on-requires-clause-few
go_on-requires-clause-few c = needs_few c.args.job.now c.args.self.now c.args.lease.now c.args.progress c.requires.may c.plan_undo.new.self c.begin-end.new.self c.begin-end.new.self c.plan_undo.ensures.before c.begin-end.ensures.rest refl refl

pub undo-undone-requires : goal.undo-undone-requires
undo-undone-requires c =
    undoing c.args.job.now c.args.self.now c.args.lease.now c.args.progress c.requires.may c.requires.at c.args.mark.0 c.requires.mark c.requires.above c.plan_undo.new.self c.plan_undo.ensures.before c.begin-end.new.self c.go_on.new.self c.begin-end.ensures.history c.begin-end.ensures.rest c.thread.result c.thread.ensures c.go_on.result c.begin-end.result c.begin-end.ensures.end c.go_on.ensures.before c.go_on.ensures.gone
    c.in-Ok.ensures.reached (c.holds_pin.ensures.none c.if-holds_pin.false) c.in-Ok.ensures.room

pub push_undo-requires-clause-spare : goal.push_undo-requires-clause-spare
push_undo-requires-clause-spare c =
    spare_left c.args.job.now c.args.self.now c.args.lease.now c.args.progress c.requires.may c.requires.at c.args.mark.0 c.requires.mark c.requires.above c.plan_undo.new.self c.plan_undo.ensures.before c.begin-end.new.self c.go_on.new.self c.begin-end.ensures.history c.begin-end.ensures.rest c.thread.result c.thread.ensures c.go_on.result c.begin-end.result c.begin-end.ensures.end c.go_on.ensures.before c.go_on.ensures.gone
    c.in-Ok.ensures.reached (c.holds_pin.ensures.none c.if-holds_pin.false) c.undo-undone.result.removed c.undo-undone.new.self c.undo-undone.ensures.out c.begin-end.ensures.more

pub push_undo-requires-clause-weight : goal.push_undo-requires-clause-weight
push_undo-requires-clause-weight c =
    weight_left c.args.job.now c.args.self.now c.args.lease.now c.args.progress c.requires.may c.requires.at c.args.mark.0 c.requires.mark c.requires.above c.plan_undo.new.self c.plan_undo.ensures.before c.begin-end.new.self c.go_on.new.self c.begin-end.ensures.history c.begin-end.ensures.rest c.thread.result c.thread.ensures c.go_on.result c.begin-end.result c.begin-end.ensures.end c.go_on.ensures.before c.go_on.ensures.gone
    c.in-Ok.ensures.reached (c.holds_pin.ensures.none c.if-holds_pin.false) c.undo-undone.result.removed c.undo-undone.new.self c.undo-undone.ensures.out c.begin-end.ensures.more

pub push_undo-requires-clause-thread : goal.push_undo-requires-clause-thread
push_undo-requires-clause-thread c =
    thread_named c.args.job.now c.args.self.now c.args.lease.now c.args.progress c.requires.may c.requires.at c.args.mark.0 c.requires.mark c.requires.above c.plan_undo.new.self c.plan_undo.ensures.before c.begin-end.new.self c.go_on.new.self c.begin-end.ensures.history c.begin-end.ensures.rest c.thread.result c.thread.ensures c.go_on.result c.begin-end.result c.begin-end.ensures.end c.go_on.ensures.before c.go_on.ensures.gone
    c.in-Ok.ensures.reached (c.holds_pin.ensures.none c.if-holds_pin.false) c.undo-undone.result.removed c.undo-undone.new.self c.undo-undone.ensures.out

pub push_undo-requires-clause-mark : goal.push_undo-requires-clause-mark
push_undo-requires-clause-mark c =
    mark_within c.args.job.now c.args.self.now c.args.lease.now c.args.progress c.requires.may c.requires.at c.args.mark.0 c.requires.mark c.requires.above c.plan_undo.new.self c.plan_undo.ensures.before c.begin-end.new.self c.go_on.new.self c.begin-end.ensures.history c.begin-end.ensures.rest c.thread.result c.thread.ensures c.go_on.result c.begin-end.result c.begin-end.ensures.end c.go_on.ensures.before c.go_on.ensures.gone
    c.in-Ok.ensures.reached (c.holds_pin.ensures.none c.if-holds_pin.false) c.undo-undone.result.removed c.undo-undone.new.self c.undo-undone.ensures.out

pub push_undo-requires-clause-read : goal.push_undo-requires-clause-read
push_undo-requires-clause-read c =
    read_low c.args.job.now c.args.self.now c.args.lease.now c.args.progress c.requires.may c.requires.at c.args.mark.0 c.requires.mark c.requires.above c.plan_undo.new.self c.plan_undo.ensures.before c.begin-end.new.self c.go_on.new.self c.begin-end.ensures.history c.begin-end.ensures.rest c.thread.result c.thread.ensures c.go_on.result c.begin-end.result c.begin-end.ensures.end c.go_on.ensures.before c.go_on.ensures.gone
    c.in-Ok.ensures.reached (c.holds_pin.ensures.none c.if-holds_pin.false) c.undo-undone.result.removed c.undo-undone.new.self c.undo-undone.ensures.out

pub push_undo-requires-clause-undos : goal.push_undo-requires-clause-undos
push_undo-requires-clause-undos c =
    undos_low c.args.job.now c.args.self.now c.args.lease.now c.args.progress c.requires.may c.requires.at c.args.mark.0 c.requires.mark c.requires.above c.plan_undo.new.self c.plan_undo.ensures.before c.begin-end.new.self c.go_on.new.self c.begin-end.ensures.history c.begin-end.ensures.rest c.thread.result c.thread.ensures c.go_on.result c.begin-end.result c.begin-end.ensures.end c.go_on.ensures.before c.go_on.ensures.gone
    c.in-Ok.ensures.reached (c.holds_pin.ensures.none c.if-holds_pin.false) c.undo-undone.result.removed c.undo-undone.new.self c.undo-undone.ensures.out

pub returns-clause-done : goal.returns-clause-done
returns-clause-done c =
    taken c.args.job.now c.args.self.now c.args.lease.now c.args.progress c.requires.may c.requires.at c.args.mark.0 c.requires.mark c.requires.above c.plan_undo.new.self c.plan_undo.ensures.before c.begin-end.new.self c.go_on.new.self c.begin-end.ensures.history c.begin-end.ensures.rest c.thread.result c.thread.ensures c.go_on.result c.begin-end.result c.begin-end.ensures.end c.go_on.ensures.before c.go_on.ensures.gone
    c.in-Ok.ensures.reached (c.holds_pin.ensures.none c.if-holds_pin.false) c.undo-undone.result.removed c.undo-undone.new.self c.undo-undone.ensures.out c.push_undo.new.self c.push_undo.ensures.history c.push_undo.ensures.rest
    c.undo-undone.result (ap (λ (q : Seq). q.0) c.undo-undone.ensures.told.0) refl (ap (λ v. numbers v.items) c.undo-undone.ensures.told.1 ∙ c.in-Ok.ensures.listed)

pub returns-clause-kept : goal.returns-clause-kept
returns-clause-kept c =
    taken_kept c.args.job.now c.args.self.now c.args.lease.now c.args.progress c.requires.may c.requires.at c.args.mark.0 c.requires.mark c.requires.above c.plan_undo.new.self c.plan_undo.ensures.before c.begin-end.new.self c.go_on.new.self c.begin-end.ensures.history c.begin-end.ensures.rest c.thread.result c.thread.ensures c.go_on.result c.begin-end.result c.begin-end.ensures.end c.go_on.ensures.before c.go_on.ensures.gone
    c.in-Ok.ensures.reached (c.holds_pin.ensures.none c.if-holds_pin.false) c.undo-undone.result.removed c.undo-undone.new.self c.undo-undone.ensures.out c.push_undo.new.self c.push_undo.ensures.history c.push_undo.ensures.rest
