use Rattle.std.proofs.Common.{sym, ◌∙◌, subst}
use Rattle.std.specs.Prelude.{IsSome}
use Rattle.std.specs.FinMap as map
use Rattle.std.specs.FinMap.{FinMap}
use Rattle.std.specs.Ordering.{nat_cmp}
use Rattle.thread_slots.specs.Slot.{Slot}
use Rattle.step_eval.specs.ControlView.{ControlView, expr_of}
use Rattle.commit_book.specs.Doing.{is_failed}
use Rattle.commit_book.proofs.Threads.GoneOn.{still_there, gone_on, counts_one, counts_none, both_no, both_failed}
use Rattle.commit_book.proofs.parts.Parts.go_on.Goals as goal
use Rattle.commit_book.proofs.parts.Parts.go_on.Goals.{else-failed-via-then-failed+else-not-is_failed, else-failed-via-else-failed}

pub set_state-requires : goal.set_state-requires
set_state-requires c =
    subst (λ (m : FinMap nat_cmp (Slot ControlView)). IsSome (map.get m c.args.t.0)) (sym c.replace_control-before.ensures.threads)
    (still_there c.args.self.now.slots.threads c.args.t.0 (λ slot. record slot { control = c.args.control }) c.requires.there)

pub returns-then-not-is_failed-clause-gone : goal.returns-then-not-is_failed-clause-gone
returns-then-not-is_failed-clause-gone c p valid fits fits_before =
    let now = c.is_failed-failed.ensures p valid fits in
    let was = c.is_failed.ensures p valid fits_before in
    gone_on p c.args.self.now c.replace_control-before.new.self c.set_state.new.self c.args.t.0 c.replace_control-before.result c.args.control c.state_of-state.result _
    c.replace_control-before.ensures.threads c.replace_control-before.ensures.queue c.replace_control-before.ensures.next
    c.set_state.ensures.threads c.set_state.ensures.queue c.set_state.ensures.next c.set_state.ensures.sound
    (c.state_of-state.ensures p valid fits)
    (counts_one c.args.self.now.tallies (is_failed (expr_of p c.replace_control-before.result)) (is_failed (expr_of p c.args.control)) (sym now ∙ c.if-failed.true) (sym was ∙ c.if-not-is_failed.true))

pub returns-else-failed-clause-gone : goal.returns-else-failed-clause-gone
returns-else-failed-clause-gone c p valid fits fits_before =
    let now = c.is_failed-failed.ensures p valid fits in
    gone_on p c.args.self.now c.replace_control-before.new.self c.set_state.new.self c.args.t.0 c.replace_control-before.result c.args.control c.state_of-state.result c.args.self.now.tallies
    c.replace_control-before.ensures.threads c.replace_control-before.ensures.queue c.replace_control-before.ensures.next
    c.set_state.ensures.threads c.set_state.ensures.queue c.set_state.ensures.next c.set_state.ensures.sound
    (c.state_of-state.ensures p valid fits)
    (counts_none c.args.self.now.tallies (is_failed (expr_of p c.replace_control-before.result)) (is_failed (expr_of p c.args.control))
    (elim c.else-failed.branch [
      | else-failed-via-then-failed+else-not-is_failed w ↦ both_failed (is_failed (expr_of p c.args.control)) (is_failed (expr_of p c.replace_control-before.result)) (sym (w.is_failed.ensures p valid fits_before) ∙ w.if-not-is_failed.false)
      | else-failed-via-else-failed w ↦ both_no (is_failed (expr_of p c.args.control)) (is_failed (expr_of p c.replace_control-before.result)) (sym now ∙ w.if-failed.false)
    ]))
