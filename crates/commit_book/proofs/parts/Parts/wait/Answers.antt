use Rattle.std.proofs.Common.{rules, ◌≡◌, ℕ, ◌≤◌, false, refl, sym, ap, subst, ◌∙◌}
use Rattle.std.specs.Prelude.{IsSome, is_err, is_some, option_map}
use Rattle.std.specs.Ordering.{nat_cmp}
use Rattle.std.specs.FinMap as map
use Rattle.std.specs.FinMap.{FinMap}
use Rattle.rendezvous.specs.Line.{joined}
use Rattle.thread_slots.specs.Slot.{Slot}
use Rattle.step_eval.specs.ControlView.{ControlView}
use Rattle.commit_book.specs.declared.parts.Parts.{Parts}
use Rattle.commit_book.specs.Acting.{AreAsBefore}
use Rattle.commit_book.proofs.Threads.GoneOn.{still_there}
use Rattle.commit_book.proofs.Acting.Matched.{offer_there}
use Rattle.commit_book.proofs.Keeping.SeenAfter.{kept_same}
use Rattle.commit_book.proofs.Acting.SingleActs.{may_begin}
use Rattle.commit_book.proofs.Acting.SingleCalls.{there_at}
use Rattle.commit_book.proofs.Acting.WaitActs.{done_already}
use Rattle.commit_book.proofs.Acting.WaitCalls.{none_there, on_err, on_ok, aside_lasts}
use Rattle.commit_book.proofs.parts.Parts.wait.Goals as goal

pub returns-then-is_some-clause-done : goal.returns-then-is_some-clause-done
returns-then-is_some-clause-done c =
    done_already c.args.job.now c.args.self.now c.args.lease.now c.args.progress c.requires.may c.args.offer c.requires.offers
    (ap (λ (k : ℕ). is_some (map.get c.args.self.now.offers.offers k)) (sym c.thread-t.ensures) ∙ ap is_some (sym c.offer.ensures) ∙ sym c.is_some.ensures ∙ c.if-is_some.true)

pub plan_wait-requires-clause-there : goal.plan_wait-requires-clause-there
plan_wait-requires-clause-there c = offer_there c.args.job.now c.args.self.now c.args.lease.now c.args.progress c.requires.may c.args.offer c.requires.offers

pub returns-then-is_err-clause-kept : goal.returns-then-is_err-clause-kept
returns-then-is_err-clause-kept c =
    kept_same c.args.job.now c.args.self.now c.plan_wait.new.self
    (on_err c.plan_wait.result (AreAsBefore c.args.self.now c.plan_wait.new.self) c.plan_wait.ensures.err (sym c.is_err.ensures.value ∙ c.if-is_err.true)) c.requires.may.kept

pub begin-control-requires : goal.begin-control-requires
begin-control-requires c =
    let planned = c.plan_wait.new.self in
    let ok : is_err c.plan_wait.result ≡ false = sym c.is_err.ensures.value ∙ c.if-is_err.false in
    may_begin c.args.job.now c.args.self.now c.args.lease.now c.args.progress c.requires.may (record planned { offers = c.args.self.now.offers })
    (on_ok c.plan_wait.result (AreAsBefore c.args.self.now (record planned { offers = c.args.self.now.offers })) c.plan_wait.ensures.rest ok)
    (on_ok c.plan_wait.result (2 ≤ planned.history.spare) c.plan_wait.ensures.spare ok)

pub set_state-requires : goal.set_state-requires
set_state-requires c =
    let planned = c.plan_wait.new.self in
    let ok : is_err c.plan_wait.result ≡ false = sym c.is_err.ensures.value ∙ c.if-is_err.false in
    let before = on_ok c.plan_wait.result (AreAsBefore c.args.self.now (record planned { offers = c.args.self.now.offers })) c.plan_wait.ensures.rest ok in
    let begins = c.begin-control.new.self in
    let same = ap (λ (k : Parts). k.slots.threads) c.begin-control.ensures.rest ∙ before.threads in
    let there = there_at c.args.job.now c.args.self.now c.args.lease.now c.args.progress c.requires.may begins.slots.threads same in
    let at = subst (λ (k : ℕ). IsSome (map.get begins.slots.threads k)) (sym c.thread-t.ensures) there in
    subst (λ (m : FinMap nat_cmp (Slot ControlView)). IsSome (map.get m c.thread-t.result.0)) (sym c.put_control.ensures.threads)
    (still_there begins.slots.threads c.thread-t.result.0 (λ slot. record slot { control = c.begin-control.result }) at)

pub returns : goal.returns
returns c =
    let job = c.args.job.now in
    let old = c.args.self.now in
    let planned = c.plan_wait.new.self in
    let begins = c.begin-control.new.self in
    let t = c.thread-t.result in
    let ok : is_err c.plan_wait.result ≡ false = sym c.is_err.ensures.value ∙ c.if-is_err.false in
    let lasts = aside_lasts job old c.args.lease.now c.args.progress c.requires.may c.args.offer c.requires.offers c.requires.alone
    planned begins (record begins { slots = c.set_state.new.self }) t c.thread-t.ensures
    (sym c.offer.ensures ∙ none_there c.offer.result (sym c.is_some.ensures ∙ c.if-is_some.false))
    (on_ok c.plan_wait.result (AreAsBefore old (record planned { offers = old.offers })) c.plan_wait.ensures.rest ok)
    (on_ok c.plan_wait.result ((k : ℕ) → map.get planned.offers.lines k ≡ option_map (joined t.0 c.args.offer k) (map.get old.offers.lines k)) c.plan_wait.ensures.lines ok)
    (on_ok c.plan_wait.result (planned.offers.offers ≡ map.insert old.offers.offers t.0 c.args.offer) c.plan_wait.ensures.offers ok)
    c.begin-control.ensures.history c.begin-control.ensures.rest c.begin-control.result c.begin-control.ensures.end
    c.put_control.new.self.threads c.put_control.new.self.queue c.put_control.new.self.next c.put_control.ensures.threads c.put_control.ensures.queue c.put_control.ensures.next
    c.set_state.ensures.threads c.set_state.ensures.queue c.set_state.ensures.next c.set_state.ensures.sound refl in
    record { done = lasts.0; back = search rules; err = search rules; kept = lasts.1 }
