use Rattle.std.proofs.Common.{◌≡◌, Some, is_some, true, ◌↔◌, subst, sym, ap, ◌∙◌, arith, add-one}
use Rattle.std.specs.List.{slice_get}
use Rattle.stab_journal.specs.Event.{label_of}
use Rattle.stab_journal.specs.Journal.{IsLive, event_at}
use Rattle.trace_text.proofs.Entries.{other_entry, step_entry}
use Rattle.trace_text.proofs.write.entry_after.Goals as goal

pub overflow_add-q : goal.overflow_add-q
overflow_add-q c = omega (arith, c.requires.valid.few, c.requires.valid.weight)

pub returns-in-Step : goal.returns-in-Step
returns-in-Step c =
    let j = c.args.history.now in
    let at : slice_get j.events c.args.passed ≡ Some c.unwrap-event.result = ap (event_at j.events) (sym (add-one c.args.passed)) ∙ sym c.get.ensures.event ∙ c.unwrap-event.ensures in
    let live = subst (λ n. (c.is_live.result ≡ true) ↔ IsLive j n) (add-one c.args.passed) c.is_live.ensures in
    step_entry j c.args.passed c.unwrap-event.result at c.is_live.result live (ap (λ w. is_some (label_of w)) c.in-Step.is)

pub returns-in-Undo : goal.returns-in-Undo
returns-in-Undo c =
    let j = c.args.history.now in
    let at : slice_get j.events c.args.passed ≡ Some c.unwrap-event.result = ap (event_at j.events) (sym (add-one c.args.passed)) ∙ sym c.get.ensures.event ∙ c.unwrap-event.ensures in
    other_entry j c.args.passed c.unwrap-event.result at c.requires.valid (ap label_of c.in-Undo.is)

pub returns-in-Release : goal.returns-in-Release
returns-in-Release c =
    let j = c.args.history.now in
    let at : slice_get j.events c.args.passed ≡ Some c.unwrap-event.result = ap (event_at j.events) (sym (add-one c.args.passed)) ∙ sym c.get.ensures.event ∙ c.unwrap-event.ensures in
    other_entry j c.args.passed c.unwrap-event.result at c.requires.valid (ap label_of c.in-Release.is)
