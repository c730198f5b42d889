use Rattle.std.proofs.Common.{◌≡◌, Bool, refl, Some, is_some, None, true, false, not, IsTrue, sym, ap, subst, ◌∙◌}
use Rattle.std.specs.Option.{option_copied}
use Rattle.stab_journal.specs.Event.{label_of}
use Rattle.stab_journal.specs.Journal.{IsLive}
use Rattle.stab_journal.specs.View.{entry_with}
use Rattle.stab_journal.proofs.Look.{live, live_step, live_kept, no_entry}
use Rattle.stab_journal.proofs.history.History.is_live.Goals as goal

unstruck : (b : Bool) → IsTrue (not b) → b ≡ false
unstruck true is = cc
unstruck false is = refl

pub returns-then-is_step : goal.returns-then-is_step
returns-then-is_step c =
    let e = c.in-Some.entry.now in
    let here : Some e ≡ entry_with c.self.inside.entries.items c.args.q.0 = ap option_copied (sym c.in-Some.is) ∙ c.entry_at.ensures ∙ ap (λ es. entry_with es c.args.q.0) c.deref.ensures.value in
    let step = ap (λ w. is_some (label_of w)) (sym c.what.ensures) ∙ sym c.is_step.ensures ∙ c.if-is_step.true in
    subst (λ j. (IsTrue (not c.is_struck.result) → IsLive j c.args.q.0) × (IsLive j c.args.q.0 → IsTrue (not c.is_struck.result))) c.self.view_is
    (λ kept. live c.self.inside c.args.q.0 e here step (sym c.is_struck.ensures ∙ unstruck c.is_struck.result kept), λ is. ap not (c.is_struck.ensures ∙ live_kept c.self.inside c.args.q.0 e here is))

pub returns-else-is_step : goal.returns-else-is_step
returns-else-is_step c =
    let e = c.in-Some.entry.now in
    let here : Some e ≡ entry_with c.self.inside.entries.items c.args.q.0 = ap option_copied (sym c.in-Some.is) ∙ c.entry_at.ensures ∙ ap (λ es. entry_with es c.args.q.0) c.deref.ensures.value in
    subst (λ j. (IsTrue c.is_step.result → IsLive j c.args.q.0) × (IsLive j c.args.q.0 → IsTrue c.is_step.result)) c.self.view_is
    (λ is. let no = c.if-is_step.false in cc, λ is. c.is_step.ensures ∙ ap (λ w. is_some (label_of w)) c.what.ensures ∙ live_step c.self.inside c.args.q.0 e here is)

pub returns-in-None : goal.returns-in-None
returns-in-None c =
    let here : entry_with c.self.inside.entries.items c.args.q.0 ≡ None = ap (λ es. entry_with es c.args.q.0) (sym c.deref.ensures.value) ∙ sym c.entry_at.ensures ∙ ap option_copied c.in-None.is in
    subst (λ j. (IsTrue false → IsLive j c.args.q.0) × (IsLive j c.args.q.0 → IsTrue false)) c.self.view_is
    (λ is. cc, λ is. absurd (no_entry c.self.inside c.args.q.0 here is))
