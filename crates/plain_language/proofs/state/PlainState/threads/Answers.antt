use Rattle.std.proofs.Common.{length, ◌<◌, is_some, ◌∙◌, ap, sym}
use Rattle.std.proofs.lemmas.Bool.{false≢true}
use Rattle.language.specs.Held.{Held}
use Rattle.language.specs.Plain.{standing}
use Rattle.language.proofs.Maps.{get_looked, nothing_there, not_below}
use Rattle.plain_language.proofs.state.PlainState.threads.Goals as goal

pub returns-in-Some-clause-greatest : goal.returns-in-Some-clause-greatest
returns-in-Some-clause-greatest c t there =
    not_below c.in-Some.t.now t (c.in-Some.ensures.greatest t (ap is_some (sym (get_looked c.self.inside.threads.entries t) ∙ ap (λ (h : Held). standing h.state t) c.self.view_is) ∙ there))

pub returns-in-Some-clause-there : goal.returns-in-Some-clause-there
returns-in-Some-clause-there c positive =
    ap is_some (sym (ap (λ (h : Held). standing h.state c.in-Some.t.now) c.self.view_is) ∙ get_looked c.self.inside.threads.entries c.in-Some.t.now ∙ c.in-Some.ensures.value)

pub returns-in-None-clause-greatest : goal.returns-in-None-clause-greatest
returns-in-None-clause-greatest c t there =
    let none : 0 < length c.self.inside.threads.entries → ⊥ = λ h. false≢true (c.in-None.ensures.variant.1 h) in
    absurd (false≢true (ap is_some (sym (nothing_there c.self.inside.threads.entries t none) ∙ ap (λ (h : Held). standing h.state t) c.self.view_is) ∙ there))
