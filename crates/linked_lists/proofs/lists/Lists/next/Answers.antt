use Rattle.std.proofs.Common.{sym, ap, ◌∙◌}
use Rattle.linked_lists.specs.Ring.{spot_place}
use Rattle.linked_lists.proofs.Rings.{unlike}
use Rattle.linked_lists.proofs.Held.{next-is, leads_on, nowhere_leads, eq_some, eq_itself}
use Rattle.linked_lists.proofs.lists.Lists.next.Goals as goal

pub returns-then-eq-clause-next : goal.returns-then-eq-clause-next
returns-then-eq-clause-next c = λ h there.
    absurd (leads_on c.self.inside.links.ends.items c.self.inside.links.places.items c.args.self.now.lists c.args.place (ap (λ s. s.lists) c.self.view_is) c.self.invariant.ring h there
    (sym (c.place_in-next.ensures ∙ ap (λ l. spot_place l.after) c.link.ensures) ∙ eq_some c.place_in-next.result c.args.place (sym c.eq.ensures ∙ c.if-eq.true)))

pub returns-else-eq-clause-next : goal.returns-else-eq-clause-next
returns-else-eq-clause-next c = λ h there.
    c.place_in-next.ensures ∙ ap (λ l. spot_place l.after) c.link.ensures
    ∙ next-is c.self.inside.links.ends.items c.self.inside.links.places.items c.args.self.now.lists c.args.place (ap (λ s. s.lists) c.self.view_is) c.self.invariant.ring h there

pub returns-else-eq-clause-nowhere : goal.returns-else-eq-clause-nowhere
returns-else-eq-clause-nowhere c = λ none.
    absurd (unlike c.eq.result (c.eq.ensures ∙ eq_itself c.place_in-next.result c.args.place (c.place_in-next.ensures ∙ ap (λ l. spot_place l.after) c.link.ensures ∙ nowhere_leads c.self.inside.links.ends.items c.self.inside.links.places.items c.args.self.now.lists c.args.place (ap (λ s. s.lists) c.self.view_is) c.self.invariant.ring none)) c.if-eq.false)
