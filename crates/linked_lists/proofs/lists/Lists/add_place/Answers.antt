use Rattle.std.proofs.Common.{◌≡◌, ◌+◌, length, ap, ◌∙◌}
use Rattle.linked_lists.specs.declared.links.Spot.TheVariants.{Place}
use Rattle.linked_lists.specs.Ring.{alone, after, before, lists_of, walked, IsRing}
use Rattle.linked_lists.specs.Lists.{is_listed}
use Rattle.linked_lists.proofs.Held.{link-place, placed_alone, IsRing-opened, IsRing-walked, lists_of-is, lists_of-length, list_at-of, unlisted, few_more}
use Rattle.std.specs.Vec.{vec_capacity}
use Rattle.linked_lists.proofs.lists.Lists.add_place.Goals as goal

itself : (c : goal.After-push_reserved) → c.alone.result ≡ alone (Place (length c.self.inside.links.places.items + 1))
itself c = c.alone.ensures ∙ ap (λ n. alone (Place (n + 1))) (c.len.ensures ∙ c.self.inside.links.places.ok.0)

ring : (c : goal.After-push_reserved) → IsRing (after c.self.inside.links.ends.items c.push_reserved.new.self.items) (before c.self.inside.links.ends.items c.push_reserved.new.self.items) (walked c.self.inside.links.ends.items c.self.inside.links.places.items)
ring c =
    IsRing-opened c.self.inside.links.ends.items c.self.inside.links.places.items c.self.inside.links.ends.items c.push_reserved.new.self.items (walked c.self.inside.links.ends.items c.self.inside.links.places.items)
    (link-place c.self.inside.links.ends.items c.self.inside.links.places.items c.push_reserved.new.self.items c.alone.result c.push_reserved.ensures.items (itself c))
    c.self.invariant.ring

pub invariant_of-self : goal.invariant_of-self
invariant_of-self c = record { ring = IsRing-walked c.self.inside.links.ends.items c.push_reserved.new.self.items _ (ring c); few_lists = c.self.invariant.few_lists; few_places = few_more c.self.inside.links.places.items c.push_reserved.new.self.items c.alone.result (vec_capacity c.self.inside.links.places) _ (ap (λ s. s.spare) c.self.view_is) c.requires c.push_reserved.ensures.items }

pub returns-clause-lists : goal.returns-clause-lists
returns-clause-lists c =
    let ends = c.self.inside.links.ends.items in
    let places = c.self.inside.links.places.items in
    lists_of-is ends c.push_reserved.new.self.items (walked ends places) (lists_of ends places) (ring c) (lists_of-length ends places) (λ h. list_at-of ends places h)
    ∙ ap (λ s. s.lists) c.self.view_is

pub returns-clause-nowhere : goal.returns-clause-nowhere
returns-clause-nowhere c = λ h.
    let ends = c.self.inside.links.ends.items in
    let new = c.push_reserved.new.self.items in
    ap (is_listed (length new)) (list_at-of ends new h)
    ∙ unlisted ends new (walked ends new) (length new) (invariant_of-self c).ring
    (placed_alone ends c.self.inside.links.places.items new c.alone.result c.push_reserved.ensures.items (itself c)) h
