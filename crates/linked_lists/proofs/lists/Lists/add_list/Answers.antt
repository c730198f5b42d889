use Rattle.std.proofs.Common.{[], ◌∷◌, ◌++◌, ap, ◌∙◌}
use Rattle.linked_lists.specs.declared.links.Spot.TheVariants.{End}
use Rattle.linked_lists.specs.Ring.{alone, after, before, lists_of, walked, IsRing}
use Rattle.linked_lists.proofs.Held.{link-list, IsRing-opened, IsRing-walked, lists_of-is, list_at-of, get_or-push_default, lists_of-push_length, few_more}
use Rattle.std.specs.Vec.{vec_capacity}
use Rattle.linked_lists.proofs.lists.Lists.add_list.Goals as goal

ring : (c : goal.After-push_reserved) → IsRing (after c.push_reserved.new.self.items c.self.inside.links.places.items) (before c.push_reserved.new.self.items c.self.inside.links.places.items) (walked c.self.inside.links.ends.items c.self.inside.links.places.items)
ring c =
    IsRing-opened c.self.inside.links.ends.items c.self.inside.links.places.items c.push_reserved.new.self.items c.self.inside.links.places.items (walked c.self.inside.links.ends.items c.self.inside.links.places.items)
    (link-list c.self.inside.links.ends.items c.self.inside.links.places.items c.push_reserved.new.self.items c.alone.result c.push_reserved.ensures.items (c.alone.ensures ∙ ap (λ n. alone (End n)) (c.len.ensures ∙ c.self.inside.links.ends.ok.0)))
    c.self.invariant.ring

pub invariant_of-self : goal.invariant_of-self
invariant_of-self c = record { ring = IsRing-walked c.push_reserved.new.self.items c.self.inside.links.places.items _ (ring c); few_lists = few_more c.self.inside.links.ends.items c.push_reserved.new.self.items c.alone.result (vec_capacity c.self.inside.links.ends) _ (ap (λ s. s.spare_lists) c.self.view_is) c.requires c.push_reserved.ensures.items; few_places = c.self.invariant.few_places }

pub returns-clause-lists : goal.returns-clause-lists
returns-clause-lists c =
    let ends = c.self.inside.links.ends.items in
    let places = c.self.inside.links.places.items in
    lists_of-is c.push_reserved.new.self.items places (walked ends places) (lists_of ends places ++ [] ∷ []) (ring c)
    (lists_of-push_length ends places c.push_reserved.new.self.items c.alone.result c.push_reserved.ensures.items)
    (λ h. get_or-push_default (lists_of ends places) [] h ∙ list_at-of ends places h)
    ∙ ap (λ s. s.lists ++ [] ∷ []) c.self.view_is
