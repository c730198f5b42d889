use Rattle.std.proofs.Common.{◌≡◌, [], ◌∷◌, ◌++◌, cond, length, set, sym, ap, ◌∙◌}
use Rattle.linked_lists.specs.declared.links.Spot.{Spot}
use Rattle.linked_lists.specs.declared.links.Spot.TheVariants.{End, Place}
use Rattle.linked_lists.specs.declared.links.Link.{Link}
use Rattle.linked_lists.specs.Ring.{same, link_at, after, before, walked, IsRing}
use Rattle.linked_lists.specs.Lists.{list_at}
use Rattle.linked_lists.proofs.Rings.{twice, pushed, IsRing-push}
use Rattle.linked_lists.proofs.Held.{there-before, there_same, after-cond, before-cond, list_within, nowhere_walked, IsRing-walked, lists_of-pushed}
use Rattle.linked_lists.proofs.lists.Lists.push.Goals as goal

pub set_after-requires : goal.set_after-requires
set_after-requires c =
    let ends = c.self.inside.links.ends.items in
    let places = c.self.inside.links.places.items in
    there_same (length ends) _ (length places) _ c.link-last.result.before (sym c.write.ensures.lists) (sym c.write.ensures.places)
    (rw (ap (λ l. l.before) c.link-last.ensures) (there-before ends places (walked ends places) (End c.args.list) c.self.invariant.ring (list_within ends places _ c.args.list (ap (λ s. s.lists) c.self.view_is) c.requires.list)))

ahead : (c : goal.After-set_before) (p : Spot) → after c.set_before.new.self.ends.items c.set_before.new.self.places.items p ≡ twice (after c.self.inside.links.ends.items c.self.inside.links.places.items) (before c.self.inside.links.ends.items c.self.inside.links.places.items (End c.args.list)) (Place c.args.place) (Place c.args.place) (End c.args.list) p
ahead c p =
    let ends = c.self.inside.links.ends.items in
    let places = c.self.inside.links.places.items in
    c.set_before.ensures.after p ∙ c.set_after.ensures.after p
    ∙ ap (cond (same p c.link-last.result.before) (Place c.args.place)) (ap (λ l. l.after) (c.write.ensures.links p) ∙ after-cond (same p (Place c.args.place)) _ (link_at ends places p))
    ∙ ap (λ (l : Link). twice (after ends places) l.before (Place c.args.place) (Place c.args.place) (End c.args.list) p) c.link-last.ensures

behind : (c : goal.After-set_before) (p : Spot) → before c.set_before.new.self.ends.items c.set_before.new.self.places.items p ≡ twice (before c.self.inside.links.ends.items c.self.inside.links.places.items) (End c.args.list) (Place c.args.place) (Place c.args.place) (before c.self.inside.links.ends.items c.self.inside.links.places.items (End c.args.list)) p
behind c p =
    let ends = c.self.inside.links.ends.items in
    let places = c.self.inside.links.places.items in
    c.set_before.ensures.before p
    ∙ ap (cond (same p (End c.args.list)) (Place c.args.place)) (c.set_after.ensures.before p ∙ ap (λ l. l.before) (c.write.ensures.links p) ∙ before-cond (same p (Place c.args.place)) _ (link_at ends places p))
    ∙ ap (λ (l : Link). twice (before ends places) (End c.args.list) (Place c.args.place) (Place c.args.place) l.before p) c.link-last.ensures

ring : (c : goal.After-set_before) → IsRing (after c.set_before.new.self.ends.items c.set_before.new.self.places.items) (before c.set_before.new.self.ends.items c.set_before.new.self.places.items) (pushed (walked c.self.inside.links.ends.items c.self.inside.links.places.items) c.args.list c.args.place)
ring c =
    let ends = c.self.inside.links.ends.items in
    let places = c.self.inside.links.places.items in
    IsRing-push (after ends places) (before ends places) _ _ c.args.place c.args.list (walked ends places)
    (nowhere_walked ends places _ c.args.place (ap (λ s. s.lists) c.self.view_is) c.requires.nowhere) (ahead c) (behind c) c.self.invariant.ring

pub invariant_of-self : goal.invariant_of-self
invariant_of-self c = record { ring = IsRing-walked c.set_before.new.self.ends.items c.set_before.new.self.places.items _ (ring c); few_lists = rw (c.set_before.ensures.lists ∙ c.set_after.ensures.lists ∙ c.write.ensures.lists) c.self.invariant.few_lists; few_places = rw (c.set_before.ensures.places ∙ c.set_after.ensures.places ∙ c.write.ensures.places) c.self.invariant.few_places }

pub returns-clause-lists : goal.returns-clause-lists
returns-clause-lists c =
    let ends = c.self.inside.links.ends.items in
    let places = c.self.inside.links.places.items in
    lists_of-pushed ends places c.set_before.new.self.ends.items c.set_before.new.self.places.items c.args.list c.args.place (ring c)
    (c.set_before.ensures.lists ∙ c.set_after.ensures.lists ∙ c.write.ensures.lists) (list_within ends places _ c.args.list (ap (λ s. s.lists) c.self.view_is) c.requires.list)
    ∙ ap (λ s. set s.lists c.args.list (list_at s.lists c.args.list ++ c.args.place ∷ [])) c.self.view_is
