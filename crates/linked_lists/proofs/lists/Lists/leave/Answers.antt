use Rattle.std.proofs.Common.{◌≡◌, cond, length, map, sym, ap, ◌∙◌}
use Rattle.linked_lists.specs.declared.links.Spot.{Spot}
use Rattle.linked_lists.specs.declared.links.Spot.TheVariants.{Place}
use Rattle.linked_lists.specs.declared.links.Link.{Link}
use Rattle.linked_lists.specs.Ring.{same, link_at, after, before, walked, IsRing}
use Rattle.linked_lists.specs.Lists.{is_listed, without}
use Rattle.linked_lists.proofs.Leaving.{gone}
use Rattle.linked_lists.proofs.Rings.{twice, IsRing-leave}
use Rattle.linked_lists.proofs.Held.{there-before, there-after, there_same, place_within, after-cond, before-cond, IsRing-walked, lists_of-left, list_at-of, walked-is}
use Rattle.linked_lists.proofs.lists.Lists.leave.Goals as goal

pub set_after-requires : goal.set_after-requires
set_after-requires c =
    let ends = c.self.inside.links.ends.items in
    let places = c.self.inside.links.places.items in
    rw (ap (λ l. l.before) c.link-before.ensures) (there-before ends places (walked ends places) (Place c.args.place) c.self.invariant.ring (place_within (length places) _ c.args.place (ap (λ s. s.places) c.self.view_is) c.requires))

pub set_before-requires : goal.set_before-requires
set_before-requires c =
    let ends = c.self.inside.links.ends.items in
    let places = c.self.inside.links.places.items in
    there_same (length ends) _ (length places) _ c.link-before.result.after (sym c.set_after.ensures.lists) (sym c.set_after.ensures.places)
    (rw (ap (λ l. l.after) c.link-before.ensures) (there-after ends places (walked ends places) (Place c.args.place) c.self.invariant.ring (place_within (length places) _ c.args.place (ap (λ s. s.places) c.self.view_is) c.requires)))

ahead : (c : goal.After-write) (p : Spot) → after c.write.new.self.ends.items c.write.new.self.places.items p ≡ twice (after c.self.inside.links.ends.items c.self.inside.links.places.items) (Place c.args.place) (Place c.args.place) (before c.self.inside.links.ends.items c.self.inside.links.places.items (Place c.args.place)) (after c.self.inside.links.ends.items c.self.inside.links.places.items (Place c.args.place)) p
ahead c p =
    let ends = c.self.inside.links.ends.items in
    let places = c.self.inside.links.places.items in
    ap (λ l. l.after) (c.write.ensures.links p) ∙ after-cond (same p (Place c.args.place)) c.alone.result (link_at c.set_before.new.self.ends.items c.set_before.new.self.places.items p)
    ∙ ap (λ (l : Link). cond (same p (Place c.args.place)) l.after (after c.set_before.new.self.ends.items c.set_before.new.self.places.items p)) c.alone.ensures
    ∙ ap (cond (same p (Place c.args.place)) (Place c.args.place)) (c.set_before.ensures.after p ∙ c.set_after.ensures.after p)
    ∙ ap (λ (l : Link). twice (after ends places) (Place c.args.place) (Place c.args.place) l.before l.after p) c.link-before.ensures

behind : (c : goal.After-write) (p : Spot) → before c.write.new.self.ends.items c.write.new.self.places.items p ≡ twice (before c.self.inside.links.ends.items c.self.inside.links.places.items) (Place c.args.place) (Place c.args.place) (after c.self.inside.links.ends.items c.self.inside.links.places.items (Place c.args.place)) (before c.self.inside.links.ends.items c.self.inside.links.places.items (Place c.args.place)) p
behind c p =
    let ends = c.self.inside.links.ends.items in
    let places = c.self.inside.links.places.items in
    ap (λ l. l.before) (c.write.ensures.links p) ∙ before-cond (same p (Place c.args.place)) c.alone.result (link_at c.set_before.new.self.ends.items c.set_before.new.self.places.items p)
    ∙ ap (λ (l : Link). cond (same p (Place c.args.place)) l.before (before c.set_before.new.self.ends.items c.set_before.new.self.places.items p)) c.alone.ensures
    ∙ ap (cond (same p (Place c.args.place)) (Place c.args.place)) (c.set_before.ensures.before p ∙ ap (cond (same p c.link-before.result.after) c.link-before.result.before) (c.set_after.ensures.before p))
    ∙ ap (λ (l : Link). twice (before ends places) (Place c.args.place) (Place c.args.place) l.after l.before p) c.link-before.ensures

ring : (c : goal.After-write) → IsRing (after c.write.new.self.ends.items c.write.new.self.places.items) (before c.write.new.self.ends.items c.write.new.self.places.items) (λ h. without c.args.place (walked c.self.inside.links.ends.items c.self.inside.links.places.items h))
ring c =
    let ends = c.self.inside.links.ends.items in
    let places = c.self.inside.links.places.items in
    IsRing-leave (after ends places) (before ends places) _ _ c.args.place (walked ends places) (ahead c) (behind c) c.self.invariant.ring

pub invariant_of-self : goal.invariant_of-self
invariant_of-self c = record { ring = IsRing-walked c.write.new.self.ends.items c.write.new.self.places.items _ (ring c); few_lists = rw (c.write.ensures.lists ∙ c.set_before.ensures.lists ∙ c.set_after.ensures.lists) c.self.invariant.few_lists; few_places = rw (c.write.ensures.places ∙ c.set_before.ensures.places ∙ c.set_after.ensures.places) c.self.invariant.few_places }

pub returns-clause-lists : goal.returns-clause-lists
returns-clause-lists c =
    let ends = c.self.inside.links.ends.items in
    let places = c.self.inside.links.places.items in
    lists_of-left ends places c.write.new.self.ends.items c.write.new.self.places.items c.args.place (ring c)
    (c.write.ensures.lists ∙ c.set_before.ensures.lists ∙ c.set_after.ensures.lists)
    ∙ ap (λ s. map (without c.args.place) s.lists) c.self.view_is

pub returns-clause-nowhere : goal.returns-clause-nowhere
returns-clause-nowhere c = λ h.
    let ends = c.self.inside.links.ends.items in
    let places = c.self.inside.links.places.items in
    ap (is_listed c.args.place) (list_at-of c.write.new.self.ends.items c.write.new.self.places.items h ∙ walked-is c.write.new.self.ends.items c.write.new.self.places.items _ h (ring c))
    ∙ gone c.args.place (walked ends places h)
