use Rattle.std.proofs.Common.{◌≡◌, ◌≤◌, suc, length, sym, ap, ◌∙◌, subst, arith}
use Rattle.linked_lists.specs.Lists.{is_listed, following, list_at}
use Rattle.linked_lists.proofs.Following.{first_listed, behind_first, next_of, last_of}
use Rattle.thread_slots.specs.Ready.{IsLeast}
use Rattle.thread_slots.proofs.Recalled.{least_listed, least_more}
use Rattle.thread_slots.proofs.queues.Queues.least_leased.Goals as goal

pub loop-place-init : goal.loop-place-init
loop-place-init c =
    let here = first_listed c.in_ok-at.at (list_at c.self.inside.lists.lists 1) (sym c.in_ok-at.ensures.first) in
    record {
      here = here;
      listed = here;
      least = λ u there none. let e : u ≡ c.in_ok-at.at = behind_first c.in_ok-at.at u (list_at c.self.inside.lists.lists 1) (sym c.in_ok-at.ensures.first) there none in omega arith;
    }

pub loop-place-smaller : goal.loop-place-smaller
loop-place-smaller c =
    let list = list_at c.self.inside.lists.lists 1 in
    let more : length (following c.loop-place.at list) ≡ suc (length (following c.in-Some.place list)) =
    ap length (next_of c.loop-place.at c.in-Some.place list (c.in_ok-at.ensures.sound.once 1) c.loop-place.invariant.here (sym (c.in-Some.ensures.next 1 c.loop-place.invariant.here))).rest in
    omega arith

pub loop-place-preserved : goal.loop-place-preserved
loop-place-preserved c =
    let list = list_at c.self.inside.lists.lists 1 in
    let next = next_of c.loop-place.at c.in-Some.place list (c.in_ok-at.ensures.sound.once 1) c.loop-place.invariant.here (sym (c.in-Some.ensures.next 1 c.loop-place.invariant.here)) in
    record {
      here = next.listed;
      listed = least_listed c.loop-place.least c.in-Some.place c.min-least.result list c.min-least.ensures c.loop-place.invariant.listed next.listed;
      least = λ u there none. least_more c.loop-place.at c.loop-place.least c.in-Some.place c.min-least.result u list c.min-least.ensures next.rest none (c.loop-place.invariant.least u there);
    }

pub returns-clause-least : goal.returns-clause-least
returns-clause-least c =
    let list = list_at c.self.inside.lists.lists 1 in
    subst (IsLeast c.loop-place.least) (ap (λ q. q.leased) c.self.view_is) (record {
      there = c.loop-place.invariant.listed;
      least = λ u there. c.loop-place.invariant.least u there (ap (is_listed u) (last_of c.loop-place.at list (sym (c.next.ensures.next 1 c.loop-place.invariant.here) ∙ c.in_default.is)));
    })
