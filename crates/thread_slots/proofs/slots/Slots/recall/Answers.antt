use Rattle.std.proofs.Common.{◌≡◌, ◌∷◌, suc, length, option_map, sym, ap, ◌∙◌, subst, arith}
use Rattle.std.specs.FinMap as map
use Rattle.thread_slots.specs.declared.state.State.TheVariants.{Leased}
use Rattle.thread_slots.specs.Ready.{numbers}
use Rattle.thread_slots.specs.Slot.{is_in, recalled, IsSound}
use Rattle.thread_slots.proofs.Layouts.{IsSound-from_layout}
use Rattle.thread_slots.proofs.Recalled.{IsLeastLeased, least_from_layout, none_from_layout, recall_numbers, recall_queue, recalled_once, none_left}
use Rattle.thread_slots.proofs.slots.Slots.recall.Goals as goal

pub loop-t-smaller : goal.loop-t-smaller
loop-t-smaller g c =
    let first = subst (IsLeastLeased c.in-Some.t.0) c.self.view_is (least_from_layout c.self.inside.entries.items _ _ _ _ c.in-Some.t.0 c.self.invariant c.in-Some.ensures.least) in
    let more : length (numbers (is_in Leased c.loop-t.self.threads) c.loop-t.self.next) ≡ suc (length (numbers (is_in Leased c.set_state.new.self.threads) c.set_state.new.self.next)) =
    ap length (recall_numbers c.loop-t.self c.set_state.new.self c.in-Some.t.0 first c.set_state.ensures.threads c.set_state.ensures.next) in
    omega arith

pub loop-t-preserved : goal.loop-t-preserved
loop-t-preserved g c =
    let first = subst (IsLeastLeased c.in-Some.t.0) c.self.view_is (least_from_layout c.self.inside.entries.items _ _ _ _ c.in-Some.t.0 c.self.invariant c.in-Some.ensures.least) in
    record {
      threads = λ u. ap (λ m. option_map recalled (map.get m u)) c.set_state.ensures.threads ∙ recalled_once c.loop-t.self.threads c.in-Some.t.0 u first.leased ∙ c.loop-t.invariant.threads u;
      queue = recall_queue c.loop-t.self c.set_state.new.self c.in-Some.t.0 first c.set_state.ensures.threads c.set_state.ensures.queue c.set_state.ensures.next ∙ c.loop-t.invariant.queue;
      next = c.set_state.ensures.next ∙ c.loop-t.invariant.next;
      spare = c.set_state.ensures.spare ∙ c.loop-t.invariant.spare;
    }

pub returns-clause-queue : goal.returns-clause-queue
returns-clause-queue g c =
    sym (none_left c.loop-t.self.threads c.loop-t.self.next c.loop-t.self.queue (λ t. ap (λ s. is_in Leased s.threads t) (sym c.self.view_is) ∙ none_from_layout c.self.inside.entries.items c.self.inside.queues _ _ _ t c.self.invariant c.in_default.ensures.none))
    ∙ c.loop-t.invariant.queue

pub returns-clause-sound : goal.returns-clause-sound
returns-clause-sound g c = subst (λ s. IsSound s) c.self.view_is (IsSound-from_layout c.self.inside.entries.items _ _ _ _ c.self.invariant)
