use Rattle.std.proofs.Common.{◌≡◌, ◌≤◌, ◌++◌, ◌&&◌, cond, take, None}
use Rattle.std.specs.Prelude.{filter}
use Rattle.std.specs.FinMap as map
use Rattle.stab_base.specs.declared.numbers.Seq.{Seq}
use Rattle.stab_base.specs.declared.numbers.ThreadId.{ThreadId}
use Rattle.linked_lists.specs.Lists.{is_listed}
use Rattle.checkpoint_store.specs.Saved.{saved_at}
use Rattle.restore.specs.Left.{goes_back, is_from, others, put_back}
use Rattle.restore.proofs.undoing.put_all_back.Given as goal

abbrev pub invariant-loop-t : goal.invariant-loop-t
invariant-loop-t g l = record {
  threads : (u : ThreadId) → map.get l.slots.threads u.0
      ≡ cond (is_listed u.0 (take l.t-index (map.keys l.plan.lines))) (put_back (λ q. saved_at l.fn.store (record { 0 = q }) u) (map.get l.plan.lines u.0) (map.get l.fn.slots.threads u.0)) (map.get l.fn.slots.threads u.0);
  queue : l.slots.queue ≡ others (λ u. is_listed u (take l.t-index (map.keys l.plan.lines))) l.fn.slots.queue ++ filter (goes_back l.plan.lines) (take l.t-index (map.keys l.plan.lines));
  next : l.slots.next ≡ l.fn.slots.next;
  spare : l.slots.spare ≡ l.fn.slots.spare;
  saved : (q : Seq) (u : ThreadId) → saved_at l.store q u ≡ cond (is_listed u.0 (take l.t-index (map.keys l.plan.lines)) && is_from q.0 (map.get l.plan.lines u.0)) None (saved_at l.fn.store q u);
  saved_spare : l.fn.store.spare ≤ l.store.spare;
}
