use Rattle.std.proofs.Common.{◌≡◌, ℕ, ◌<◌, ◌≤◌, not, true, ap, sym, subst, is_some, IsSome}
use Rattle.std.specs.List.{All}
use Rattle.std.specs.FinMap as map
use Rattle.std.proofs.lemmas.List.Elements.{All-filter, All-nil}
use Rattle.stab_base.specs.declared.numbers.ThreadId.{ThreadId}
use Rattle.comm_graph.specs.Node.{Node, touches}
use Rattle.checkpoint_store.specs.Saved.{Place, saved_at}
use Rattle.reach_line.specs.Reached.{has}
use Rattle.container_trial.proofs.Backs.{is_there, may_from}
use Rattle.container_trial.proofs.SavedPlaces.{was_there}
use Rattle.container_trial.proofs.tests.rollbacks.carry_out.Goals as goal

pub apply-requires-clause-live : goal.apply-requires-clause-live
apply-requires-clause-live c = λ t touched.
    let u : ThreadId = record { 0 = t } in
    is_there (map.get c.args.rollback.now.plan.lines t) (map.get c.args.slots.now.threads t) c.args.saved.now.store u (c.requires.may u touched)

pub apply-requires-clause-generations : goal.apply-requires-clause-generations
apply-requires-clause-generations c = λ t q is.
    let u : ThreadId = record { 0 = t } in
    (may_from (map.get c.args.rollback.now.plan.lines t) (map.get c.args.slots.now.threads t) c.args.saved.now.store u q is (c.requires.may u (ap is_some is))).0

pub apply-requires-clause-saved : goal.apply-requires-clause-saved
apply-requires-clause-saved c = λ t q is.
    (may_from (map.get c.args.rollback.now.plan.lines t.0) (map.get c.args.slots.now.threads t.0) c.args.saved.now.store t q is (c.requires.may t (ap is_some is))).1

pub invariant_of-nodes : goal.invariant_of-nodes
invariant_of-nodes c =
    let n = c.args.nodes.now in
    let stays = λ (m : Node). not (has m.number c.args.rollback.now.marks.nodes) in
    record {
      below = subst (All (λ (m : Node). m.number < n.next)) (sym c.apply.ensures.nodes) (All-filter stays (λ (m : Node). m.number < n.next) n.graph.nodes n.below);
      few = subst (All (λ (m : Node). (t : ℕ) → touches t m.kind ≡ true → t ≤ 1000)) (sym c.apply.ensures.nodes) (All-filter stays (λ (m : Node). (t : ℕ) → touches t m.kind ≡ true → t ≤ 1000) n.graph.nodes n.few);
    }

pub invariant_of-saved : goal.invariant_of-saved
invariant_of-saved c = record {
  below = λ r u some. c.args.saved.now.below r u (was_there _ _ (subst IsSome (c.apply.ensures.saved r u) some));
  there =
      let P : Place → Type 0 = λ p. IsSome (saved_at c.apply.new.store p.0 p.1) in
      subst (All P) (sym c.clear.ensures.items) (All-nil P);
}
