use Rattle.std.proofs.Common.{[], sym, ap, subst, ◌∙◌, arith}
use Rattle.ref_log.specs.Layout.{held, head_at, log_of, IsLinked}
use Rattle.ref_log.proofs.Links.{linked-none}
use Rattle.ref_log.proofs.SoundLemmas.{order_fresh}
use Rattle.ref_log.proofs.Views.{writes-held}
use Rattle.ref_log.proofs.log.RefLog.new.Goals as goal

linked : (c : goal.After-new-2) → IsLinked c.new.result.items c.new-2.result.items
linked c = subst (λ es. IsLinked c.new.result.items es) (sym c.new-2.ensures.items) (linked-none c.new.result.items (λ s. ap (λ xs. head_at xs s) c.new.ensures.items))

pub returns-clause-empty : goal.returns-clause-empty
returns-clause-empty c = λ r.
    writes-held 0 c.new.result.items c.new-2.result r (linked c)
    ∙ ap (λ xs. held xs c.new-2.result.items r) c.new.ensures.items
    ∙ ap (λ es. held [] es r) c.new-2.ensures.items

pub invariant_of-result : goal.invariant_of-result
invariant_of-result c = record {
  order = order_fresh (log_of 0 c.new.result.items c.new-2.result) (returns-clause-empty c);
  linked = linked c;
  settled = λ r. rw c.new.ensures.items tt;
  few = rw c.new-2.ensures.items (omega arith);
}
