use Rattle.std.proofs.Common.{sym, ap, ◌∙◌}
use Rattle.std.specs.FinMap as map
use Rattle.thread_slots.specs.Slot.{restored}
use Rattle.checkpoint_store.specs.Saved.{saved_at}
use Rattle.restore.proofs.Carried.{back_one, gone_one, changed_here, changed_other, removed_here, removed_other}
use Rattle.restore.proofs.undoing.put_one_back.Goals as goal

pub returns-in-Some-clause-thread : goal.returns-in-Some-clause-thread
returns-in-Some-clause-thread g c =
    ap (λ m. map.get m c.args.t.0) c.restore.ensures.threads ∙ changed_here c.args.slots.now.threads c.args.t.0 (restored c.in-Some.control)
    ∙ back_one (λ q. saved_at c.args.store.now (record { 0 = q }) c.args.t) c.args.line c.in-From.q c.in-Some.control (map.get c.args.slots.now.threads c.args.t.0)
    c.in-From.is (sym c.take.ensures.taken ∙ c.in-Some.is)

pub returns-in-Some-clause-others : goal.returns-in-Some-clause-others
returns-in-Some-clause-others g c = λ u other. ap (λ m. map.get m u) c.restore.ensures.threads ∙ changed_other c.args.slots.now.threads c.args.t.0 u (restored c.in-Some.control) other

pub returns-in-Gone-clause-thread : goal.returns-in-Gone-clause-thread
returns-in-Gone-clause-thread g c =
    ap (λ m. map.get m c.args.t.0) c.remove.ensures.threads ∙ removed_here c.args.slots.now.threads c.args.t.0
    ∙ gone_one (λ q. saved_at c.args.store.now (record { 0 = q }) c.args.t) c.args.line (map.get c.args.slots.now.threads c.args.t.0) c.in-Gone.is

pub returns-in-Gone-clause-others : goal.returns-in-Gone-clause-others
returns-in-Gone-clause-others g c = λ u other. ap (λ m. map.get m u) c.remove.ensures.threads ∙ removed_other c.args.slots.now.threads c.args.t.0 u other
