use Rattle.std.proofs.Common.{get_or, take, ap, sym, subst, ◌∙◌, rules}
use Rattle.std.specs.FinMap as map
use Rattle.stab_base.specs.declared.numbers.ThreadId.{ThreadId}
use Rattle.linked_lists.specs.Lists.{is_listed}
use Rattle.restore.proofs.Ordered.{listed_key}
use Rattle.restore.proofs.Carried.{keys_more, take_keys}
use Rattle.container_trial.specs.Places.{MayGoBack}
use Rattle.container_trial.proofs.Backs.{all_more}
use Rattle.container_trial.proofs.tests.rollbacks.may_all_go_back.Goals as goal

pub loop-t-preserved : goal.loop-t-preserved
loop-t-preserved c =
    let ts = c.touched-t-items.result.now in
    let ks = map.keys c.args.plan.now.lines in
    let t = get_or ts c.loop-t.t-index (record { 0 = 0 }) in
    all_more (λ u. MayGoBack (map.get c.args.plan.now.lines u.0) (map.get c.args.slots.now.threads u.0) c.args.saved.now.store u) (take c.loop-t.t-index ks) _ t
    (keys_more ts ks c.loop-t.t-index c.loop-t-test.true c.touched-t-items.ensures) c.loop-t.invariant
    (c.may_go_back-may.ensures (search rules))

pub returns : goal.returns
returns c = λ yes t touched.
    let ks = map.keys c.args.plan.now.lines in
    c.loop-t.invariant t (ap (is_listed t.0) (take_keys c.touched-t-items.result.now ks c.loop-t.t-index c.loop-t-test.false c.touched-t-items.ensures) ∙ listed_key c.args.plan.now.lines t.0 ∙ touched)
