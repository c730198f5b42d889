use Rattle.std.proofs.Common.{cond, None, take, get_or, refl, sym, ap, ◌∙◌, option_map}
use Rattle.std.specs.FinMap as map
use Rattle.linked_lists.specs.Lists.{is_listed}
use Rattle.linked_lists.proofs.Numbered.{removed}
use Rattle.rendezvous.specs.Line.{left}
use Rattle.restore.specs.Left.{without_all}
use Rattle.restore.proofs.Ordered.{listed_key}
use Rattle.restore.proofs.Carried.{left_none, left_more, cond_more, without-same, keys_more, take_keys}
use Rattle.restore.proofs.undoing.withdraw_all.Goals as goal

pub loop-t-init : goal.loop-t-init
loop-t-init c = record { waiting = λ d. sym (left_none (map.get c.args.offers.now.lines d)); offers = λ u. refl }

pub loop-t-preserved : goal.loop-t-preserved
loop-t-preserved c =
    let ts = c.touched-t-items.result.now in
    let ks = map.keys c.args.plan.now.lines in
    let done = take c.loop-t.t-index ks in
    let t = (get_or ts c.loop-t.t-index (record { 0 = 0 })).0 in
    let more = sym (keys_more ts ks c.loop-t.t-index c.loop-t-test.true c.touched-t-items.ensures) in
    record {
      waiting = λ d.
          c.withdraw.ensures.lines d ∙ ap (option_map (left t)) (c.loop-t.invariant.waiting d) ∙ left_more done t (map.get c.args.offers.now.lines d)
          ∙ ap (λ l. option_map (without_all (λ u. is_listed u l)) (map.get c.args.offers.now.lines d)) more;
      offers = λ u.
          ap (λ m. map.get m u) c.withdraw.ensures.offers ∙ removed c.loop-t.offers.offers t u
          ∙ cond_more done t u (map.get c.loop-t.offers.offers u) (map.get c.args.offers.now.offers u) (c.loop-t.invariant.offers u)
          ∙ ap (λ l. cond (is_listed u l) None (map.get c.args.offers.now.offers u)) more;
    }

pub returns-clause-waiting : goal.returns-clause-waiting
returns-clause-waiting c = λ d.
    let ks = map.keys c.args.plan.now.lines in
    c.loop-t.invariant.waiting d
    ∙ ap (λ l. option_map (without_all (λ u. is_listed u l)) (map.get c.args.offers.now.lines d)) (take_keys c.touched-t-items.result.now ks c.loop-t.t-index c.loop-t-test.false c.touched-t-items.ensures)
    ∙ without-same (λ u. is_listed u ks) (map.contains_key c.args.plan.now.lines) (map.get c.args.offers.now.lines d) (listed_key c.args.plan.now.lines)

pub returns-clause-offers : goal.returns-clause-offers
returns-clause-offers c = λ u.
    let ks = map.keys c.args.plan.now.lines in
    c.loop-t.invariant.offers u
    ∙ ap (λ l. cond (is_listed u l) None (map.get c.args.offers.now.offers u)) (take_keys c.touched-t-items.result.now ks c.loop-t.t-index c.loop-t-test.false c.touched-t-items.ensures)
    ∙ ap (λ b. cond b None (map.get c.args.offers.now.offers u)) (listed_key c.args.plan.now.lines u)
