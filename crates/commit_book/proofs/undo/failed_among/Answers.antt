use Rattle.std.proofs.Common.{◌+◌, get_or, take, sym, ◌∙◌, arith}
use Rattle.std.specs.FinMap as map
use Rattle.restore.proofs.Carried.{key_fresh, key_listed, keys_more, take_keys}
use Rattle.restore.proofs.Ordered.{listed_key, once_keys}
use Rattle.commit_book.specs.Counts.{is_faulted_at}
use Rattle.commit_book.proofs.Undoing.Uncounted.{all_counted, at_most_one, next_counted, none_counted, one_from}
use Rattle.commit_book.proofs.undo.failed_among.Goals as goal

pub loop-t-init : goal.loop-t-init
loop-t-init c = record { few = omega arith; count = λ p valid fit n low. none_counted (is_faulted_at p c.args.slots.now.threads) n }

pub loop-t-preserved : goal.loop-t-preserved
loop-t-preserved c =
    let ts = c.touched-t-items.result.now in
    let ks = map.keys c.args.plan.now.lines in
    let t = (get_or ts c.loop-t.t-index (record { 0 = 0 })).0 in
    record {
      few = let one = at_most_one c.has_failed.result c.from-failed.result (one_from c.has_failed.result c.from-failed.result c.from-failed.ensures) in omega (arith, one, c.loop-t.invariant.few);
      count = λ p valid fit n low.
          next_counted (is_faulted_at p c.args.slots.now.threads) (take c.loop-t.t-index ks) (take (c.loop-t.t-index + 1) ks) t n c.loop-t.failed c.from-failed.result c.has_failed.result
          (low t (sym (listed_key c.args.plan.now.lines t) ∙ key_listed ts ks c.loop-t.t-index c.loop-t-test.true c.touched-t-items.ensures))
          (key_fresh ts ks c.loop-t.t-index (once_keys c.args.plan.now.lines) c.loop-t-test.true c.touched-t-items.ensures)
          (keys_more ts ks c.loop-t.t-index c.loop-t-test.true c.touched-t-items.ensures)
          (c.has_failed.ensures p valid fit) (one_from c.has_failed.result c.from-failed.result c.from-failed.ensures) (c.loop-t.invariant.count p valid fit n low);
    }

pub returns : goal.returns
returns c = λ p valid fit n low.
    all_counted c.args.plan.now.lines (is_faulted_at p c.args.slots.now.threads) n c.loop-t.failed (take c.loop-t.t-index (map.keys c.args.plan.now.lines))
    (take_keys c.touched-t-items.result.now (map.keys c.args.plan.now.lines) c.loop-t.t-index c.loop-t-test.false c.touched-t-items.ensures) (c.loop-t.invariant.count p valid fit n low)
