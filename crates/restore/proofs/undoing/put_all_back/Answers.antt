use Rattle.std.proofs.Common.{◌++◌, ◌&&◌, cond, None, Some, IsSome, IsSomeAnd, ◌<◌, is_some, take, get_or, refl, sym, ap, subst, ◌∙◌, arith, append-nil}
use Rattle.std.specs.Prelude.{filter}
use Rattle.std.specs.FinMap as map
use Rattle.std.proofs.lemmas.Bool.{false≢true}
use Rattle.linked_lists.specs.Lists.{is_listed}
use Rattle.checkpoint_store.specs.Saved.{saved_at}
use Rattle.restore.specs.Left.{goes_back, is_back, is_from, others, put_back}
use Rattle.restore.proofs.Ordered.{listed_key, once_keys}
use Rattle.restore.proofs.Carried.{others_none, queue_more, threads_more, saved_more, threads_all, saved_all, thread_still, saved_still, others-same, keys_more, take_keys, key_listed, key_fresh}
use Rattle.restore.proofs.undoing.put_all_back.Goals as goal

pub loop-t-init : goal.loop-t-init
loop-t-init g c = record {
  threads = λ u. refl;
  queue = sym (append-nil (others (λ u. is_listed u (take 0 (map.keys c.args.plan.now.lines))) c.args.slots.now.queue) ∙ others_none c.args.slots.now.queue);
  next = refl;
  spare = refl;
  saved = λ q u. refl;
  saved_spare = omega arith;
}

pub put_one_back-requires-clause-live : goal.put_one_back-requires-clause-live
put_one_back-requires-clause-live g c =
    let ts = c.touched-t-items.result.now in
    let ks = map.keys c.args.plan.now.lines in
    let t = get_or ts c.loop-t.t-index (record { 0 = 0 }) in
    subst (λ o. IsSome o) (sym (thread_still _ _ _ _ (key_fresh ts ks c.loop-t.t-index (once_keys c.args.plan.now.lines) c.loop-t-test.true c.touched-t-items.ensures) (c.loop-t.invariant.threads t)))
    (c.requires.live t.0 (sym (listed_key c.args.plan.now.lines t.0) ∙ key_listed ts ks c.loop-t.t-index c.loop-t-test.true c.touched-t-items.ensures))

pub put_one_back-requires-clause-generation : goal.put_one_back-requires-clause-generation
put_one_back-requires-clause-generation g c = λ q is.
    let ts = c.touched-t-items.result.now in
    let ks = map.keys c.args.plan.now.lines in
    let t = get_or ts c.loop-t.t-index (record { 0 = 0 }) in
    subst (λ o. IsSomeAnd o (λ slot. slot.generation < 18446744073709551615)) (sym (thread_still _ _ _ _ (key_fresh ts ks c.loop-t.t-index (once_keys c.args.plan.now.lines) c.loop-t-test.true c.touched-t-items.ensures) (c.loop-t.invariant.threads t)))
    (c.requires.generations t.0 q (sym c.line.ensures ∙ c.in-Some.is ∙ ap (λ l. Some l) is))

pub put_one_back-requires-clause-saved : goal.put_one_back-requires-clause-saved
put_one_back-requires-clause-saved g c = λ q is.
    let ts = c.touched-t-items.result.now in
    let ks = map.keys c.args.plan.now.lines in
    let t = get_or ts c.loop-t.t-index (record { 0 = 0 }) in
    subst (λ o. IsSome o) (sym (saved_still _ _ _ _ (key_fresh ts ks c.loop-t.t-index (once_keys c.args.plan.now.lines) c.loop-t-test.true c.touched-t-items.ensures) (c.loop-t.invariant.saved q t)))
    (c.requires.saved t q (sym c.line.ensures ∙ c.in-Some.is ∙ ap (λ l. Some l) is))

pub unreachable-requires : goal.unreachable-requires
unreachable-requires g c =
    let ts = c.touched-t-items.result.now in
    let ks = map.keys c.args.plan.now.lines in
    let t = get_or ts c.loop-t.t-index (record { 0 = 0 }) in
    let there = sym (listed_key c.args.plan.now.lines t.0) ∙ key_listed ts ks c.loop-t.t-index c.loop-t-test.true c.touched-t-items.ensures in
    false≢true (sym (ap is_some (sym c.line.ensures ∙ c.in-None.is)) ∙ there)

pub loop-t-preserved : goal.loop-t-preserved
loop-t-preserved g c =
    let ts = c.touched-t-items.result.now in
    let ks = map.keys c.args.plan.now.lines in
    let done = take c.loop-t.t-index ks in
    let t = get_or ts c.loop-t.t-index (record { 0 = 0 }) in
    let lines = c.args.plan.now.lines in
    let more = sym (keys_more ts ks c.loop-t.t-index c.loop-t-test.true c.touched-t-items.ensures) in
    let out = key_fresh ts ks c.loop-t.t-index (once_keys lines) c.loop-t-test.true c.touched-t-items.ensures in
    record {
      threads = λ u.
          threads_more lines done t u (λ k q. saved_at c.args.store.now (record { 0 = q }) k) (λ k q. saved_at c.loop-t.store (record { 0 = q }) k) c.args.slots.now.threads c.loop-t.slots.threads c.put_one_back.new.slots.threads (Some c.in-Some.line) (sym c.in-Some.is ∙ c.line.ensures) out
          c.put_one_back.ensures.thread c.put_one_back.ensures.others
          (λ q. c.loop-t.invariant.saved (record { 0 = q }) t ∙ ap (λ b. cond (b && is_from q (map.get lines t.0)) None (saved_at c.args.store.now (record { 0 = q }) t)) out)
          c.loop-t.invariant.threads
          ∙ ap (λ l. cond (is_listed u.0 l) (put_back (λ q. saved_at c.args.store.now (record { 0 = q }) u) (map.get lines u.0) (map.get c.args.slots.now.threads u.0)) (map.get c.args.slots.now.threads u.0)) more;
      queue = c.put_one_back.ensures.queue ∙ queue_more (goes_back lines) done t.0 c.args.slots.now.queue c.loop-t.slots.queue (is_back (Some c.in-Some.line)) out (ap is_back (sym c.line.ensures ∙ c.in-Some.is)) c.loop-t.invariant.queue
          ∙ ap (λ l. others (λ u. is_listed u l) c.args.slots.now.queue ++ filter (goes_back lines) l) more;
      next = c.put_one_back.ensures.next ∙ c.loop-t.invariant.next;
      spare = c.put_one_back.ensures.spare ∙ c.loop-t.invariant.spare;
      saved = λ q u.
          saved_more lines done t u q.0 (Some c.in-Some.line) (saved_at c.put_one_back.new.store q u) (saved_at c.loop-t.store q u) (saved_at c.args.store.now q u) (sym c.in-Some.is ∙ c.line.ensures) out (c.put_one_back.ensures.saved q u) (c.loop-t.invariant.saved q u)
          ∙ ap (λ l. cond (is_listed u.0 l && is_from q.0 (map.get lines u.0)) None (saved_at c.args.store.now q u)) more;
      saved_spare = omega (arith, c.put_one_back.ensures.saved_spare, c.loop-t.invariant.saved_spare);
    }

pub returns-clause-threads : goal.returns-clause-threads
returns-clause-threads g c = λ t.
    let ks = map.keys c.args.plan.now.lines in
    let back = put_back (λ q. saved_at c.args.store.now (record { 0 = q }) t) (map.get c.args.plan.now.lines t.0) (map.get c.args.slots.now.threads t.0) in
    c.loop-t.invariant.threads t
    ∙ ap (λ l. cond (is_listed t.0 l) back (map.get c.args.slots.now.threads t.0)) (take_keys c.touched-t-items.result.now ks c.loop-t.t-index c.loop-t-test.false c.touched-t-items.ensures)
    ∙ ap (λ b. cond b back (map.get c.args.slots.now.threads t.0)) (listed_key c.args.plan.now.lines t.0)
    ∙ threads_all (λ q. saved_at c.args.store.now (record { 0 = q }) t) (map.get c.args.plan.now.lines t.0) (map.get c.args.slots.now.threads t.0)

pub returns-clause-queue : goal.returns-clause-queue
returns-clause-queue g c =
    let ks = map.keys c.args.plan.now.lines in
    c.loop-t.invariant.queue
    ∙ ap (λ l. others (λ u. is_listed u l) c.args.slots.now.queue ++ filter (goes_back c.args.plan.now.lines) l) (take_keys c.touched-t-items.result.now ks c.loop-t.t-index c.loop-t-test.false c.touched-t-items.ensures)
    ∙ ap (λ l. l ++ filter (goes_back c.args.plan.now.lines) ks) (others-same (λ u. is_listed u ks) (map.contains_key c.args.plan.now.lines) c.args.slots.now.queue (listed_key c.args.plan.now.lines))

pub returns-clause-saved : goal.returns-clause-saved
returns-clause-saved g c = λ q t.
    let ks = map.keys c.args.plan.now.lines in
    let o = map.get c.args.plan.now.lines t.0 in
    c.loop-t.invariant.saved q t
    ∙ ap (λ l. cond (is_listed t.0 l && is_from q.0 o) None (saved_at c.args.store.now q t)) (take_keys c.touched-t-items.result.now ks c.loop-t.t-index c.loop-t-test.false c.touched-t-items.ensures)
    ∙ ap (λ b. cond (b && is_from q.0 o) None (saved_at c.args.store.now q t)) (listed_key c.args.plan.now.lines t.0)
    ∙ ap (λ b. cond b None (saved_at c.args.store.now q t)) (saved_all q.0 o)
