use Rattle.std.proofs.Common.{suc, ◌++◌, ◌∷◌, [], sym, ap, subst, ◌∙◌, arith, add-one}
use Rattle.std.specs.Prelude.{codes}
use Rattle.std.proofs.lemmas.Result.{err_from_is_err_and}
use Rattle.stab_files.specs.Told.{Appends, AppendsPrefix}
use Rattle.stab_files.proofs.Puts.{appends_prefix_more, appends_prefix_trans, appends_trans}
use Rattle.trace_text.specs.Text.{trace}
use Rattle.trace_text.proofs.PutLines.{last_is, left, next_is, on_err, on_ok, piece_cut, whole_more}
use Rattle.trace_text.proofs.Texts.{length-entries}
use Rattle.trace_text.proofs.write.put_lines.Goals as goal

pub returns-in_err-put-clause-prefix : goal.returns-in_err-put-clause-prefix
returns-in_err-put-clause-prefix g c =
    let failed = err_from_is_err_and c.from_residual.result c.from_residual.ensures.1 in
    rw (failed.1) (appends_prefix_more (g.K.Sink.told c.args.sink.now) (g.K.Sink.told c.put.new.self) (codes "stab trace 2" ++ 10 ∷ []) (left c.args.history.now 0) c.in_err-put.ensures.prefix)

pub returns-in_err-put-2-clause-prefix : goal.returns-in_err-put-2-clause-prefix
returns-in_err-put-2-clause-prefix g c =
    let j = c.args.history.now in
    let so_far = c.loop-passed.invariant in
    let passed = c.loop-passed.passed in
    let failed = err_from_is_err_and c.from_residual-in_err-put-2.result c.from_residual-in_err-put-2.ensures.1 in
    rw (failed.1) (
    piece_cut (g.K.Sink.told c.args.sink.now) (g.K.Sink.told c.loop-passed.sink) (g.K.Sink.told c.put-in-loop-passed.new.self) (trace j) so_far.front c.deref.result.now (left j (suc passed))
    (next_is j passed c.entry_after.result (trace j) so_far.front c.deref.result.now so_far.whole c.entry_after.ensures (c.deref.ensures.value ∙ c.set_event_line.ensures.line))
    so_far.put c.in_err-put-2.ensures.prefix
    )

pub loop-passed-preserved : goal.loop-passed-preserved
loop-passed-preserved g c =
    let j = c.args.history.now in
    let so_far = c.loop-passed.invariant in
    let passed = c.loop-passed.passed in
    let piece = c.deref.result.now in
    let put = c.in_ok-put-2.ensures in
    record {
      front = so_far.front ++ piece;
      whole =
          whole_more (g.K.Sink.told c.args.sink.now) (g.K.Sink.told c.loop-passed.sink) (g.K.Sink.told c.put-in-loop-passed.new.self) (trace j) so_far.front piece (left j (suc passed))
          (next_is j passed c.entry_after.result (trace j) so_far.front piece so_far.whole c.entry_after.ensures (c.deref.ensures.value ∙ c.set_event_line.ensures.line))
          ∙ ap (λ n. (so_far.front ++ piece) ++ left j n) (sym (add-one passed));
      put = appends_trans (g.K.Sink.told c.args.sink.now) (g.K.Sink.told c.loop-passed.sink) (g.K.Sink.told c.put-in-loop-passed.new.self) so_far.front piece so_far.put put.appended;
      quiet = put.quiet ∙ so_far.quiet;
      room = c.set_event_line.ensures.room;
    }

pub returns-clause-appended : goal.returns-clause-appended
returns-clause-appended g c =
    let j = c.args.history.now in
    let so_far = c.loop-passed.invariant in
    let piece = c.deref-2.result.now in
    let entries_len = length-entries j.struck 1 j.events in
    let whole = last_is j c.loop-passed.passed c.len-count.result (trace j) so_far.front piece so_far.whole (omega (arith, entries_len, c.len-count.ensures.len, c.loop-passed-test.false)) (c.len-count.ensures.len ∙ sym entries_len) (c.deref-2.ensures.value ∙ c.set_end_line.ensures.line) in
    on_ok c.put-2.result (Appends (g.K.Sink.told c.loop-passed.sink) (g.K.Sink.told c.put-2.new.self) piece) (Appends (g.K.Sink.told c.args.sink.now) (g.K.Sink.told c.put-2.new.self) (trace j))
    (λ p. subst (Appends (g.K.Sink.told c.args.sink.now) (g.K.Sink.told c.put-2.new.self)) (sym whole)
    (appends_trans (g.K.Sink.told c.args.sink.now) (g.K.Sink.told c.loop-passed.sink) (g.K.Sink.told c.put-2.new.self) so_far.front piece so_far.put p)) c.put-2.ensures.appended

pub returns-clause-prefix : goal.returns-clause-prefix
returns-clause-prefix g c =
    let j = c.args.history.now in
    let so_far = c.loop-passed.invariant in
    let piece = c.deref-2.result.now in
    let entries_len = length-entries j.struck 1 j.events in
    let whole = last_is j c.loop-passed.passed c.len-count.result (trace j) so_far.front piece so_far.whole (omega (arith, entries_len, c.len-count.ensures.len, c.loop-passed-test.false)) (c.len-count.ensures.len ∙ sym entries_len) (c.deref-2.ensures.value ∙ c.set_end_line.ensures.line) in
    on_err c.put-2.result (AppendsPrefix (g.K.Sink.told c.loop-passed.sink) (g.K.Sink.told c.put-2.new.self) piece) (AppendsPrefix (g.K.Sink.told c.args.sink.now) (g.K.Sink.told c.put-2.new.self) (trace j))
    (λ p. subst (AppendsPrefix (g.K.Sink.told c.args.sink.now) (g.K.Sink.told c.put-2.new.self)) (sym whole)
    (appends_prefix_trans (g.K.Sink.told c.args.sink.now) (g.K.Sink.told c.loop-passed.sink) (g.K.Sink.told c.put-2.new.self) so_far.front piece so_far.put p)) c.put-2.ensures.prefix
