use Rattle.std.proofs.Common.{◌++◌, ap, ◌∙◌}
use Rattle.std.proofs.lemmas.Result.{err_from_is_err_and}
use Rattle.schedule_drill.specs.Played.{stand}
use Rattle.schedule_drill.proofs.Playing.{played_next, stops_at}
use Rattle.schedule_drill.proofs.whole.play_all.Goals as goal

pub returns-in_err-text-clause-stopped : goal.returns-in_err-text-clause-stopped
returns-in_err-text-clause-stopped c =
    let p = err_from_is_err_and c.from_residual.result c.from_residual.ensures.1 in
    rw (p.1, p.2) (stops_at (stand c.args.book.now c.args.leases.now) (stand c.loop-line.book c.loop-line.leases) c.args.script.now c.loop-line.line-index _ c.loop-line.lines.items c.loop-line-test.true c.loop-line.invariant.played
    c.in_err-text.field-0.0 c.in_err-text.ensures.faulty)

pub loop-line-preserved : goal.loop-line-preserved
loop-line-preserved c = record {
  played = played_next (stand c.args.book.now c.args.leases.now) (stand c.loop-line.book c.loop-line.leases) (stand c.play.new.book c.play.new.leases) c.args.script.now c.loop-line.line-index _ c.loop-line.lines.items _ c.extend_from_slice.new.self.items
      c.loop-line-test.true c.loop-line.invariant.played c.in_ok-text.ensures.played c.play.ensures.shown (c.in_ok-extend_from_slice.ensures.items ∙ ap (λ t. c.loop-line.lines.items ++ t) c.as_bytes.ensures.value);
  under = c.in_ok-text.ensures.under;
  shown = c.play.ensures.shown;
}
