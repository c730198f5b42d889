use Rattle.std.proofs.Common.{◌++◌, ◌∙◌}
use Rattle.std.proofs.lemmas.Result.{err_from_is_err_and}
use Rattle.stab_files.proofs.Puts.{appends_trans}
use Rattle.sink_lines.proofs.Pieces.{piece_cut, piece_whole}
use Rattle.sink_lines.proofs.writing.put_lines.Goals as goal

pub loop-rest-preserved : goal.loop-rest-preserved
loop-rest-preserved g c =
    let so_far = c.loop-rest.invariant in
    let line = c.split_at.result.0.now in (
      so_far.0 ++ line,
      piece_whole c.args.text.now so_far.0 c.loop-rest.rest.now line c.split_at.result.1.now c.line_len.result so_far.1 c.split_at.ensures.front c.split_at.ensures.back,
      appends_trans _ _ _ so_far.0 line so_far.2 c.in_ok-put.ensures.appended,
      c.in_ok-put.ensures.quiet ∙ so_far.3,
    )

pub returns-in_err-put-clause-prefix : goal.returns-in_err-put-clause-prefix
returns-in_err-put-clause-prefix g c =
    let so_far = c.loop-rest.invariant in
    let failed = err_from_is_err_and c.from_residual.result c.from_residual.ensures.1 in
    rw (failed.1) (
    piece_cut (g.K.Sink.told c.args.sink.now) (g.K.Sink.told c.loop-rest.sink) (g.K.Sink.told c.put.new.self) c.args.text.now so_far.0 c.loop-rest.rest.now c.split_at.result.0.now c.split_at.result.1.now c.line_len.result
    so_far.1 c.split_at.ensures.front c.split_at.ensures.back so_far.2 c.in_err-put.ensures.prefix
    )
