use Rattle.std.proofs.Common.{sym, subst}
use Rattle.std.specs.Prelude.{IfOk}
use Rattle.trace_verify.specs.Replayed.{Follows}
use Rattle.trace_verify.proofs.replay.Replay.follow.Goals as goal

pub returns-in-Undo : goal.returns-in-Undo
returns-in-Undo c = λ p events number r.
    subst (λ w. IfOk c.undo.result (Follows p c.args.script.now events c.args.self.now c.undo.new.self w)) (sym c.in-Undo.is) (c.undo.ensures p c.args.script.now events number r)

pub returns-in-Release : goal.returns-in-Release
returns-in-Release c = λ p events number r.
    subst (λ w. Follows p c.args.script.now events c.args.self.now c.release.new.self w c.release.result) (sym c.in-Release.is) (c.release.ensures p c.args.script.now events number r)
