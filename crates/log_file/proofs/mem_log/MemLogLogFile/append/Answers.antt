use Rattle.std.proofs.Common.{◌≤◌, length, arith, ap, ◌∙◌}
use Rattle.log_file.specs.MemLog.{HeldLog}
use Rattle.log_file.proofs.Firm.{appends_first, grew_whole}
use Rattle.log_file.proofs.mem_log.MemLogLogFile.append.Goals as goal

pub returns-then-taken-piece-clause-front : goal.returns-then-taken-piece-clause-front
returns-then-taken-piece-clause-front c =
    let bytes = c.self.inside.bytes in
    let le : c.self.inside.firm ≤ length bytes.items = omega (arith, c.self.invariant.0, bytes.ok.0) in
    let before = ap (λ (log : HeldLog). log.disk) (c.self.view_is ∙ c.begin_open.ensures.counted) in
    let after = ap (λ (log : HeldLog). log.disk) c.fail-then-taken-piece.ensures.after in
    let grew = grew_whole c.extend_from_slice.result _ bytes.items c.extend_from_slice.new.self.items _ c.unwrap.ensures c.extend_from_slice.ensures.items in
    appends_first _ _ c.self.inside.firm _ bytes.items c.extend_from_slice.new.self.items c.args.piece.now before after grew le
