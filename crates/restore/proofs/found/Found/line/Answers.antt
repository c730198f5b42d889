use Rattle.std.proofs.Common.{None, sym, ap, ◌∙◌, arith}
use Rattle.std.specs.FinMap as map
use Rattle.std.proofs.lemmas.List.{get_or_past, get_or_read}
use Rattle.restore.specs.Found.{Finding}
use Rattle.restore.proofs.Finding.{at_place}
use Rattle.restore.proofs.found.Found.line.Goals as goal

pub returns-then-t-len : goal.returns-then-t-len
returns-then-t-len c =
    let ls = c.self.inside.lines.items in
    sym (get_or_past ls c.args.t.0 None (omega (arith, c.self.inside.lines.ok.0))) ∙ sym (at_place ls c.args.t.0) ∙ ap (λ (f : Finding). map.get f.lines c.args.t.0) c.self.view_is

pub returns : goal.returns
returns c =
    let ls = c.self.inside.lines.items in
    get_or_read ls c.args.t.0 c.index.result.now (omega (arith, c.self.inside.lines.ok.0)) c.index.ensures None ∙ sym (at_place ls c.args.t.0) ∙ ap (λ (f : Finding). map.get f.lines c.args.t.0) c.self.view_is
