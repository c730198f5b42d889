use Rattle.std.proofs.Common.{◌+◌, length, sym, ap, ◌∙◌}
use Rattle.trace_text.specs.Reading.{read_behind, read_text}
use Rattle.text_lines.specs.Lines.{split}
use Rattle.trace_text.proofs.LineSteps.{header_step}
use Rattle.trace_text.proofs.read.read_trace.Goals as goal

pub returns-in-None : goal.returns-in-None
returns-in-None c =
    ap read_text c.in-Some.ensures.pieces
    ∙ header_step c.in-Some.first.now c.in-Some.rest.now
    ∙ ap (λ o. read_behind o (length c.in-Some.first.now + 1) (split 10 c.in-Some.rest.now)) (sym c.in-None.ensures)
