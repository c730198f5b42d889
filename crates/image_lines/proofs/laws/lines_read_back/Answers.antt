use Rattle.std.proofs.Common.{ap, ◌∙◌}
use Rattle.image_lines.specs.Line.{line_in}
use Rattle.image_lines.proofs.HeadRead.{length_exact, next_exact, probe_exact, probes_exact}
use Rattle.image_lines.proofs.HeadWritten.{length_back, length_whole, next_back, next_whole, probe_back, probe_whole, probes_back, probes_whole}
use Rattle.image_lines.proofs.LinePieces.{text_lacks_feeds, text_pieces}
use Rattle.image_lines.proofs.LinesRead.{bytes_were}
use Rattle.image_lines.proofs.LinesWritten.{line_back}
use Rattle.image_lines.proofs.laws.lines_read_back.Goals as goal

pub returns-clause-length : goal.returns-clause-length
returns-clause-length c = record { written = length_back; whole = length_whole; exact = length_exact }

pub returns-clause-probes : goal.returns-clause-probes
returns-clause-probes c = record { written = probes_back; whole = probes_whole; exact = probes_exact }

pub returns-clause-probe : goal.returns-clause-probe
returns-clause-probe c = record { written = probe_back; whole = probe_whole; exact = probe_exact }

pub returns-clause-next : goal.returns-clause-next
returns-clause-next c = record { written = next_back; whole = next_whole; exact = next_exact }

pub returns-clause-line : goal.returns-clause-line
returns-clause-line c = record { written = λ l h. ap line_in (text_pieces l h) ∙ line_back l h; whole = text_lacks_feeds; exact = bytes_were }
