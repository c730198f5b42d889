use Rattle.text_lines.proofs.LineList.{few-lines_of}
use Rattle.text_lines.proofs.lines.Lines.new.Goals as goal

pub returns-clause-few : goal.returns-clause-few
returns-clause-few c = few-lines_of c.args.bytes.now
