use Rattle.trace_text.proofs.Texts.{text-from}
use Rattle.trace_text.proofs.laws.what_is_read_is_text.Goals as goal

pub returns : goal.returns
returns c = text-from
