use Rattle.std.proofs.Common.{ap, ◌∙◌}
use Rattle.stab_journal.specs.Entries.{kept_from}
use Rattle.stab_journal.specs.Journal.{survivors}
use Rattle.stab_journal.proofs.Reading.{kept-survivors}
use Rattle.stab_journal.proofs.history.History.survivors.Goals as goal

pub returns : goal.returns
returns c = ap (kept_from 1) c.deref.ensures.value ∙ kept-survivors c.self.inside ∙ ap survivors c.self.view_is
