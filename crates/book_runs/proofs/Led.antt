-- The state in which a book's run ends.
use Rattle.std.proofs.Common.{◌≡◌, List, Some, ap, ◌∙◌}
use Rattle.stab_journal.specs.Journal.{Journal, survivors}
use Rattle.stab_journal.specs.declared.event.Numbered.{Numbered}
use Rattle.stab_code.specs.Program.{ProgramParts}
use Rattle.language.specs.Plain.{PlainState, end_of}
use Rattle.language.specs.Standing.{Shows}
use Rattle.journal_laws.proofs.Undone.{stands_run}

pub leads : (p : ProgramParts) (journal : Journal) (run : List Numbered) (s : PlainState) → Shows p journal run s → end_of p (survivors journal) ≡ Some s
leads p journal run s shown = ap (end_of p) shown.left ∙ (stands_run p journal.events run s shown.stands).1.ends
