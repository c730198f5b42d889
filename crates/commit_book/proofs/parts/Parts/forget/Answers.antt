use Rattle.std.proofs.Common.{cond, None, sym, ap, ◌∙◌}
use Rattle.std.specs.FinMap as map
use Rattle.linked_lists.proofs.Numbered.{removed}
use Rattle.stab_journal.specs.Names.{is_at, made}
use Rattle.commit_book.proofs.Undoing.StrikeCalls.{written_at}
use Rattle.commit_book.proofs.parts.Parts.forget.Goals as goal

pub strike-requires-in-NewRef : goal.strike-requires-in-NewRef
strike-requires-in-NewRef c = c.requires.write c.in-NewRef.r.0 (written_at c.args.label c.in-NewRef.r c.in-NewRef.is)

pub returns-in-NewChan-clause-lines : goal.returns-in-NewChan-clause-lines
returns-in-NewChan-clause-lines c = λ k.
    ap (λ m. map.get m k) c.unmake.ensures.lines
    ∙ removed c.args.self.now.offers.lines c.in-NewChan.c.0 k
    ∙ ap (λ l. cond (is_at (made l) k) None (map.get c.args.self.now.offers.lines k)) (sym c.in-NewChan.is)
