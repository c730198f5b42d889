use Rattle.std.proofs.Common.{sym, subst}
use Rattle.commit_book.specs.Book.{BookView}
use Rattle.commit_book.specs.Layout.{IsBook, view_of}
use Rattle.commit_book.specs.Probing.{IsWithinScript}
use Rattle.commit_book.proofs.Numbers.Fed.{fed_or_not}
use Rattle.commit_book.proofs.book.Book.feed.Goals as goal

pub invariant_of-self : goal.invariant_of-self
invariant_of-self c =
    let within : IsWithinScript (view_of c.self.inside.job c.self.inside.parts) = subst (λ (b : BookView). IsWithinScript b) (sym c.self.view_is) c.requires.within in
    fed_or_not c.self.inside.job c.extend_script.new.self c.self.inside.parts c.args.numbers.now c.extend_script.result c.extend_script.ensures.longer c.extend_script.ensures.err within c.self.invariant

pub returns-clause-shown : goal.returns-clause-shown
returns-clause-shown c =
    let within : IsWithinScript (view_of c.self.inside.job c.self.inside.parts) = subst (λ (b : BookView). IsWithinScript b) (sym c.self.view_is) c.requires.within in
    let book = fed_or_not c.self.inside.job c.extend_script.new.self c.self.inside.parts c.args.numbers.now c.extend_script.result c.extend_script.ensures.longer c.extend_script.ensures.err within c.self.invariant in
    book.kept.shown
