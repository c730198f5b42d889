use Rattle.std.proofs.Common.{subst}
use Rattle.commit_book.specs.Book.{BookView}
use Rattle.commit_book.specs.Layout.{view_of}
use Rattle.commit_book.specs.Turns.{IsRecalled}
use Rattle.commit_book.proofs.Threads.Lending.{kept_recalled, seen_recalled}
use Rattle.commit_book.proofs.Threads.Recalled.{recalled_free}
use Rattle.commit_book.proofs.book.Book.recall.Goals as goal

pub invariant_of-self : goal.invariant_of-self
invariant_of-self c = record {
  kept = kept_recalled c.self.inside.job c.self.inside.parts c.recall.new.self c.self.invariant.kept c.recall.ensures.next c.recall.ensures.threads c.recall.ensures.sound;
  short = c.self.invariant.short;
}

pub returns-clause-shown : goal.returns-clause-shown
returns-clause-shown c = (kept_recalled c.self.inside.job c.self.inside.parts c.recall.new.self c.self.invariant.kept c.recall.ensures.next c.recall.ensures.threads c.recall.ensures.sound).shown

pub returns-clause-recalled : goal.returns-clause-recalled
returns-clause-recalled c =
    subst (λ (b : BookView). IsRecalled b (view_of c.self.inside.job (record c.self.inside.parts { slots = c.recall.new.self }))) c.self.view_is
    (seen_recalled c.self.inside.job c.self.inside.parts c.recall.new.self c.recall.ensures.next c.recall.ensures.threads c.recall.ensures.queue)

pub returns-clause-free : goal.returns-clause-free
returns-clause-free c = recalled_free c.args.self.now (view_of c.self.inside.job (record c.self.inside.parts { slots = c.recall.new.self })) (returns-clause-recalled c)
