use Rattle.std.proofs.Common.{refl, sym, ◌∙◌}
use Rattle.commit_book.proofs.Threads.Lending.{kept_given}
use Rattle.commit_book.proofs.book.Book.give_back.Goals as goal

pub invariant_of-self : goal.invariant_of-self
invariant_of-self c = record {
  kept =
      kept_given c.self.inside.job c.self.inside.parts (record c.self.inside.parts { slots = c.set_state.new.self }) c.end.result.0.0 c.end.result.1.0 c.self.invariant.kept
      (sym c.is_lent.ensures ∙ c.if-is_lent.true) refl c.set_state.ensures.next c.set_state.ensures.threads c.set_state.ensures.sound;
  short = c.self.invariant.short;
}

pub returns-then-is_lent-clause-shown : goal.returns-then-is_lent-clause-shown
returns-then-is_lent-clause-shown c =
    (kept_given c.self.inside.job c.self.inside.parts (record c.self.inside.parts { slots = c.set_state.new.self }) c.end.result.0.0 c.end.result.1.0 c.self.invariant.kept
    (sym c.is_lent.ensures ∙ c.if-is_lent.true) refl c.set_state.ensures.next c.set_state.ensures.threads c.set_state.ensures.sound).shown
