use Rattle.std.proofs.Common.{◌+◌, cond, nat_eq, sym, ap, ◌∙◌}
use Rattle.trace_verify.specs.declared.generations.PutBack.{PutBack}
use Rattle.trace_verify.specs.Generations.{last, times}
use Rattle.trace_verify.proofs.Counting.{not_yet, read_after, yet}
use Rattle.trace_verify.proofs.generations.Generations.count.Goals as goal

pub returns-in_ok-insert : goal.returns-in_ok-insert
returns-in_ok-insert c = record {
  counts = λ u. (
    read_after (λ (b : PutBack). b.times) c.args.t.0 u _ _ _ (c.in_ok-insert.ensures.updates.0 u)
        ∙ ap (λ k. cond (nat_eq u c.args.t.0) (k + 1) (times c.args.self.now u)) c.of.ensures
        ∙ not_yet c.args.undo.0 c.args.t.0 u (times c.args.self.now) (last c.args.self.now) (λ e. c.if-last-undo.true (c.last.ensures ∙ e)),
    read_after (λ (b : PutBack). b.last) c.args.t.0 u _ _ _ (c.in_ok-insert.ensures.updates.0 u),
  );
}

pub returns-else-last-undo : goal.returns-else-last-undo
returns-else-last-undo c = record { counts = λ u. yet c.args.undo.0 c.args.t.0 u (times c.args.self.now) (last c.args.self.now) (sym c.last.ensures ∙ c.if-last-undo.false) }
