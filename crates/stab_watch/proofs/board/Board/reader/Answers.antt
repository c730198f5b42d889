use Rattle.std.proofs.Common.{sym, ◌∙◌, ap, rules}
use Rattle.stab_watch.specs.Counts.{last_words}
use Rattle.stab_watch.specs.Passes.{reader_of, writer_of}
use Rattle.stab_watch.proofs.Keeps.{parts}
use Rattle.stab_watch.proofs.board.Board.reader.Goals as goal

pub split_pass-requires : goal.split_pass-requires
split_pass-requires c = (search rules, (search rules, (ap (λ w. w.board) c.writer.view_is ∙ c.requires.own ∙ sym c.self.view_is, parts _ _)))

pub invariant_of-writer : goal.invariant_of-writer
invariant_of-writer c = let same = c.split_pass.ensures.kept.1 in (ap (λ v. v.writes) same ∙ c.writer.invariant.0, c.writer.invariant.1 ∙ ap (λ v. last_words v.seen) (sym same))

pub invariant_of-result : goal.invariant_of-result
invariant_of-result c = c.writer.invariant.1 ∙ ap (λ v. last_words v.seen) (sym c.split_pass.ensures.given.1)

pub returns-clause-writer : goal.returns-clause-writer
returns-clause-writer c =
    let e = c.split_pass.ensures.kept in
    (λ i. writer_of (e.0.0 i) (e.1 i).seen c.writer.inside.len) ∙ c.writer.view_is

pub returns-clause-reader : goal.returns-clause-reader
returns-clause-reader c =
    let e = c.split_pass.ensures.given in
    let board = e.0 ∙ ap (λ w. w.board) c.writer.view_is in
    let seen = ap (λ v. v.seen) e.1 ∙ ap (λ w. w.shown) c.writer.view_is in
    λ i. reader_of (board i) (seen i)
