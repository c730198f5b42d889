use Rattle.std.proofs.Common.{sym, ◌∙◌, ap, subst, rules}
use Rattle.crossbeam_utils.specs.Seq.{cell_view}
use Rattle.stab_watch.specs.Board.{Loaded}
use Rattle.stab_watch.specs.Counts.{StartsWith, EndsWith}
use Rattle.stab_watch.specs.Passes.{ReaderParts}
use Rattle.stab_watch.proofs.Keeps.{loads}
use Rattle.stab_watch.proofs.Showing.{read_last}
use Rattle.stab_watch.proofs.board.Board.read.Goals as goal

pub load_as-words-requires : goal.load_as-words-requires
load_as-words-requires g c = (search rules, (search rules, (ap (λ r. r.board) c.reader.view_is ∙ c.requires.own ∙ sym c.self.view_is, loads _ _)))

pub invariant_of-reader : goal.invariant_of-reader
invariant_of-reader g c = c.reading_of-reader-inside.ensures ∙ read_last _ _ c.load_as-words.ensures.rule.last

pub returns-clause-own : goal.returns-clause-own
returns-clause-own g c = c.load_as-words.ensures.cell.0 ∙ ap (λ r. r.board) c.reader.view_is

pub returns-clause-read : goal.returns-clause-read
returns-clause-read g c =
    let u = cell_view c.load_as-words.new.pass in
    let l : Loaded (cell_view c.reader.inside.pass) c.load_as-words.result u = c.load_as-words.ensures.rule in
    record {
      starts = subst (λ (r : ReaderParts). StartsWith u.seen r.seen) c.reader.view_is l.starts;
      last = subst (EndsWith u.seen) (sym c.reading_of-reader-inside.ensures) l.last;
      rise = l.rise;
    }
