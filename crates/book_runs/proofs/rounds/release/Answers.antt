use Rattle.std.proofs.Common.{◌++◌, sym, ap, ◌∙◌}
use Rattle.commit_book.specs.Releases.{due_lines}
use Rattle.book_text.specs.Written.{released_lines}
use Rattle.lone_worker.specs.Turn.{worker}
use Rattle.book_runs.proofs.Rounding.{none_due, release_lines}
use Rattle.book_runs.proofs.rounds.release.Goals as goal

pub returns-in-Ok-clause-says : goal.returns-in-Ok-clause-says
returns-in-Ok-clause-says c = (c.in-Ok.ensures.released, none_due c.args.book.now c.release.new.self worker c.in-Ok.ensures.released)

pub returns-in-Ok-clause-lines : goal.returns-in-Ok-clause-lines
returns-in-Ok-clause-lines c =
    let last = c.args.book.now in
    release_lines last c.release.new.self worker c.in-Ok.ensures.released c.requires.unlent.shown
    ∙ ap (λ l. released_lines last ++ l) (sym (c.in-Ok.ensures.lines ∙ ap (λ l. l ++ due_lines last) c.requires.empty))
