use Rattle.std.proofs.Common.{◌≡◌, ◌++◌, ◌<◌, List, ℕ, [], append-nil, sym, ap, ◌∙◌}
use Rattle.stab_journal.specs.Due.{due}
use Rattle.commit_book.specs.Book.{BookView}
use Rattle.book_text.specs.Written.{released_lines}
use Rattle.lone_worker.specs.declared.worker.RunEnd.TheVariants as ends
use Rattle.lone_worker.specs.Desk.{IsUnlent}
use Rattle.lone_worker.specs.Running.{IsLater, IsRun}
use Rattle.book_runs.specs.declared.rounds.RoundEnd.{RoundEnd}
use Rattle.book_runs.specs.declared.rounds.RoundEnd.TheVariants.{Released, Quiet, Spent, NoMemory}
use Rattle.book_runs.specs.Rounds.{ReleaseSays, RoundSays}
use Rattle.book_runs.proofs.Rounding.{later_again, nearer, run_lines}
use Rattle.book_runs.proofs.rounds.round.Goals as goal

-- nothing was released
nothing : (old new : List ℕ) (lines : List ℕ) → new ≡ old → lines ≡ [] → new ≡ old ++ lines
nothing old new lines same none = same ∙ sym (ap (λ l. old ++ l) none ∙ append-nil old)

-- what was due at the end of the run was released, or memory ran out
after_run : (old last new : BookView) (end : RoundEnd) → IsLater old last → IsRun ends.Due old last → IsUnlent last → 0 < due last.history.events → ReleaseSays end last new → RoundSays end old new
after_run old last new Released later run unlent some says =
    (record { last = last; run = run; unlent = unlent; released = says.0 }, nearer old last new later run some says.0)
after_run old last new NoMemory later run unlent some says =
    record { last = run.last; turns = run.turns; ends = ap (λ (b : BookView). b.history) (says ∙ run.ends.1) }
after_run old last new Quiet later run unlent some says = elim says [ ]
after_run old last new Spent later run unlent some says = elim says [ ]

pub returns-in-Quiet-clause-lines : goal.returns-in-Quiet-clause-lines
returns-in-Quiet-clause-lines c =
    nothing (released_lines c.args.book.now) (released_lines c.run.new.book) c.clear.new.self.items
    (run_lines c.args.book.now c.run.new.book c.requires.shown c.in-Quiet.ensures.shown c.in-Quiet.ensures.later ends.Quiet c.in-Quiet.ensures.run) c.clear.ensures.items

pub returns-in-Spent-clause-lines : goal.returns-in-Spent-clause-lines
returns-in-Spent-clause-lines c =
    nothing (released_lines c.args.book.now) (released_lines c.run.new.book) c.clear.new.self.items
    (run_lines c.args.book.now c.run.new.book c.requires.shown c.in-Spent.ensures.shown c.in-Spent.ensures.later ends.Spent c.in-Spent.ensures.run) c.clear.ensures.items

pub returns-in-NoMemory-clause-lines : goal.returns-in-NoMemory-clause-lines
returns-in-NoMemory-clause-lines c =
    nothing (released_lines c.args.book.now) (released_lines c.run.new.book) c.clear.new.self.items
    (run_lines c.args.book.now c.run.new.book c.requires.shown c.in-NoMemory.ensures.shown c.in-NoMemory.ensures.later ends.NoMemory c.in-NoMemory.ensures.run) c.clear.ensures.items

pub returns-in-Due-clause-later : goal.returns-in-Due-clause-later
returns-in-Due-clause-later c = later_again c.args.book.now c.run.new.book c.release.new.book c.in-Due.ensures.later c.release.ensures.later

pub returns-in-Due-clause-says : goal.returns-in-Due-clause-says
returns-in-Due-clause-says c =
    after_run c.args.book.now c.run.new.book c.release.new.book c.release.result c.in-Due.ensures.later c.in-Due.ensures.run
    (record { shown = c.in-Due.ensures.shown; free = c.in-Due.ensures.free }) c.in-Due.ensures.says c.release.ensures.says

pub returns-in-Due-clause-lines : goal.returns-in-Due-clause-lines
returns-in-Due-clause-lines c =
    c.release.ensures.lines
    ∙ ap (λ l. l ++ c.release.new.lines.items)
    (run_lines c.args.book.now c.run.new.book c.requires.shown c.in-Due.ensures.shown c.in-Due.ensures.later ends.Due c.in-Due.ensures.run)
