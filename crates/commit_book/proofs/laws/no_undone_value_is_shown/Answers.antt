use Rattle.std.proofs.Common.{◌≡◌, ◌+◌, false, Some, ap, sym, ◌∙◌, arith}
use Rattle.std.specs.Prelude.{count_by, length}
use Rattle.stab_journal.specs.declared.event.Numbered.{Numbered}
use Rattle.stab_journal.specs.Due.{is_print}
use Rattle.language.specs.Plain.{effect_of, start}
use Rattle.journal_laws.specs.Surviving.{prints}
use Rattle.journal_laws.proofs.Undone.{stands_run}
use Rattle.commit_book.proofs.Lawful.PrintCounts.{run_printed}
use Rattle.commit_book.proofs.Lawful.StayPrinted.{output_is}
use Rattle.commit_book.proofs.laws.no_undone_value_is_shown.Goals as goal

pub returns-clause-values : goal.returns-clause-values
returns-clause-values c = λ b shown.
    let p = b.job.program in
    let journal = shown.shows.journal in
    let ran = (stands_run p b.history.events shown.run shown.state journal.history.stands).1 in
    journal.printed ∙ output_is p shown.run (start p) shown.state ran.ends
    ∙ ap (prints (effect_of p) (λ _. false) (Some (start p))) (sym journal.history.left)

pub returns-clause-each : goal.returns-clause-each
returns-clause-each c = λ b shown.
    let p = b.job.program in
    let journal = shown.shows.journal in
    let ran = (stands_run p b.history.events shown.run shown.state journal.history.stands).1 in
    let as_many : length shown.state.output ≡ 0 + count_by (λ (n : Numbered). is_print n.label) shown.run = run_printed p shown.run (start p) shown.state ran.ends in
    ap length journal.printed ∙ (omega (arith, as_many))
    ∙ ap (count_by (λ (n : Numbered). is_print n.label)) (sym journal.history.left)
