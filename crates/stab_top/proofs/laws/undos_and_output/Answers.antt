use Rattle.std.proofs.Common.{◌≡◌, ◌∙◌, ap, arith}
use Rattle.std.specs.Prelude.{count_by, length}
use Rattle.stab_journal.specs.declared.event.Numbered.{Numbered}
use Rattle.stab_journal.specs.Due.{is_print}
use Rattle.stab_journal.specs.Journal.{survivors}
use Rattle.language.specs.Plain.{start}
use Rattle.commit_book.proofs.Lawful.PrintCounts.{run_printed}
use Rattle.stab_top.proofs.laws.undos_and_output.Goals as goal

pub returns-clause-no_more : goal.returns-clause-no_more
returns-clause-no_more c = λ book first after worker t m n said is at lost. ((said.undos first after worker t m is).gone n at).0 lost

pub returns-clause-output : goal.returns-clause-output
returns-clause-output c = λ book said.
    let run = said.run in
    let all = run_printed book.job.program (survivors book.history) (start book.job.program) run.end run.run.ends in
    let as_many : length run.end.output ≡ count_by (λ (n : Numbered). is_print n.label) (survivors book.history) = omega (arith, all) in
    ap length run.output ∙ as_many
