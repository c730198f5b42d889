use Rattle.std.proofs.Common.{ap, arith, take, ◌∙◌}
use Rattle.stab_base.specs.Datum.{Datum}
use Rattle.std.proofs.Common.{List}
use Rattle.stab_journal.specs.Due.{released}
use Rattle.stab_journal.specs.Surviving.{run_of}
use Rattle.commit_book.proofs.Lawful.Firm.{finals_printed, firm, released_final}
use Rattle.commit_book.proofs.laws.released_values_stay.Goals as goal

pub returns-clause-values : goal.returns-clause-values
returns-clause-values c = λ b shown first after cut s stands.
    let journal = shown.shows.journal in
    let n = released first in
    let few = released_final b.job.program first (run_of first) s stands in
    ap (λ (vs : List Datum). take n vs) journal.printed
    ∙ (firm b.job.program first (run_of first) s stands n few b.history.events shown.run shown.state journal.history.stands after cut).same

pub returns-clause-all : goal.returns-clause-all
returns-clause-all c = λ b shown first after cut s stands.
    let few = released_final b.job.program first (run_of first) s stands in
    let all = finals_printed b.job.program first (run_of first) s stands in
    omega (arith, few, all)
