use Rattle.std.proofs.Common.{sym, subst}
use Rattle.std.specs.Prelude.{option_map}
use Rattle.call_report.specs.declared.report.Made.TheVariants as made
use Rattle.call_report.specs.Report.{Leaves}
use Rattle.stab_top.proofs.running.report_of.Goals as goal

pub returns-in-Some-clause-leaves : goal.returns-in-Some-clause-leaves
returns-in-Some-clause-leaves c = subst (λ o. Leaves c.making.result (option_map made.Book o)) (sym c.in-Some.is) c.making.ensures.leaves

pub returns-in-None-clause-leaves : goal.returns-in-None-clause-leaves
returns-in-None-clause-leaves c =
    subst (λ o. Leaves c.bare.result (option_map made.Book o)) (sym c.in-None.is) (record { made = c.bare.ensures.blames.nothing; no_blame = c.bare.ensures.blames.blame })
