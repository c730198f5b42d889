use Rattle.std.proofs.Common.{length, refl, ap, arith}
use Rattle.std.specs.List.{sum_by}
use Rattle.own_steps.specs.Own.{Seen}
use Rattle.own_steps.proofs.Rows.{no-more}
use Rattle.own_steps.proofs.own_steps.OwnSteps.len.Goals as goal

pub returns-clause-enough : goal.returns-clause-enough
returns-clause-enough c =
    let a = c.self.inside in
    let all = no-more (length a.entries.items) a.heads.items a.entries.items refl c.self.invariant in
    let same = ap (λ (s : Seen). sum_by length s.steps) c.self.view_is in
    omega (arith, c.len.ensures, a.entries.ok.0)
