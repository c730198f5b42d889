use Rattle.std.proofs.Common.{refl, sym, subst, ◌∙◌}
use Rattle.journal_laws.specs.Known.{IsExprIn, IsKnown}
use Rattle.language.specs.Held.{Held}
use Rattle.trace_verify.specs.Surviving.{IsKept}
use Rattle.image_run.proofs.Stepping.{begun}
use Rattle.image_run.proofs.machine.Machine.new.Goals as goal

pub returns-clause-at : goal.returns-clause-at
returns-clause-at c =
    let same = c.in_ok-start.ensures in
    begun _ c.requires
    (subst (λ (h : Held). IsKept h.state c.in_ok-new.field-0) same (c.in_ok-new.ensures.kept (subst (λ (h : Held). IsKnown IsExprIn h.state) (sym same) c.requires.known)))
    c.in_ok-new.ensures.begun.1 c.in_ok-new.ensures.begun.2 (c.in_ok-new.ensures.begun.0 ∙ same) c.new-2.ensures.items refl refl refl c.new-3.ensures.before c.new-3.ensures.none
