use Rattle.std.proofs.Common.{[], refl, sym, ap, subst, ◌∙◌, arith}
use Rattle.std.specs.Arc.{arc_value}
use Rattle.language.specs.Held.{Held, held}
use Rattle.language.specs.Plain.{start}
use Rattle.language.specs.Standing.{StandsFor, nothing}
use Rattle.journal_laws.proofs.Runs.{start_known}
use Rattle.journal_laws.specs.Known.{IsExprIn, IsKnown}
use Rattle.stab_journal.specs.Since.{AreBelow}
use Rattle.trace_verify.specs.Surviving.{IsKept}
use Rattle.trace_verify.proofs.replay.Replay.new.Goals as goal

pub returns-clause-ready : goal.returns-clause-ready
returns-clause-ready c =
    let p = arc_value c.args.program.now in
    let is = c.in_ok-new.ensures.begun.0 ∙ c.in_ok-start.ensures in
    let known = subst (λ (h : Held). IsKnown IsExprIn h.state) (sym c.in_ok-start.ensures) (start_known p) in
    record {
      kept = record {
        kept = subst (λ s. IsKept s c.in_ok-new.field-0) (ap (λ (h : Held). h.state) c.in_ok-start.ensures ∙ ap (λ (h : Held). start h.program) (sym is)) (c.in_ok-new.ensures.kept known);
        since = c.in_ok-new.ensures.begun.2;
      };
      below = subst (AreBelow 1) (sym c.in_ok-new.ensures.begun.1) tt;
      before = c.new-2.ensures.before;
      probes = omega arith;
    }

-- no events stand for no steps and the start
pub returns-clause-replayed : goal.returns-clause-replayed
returns-clause-replayed c = λ script.
    let is = c.in_ok-new.ensures.begun.0 ∙ c.in_ok-start.ensures in
    record {
      program = ap (λ (h : Held). h.program) is;
      stands = subst (λ run. StandsFor (arc_value c.args.program.now) [] run c.in_ok-new.field-0.state.state) (sym c.in_ok-new.ensures.begun.1)
          (subst (λ (h : Held). StandsFor (arc_value c.args.program.now) [] [] h.state) (sym is) nothing);
      follows = λ i. tt;
      probes = refl;
      released = refl;
      generations = c.new-2.ensures.none;
    }
