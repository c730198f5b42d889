use Rattle.std.proofs.Common.{◌≡◌, ap, sym, subst, ◌∙◌, add-one, arith}
use Rattle.stab_journal.specs.declared.event.Label.TheVariants.{Local}
use Rattle.language.specs.Held.{Held}
use Rattle.plain_language.specs.Plays.{step_in}
use Rattle.trace_verify.specs.Stretch.{AreMade}
use Rattle.trace_verify.proofs.Stretching.{one_more}
use Rattle.trace_verify.proofs.stretch.made_in.Goals as goal

pub loop-made-preserved : goal.loop-made-preserved
loop-made-preserved c =
    subst (AreMade c.args.seq.0 c.args.t c.args.state.now c.play.new.self) (sym (add-one c.loop-made.made))
    (one_more c.args.seq.0 c.args.t c.args.state.now c.loop-made.state c.play.new.self c.loop-made.made c.loop-made.invariant c.in-Ok.ensures.0 c.in-Ok.ensures.1)

pub returns-clause-made : goal.returns-clause-made
returns-clause-made c =
    let all : c.loop-made.made ≡ c.args.most = omega (arith, c.loop-made-test.false, c.loop-made.auto.made-end) in
    subst (AreMade c.args.seq.0 c.args.t c.args.state.now c.loop-made.state) all c.loop-made.invariant

pub returns-in-Err-NoStep-clause-made : goal.returns-in-Err-NoStep-clause-made
returns-in-Err-NoStep-clause-made c =
    subst (λ (k : Held). AreMade c.args.seq.0 c.args.t c.args.state.now k c.loop-made.made) (sym (rw c.in-Err-NoStep.field-0-is at c.in-Err-NoStep.ensures).1) c.loop-made.invariant

pub returns-in-Err-NoStep-clause-all : goal.returns-in-Err-NoStep-clause-all
returns-in-Err-NoStep-clause-all c = λ fewer.
    ap (λ (k : Held). step_in k c.args.seq.0 (Local c.args.t 1)) (rw c.in-Err-NoStep.field-0-is at c.in-Err-NoStep.ensures).1 ∙ (rw c.in-Err-NoStep.field-0-is at c.in-Err-NoStep.ensures).0
