use Rattle.std.proofs.Common.{sym, ◌∙◌}
use Rattle.language.specs.Plain.{look_in}
use Rattle.language.specs.Program.{body}
use Rattle.state_text.proofs.Looking.{all_passed, done_is, held_at, none_passed, not_done, one_passed}
use Rattle.state_text.proofs.ended.all_ended.Goals as goal

pub loop-t-init : goal.loop-t-init
loop-t-init c = none_passed c.args.state.now.program c.args.state.now.state c.requires

pub loop-t-preserved : goal.loop-t-preserved
loop-t-preserved c =
    let p = c.args.state.now.program in
    one_passed p c.args.state.now.state c.loop-t.last c.in-Some.t.0 c.in-Some.e.now c.in-Some.ensures.least c.in-Some.ensures.stands
    (done_is (look_in p c.in-Some.e.now) (sym c.in-Done.is ∙ c.look.ensures (body p))) c.loop-t.invariant

pub returns-clause-all : goal.returns-clause-all
returns-clause-all c = λ on. all_passed c.args.state.now.program c.args.state.now.state c.loop-t.last c.in_default.ensures.least c.loop-t.invariant

pub returns-in_default-look-clause-some : goal.returns-in_default-look-clause-some
returns-in_default-look-clause-some c = λ off.
    let p = c.args.state.now.program in
    record {
      thread = c.in-Some.t.0;
      held = held_at p c.args.state.now.state c.in-Some.t.0 c.in-Some.e.now c.in-Some.ensures.stands
          (not_done (look_in p c.in-Some.e.now) (λ is. c.in_default-look.not-Done (c.look.ensures (body p) ∙ is)));
    }
