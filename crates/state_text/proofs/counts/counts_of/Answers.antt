use Rattle.std.proofs.Common.{ap, subst, sym}
use Rattle.std.specs.Prelude.{is_some}
use Rattle.plain_language.specs.declared.look.Look.{Look}
use Rattle.language.specs.Program.{body}
use Rattle.state_text.specs.Counts.{counted}
use Rattle.state_text.proofs.Counting.{AreSoFar, all_so_far, none_so_far, one_so_far}
use Rattle.state_text.proofs.counts.counts_of.Goals as goal

pub loop-t-init : goal.loop-t-init
loop-t-init c = none_so_far c.args.state.now.program c.args.state.now.state.threads (ap is_some c.requires)

pub loop-t-preserved : goal.loop-t-preserved
loop-t-preserved c =
    let p = c.args.state.now.program in
    let m = c.args.state.now.state.threads in
    subst (AreSoFar p m c.in-Some.t.0) (sym c.and-counts.ensures)
    (subst (λ (l : Look). AreSoFar p m c.in-Some.t.0 (counted l c.loop-t.counts)) (sym (c.look.ensures (body p)))
    (one_so_far p m c.loop-t.last c.in-Some.t.0 c.in-Some.e.now c.loop-t.counts c.loop-t.invariant c.in-Some.ensures.least c.in-Some.ensures.stands))

pub returns : goal.returns
returns c = all_so_far c.args.state.now.program c.args.state.now.state.threads c.loop-t.last c.loop-t.counts c.loop-t.invariant c.in_default.ensures.least
