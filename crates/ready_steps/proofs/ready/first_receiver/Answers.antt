use Rattle.std.proofs.Common.{◌≡◌, ℕ, sym, ap, ◌∙◌}
use Rattle.std.specs.Prelude.{false}
use Rattle.language.specs.Program.{body}
use Rattle.ready_steps.specs.Ready.{look_of, receives_at}
use Rattle.ready_steps.proofs.Searching.{does, further}
use Rattle.ready_steps.proofs.ready.first_receiver.Goals as goal

pub loop-t-preserved : goal.loop-t-preserved
loop-t-preserved c =
    let p = c.args.state.now.program in
    let s = c.args.state.now.state in
    let k = c.args.c.0 in
    further p s (λ (u : ℕ). receives_at k (look_of p s u) ≡ false) (λ u none. ap (receives_at k) none) c.loop-t.last c.in-Some.t.0 c.in-Some.ensures.least c.loop-t.invariant
    (ap (receives_at k) (does p s c.in-Some.t.0 c.in-Some.e.now c.look.result c.in-Some.ensures.stands (c.look.ensures (body p))) ∙ sym c.receives_on.ensures ∙ c.if-receives_on.false)
