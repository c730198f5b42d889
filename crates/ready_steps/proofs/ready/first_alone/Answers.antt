use Rattle.std.proofs.Common.{◌≡◌, ℕ, sym, ap, ◌∙◌}
use Rattle.std.specs.Prelude.{true}
use Rattle.language.specs.Program.{body}
use Rattle.ready_steps.specs.Ready.{look_of, rests_at}
use Rattle.ready_steps.proofs.Searching.{does, further, to_end}
use Rattle.ready_steps.proofs.ready.first_alone.Goals as goal

pub loop-t-preserved : goal.loop-t-preserved
loop-t-preserved c =
    let p = c.args.state.now.program in
    let s = c.args.state.now.state in
    further p s (λ (u : ℕ). rests_at (look_of p s u) ≡ true) (λ u none. ap rests_at none) c.loop-t.last c.in-Some.t.0 c.in-Some.ensures.least c.loop-t.invariant
    (ap rests_at (does p s c.in-Some.t.0 c.in-Some.e.now c.look.result c.in-Some.ensures.stands (c.look.ensures (body p))) ∙ sym c.is_resting.ensures ∙ c.if-not-is_resting.false)

pub returns : goal.returns
returns c =
    let p = c.args.state.now.program in
    let s = c.args.state.now.state in
    to_end p s (λ (u : ℕ). rests_at (look_of p s u) ≡ true) (λ u none. ap rests_at none) c.loop-t.last c.in_default.ensures.least c.loop-t.invariant
