use Rattle.std.proofs.Common.{◌≡◌, ℕ, sym, ap, ◌∙◌}
use Rattle.std.specs.Prelude.{true, false}
use Rattle.std.proofs.lemmas.Bool.{false≢true}
use Rattle.language.specs.Program.{body}
use Rattle.ready_steps.specs.Ready.{look_of, receives_at, sends_at}
use Rattle.ready_steps.proofs.Searching.{does, further, to_end}
use Rattle.ready_steps.proofs.ready.first_meeting.Goals as goal

pub loop-t-preserved : goal.loop-t-preserved
loop-t-preserved c =
    let p = c.args.state.now.program in
    let s = c.args.state.now.state in
    further p s (λ (u : ℕ). (v k : ℕ) → sends_at k (look_of p s u) ≡ true → receives_at k (look_of p s v) ≡ false) (λ u none v k sends. absurd (false≢true (sym (ap (sends_at k) none) ∙ sends))) c.loop-t.last
    c.in-Some.t.0 c.in-Some.ensures.least c.loop-t.invariant
    (λ v k sends.
    c.in_default-meeting_of.ensures v k (sym (ap (sends_at k) (does p s c.in-Some.t.0 c.in-Some.e.now c.look.result c.in-Some.ensures.stands (c.look.ensures (body p)))) ∙ sends))

pub returns : goal.returns
returns c =
    let p = c.args.state.now.program in
    let s = c.args.state.now.state in
    to_end p s (λ (u : ℕ). (v k : ℕ) → sends_at k (look_of p s u) ≡ true → receives_at k (look_of p s v) ≡ false) (λ u none v k sends. absurd (false≢true (sym (ap (sends_at k) none) ∙ sends))) c.loop-t.last
    c.in_default.ensures.least c.loop-t.invariant
