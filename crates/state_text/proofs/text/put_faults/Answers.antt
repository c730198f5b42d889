use Rattle.std.proofs.Common.{ℕ, List, ◌++◌, ap, sym, ◌∙◌, append-nil}
use Rattle.std.specs.Prelude.{is_some}
use Rattle.language.specs.Plain.{look_in}
use Rattle.language.specs.Program.{body}
use Rattle.image_text.proofs.Going.{at_first, at_last, one_more}
use Rattle.state_text.specs.Text.{fault_line_of}
use Rattle.state_text.proofs.Looking.{failed_line, no_line}
use Rattle.state_text.proofs.text.put_faults.Goals as goal

pub loop-t-init : goal.loop-t-init
loop-t-init c = at_first (fault_line_of c.args.state.now.program) c.args.state.now.state.threads c.args.text.now.items (ap is_some c.requires)

pub loop-t-preserved-in_ok-put_fault : goal.loop-t-preserved-in_ok-put_fault
loop-t-preserved-in_ok-put_fault c =
    let p = c.args.state.now.program in
    one_more (fault_line_of p) c.args.state.now.state.threads c.loop-t.last c.in-Some.t.0 c.in-Some.e.now c.args.text.now.items c.loop-t.text.items c.put_fault.new.text.items
    c.loop-t.invariant c.in-Some.ensures.least c.in-Some.ensures.stands
    (c.in_ok-put_fault.ensures ∙ ap (λ (t : List ℕ). c.loop-t.text.items ++ t) (failed_line c.in-Some.t.0 (look_in p c.in-Some.e.now) c.in-Failed.fault (sym c.in-Failed.is ∙ c.look.ensures (body p))))

pub loop-t-preserved : goal.loop-t-preserved
loop-t-preserved c =
    let p = c.args.state.now.program in
    one_more (fault_line_of p) c.args.state.now.state.threads c.loop-t.last c.in-Some.t.0 c.in-Some.e.now c.args.text.now.items c.loop-t.text.items c.loop-t.text.items
    c.loop-t.invariant c.in-Some.ensures.least c.in-Some.ensures.stands
    (sym (ap (λ (t : List ℕ). c.loop-t.text.items ++ t) (no_line c.in-Some.t.0 (look_in p c.in-Some.e.now) (λ k is. c.in_default-look.not-Failed k (c.look.ensures (body p) ∙ is))) ∙ append-nil c.loop-t.text.items))

pub returns : goal.returns
returns c = at_last (fault_line_of c.args.state.now.program) c.args.state.now.state.threads c.loop-t.last c.args.text.now.items c.loop-t.text.items c.loop-t.invariant c.in_default.ensures.least
