use Rattle.std.proofs.Common.{◌≡◌, ℕ, List, None, Some, Ok, Option, sym, ap, subst, ◌∙◌}
use Rattle.image_lines.specs.declared.body.TextFault.{TextFault}
use Rattle.image_lines.specs.declared.line.Line.{Line}
use Rattle.image_lines.specs.Body.{body_of}
use Rattle.image_state.specs.Fits.{first_fault}
use Rattle.image_state.specs.Held.{AreNamed, held_parts}
use Rattle.image_state.specs.Named.{lines_in}
use Rattle.image_state.proofs.Same.{bounds_by}
use Rattle.image_state.proofs.StateSteps.{by_body, by_line, by_none, sound_is}
use Rattle.image_state.proofs.state.state_in.Goals as goal

pub returns-in-Some-clause-parts : goal.returns-in-Some-clause-parts
returns-in-Some-clause-parts c =
    let p = c.args.program.now in
    let n = c.in_ok-named.named in
    let b = body_of c.in_ok-body.body in
    let named = subst (λ (ls : List (ℕ × Line)). AreNamed n (lines_in ls)) c.deref.ensures.value c.in_ok-named.ensures in
    let first : c.in_ok-fault.field-0 ≡ first_fault (bounds_by p c.args.next n) None b.lines = c.in_ok-fault.ensures ∙ ap (first_fault (bounds_by p c.args.next n) None) c.deref-2.ensures.value in
    by_line p c.args.next c.args.start c.args.bytes.now b n c.in_ok-body.ensures named c.in-Some.fault (sym c.in-Some.is ∙ first)

pub returns-in_ok-refined_at-in-Some-fault-clause-parts : goal.returns-in_ok-refined_at-in-Some-fault-clause-parts
returns-in_ok-refined_at-in-Some-fault-clause-parts c =
    let p = c.args.program.now in
    let n = c.in_ok-named.named in
    let b = body_of c.in_ok-body.body in
    let named = subst (λ (ls : List (ℕ × Line)). AreNamed n (lines_in ls)) c.deref.ensures.value c.in_ok-named.ensures in
    let first : c.in_ok-fault.field-0 ≡ first_fault (bounds_by p c.args.next n) None b.lines = c.in_ok-fault.ensures ∙ ap (first_fault (bounds_by p c.args.next n) None) c.deref-2.ensures.value in
    by_body p c.args.next c.args.start c.args.bytes.now b n c.in_ok-body.ensures named c.in-Some-fault.fault c.in_ok-refined_at-in-Some-fault.field-0 (sym c.in_default.is ∙ first) c.in-Some-fault.is
    c.in_ok-refined_at-in-Some-fault.ensures

pub returns-in_ok-of-in-None-clause-parts : goal.returns-in_ok-of-in-None-clause-parts
returns-in_ok-of-in-None-clause-parts c =
    let p = c.args.program.now in
    let n = c.in_ok-named.named in
    let b = body_of c.in_ok-body.body in
    let named = subst (λ (ls : List (ℕ × Line)). AreNamed n (lines_in ls)) c.deref.ensures.value c.in_ok-named.ensures in
    let first : c.in_ok-fault.field-0 ≡ first_fault (bounds_by p c.args.next n) None b.lines = c.in_ok-fault.ensures ∙ ap (first_fault (bounds_by p c.args.next n) None) c.deref-2.ensures.value in
    by_none p c.args.next c.args.start c.args.bytes.now b n c.in_ok-body.ensures named (held_parts c.in_ok-of-in-None.field-0) (sym c.in_default.is ∙ first) c.in-None.is c.in_ok-of-in-None.ensures

pub returns-in_ok-of-in-None-clause-sound : goal.returns-in_ok-of-in-None-clause-sound
returns-in_ok-of-in-None-clause-sound c =
    let p = c.args.program.now in
    let n = c.in_ok-named.named in
    let b = body_of c.in_ok-body.body in
    let named = subst (λ (ls : List (ℕ × Line)). AreNamed n (lines_in ls)) c.deref.ensures.value c.in_ok-named.ensures in
    let first : c.in_ok-fault.field-0 ≡ first_fault (bounds_by p c.args.next n) None b.lines = c.in_ok-fault.ensures ∙ ap (first_fault (bounds_by p c.args.next n) None) c.deref-2.ensures.value in
    sound_is p c.args.next c.args.start c.args.bytes.now (held_parts c.in_ok-of-in-None.field-0)
    (by_none p c.args.next c.args.start c.args.bytes.now b n c.in_ok-body.ensures named (held_parts c.in_ok-of-in-None.field-0) (sym c.in_default.is ∙ first) c.in-None.is c.in_ok-of-in-None.ensures)
