use Rattle.std.proofs.Common.{◌≡◌, ◌++◌, length, take, drop, sym, ap, subst, ◌∙◌, arith}
use Rattle.std.specs.Prelude.{IsSome, Some}
use Rattle.language.specs.Held.{Held}
use Rattle.language.specs.Plain.{effect_of}
use Rattle.language.specs.Since.{end_from}
use Rattle.trace_verify.specs.declared.parts.Parts.{Parts}
use Rattle.trace_verify.specs.declared.surviving.Surviving.{Surviving}
use Rattle.trace_verify.specs.Surviving.{LeadTo}
use Rattle.trace_verify.proofs.Leading.{front_long, front_some, near_leads, whole_is}
use Rattle.trace_verify.proofs.surviving.Surviving.go_back.Goals as goal

pub take_near-requires-clause-leads : goal.take_near-requires-clause-leads
take_near-requires-clause-leads c =
    let s = c.args.self.now in
    let l = c.requires.leads in
    (l.0, l.1, front_some (effect_of s.state.program) l.0 s.parts.settled.items s.parts.recent.items l.3)

pub forward-requires-clause-leads : goal.forward-requires-clause-leads
forward-requires-clause-leads c =
    let s = c.args.self.now in
    let l = c.requires.leads in
    let p = s.state.program in
    let at = c.in_ok-near.at in
    let front = ap (λ ns. ns ++ c.split_at.result.0.now) (c.deref-2.ensures.value ∙ ap (λ (a : Parts). a.settled.items) c.in_ok-near.ensures.parts)
    ∙ ap (λ ns. s.parts.settled.items ++ ns) (c.split_at.ensures.front ∙ ap (take c.args.k) (c.deref.ensures.value ∙ ap (λ (a : Parts). a.recent.items) c.in_ok-near.ensures.parts)) in
    subst IsSome (sym (near_leads p l.0 at c.args.k s.parts.settled.items s.parts.recent.items (drop at (c.deref-2.result.now ++ c.split_at.result.0.now)) c.in_ok-near.near
    (c.in_ok-near.ensures.near l.0 l.1 l.2)
    (omega (arith, c.in_ok-near.ensures.place, c.len.ensures, front_long c.args.k s.parts.settled.items s.parts.recent.items c.requires.within))
    (ap (drop at) front)))
    (front_some (effect_of p) l.0 (s.parts.settled.items ++ take c.args.k s.parts.recent.items) (drop c.args.k s.parts.recent.items)
    (subst (λ ns. IsSome (end_from p l.0 ns)) (sym (whole_is c.args.k s.parts.settled.items s.parts.recent.items)) l.3))

pub returns-clause-based : goal.returns-clause-based
returns-clause-based c = λ from based.
    let b = c.take_near.new.self in
    let l = c.requires.leads in
    subst (λ p. LeadTo from p b.based b.parts.settled.items b.base)
    (ap (λ (h : Held). h.program) c.in_ok-near.ensures.state ∙ sym (c.in_ok-near.ensures.near l.0 l.1 l.2).program ∙ sym c.in_ok-forward.ensures.program ∙ ap (λ (h : Held). h.program) (sym c.in_ok-self.ensures))
    (c.in_ok-near.ensures.based from based)

pub returns-clause-state : goal.returns-clause-state
returns-clause-state c = λ from based near.
    let s = c.args.self.now in
    let p = s.state.program in
    let at = c.in_ok-near.at in
    let front = ap (λ ns. ns ++ c.split_at.result.0.now) (c.deref-2.ensures.value ∙ ap (λ (a : Parts). a.settled.items) c.in_ok-near.ensures.parts)
    ∙ ap (λ ns. s.parts.settled.items ++ ns) (c.split_at.ensures.front ∙ ap (take c.args.k) (c.deref.ensures.value ∙ ap (λ (a : Parts). a.recent.items) c.in_ok-near.ensures.parts)) in
    sym (near_leads p from at c.args.k s.parts.settled.items s.parts.recent.items (drop at (c.deref-2.result.now ++ c.split_at.result.0.now)) c.in_ok-near.near
    (c.in_ok-near.ensures.near from based near)
    (omega (arith, c.in_ok-near.ensures.place, c.len.ensures, front_long c.args.k s.parts.settled.items s.parts.recent.items c.requires.within))
    (ap (drop at) front))
    ∙ c.in_ok-forward.ensures.made
    ∙ ap (λ (h : Held). Some h.state) (sym c.in_ok-self.ensures)
