use Rattle.std.proofs.Common.{◌≡◌, length, sym, ap, subst, ◌∙◌, arith}
use Rattle.std.specs.Prelude.{IsSome, Some}
use Rattle.language.specs.Plain.{PlainState}
use Rattle.language.specs.Since.{end_from}
use Rattle.trace_verify.specs.declared.parts.Parts.{Parts}
use Rattle.trace_verify.specs.declared.surviving.Surviving.{Surviving}
use Rattle.trace_verify.specs.Surviving.{LeadTo}
use Rattle.trace_verify.proofs.Leading.{cut_leads}
use Rattle.trace_verify.proofs.surviving.Surviving.take_near.Goals as goal

pub at_cut-requires : goal.at_cut-requires
at_cut-requires c =
    subst (λ (s : Surviving). (x : PlainState) × LeadTo x s.state.program s.based s.parts.settled.items s.base × IsSome (end_from s.state.program x s.parts.settled.items))
    (sym c.near_within.ensures.rest) c.requires.leads

pub returns-in-Some-clause-based : goal.returns-in-Some-clause-based
returns-in-Some-clause-based c = λ from based.
    subst (λ (s : Surviving). LeadTo from s.state.program s.based s.parts.settled.items s.base) (sym c.near_within.ensures.rest) based

pub returns-in_ok-cut-in-None-clause-based : goal.returns-in_ok-cut-in-None-clause-based
returns-in_ok-cut-in-None-clause-based c = λ from based.
    c.in_ok-cut-in-None.ensures.based from (subst (λ (s : Surviving). LeadTo from s.state.program s.based s.parts.settled.items s.base) (sym c.near_within.ensures.rest) based)

pub returns-in_ok-cut-in-None-clause-near : goal.returns-in_ok-cut-in-None-clause-near
returns-in_ok-cut-in-None-clause-near c = λ from based near.
    let s = c.args.self.now in
    let cut = c.in_ok-cut-in-None.ensures.cut from (subst (λ (s : Surviving). LeadTo from s.state.program s.based s.parts.settled.items s.base) (sym c.near_within.ensures.rest) based) in
    cut_leads s.state.program from s.parts.settled.items s.parts.recent.items c.len.result c.in_ok-cut-in-None.cut
    (omega (arith, c.len.ensures, ap (λ (a : Parts). length a.settled.items) (c.at_cut.ensures.parts ∙ ap (λ (z : Surviving). z.parts) c.near_within.ensures.rest)))
    (cut.0 ∙ ap (λ (z : Surviving). z.state.program) c.near_within.ensures.rest)
    (subst (λ (z : Surviving). end_from z.state.program from z.parts.settled.items ≡ Some c.in_ok-cut-in-None.cut.state) c.near_within.ensures.rest cut.1)
