use Rattle.std.proofs.Common.{length, drop, refl, sym, ap, subst, ◌∙◌}
use Rattle.std.specs.Prelude.{IsSome, Some}
use Rattle.language.specs.Held.{Held}
use Rattle.language.specs.Since.{end_from}
use Rattle.trace_verify.proofs.Leading.{ahead_leads, all_based}
use Rattle.trace_verify.proofs.surviving.Surviving.at_cut.Goals as goal

pub play_all-requires : goal.play_all-requires
play_all-requires c =
    let s = c.args.self.now in
    let from = c.requires.0 in
    subst IsSome (sym (ahead_leads s.state.program s.base.program from s.based s.parts.settled.items c.split_at.result.1.now s.base.state c.requires.1.program c.requires.1.base
    (c.split_at.ensures.back ∙ ap (drop s.based) c.deref.ensures.value))) c.requires.2

pub returns-clause-based : goal.returns-clause-based
returns-clause-based c = λ from based.
    let s = c.args.self.now in
    all_based s.state.program from c.len-self.result s.parts.settled.items c.play_all.new.state (c.len-self.ensures ∙ sym c.deref.ensures.len ∙ ap length c.deref.ensures.value)
    (c.in_ok-play_all.ensures.program ∙ based.program)
    (sym (ahead_leads s.state.program s.base.program from s.based s.parts.settled.items c.split_at.result.1.now s.base.state based.program based.base
    (c.split_at.ensures.back ∙ ap (drop s.based) c.deref.ensures.value))
    ∙ c.in_ok-play_all.ensures.made)

pub returns-clause-cut : goal.returns-clause-cut
returns-clause-cut c = λ from based.
    let s = c.args.self.now in (
      ap (λ (h : Held). h.program) c.in_ok-cut.ensures ∙ c.in_ok-play_all.ensures.program ∙ based.program,
      sym (ahead_leads s.state.program s.base.program from s.based s.parts.settled.items c.split_at.result.1.now s.base.state based.program based.base
          (c.split_at.ensures.back ∙ ap (drop s.based) c.deref.ensures.value))
          ∙ c.in_ok-play_all.ensures.made
          ∙ ap (λ (h : Held). Some h.state) (sym c.in_ok-cut.ensures),
    )
