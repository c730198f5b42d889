use Rattle.std.proofs.Common.{◌≡◌, ◌++◌, length, refl, sym, ap, subst, ◌∙◌, arith}
use Rattle.std.specs.Prelude.{IsSome}
use Rattle.std.proofs.lemmas.List.{drop-append-le}
use Rattle.language.specs.Plain.{effect_of}
use Rattle.language.specs.Since.{end_from}
use Rattle.trace_verify.proofs.Leading.{drop_behind, front_some, parts_lead}
use Rattle.trace_verify.proofs.surviving.forward.Goals as goal

pub play_all-requires : goal.play_all-requires
play_all-requires c =
    let p = c.args.state.now.program in
    let s = c.args.state.now.state in
    front_some (effect_of p) s c.split_at.result.1.now c.args.back.now
    (subst (λ ns. IsSome (end_from p s ns)) (drop-append-le c.args.at c.args.front.now c.args.back.now (omega (arith, c.if-at-front.true)) ∙ ap (λ ns. ns ++ c.args.back.now) (sym c.split_at.ensures.back)) c.requires.leads)

pub play_all-requires-then-at-front : goal.play_all-requires-then-at-front
play_all-requires-then-at-front c =
    let p = c.args.state.now.program in
    let s = c.args.state.now.state in
    let whole = drop-append-le c.args.at c.args.front.now c.args.back.now (omega (arith, c.if-at-front.true)) ∙ ap (λ ns. ns ++ c.args.back.now) (sym c.split_at.ensures.back) in
    subst IsSome (sym (ap (λ q. end_from q c.play_all.new.state.state c.args.back.now) c.in_ok-play_all.ensures.program
    ∙ parts_lead p s c.play_all.new.state.state c.split_at.result.1.now c.args.back.now c.in_ok-play_all.ensures.made))
    (subst (λ ns. IsSome (end_from p s ns)) whole c.requires.leads)

pub play_all-requires-else-at-front : goal.play_all-requires-else-at-front
play_all-requires-else-at-front c =
    subst (λ ns. IsSome (end_from c.args.state.now.program c.args.state.now.state ns))
    (drop_behind c.args.at c.args.front.now c.args.back.now (omega (arith, c.if-at-front.false)) ∙ sym c.split_at-else-at-front.ensures.back) c.requires.leads

pub returns-in_ok-play_all-2-clause-made : goal.returns-in_ok-play_all-2-clause-made
returns-in_ok-play_all-2-clause-made c =
    let p = c.args.state.now.program in
    let s = c.args.state.now.state in
    let whole = drop-append-le c.args.at c.args.front.now c.args.back.now (omega (arith, c.if-at-front.true)) ∙ ap (λ ns. ns ++ c.args.back.now) (sym c.split_at.ensures.back) in
    ap (end_from p s) whole
    ∙ sym (parts_lead p s c.play_all.new.state.state c.split_at.result.1.now c.args.back.now c.in_ok-play_all.ensures.made)
    ∙ ap (λ q. end_from q c.play_all.new.state.state c.args.back.now) (sym c.in_ok-play_all.ensures.program)
    ∙ c.in_ok-play_all-2.ensures.made

pub returns-in_ok-play_all-3-clause-made : goal.returns-in_ok-play_all-3-clause-made
returns-in_ok-play_all-3-clause-made c =
    ap (end_from c.args.state.now.program c.args.state.now.state)
    (drop_behind c.args.at c.args.front.now c.args.back.now (omega (arith, c.if-at-front.false)) ∙ sym c.split_at-else-at-front.ensures.back)
    ∙ c.in_ok-play_all-3.ensures.made
