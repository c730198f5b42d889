use Rattle.std.proofs.Common.{cond, get_or, ◌∙◌, ap, sym, arith}
use Rattle.language.specs.Outcome.{becomes}
use Rattle.plain_language.proofs.Blocks.{put-given_nothing, branched, branched_wrong}
use Rattle.plain_language.proofs.pure.branch.Goals as goal

pub returns-then-parts-ne3 : goal.returns-then-parts-ne3
returns-then-parts-ne3 c = c.wrong_kind-then-parts-ne3.ensures ∙ branched_wrong c.args.parts.now c.in-Some.holds c.in-Some.ensures c.if-parts-ne3.true

pub returns-in_ok-put_copy : goal.returns-in_ok-put_copy
returns-in_ok-put_copy c =
    ap becomes (c.in_ok-put_copy.ensures ∙ put-given_nothing c.index-parts-1.result ∙ c.index-parts-1.is)
    ∙ ap (λ b. becomes (cond b (get_or c.args.parts.now 1 c.index-parts-1.result) (get_or c.args.parts.now 2 c.index-parts-1.result))) (sym c.if-holds.true)
    ∙ branched c.args.parts.now c.in-Some.holds c.index-parts-1.result c.in-Some.ensures (let e = c.if-parts-ne3.false in omega (arith, e))

pub returns-in_ok-put_copy-2 : goal.returns-in_ok-put_copy-2
returns-in_ok-put_copy-2 c =
    ap becomes (c.in_ok-put_copy-2.ensures ∙ put-given_nothing c.index-parts-2.result ∙ c.index-parts-2.is)
    ∙ ap (λ b. becomes (cond b (get_or c.args.parts.now 1 c.index-parts-2.result) (get_or c.args.parts.now 2 c.index-parts-2.result))) (sym c.if-holds.false)
    ∙ branched c.args.parts.now c.in-Some.holds c.index-parts-2.result c.in-Some.ensures (let e = c.if-parts-ne3.false in omega (arith, e))
