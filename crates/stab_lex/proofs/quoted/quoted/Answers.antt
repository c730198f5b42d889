use Rattle.std.proofs.Common.{sym, subst}
use Rattle.std.proofs.lemmas.Result.{err_from_is_err_and}
use Rattle.stab_lex.specs.Steps.{IsTextFault}
use Rattle.stab_lex.proofs.Ways.{bumped}
use Rattle.stab_lex.proofs.Texts.{TextRun-begin, TextRun-more, text_passes, text_meets, text_shorter}
use Rattle.stab_lex.proofs.quoted.quoted.Goals as goal

pub loop-init : goal.loop-init
loop-init c = TextRun-begin (bumped 34 c.bump.result (sym c.requires) c.bump.ensures)

pub returns-in_err-goes_on : goal.returns-in_err-goes_on
returns-in_err-goes_on c =
    let p = err_from_is_err_and c.from_residual.result c.from_residual.ensures.1 in
    let why = subst (λ quote. IsTextFault c.in_err-goes_on.field-0.0 quote c.loop.cursor) c.at-start.ensures c.in_err-goes_on.ensures.fault in
    let meets = text_meets c.in_err-goes_on.field-0.0 c.loop.invariant why in
    rw (p.1, p.2) meets

pub loop-preserved : goal.loop-preserved
loop-preserved c =
    let more = rw c.if-branch.true at c.in_ok-goes_on.ensures.more in
    TextRun-more more.0 c.loop.invariant more.1 more.2

pub loop-smaller : goal.loop-smaller
loop-smaller c =
    let more = rw c.if-branch.true at c.in_ok-goes_on.ensures.more in
    text_shorter more.0 more.1

pub returns : goal.returns
returns c =
    let end = rw c.if-branch.false at c.in_ok-goes_on.ensures.end in
    text_passes c.loop.invariant end
