use Rattle.std.proofs.Common.{sym, ◌∙◌}
use Rattle.std.specs.Bool.{IsTrue}
use Rattle.std.specs.Char.{is_ascii_digit}
use Rattle.stab_lex.proofs.Ways.{bumped}
use Rattle.stab_lex.proofs.Numbers.{DigitRun-none, DigitRun-more}
use Rattle.stab_lex.proofs.number.digits.Goals as goal

pub loop-c-init : goal.loop-c-init
loop-c-init c = DigitRun-none c.args.cursor.now

pub loop-c-preserved : goal.loop-c-preserved
loop-c-preserved c =
    let step = bumped c.in-Some.c c.bump.result c.in-Some.ensures c.bump.ensures in
    let goes_on : IsTrue (is_ascii_digit c.in-Some.c) = sym c.is_ascii_digit.ensures.value ∙ c.if-not-is_ascii_digit.false in
    DigitRun-more c.in-Some.c c.from-digit.result c.saturating_mul.result c.saturating_add-value.result c.loop-c.invariant step goes_on c.from-digit.ensures c.saturating_mul.ensures c.saturating_add-value.ensures
