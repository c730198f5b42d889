use Rattle.std.proofs.Common.{◌≡◌, ◌≢◌, [], ◌^◌, ◌<◌, ◌≤◌, sym, subst, Some, arith}
use Rattle.std.specs.Char.{is_ascii_digit}
use Rattle.stab_lex.specs.declared.kind.Kind.TheVariants.{Number}
use Rattle.stab_lex.specs.declared.token.LexFault.TheVariants.{BigNumber}
use Rattle.stab_lex.specs.Pieces.{decimal}
use Rattle.stab_lex.specs.Readings.{Passes, Meets}
use Rattle.stab_lex.proofs.Ways.{nonempty}
use Rattle.stab_lex.proofs.Numbers.{number_passes, number_meets}
use Rattle.stab_lex.proofs.number.number.Goals as goal

pub returns-then-value-gt-GREATEST : goal.returns-then-value-gt-GREATEST
returns-then-value-gt-GREATEST c =
    let read = c.digits-value.ensures in
    let some : read.0 ≢ [] = nonempty is_ascii_digit _ _ _ c.args.first c.requires.next c.requires.digit read.1.text read.3 in
    let great : 2 ^ 63 < decimal read.0 = omega (arith, read.4) in
    subst (λ at. Meets (BigNumber at) c.args.cursor.now) (sym c.at-start.ensures) (number_meets read.0 read.1 some read.2 read.3 great)

pub returns : goal.returns
returns c =
    let read = c.digits-value.ensures in
    let some : read.0 ≢ [] = nonempty is_ascii_digit _ _ _ c.args.first c.requires.next c.requires.digit read.1.text read.3 in
    let same : decimal read.0 ≡ c.digits-value.result = omega (arith, read.4) in
    let small : decimal read.0 ≤ 2 ^ 63 = omega (arith, read.4) in
    subst (λ value. Passes (Some (Number value)) c.args.cursor.now c.digits-value.new.cursor) same (number_passes read.0 read.1 some read.2 read.3 small)
