use Rattle.std.proofs.Common.{arith}
use Rattle.text_lines.proofs.Values.{overflows, finished}
use Rattle.text_lines.proofs.digits.digits_value.Goals as goal

pub returns-in_default : goal.returns-in_default
returns-in_default c =
    overflows c.args.word.now c.loop-byte.byte-index c.loop-byte.value c.from-digit.result c.loop-byte-test.true c.loop-byte.invariant.value c.from-digit.ensures (omega (arith, c.in_default.ensures))

pub returns : goal.returns
returns c =
    finished c.args.word.now c.loop-byte.byte-index c.loop-byte.value c.loop-byte-test.false c.loop-byte.invariant.digits c.loop-byte.invariant.value c.loop-byte.invariant.small
