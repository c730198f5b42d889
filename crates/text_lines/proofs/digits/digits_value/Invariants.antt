use Rattle.std.proofs.Common.{◌≡◌, ◌<◌, ◌^◌, drop}
use Rattle.std.specs.Str.{all_ascii_digits}
use Rattle.text_lines.specs.Digits.{decimal_value, value_on}
use Rattle.text_lines.proofs.digits.digits_value.Given as goal

-- all bytes before this one are digits, and this is their value
abbrev pub invariant-loop-byte : goal.invariant-loop-byte
invariant-loop-byte l = record {
  digits : all_ascii_digits l.word ≡ all_ascii_digits (drop l.byte-index l.word);
  value : decimal_value l.word ≡ value_on l.value (drop l.byte-index l.word);
  small : l.value < 2 ^ 64;
}
