use Rattle.std.proofs.Common.{◌≡◌, ◌+◌, length, map}
use Rattle.std.specs.Prelude.{string_bytes}
use Rattle.stab_words.specs.Steps.{begun, read_from}
use Rattle.stab_words.specs.Within.{IsGiven}
use Rattle.stab_words.proofs.reading.read_rest.Given as goal

-- the words that are left, read on from here, give what all of them give
abbrev pub invariant-loop-word : goal.invariant-loop-word
invariant-loop-word l = record {
  same : read_from l.command 1 (map string_bytes l.words) begun ≡ read_from l.command l.at (map string_bytes l.rest) l.reading;
  within : IsGiven l.reading.given;
  counted : l.at + length l.rest ≡ 1 + length l.words;
}

abbrev pub decreases-loop-word : goal.decreases-loop-word
decreases-loop-word l = length l.rest
