use Rattle.std.proofs.Common.{◌≡◌, ℕ, List, Some}
use Rattle.std.specs.Io.Iter.{bytes_remaining}
use Rattle.rtrb.specs.Ring.{sent}
use Rattle.number_source.specs.Input.{answers_on}
use Rattle.number_source.proofs.Telling.{Tells}
use Rattle.number_source.proofs.reading.read_input.Given as goal

-- what was told so far and what is left, together, are what the input is answered as
abbrev pub invariant-loop-byte : goal.invariant-loop-byte
invariant-loop-byte g l = record {
  can_next : (goal.iterator-loop-byte g).can_next l.byte-iterator;
  is_finite : (goal.iterator-loop-byte g).is_finite l.byte-iterator;
  tells : (bytes : List ℕ) → g.I.Read.remaining l.fn.input ≡ Some bytes
      → Tells (bytes_remaining g.I.Read.remaining l.byte-iterator) (answers_on l.line) (answers_on l.fn.line bytes) (sent l.fn.out.queue) (sent l.out.queue);
}
