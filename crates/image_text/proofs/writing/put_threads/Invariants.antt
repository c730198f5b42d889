use Rattle.std.proofs.Common.{◌-◌, drop}
use Rattle.std.specs.Ordering.{nat_cmp}
use Rattle.std.specs.FinMap.{from_entries}
use Rattle.image_text.specs.ImageText.{thread_line}
use Rattle.image_text.proofs.Going.{IsGoing}
use Rattle.image_text.proofs.Left.{IsLeft}
use Rattle.image_text.proofs.writing.put_threads.Given as goal

abbrev pub invariant-loop-t : goal.invariant-loop-t
invariant-loop-t l = record {
  going : IsGoing (thread_line (from_entries l.generations)) l.state.state.threads l.last l.initial.out.items l.out.items;
  generations : IsLeft (from_entries {R = nat_cmp} l.generations) l.last (drop l.i l.generations);
}

abbrev pub decreases-loop-t : goal.decreases-loop-t
decreases-loop-t l = 4294967296 - l.last
