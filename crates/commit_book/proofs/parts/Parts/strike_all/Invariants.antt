use Rattle.std.proofs.Common.{length}
use Rattle.reach_line.specs.MarkList.{numbers}
use Rattle.commit_book.proofs.Undoing.StrikeCalls.{IsStriking}
use Rattle.commit_book.proofs.parts.Parts.strike_all.Given as goal

abbrev pub invariant-loop-q : goal.invariant-loop-q
invariant-loop-q l = IsStriking l.fn.self l.self (numbers l.fn.self.rollback.lost.items) (numbers l.self.rollback.lost.items) l.removed

abbrev pub decreases-loop-q : goal.decreases-loop-q
decreases-loop-q l = length l.self.rollback.lost.items
