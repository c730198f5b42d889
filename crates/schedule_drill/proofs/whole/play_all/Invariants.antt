use Rattle.std.proofs.Common.{take}
use Rattle.commit_book.specs.Book.{IsShown}
use Rattle.schedule_drill.specs.Drilled.{ArePlayed}
use Rattle.schedule_drill.specs.Out.{AreUnder}
use Rattle.schedule_drill.specs.Played.{stand}
use Rattle.schedule_drill.proofs.whole.play_all.Given as goal

-- the lines so far are played
abbrev pub invariant-loop-line : goal.invariant-loop-line
invariant-loop-line l = record {
  played : ArePlayed (take l.line-index l.script) (stand l.fn.book l.fn.leases) l.lines.items (stand l.book l.leases);
  under : AreUnder l.book.job.program l.leases;
  shown : IsShown l.book;
}
