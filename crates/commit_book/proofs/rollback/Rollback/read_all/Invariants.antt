use Rattle.std.proofs.Common.{◌≡◌, ◌-◌, ℕ, length}
use Rattle.commit_book.specs.OwnSteps.{HasRoomToRead, IsRead}
use Rattle.commit_book.proofs.rollback.Rollback.read_all.Given as goal

-- some events more are read
abbrev pub invariant-loop-self : goal.invariant-loop-self
invariant-loop-self l = record {
  read : IsRead l.history l.self;
  room : (last : ℕ) → HasRoomToRead l.initial.self (length l.history.events) last → HasRoomToRead l.self (length l.history.events) last;
  plan : l.self.plan ≡ l.initial.self.plan;
  marks : l.self.marks ≡ l.initial.self.marks;
}

abbrev pub decreases-loop-self : goal.decreases-loop-self
decreases-loop-self l = length l.history.events - l.self.read
