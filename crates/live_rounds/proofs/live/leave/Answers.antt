use Rattle.std.proofs.Common.{◌≡◌, ◌⊎◌, inl, inr, arith, rules}
use Rattle.live_rounds.specs.declared.halt.Halt.TheVariants.{NoMemory}
use Rattle.live_rounds.specs.declared.next.Next.TheVariants.{Halted}
use Rattle.live_rounds.proofs.Leaving.{goes_grown, leave_ended, leave_says, same_grown}
use Rattle.live_rounds.proofs.live.leave.Goals as goal
use Rattle.live_rounds.proofs.live.leave.Goals.{in-Ok, in-Err}

pub returns-then-ne-clause-left : goal.returns-then-ne-clause-left
returns-then-ne-clause-left c =
    leave_says c.args.next c.args.live.book c.into_book-book.result (λ e. grind (arith, e)) c.into_book-book.ensures.same.0 c.into_book-book.ensures.same.1 c.book-within.ensures.within

pub returns-then-ne-clause-grown : goal.returns-then-ne-clause-grown
returns-then-ne-clause-grown c =
    same_grown c.args.live.book c.into_book-book.result c.book-within.ensures.shown c.into_book-book.ensures.shown c.into_book-book.ensures.same.0 c.into_book-book.ensures.same.1

made_by : (c : goal.Joined-made) → (c.match-made.next ≡ c.args.next) ⊎ (c.match-made.next ≡ Halted NoMemory)
made_by c = elim c.match-made.branch [ in-Ok w ↦ inl w.next-is | in-Err w ↦ inr w.next-is ]

pub returns-clause-left : goal.returns-clause-left
returns-clause-left c = leave_ended c.args.next c.match-made.next c.args.live.book c.end-book.result.book (search rules) (made_by c)

pub returns-clause-grown : goal.returns-clause-grown
returns-clause-grown c =
    goes_grown c.args.live.book c.end-book.result.book c.book-within.ensures.shown c.book-within.ensures.by_one c.end-book.ensures.shown c.end-book.ensures.goes_on
