use Rattle.std.proofs.Common.{sym}
use Rattle.commit_book.proofs.Threads.Choosing.{quiet_rests, work_rests}
use Rattle.commit_book.proofs.Threads.Chosen.{spent_fuel, work_spends}
use Rattle.commit_book.proofs.book.Book.lease.Goals as goal

pub returns-in-Quiet-clause-rests : goal.returns-in-Quiet-clause-rests
returns-in-Quiet-clause-rests c = quiet_rests c.args.self.now c.choice.ensures.shown (sym c.in-Quiet.ensures.choice)

pub returns-in-Work-clause-rests : goal.returns-in-Work-clause-rests
returns-in-Work-clause-rests c = work_rests c.args.self.now c.lend.result c.lend.ensures.work

pub returns-in-Spent-clause-spent : goal.returns-in-Spent-clause-spent
returns-in-Spent-clause-spent c = spent_fuel c.args.self.now (sym c.in-Spent.ensures.choice)

pub returns-in-Work-clause-spent : goal.returns-in-Work-clause-spent
returns-in-Work-clause-spent c = work_spends c.args.self.now c.lend.result c.lend.ensures.work
