-- Live desks cross threads since their books and those that wait do.
use denote.Param.Send.{IsSend, sendable}
use Rattle.std.proofs.Crossing.{crosses}
use Rattle.stab_code.proofs.Crossing.{program-send, program-sync}
use Rattle.step_eval.proofs.Crossing.{control-send}
use Rattle.commit_book.proofs.Lawful.Crossing.{parts-send}
use Rattle.step_eval.specs.contracts.progress.Progress as progresses
use Rattle.commit_book.specs.contracts.book.Book as books
use Rattle.commit_book.specs.contracts.lease.Lease as leases
use Rattle.live_desk.specs.contracts.waiting.Waiting as waits
use Rattle.live_desk.specs.contracts.desk.LiveDesk as lives

progress-send : IsSend progresses.the_row
progress-send = search (control-send, program-send, program-sync, sendable, crosses) depth 60 fits 100000

lease-send : IsSend leases.the_row
lease-send = search (sendable, crosses) depth 60 fits 100000

waiting-send : IsSend waits.the_row
waiting-send = search (progress-send, lease-send, sendable, crosses) depth 60 fits 100000

book-send : IsSend books.the_row
book-send = search (parts-send, program-send, program-sync, sendable, crosses) depth 60 fits 100000

pub live-send : IsSend lives.the_row
live-send = search (book-send, waiting-send, sendable, crosses) depth 60 fits 100000
