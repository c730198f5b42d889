use Rattle.std.proofs.Common.{inl}
use Rattle.commit_book.proofs.Keeping.RoomKept.{may_save_too}
use Rattle.commit_book.proofs.parts.Parts.save_in_order.Goals as goal

pub save-requires-clause-last : goal.save-requires-clause-last
save-requires-clause-last c r u there = inl (c.requires.last r u there)

pub save-requires-2-clause-last : goal.save-requires-2-clause-last
save-requires-2-clause-last c =
    may_save_too c.args.self.now.store c.save.new.self c.args.q c.args.first.0 c.args.second.0 c.args.first.1 (λ r u there. inl (c.requires.last r u there)) c.save.ensures.saved c.requires.order

pub returns-clause-saved : goal.returns-clause-saved
returns-clause-saved c = record { between = c.save.new.self; first = c.save.ensures.saved; second = c.save-2.ensures.saved }
