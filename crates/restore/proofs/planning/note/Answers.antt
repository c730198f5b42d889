use Rattle.std.proofs.Common.{ap, ◌∙◌, arith}
use Rattle.comm_graph.specs.Node.{touches}
use Rattle.restore.proofs.Marked.{first_touched, child_touched, sender_touched, receiver_touched, alone_touched}
use Rattle.restore.proofs.planning.note.Goals as goal

pub note-requires : goal.note-requires
note-requires c = c.requires c.in-Spawn.t.0 (ap (touches c.in-Spawn.t.0) c.in-Spawn.is ∙ first_touched c.in-Spawn.t c.in-Spawn.child)

pub note-requires-in-Spawn : goal.note-requires-in-Spawn
note-requires-in-Spawn c = let low = c.requires c.in-Spawn.child.0 (ap (touches c.in-Spawn.child.0) c.in-Spawn.is ∙ child_touched c.in-Spawn.t c.in-Spawn.child) in omega (arith, low, c.note.ensures.spare)

pub note-requires-in-Comm : goal.note-requires-in-Comm
note-requires-in-Comm c = c.requires c.in-Comm.sender.0 (ap (touches c.in-Comm.sender.0) c.in-Comm.is ∙ sender_touched c.in-Comm.sender c.in-Comm.receiver)

pub note-requires-in-Comm-2 : goal.note-requires-in-Comm-2
note-requires-in-Comm-2 c = let low = c.requires c.in-Comm.receiver.0 (ap (touches c.in-Comm.receiver.0) c.in-Comm.is ∙ receiver_touched c.in-Comm.sender c.in-Comm.receiver) in omega (arith, low, c.note-in-Comm.ensures.spare)

pub note-requires-in-Enter : goal.note-requires-in-Enter
note-requires-in-Enter c = c.requires c.in-Enter.t.0 (alone_touched c.in-Enter.t c.args.node c.in-Enter.is)
