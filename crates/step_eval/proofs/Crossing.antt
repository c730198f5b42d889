-- Controls cross threads, which is shown part by part, since a search over all parts of a machine ends at a limit.
use denote.Param.Send.{IsSend, IsSync, sendable}
use Rattle.std.proofs.Crossing.{crosses}
use Rattle.stab_base.proofs.value.Value.TheLaws.TheKnot.{both_send-Value, both_sync-Value}
use Rattle.shared_stack.proofs.stack.Link.TheLaws.TheKnot.{both_send-Link, both_sync-Link}
use Rattle.shared_stack.specs.contracts.stack.Stack as stacks
use Rattle.step_eval.specs.contracts.control.Control as controls
use Rattle.step_eval.specs.contracts.frame.Frame as frames
use Rattle.step_eval.specs.contracts.machine.Focus as focuses
use Rattle.step_eval.specs.contracts.machine.Machine as machines

frame-send : IsSend frames.the_row
frame-send = search (both_send-Value, both_sync-Value, sendable, crosses) depth 60 fits 100000

frame-sync : IsSync frames.the_row
frame-sync = search (both_send-Value, both_sync-Value, sendable, crosses) depth 60 fits 100000

stack-send : IsSend (stacks.the_row frames.the_row)
stack-send = search (frame-send, frame-sync, both_send-Link, both_sync-Link, sendable, crosses) depth 60 fits 100000

stack-sync : IsSync (stacks.the_row frames.the_row)
stack-sync = search (frame-send, frame-sync, both_send-Link, both_sync-Link, sendable, crosses) depth 60 fits 100000

focus-send : IsSend (focuses.the_field).row
focus-send = search (both_send-Value, both_sync-Value, sendable, crosses) depth 60 fits 100000

focus-sync : IsSync (focuses.the_field).row
focus-sync = search (both_send-Value, both_sync-Value, sendable, crosses) depth 60 fits 100000

machine-send : IsSend (machines.the_field).row
machine-send = search (stack-send, frame-send, both_send-Value, both_sync-Value, sendable, crosses) depth 60 fits 100000

machine-sync : IsSync (machines.the_field).row
machine-sync = search (stack-sync, frame-sync, both_send-Value, both_sync-Value, sendable, crosses) depth 60 fits 100000

pub control-send : IsSend controls.the_row
control-send = search (machine-send, machine-sync, focus-send, sendable, crosses) depth 60 fits 100000

pub control-sync : IsSync controls.the_row
control-sync = search (machine-send, machine-sync, focus-sync, sendable, crosses) depth 60 fits 100000
