-- Programs cross threads. Functions, heads and nodes are shown to first, since a search over all of their parts ends at a limit.
use denote.Param.Send.{IsSend, IsSync, sendable}
use Rattle.std.proofs.Crossing.{crosses}
use Rattle.stab_code.proofs.ty.TyForm.TheLaws.TheKnot.{send-TyForm, sync-TyForm}
use Rattle.stab_code.specs.contracts.head.Head as heads
use Rattle.stab_code.specs.contracts.function.Function as functions
use Rattle.stab_code.specs.contracts.nodes.Nodes as nodes
use Rattle.stab_code.specs.contracts.program.Program as programs

function-send : IsSend functions.the_row
function-send = search (send-TyForm, sendable, crosses) depth 60 fits 100000

function-sync : IsSync functions.the_row
function-sync = search (sync-TyForm, sendable, crosses) depth 60 fits 100000

head-send : IsSend (heads.the_field).row
head-send = search (send-TyForm, sendable, crosses) depth 60 fits 100000

head-sync : IsSync (heads.the_field).row
head-sync = search (sync-TyForm, sendable, crosses) depth 60 fits 100000

nodes-send : IsSend nodes.the_row
nodes-send = search (head-send, sendable, crosses) depth 60 fits 100000

nodes-sync : IsSync nodes.the_row
nodes-sync = search (head-sync, sendable, crosses) depth 60 fits 100000

pub program-send : IsSend programs.the_row
program-send = search (function-send, nodes-send, sendable, crosses) depth 60 fits 100000

pub program-sync : IsSync programs.the_row
program-sync = search (function-sync, nodes-sync, sendable, crosses) depth 60 fits 100000
