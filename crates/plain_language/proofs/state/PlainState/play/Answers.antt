-- Each small function plays its label with any number.
use Rattle.std.proofs.Common.{rules}
use Rattle.plain_language.proofs.state.PlainState.play.Goals as goal

pub returns-in-Local : goal.returns-in-Local
returns-in-Local c = let played = c.local.ensures c.args.q.0 in search (rules, played)

pub returns-in-Local-default-eq1 : goal.returns-in-Local-default-eq1
returns-in-Local-default-eq1 c = let played = c.local_once.ensures c.args.q.0 in search (rules, played)

pub returns-in-Spawn : goal.returns-in-Spawn
returns-in-Spawn c = let played = c.spawn.ensures c.args.q.0 in search (rules, played)

pub returns-in-NewChan : goal.returns-in-NewChan
returns-in-NewChan c = let played = c.new_chan.ensures c.args.q.0 in search (rules, played)

pub returns-in-Comm : goal.returns-in-Comm
returns-in-Comm c = let played = c.meet.ensures c.args.q.0 in search (rules, played)

pub returns-in-NewRef : goal.returns-in-NewRef
returns-in-NewRef c = let played = c.new_ref.ensures c.args.q.0 in search (rules, played)

pub returns-in-Get : goal.returns-in-Get
returns-in-Get c = let played = c.get.ensures c.args.q.0 in search (rules, played)

pub returns-in-Set : goal.returns-in-Set
returns-in-Set c = let played = c.set.ensures c.args.q.0 in search (rules, played)

pub returns-in-Cut : goal.returns-in-Cut
returns-in-Cut c = let played = c.cut.ensures c.args.q.0 in search (rules, played)

pub returns-in-Print : goal.returns-in-Print
returns-in-Print c = let played = c.print.ensures c.args.q.0 in search (rules, played)

pub returns-in-Probe : goal.returns-in-Probe
returns-in-Probe c = let played = c.probe.ensures c.args.q.0 in search (rules, played)

pub returns-in-Refuse : goal.returns-in-Refuse
returns-in-Refuse c = let played = c.refuse.ensures c.args.q.0 in search (rules, played)

pub returns-in-Pin : goal.returns-in-Pin
returns-in-Pin c = let played = c.pin.ensures c.args.q.0 in search (rules, played)

pub returns-in-Attempt : goal.returns-in-Attempt
returns-in-Attempt c = let played = c.attempt.ensures c.args.q.0 in search (rules, played)
