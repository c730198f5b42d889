-- Acts as the machine names them.
use Rattle.std.specs.Prelude.{◌≡◌, ℕ, false, Option, Some, None}
use Rattle.plain_language.specs.declared.act.Act.{Act}
use Rattle.plain_language.specs.declared.act.Act.TheVariants.{Spawn, NewChan, NewRef, Get, Set, Send, Recv, Pick, Enter, Stabilize, Cut, Pin, Print, Probe, Attempt}
use Rattle.language.specs.Busy.{busy_at, values_in}
use Rattle.language.specs.Expression.{Expr}
use Rattle.language.specs.Outcome.{called}
use Rattle.language.specs.Table as table
use Rattle.language.specs.Table.{spawns, makes_chan, makes_ref, gets, sets, sends, receives, picks, enters, stabilizes, cuts, pins, prints, probes, attempts, Look, act}

-- the act, where functions have these bodies
abbrev pub act_of : (ℕ → Expr) → Act → table.Act Expr
act_of body (Spawn f es) = spawns (called body f.0 (values_in es.now))
act_of body NewChan = makes_chan
act_of body (NewRef v) = makes_ref v.now
act_of body (Get r) = gets r.0
act_of body (Set r v) = sets r.0 v.now
act_of body (Send c v) = sends c.0 v.now
act_of body (Recv c) = receives c.0
act_of body (Pick c d) = picks c.0 d.0
act_of body (Enter f es) = enters (called body f.0 (values_in es.now))
act_of body Stabilize = stabilizes
act_of body Cut = cuts
act_of body Pin = pins
act_of body (Print v) = prints v.now
act_of body Probe = probes
act_of body Attempt = attempts

-- the act at which an expression stands
abbrev pub act_in : Look Expr → Option (table.Act Expr)
act_in (act a) = Some a
act_in _ = None

-- the arguments of a body are values
abbrev pub HasValues : Act → Type 0
HasValues (Spawn f es) = busy_at false es.now ≡ None
HasValues (Enter f es) = busy_at false es.now ≡ None
HasValues _ = Unit {0}
