-- What is told of an expression from outside.
use Rattle.plain_language.specs.declared.look.ActKind.{ActKind}
use Rattle.plain_language.specs.declared.look.ActKind.TheVariants as kind
use Rattle.plain_language.specs.declared.look.Look as told
use Rattle.plain_language.specs.declared.look.Look.TheVariants.{Done, Failed, Pure, Act}
use Rattle.language.specs.Expression.{Expr}
use Rattle.language.specs.Table as table
use Rattle.language.specs.Table.{spawns, makes_chan, makes_ref, gets, sets, sends, receives, picks, enters, stabilizes, cuts, pins, prints, probes, attempts, Look, done, fault, act, pure}

abbrev pub kind_of : table.Act Expr → ActKind
kind_of (spawns body) = kind.Spawn
kind_of makes_chan = kind.NewChan
kind_of (makes_ref v) = kind.NewRef
kind_of (gets r) = kind.Get (record { 0 = r })
kind_of (sets r v) = kind.Set (record { 0 = r })
kind_of (sends c v) = kind.Send (record { 0 = c })
kind_of (receives c) = kind.Recv (record { 0 = c })
kind_of (picks c d) = kind.Pick (record { 0 = c }) (record { 0 = d })
kind_of (enters body) = kind.Enter
kind_of stabilizes = kind.Stabilize
kind_of cuts = kind.Cut
kind_of pins = kind.Pin
kind_of (prints v) = kind.Print
kind_of probes = kind.Probe
kind_of attempts = kind.Attempt

abbrev pub seen : Look Expr → told.Look
seen (done v) = Done
seen (fault k) = Failed k
seen (act a) = Act (kind_of a)
seen (pure e) = Pure
