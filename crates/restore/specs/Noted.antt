-- How the line of a thread changes when one more node is marked.
use Rattle.std.specs.Prelude.{ℕ, min, cond, Option, Some, None}
use Rattle.stab_base.specs.declared.numbers.Seq.{Seq}
use Rattle.comm_graph.specs.declared.node.NodeFor.{NodeFor}
use Rattle.comm_graph.specs.Node.{acts}
use Rattle.restore.specs.declared.line.Line.{Line}
use Rattle.restore.specs.declared.line.Line.TheVariants.{From, Gone}
use Rattle.restore.specs.Line.{starts}

-- the earlier of two lines of a thread
abbrev pub earlier : Line → Line → Line
earlier (From p) (From q) = From (record { 0 = min p.0 q.0 })
earlier _ _ = Gone

-- the line with one more found
abbrev pub with_line : Line → Option Line → Option Line
with_line line None = Some line
with_line line (Some before) = Some (earlier before line)

-- the line of the thread t with the node numbered q marked too
abbrev pub noted : Seq → NodeFor → ℕ → Option Line → Option Line
noted q k t line = cond (starts t k) (Some Gone) (cond (acts t k) (with_line (From q) line) line)
