-- Acts with their operands.
use Rattle.std.specs.Prelude.{ℕ, List, [], ◌∷◌}
use Rattle.stab_base.specs.Datum.{Datum, unit}
use Rattle.step_eval.specs.declared.act.Act.{Act}
use Rattle.step_eval.specs.declared.act.Act.TheVariants.{Spawn, NewChan, NewRef, Get, Set, Send, Recv, Pick, Enter, Stabilize, Cut, Pin, Print, Probe, Attempt}
use Rattle.language.specs.Expression.{Expr}
use Rattle.language.specs.Outcome.{called}
use Rattle.language.specs.Table as table
use Rattle.language.specs.Table.{spawns, makes_chan, makes_ref, gets, sets, sends, receives, picks, enters, stabilizes, cuts, pins, prints, probes, attempts}

-- the first operand and the second
abbrev pub first_of : List Datum → Datum
first_of [] = unit
first_of (v ∷ vs) = v

abbrev pub second_of : List Datum → Datum
second_of [] = unit
second_of (v ∷ vs) = first_of vs

-- the act with these operands, where functions have these bodies
abbrev pub act_with : (ℕ → Expr) → List Datum → Act → table.Act Expr
act_with body vs (Spawn f) = spawns (called body f.0 vs)
act_with body vs NewChan = makes_chan
act_with body vs NewRef = makes_ref (first_of vs)
act_with body vs (Get r) = gets r.0
act_with body vs (Set r) = sets r.0 (second_of vs)
act_with body vs (Send c) = sends c.0 (second_of vs)
act_with body vs (Recv c) = receives c.0
act_with body vs (Pick c d) = picks c.0 d.0
act_with body vs (Enter f) = enters (called body f.0 vs)
act_with body vs Stabilize = stabilizes
act_with body vs Cut = cuts
act_with body vs Pin = pins
act_with body vs Print = prints (first_of vs)
act_with body vs Probe = probes
act_with body vs Attempt = attempts
