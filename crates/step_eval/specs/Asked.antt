-- What is next of a control, in the words of the plain language.
use Rattle.std.specs.Prelude.{◌≡◌, ⊤, ℕ, List, [], length, Option, Some, None}
use Rattle.stab_base.specs.Datum.{Datum}
use Rattle.stab_code.specs.Program.{ProgramParts}
use Rattle.language.specs.Expression.{Expr}
use Rattle.language.specs.Table as table
use Rattle.language.specs.Table.{Look, done, fault, act, pure}
use Rattle.step_eval.specs.declared.act.Act as own
use Rattle.step_eval.specs.declared.act.Act.TheVariants.{Enter}
use Rattle.step_eval.specs.declared.ask.Ask.{Ask}
use Rattle.step_eval.specs.declared.ask.Ask.TheVariants.{More, Done, Failed, Act}
use Rattle.step_eval.specs.Acts.{act_with}
use Rattle.step_eval.specs.ControlView.{ControlView, FocusView, acting}
use Rattle.step_eval.specs.Operands.{HasOperands}

abbrev pub values_at : FocusView → List Datum
values_at (acting a here) = here.done
values_at what = []

abbrev pub act_at : FocusView → Option own.Act
act_at (acting a here) = Some a
act_at what = None

-- the act that a control looks at
abbrev pub act_next : ControlView → Option own.Act
act_next c = act_at c.focus

-- a section that is entered
abbrev pub IsEnter : Option own.Act → Type 0
IsEnter (Some (Enter f)) = ⊤
IsEnter _ = ⊥

-- the act that is next, if one is
abbrev pub act_in : Ask → Option own.Act
act_in (Act a) = Some a
act_in ask = None

-- the values of an act, from left to right
abbrev pub operands_of : ControlView → List Datum
operands_of c = values_at c.focus

-- an act is the same with these operands, where functions have these bodies
abbrev pub IsAct : (ℕ → Expr) → List Datum → table.Act Expr → Ask → Type 0
IsAct body vs x (Act a) = x ≡ act_with body vs a
IsAct body vs x ask = ⊥

abbrev pub IsAsked : (ℕ → Expr) → List Datum → Look Expr → Ask → Type 0
IsAsked body vs (done v) ask = ask ≡ Done
IsAsked body vs (fault k) ask = ask ≡ Failed k
IsAsked body vs (pure e) ask = ask ≡ More
IsAsked body vs (act x) ask = IsAct body vs x ask

-- an act that is next has its number of operands, and a body's arguments are as many as it takes
abbrev pub AsksRightly : ProgramParts → List Datum → Ask → Type 0
AsksRightly p vs (Act a) = HasOperands p (length vs) a
AsksRightly p vs ask = ⊤
