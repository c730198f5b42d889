-- Which line of a state the pieces of bytes are, or what is wrong with them: first their shape, then their numbers, then their value.
use Rattle.std.specs.Prelude.{ℕ, ◌&&◌, ◌||◌, ◌==◌, Bool, true, false, is_some, List, [], ◌∷◌, Option, Some, None, Result, Ok, Err, codes, if◌then◌else◌}
use Rattle.stab_base.specs.Datum.{Datum}
use Rattle.language.specs.Depth.{max_expr_depth}
use Rattle.language.specs.Expression.{Expr}
use Rattle.plain_language.specs.Given.{as_value}
use Rattle.text_lines.specs.Table.{named_in}
use Rattle.image_text.specs.declared.fault.LineFault.{LineFault}
use Rattle.image_text.specs.declared.fault.LineFault.TheVariants.{BadLine, BadNumber}
use Rattle.image_text.specs.ExpressionIn.{expression_in}
use Rattle.image_text.specs.Reading.{count_in, is_piece, name_in}
use Rattle.image_lines.specs.declared.begin.Begin.{Begin}
use Rattle.image_lines.specs.declared.begin.Begin.TheVariants as begin
use Rattle.image_lines.specs.declared.line.Line.{Line}
use Rattle.image_lines.specs.declared.line.Line.TheVariants.{Chan, Ref, Out, Thread, End}

abbrev pub begin_text : Begin → List ℕ
begin_text begin.Chan = codes "chan"
begin_text begin.Ref = codes "ref"
begin_text begin.Out = codes "out"
begin_text begin.Thread = codes "thread"
begin_text begin.End = codes "end"

abbrev pub begins : List (List ℕ × Begin)
begins =
    (codes "chan", begin.Chan) ∷ (codes "ref", begin.Ref) ∷ (codes "out", begin.Out) ∷ (codes "thread", begin.Thread) ∷ (codes "end", begin.End) ∷ []

abbrev pub begin_named : List ℕ → Option Begin
begin_named name = named_in begins name

-- u, t, f, i, s, c, r, p
abbrev pub is_value_mark : ℕ → Bool
is_value_mark b = b == 117 || (b == 116 || (b == 102 || (b == 105 || (b == 115 || (b == 99 || (b == 114 || b == 112))))))

abbrev pub is_value_name : List ℕ → Bool
is_value_name (b ∷ []) = is_value_mark b
is_value_name name = false

abbrev pub begins_value : List (List ℕ) → Bool
begins_value [] = false
begins_value (name ∷ ps) = is_value_name name

abbrev pub or_bad_line : Option Datum → Result Datum LineFault
or_bad_line (Some v) = Ok v
or_bad_line None = Err BadLine

abbrev pub value_only : Expr → Result Datum LineFault
value_only e = or_bad_line (as_value e)

abbrev pub value_read : Result Expr LineFault → Result Datum LineFault
value_read (Ok e) = value_only e
value_read (Err k) = Err k

-- a form that is no value has no shape here
abbrev pub value_in : List (List ℕ) → Result Datum LineFault
value_in ps = if begins_value ps then value_read (expression_in max_expr_depth ps) else Err BadLine

-- the fault of a line with this fault behind numbers, by whether they were read
abbrev pub fault_behind : LineFault → Bool → LineFault
fault_behind BadLine read = BadLine
fault_behind k true = k
fault_behind k false = BadNumber

abbrev pub channel_of : Option ℕ → Result Line LineFault
channel_of (Some c) = Ok (Chan (record { 0 = c }))
channel_of None = Err BadNumber

abbrev pub channel_in : List (List ℕ) → Result Line LineFault
channel_in (c ∷ []) = if is_piece c then channel_of (name_in c) else Err BadLine
channel_in ps = Err BadLine

abbrev pub reference_of : Result Datum LineFault → Option ℕ → Result Line LineFault
reference_of (Ok v) (Some r) = Ok (Ref (record { 0 = r }) v)
reference_of (Ok v) None = Err BadNumber
reference_of (Err k) r = Err (fault_behind k (is_some r))

abbrev pub reference_in : List (List ℕ) → Result Line LineFault
reference_in [] = Err BadLine
reference_in (r ∷ ps) = if is_piece r then reference_of (value_in ps) (name_in r) else Err BadLine

abbrev pub output_of : Result Datum LineFault → Result Line LineFault
output_of (Ok v) = Ok (Out v)
output_of (Err k) = Err k

abbrev pub output_in : List (List ℕ) → Result Line LineFault
output_in ps = output_of (value_in ps)

abbrev pub thread_of : Result Expr LineFault → Option ℕ → Option ℕ → Result Line LineFault
thread_of (Ok e) (Some t) (Some g) = Ok (Thread (record { 0 = t }) g e)
thread_of (Ok e) t g = Err BadNumber
thread_of (Err k) t g = Err (fault_behind k (is_some t && is_some g))

abbrev pub thread_in : List (List ℕ) → Result Line LineFault
thread_in (t ∷ g ∷ ps) = if is_piece t && is_piece g then thread_of (expression_in max_expr_depth ps) (name_in t) (count_in g) else Err BadLine
thread_in ps = Err BadLine

abbrev pub end_in : List (List ℕ) → Result Line LineFault
end_in [] = Ok End
end_in ps = Err BadLine

abbrev pub line_begun : Option Begin → List (List ℕ) → Result Line LineFault
line_begun None ps = Err BadLine
line_begun (Some begin.Chan) ps = channel_in ps
line_begun (Some begin.Ref) ps = reference_in ps
line_begun (Some begin.Out) ps = output_in ps
line_begun (Some begin.Thread) ps = thread_in ps
line_begun (Some begin.End) ps = end_in ps

abbrev pub line_in : List (List ℕ) → Result Line LineFault
line_in [] = Err BadLine
line_in (name ∷ ps) = line_begun (begin_named name) ps
