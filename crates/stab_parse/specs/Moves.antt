-- What a token does to the frames, forms and functions that a parser keeps.
use Rattle.std.specs.Prelude.{ℕ, ◌+◌, ◌-◌, ◌^◌, suc, ◌==◌, ℤ, pos, neg_ℤ, max, min, Bool, true, false, List, [], ◌∷◌, ◌++◌, Option, Some, None, length, Result, Ok, Err, nat_lt, if◌then◌else◌}
use Rattle.stab_code.specs.declared.head.Op.{Op}
use Rattle.stab_code.specs.declared.head.Op.TheVariants as op
use Rattle.stab_code.specs.Written.{Written, chan_type, ref_type, pair_type}
use Rattle.stab_parse.specs.declared.frame.BlockPlace.{BlockPlace}
use Rattle.stab_parse.specs.declared.frame.BlockPlace.TheVariants.{Body, Form, Then, Else}
use Rattle.stab_parse.specs.declared.frame.Callee.{Callee}
use Rattle.stab_parse.specs.declared.frame.Callee.TheVariants.{Called, Started}
use Rattle.stab_parse.specs.declared.frame.Frame.{Frame}
use Rattle.stab_parse.specs.declared.frame.Frame.TheVariants as frame
use Rattle.stab_parse.specs.declared.frame.Level.{Level}
use Rattle.stab_parse.specs.declared.frame.Level.TheVariants.{Product, Sum, Relation, And, Or}
use Rattle.stab_parse.specs.declared.frame.Phase.{Phase}
use Rattle.stab_parse.specs.declared.frame.Phase.TheVariants as phase
use Rattle.stab_parse.specs.Seen.{Seen}
use Rattle.stab_parse.specs.declared.parser.Parser.{Parser}
use Rattle.stab_parse.specs.declared.reader.Reader.{Reader}
use Rattle.stab_parse.specs.declared.parser.Admission.{Admission}
use Rattle.stab_parse.specs.declared.parser.Admission.TheVariants as admission
use Rattle.stab_parse.specs.declared.symbol.ActWord.TheVariants.{Ref}
use Rattle.stab_parse.specs.declared.symbol.CallWord.{CallWord}
use Rattle.stab_parse.specs.declared.symbol.Span.{Span}
use Rattle.stab_parse.specs.declared.symbol.Symbol.{Symbol}
use Rattle.stab_parse.specs.declared.symbol.Symbol.TheVariants as symbol
use Rattle.stab_parse.specs.declared.tree.FormNode.{FormNode}
use Rattle.stab_parse.specs.declared.tree.Head.{Head}
use Rattle.stab_parse.specs.declared.tree.Head.TheVariants as head
use Rattle.stab_parse.specs.declared.tree.Param.{Param}
use Rattle.stab_parse.specs.Forms.{basic_of, head_of_block}
use Rattle.stab_lex.specs.declared.token.Token.{Token}
use Rattle.stab_parse.specs.declared.fault.ParseFault.{ParseFault}
use Rattle.stab_parse.specs.declared.fault.ParseFault.TheVariants.{Unexpected, TooNested}
use Rattle.stab_parse.specs.Faults.{max_open}
use Rattle.stab_parse.specs.FormList.{max_depth}
use Rattle.stab_parse.specs.Frames.{top_of, below_top, open_in}
use Rattle.stab_parse.specs.Symbols.{symbol_of, span_of}

-- one more than the depth of the parts, as far as a byte counts
abbrev pub deeper : ℕ → ℕ
deeper d = min (suc d) 255

-- the depth of one part, and that of two
abbrev pub alone : ℕ → ℕ
alone a = max 0 a

abbrev pub both : ℕ → ℕ → ℕ
both a b = max (alone a) b

abbrev pub more : ℕ → ℕ
more n = min (n + 1) (2 ^ 64 - 1)

abbrev pub pushed : Frame → Reader → Reader
pushed f r = record r { frames = f ∷ r.frames }

abbrev pub popped : Reader → Reader
popped r = record r { frames = below_top r.frames }

abbrev pub node_of : Head → ℕ → FormNode
node_of h n = record { head = h; parts = n }

-- the lesser of a number that may be missing and another
abbrev pub least_with : Option ℕ → ℕ → Option ℕ
least_with None n = Some n
least_with (Some m) n = Some (min n m)

-- the least first byte of those that are just too deep, with a form that begins here and has this depth
abbrev pub noted : Option ℕ → ℕ → ℕ → Option ℕ
noted least at d = if d == max_depth + 1 then least_with least at else least

-- a form is complete: its number of parts, its first byte and the depth of its parts
abbrev pub formed : Head → ℕ → ℕ → ℕ → Reader → Reader
formed h n at d r = record r { forms = node_of h n ∷ r.forms; too_deep = noted r.too_deep at (deeper d) }

abbrev pub seen_at : ℕ → ℕ → Seen
seen_at at d = record { first = at; depth = d }

-- a form that was read, and the reader behind it
pub record Settled : Type 0 where
  pub seen : Seen
  pub reader : Reader

abbrev pub settled : Seen → Reader → Settled
settled s r = record { seen = s; reader = r }

abbrev pub joined : Op → Seen → Seen → Reader → Settled
joined o left s r = settled (seen_at left.first (deeper (both left.depth s.depth))) (formed (head.Two o) 2 left.first (both left.depth s.depth) r)

-- an operand that is complete joins the operators before it
abbrev pub settle_on : List Frame → Seen → Reader → Settled
settle_on (frame.Not at ∷ fs) s r = settle_on fs (seen_at at (deeper (alone s.depth))) (formed head.Not 1 at (alone s.depth) (record r { frames = fs }))
settle_on (frame.Negate at ∷ fs) s r = settle_on fs (seen_at at (deeper (alone s.depth))) (formed head.Neg 1 at (alone s.depth) (record r { frames = fs }))
settle_on (frame.Operator Product o left ∷ fs) s r =
    settle_on fs (seen_at left.first (deeper (both left.depth s.depth))) (formed (head.Two o) 2 left.first (both left.depth s.depth) (record r { frames = fs }))
settle_on fs s r = settled s r

abbrev pub settle : Seen → Reader → Settled
settle s r = settle_on r.frames s r

-- one step of it: the operand that an operator made of it, none where no operator stands next
pub record SettleStep : Type 0 where
  pub next : Option Seen
  pub reader : Reader

abbrev pub settle_step : Option Seen → Reader → SettleStep
settle_step next r = record { next = next; reader = r }

abbrev pub settle_frame : Frame → Seen → Reader → SettleStep
settle_frame (frame.Not at) s r = settle_step (Some (seen_at at (deeper (alone s.depth)))) (formed head.Not 1 at (alone s.depth) r)
settle_frame (frame.Negate at) s r = settle_step (Some (seen_at at (deeper (alone s.depth)))) (formed head.Neg 1 at (alone s.depth) r)
settle_frame (frame.Operator Product o left) s r = settle_step (Some (seen_at left.first (deeper (both left.depth s.depth)))) (formed (head.Two o) 2 left.first (both left.depth s.depth) r)
settle_frame f s r = settle_step None (pushed f r)

abbrev pub settle_top : Option Frame → Seen → Reader → SettleStep
settle_top None s r = settle_step None r
settle_top (Some f) s r = settle_frame f s r

-- a form that isn't an operation
abbrev pub complete : Head → ℕ → ℕ → ℕ → Reader → Settled
complete h n at d r = settle (seen_at at (deeper d)) (formed h n at d r)

-- an if is complete, by its place and the depth of its parts
abbrev pub settle_if_on : List Frame → ℕ → ℕ → Reader → Settled
settle_if_on (frame.ElseIf i e ∷ fs) at d r = settle_if_on fs i (max e (deeper d)) (formed head.If 3 at d (record r { frames = fs }))
settle_if_on fs at d r = complete head.If 3 at d r

-- one step of it: the if around, by its place and the depth of its parts, none where the if is the outermost
pub record IfStep : Type 0 where
  pub next : Option Seen
  pub reader : Reader

abbrev pub if_step : Option Seen → Reader → IfStep
if_step next r = record { next = next; reader = r }

abbrev pub else_frame : Frame → ℕ → ℕ → Reader → IfStep
else_frame (frame.ElseIf i e) at d r = if_step (Some (seen_at i (max e (deeper d)))) (formed head.If 3 at d r)
else_frame f at d r = if_step None (pushed f r)

abbrev pub else_top : Option Frame → ℕ → ℕ → Reader → IfStep
else_top None at d r = if_step None r
else_top (Some f) at d r = else_frame f at d r

abbrev pub settle_if : ℕ → ℕ → Reader → Settled
settle_if at d r = settle_if_on r.frames at d r

-- what a token does: it may not stand there, it leads to a phase, or it opens something and leads to one
pub data Step : Type 0 where
  Refused : Step
  Goes : Phase → Step
  Opens : Phase → Step

abbrev pub has : Settled → Step
has s = Goes (phase.Has s.seen)

-- what a call does: the next phase, and what is kept
pub record Outcome : Type 0 where
  pub step : Step
  pub reader : Reader

abbrev pub outcome : Step → Reader → Outcome
outcome s r = record { step = s; reader = r }

-- what an admission says of a parser that is in the next phase
abbrev pub step_to : Admission → Phase → Step
step_to admission.Refused p = Refused
step_to admission.Goes p = Goes p
step_to admission.Opens p = Opens p

abbrev pub did : Admission → Parser → Outcome
did v p = outcome (step_to v p.phase) p.reader

abbrev pub settled_outcome : Settled → Outcome
settled_outcome s = outcome (has s) s.reader

-- a form joins the operator of this level that stands next
abbrev pub join_frame : Level → Frame → Seen → Reader → Settled
join_frame Sum (frame.Operator Sum o left) s r = joined o left s r
join_frame Relation (frame.Operator Relation o left) s r = joined o left s r
join_frame And (frame.Operator And o left) s r = joined o left s r
join_frame Or (frame.Operator Or o left) s r = joined o left s r
join_frame l f s r = settled s (pushed f r)

abbrev pub join_top : Level → Option Frame → Seen → Reader → Settled
join_top l None s r = settled s r
join_top l (Some f) s r = join_frame l f s r

abbrev pub join : Level → Settled → Settled
join l s = join_top l (top_of s.reader.frames) s.seen (popped s.reader)

abbrev pub whole_sum : Seen → Reader → Settled
whole_sum s r = join Sum (settled s r)

abbrev pub whole_and : Seen → Reader → Settled
whole_and s r = join And (join Relation (whole_sum s r))

abbrev pub whole_expr : Seen → Reader → Settled
whole_expr s r = join Or (whole_and s r)

-- an operator behind a form, whose right side is owed
abbrev pub operator : Level → Op → Settled → Outcome
operator l o s = outcome (Goes phase.Owes) (pushed (frame.Operator l o s.seen) s.reader)

-- comparisons don't follow each other
abbrev pub relation_top : Option Frame → Op → Seen → Reader → Outcome
relation_top None o s r = operator Relation o (settled s r)
relation_top (Some (frame.Operator Relation p left)) o s r = outcome Refused r
relation_top (Some f) o s r = operator Relation o (settled s (pushed f r))

abbrev pub relation : Op → Settled → Outcome
relation o s = relation_top (top_of s.reader.frames) o s.seen (popped s.reader)

abbrev pub head_of_call : Callee → Head
head_of_call (Called f) = head.Call f
head_of_call (Started w at f) = head.Start w f

abbrev pub first_of_call : Callee → ℕ
first_of_call (Called f) = f.start
first_of_call (Started w at f) = at

abbrev pub call_done : Callee → ℕ → ℕ → Reader → Settled
call_done c n d r = complete (head_of_call c) n (first_of_call c) d r

-- a step with the frame that was popped, if there was one, and the reader without it
abbrev pub in_top : (Frame → Seen → Reader → Outcome) → Option Frame → Seen → Reader → Outcome
in_top step None s r = outcome Refused r
in_top step (Some f) s r = step f s r

-- the frame that was popped, what is behind the expression, and the reader without the frame
abbrev pub close_paren : Frame → Seen → Reader → Outcome
close_paren (frame.Group at) s r = settled_outcome (settle (seen_at at s.depth) r)
close_paren (frame.Second at left) s r = settled_outcome (complete head.Pair 2 at (both left s.depth) r)
close_paren (frame.Args c d n) s r = settled_outcome (call_done c (more n) (max d s.depth) r)
close_paren (frame.One w at) s r = settled_outcome (complete (head.Act w) 1 at (alone s.depth) r)
close_paren (frame.TwoRight w at left) s r = settled_outcome (complete (head.Act w) 2 at (both left s.depth) r)
close_paren _ s r = outcome Refused r

abbrev pub owed_in : Frame → Reader → Outcome
owed_in f r = outcome (Goes phase.Owes) (pushed f r)

abbrev pub comma : Frame → Seen → Reader → Outcome
comma (frame.Group at) s r = owed_in (frame.Second at s.depth) r
comma (frame.Args c d n) s r = owed_in (frame.Args c (max d s.depth) (more n)) r
comma (frame.TwoLeft w at) s r = owed_in (frame.TwoRight w at s.depth) r
comma _ s r = outcome Refused r

-- an item is complete
abbrev pub item : Option Span → Frame → Seen → Reader → Outcome
item name (frame.Items d at names place) s r =
    outcome (Goes phase.InItems) (pushed (frame.Items (max d s.depth) at (names ++ name ∷ []) place) r)
item name _ s r = outcome Refused r

abbrev pub semicolon : Frame → Seen → Reader → Outcome
semicolon (frame.Let x) s r = in_top (item (Some x)) (top_of r.frames) s (popped r)
semicolon f s r = item None f s r

-- a function is complete
abbrev pub function_done : Span → List Param → Written → Reader → Outcome
function_done x ps t r =
    outcome (Goes phase.Between) (record r { functions = r.functions ++ record { name = x; params = ps; gives = t; forms_end = length r.forms } ∷ [] })

-- a block is complete, where it stands
abbrev pub block_in : BlockPlace → Seen → Reader → Outcome
block_in (Body f) s r = function_done f.name f.params f.gives r
block_in Form s r = settled_outcome (settle s r)
block_in (Then at d) s r = outcome (Goes (phase.ThenRead at (both d s.depth))) r
block_in (Else at d) s r = settled_outcome (settle_if at (max d s.depth) r)

-- a block ends with a last form
abbrev pub block_done : ℕ → List (Option Span) → ℕ → BlockPlace → Seen → Reader → Outcome
block_done at [] d place s r = block_in place (seen_at at s.depth) r
block_done at (x ∷ xs) d place s r =
    block_in place (seen_at at (deeper (max d s.depth))) (formed (head_of_block (x ∷ xs)) (more (length (x ∷ xs))) at (max d s.depth) r)

abbrev pub close_brace : Frame → Seen → Reader → Outcome
close_brace (frame.Items d at names place) s r = block_done at names d place s r
close_brace _ s r = outcome Refused r

-- a block ends behind its items; where its unit stands, which isn't written, makes no difference, since it is never too deep
abbrev pub end_items : Option Frame → Reader → Outcome
end_items (Some (frame.Items d at names place)) r = block_done at names d place (seen_at at 1) (formed head.Unit 0 at 0 r)
end_items _ r = outcome Refused r

abbrev pub open_brace : ℕ → Frame → Seen → Reader → Outcome
open_brace o (frame.Condition at) s r = outcome (Opens phase.InItems) (pushed (frame.Items 0 o [] (Then at s.depth)) r)
open_brace o _ s r = outcome Refused r

-- a token behind a whole expression, with the frame that was popped
abbrev pub behind_top : Option Frame → Symbol → Span → Seen → Reader → Outcome
behind_top top symbol.CloseParen p s r = in_top close_paren top s r
behind_top top symbol.Comma p s r = in_top comma top s r
behind_top top symbol.Semicolon p s r = in_top semicolon top s r
behind_top top symbol.CloseBrace p s r = in_top close_brace top s r
behind_top top symbol.OpenBrace p s r = in_top (open_brace p.start) top s r
behind_top top _ p s r = outcome Refused r

abbrev pub closes : Symbol → Span → Settled → Outcome
closes k p s = behind_top (top_of s.reader.frames) k p s.seen (popped s.reader)

-- a token behind a term
abbrev pub ends : Symbol → Span → Seen → Reader → Outcome
ends (symbol.Product o) p s r = operator Product o (settled s r)
ends symbol.Plus p s r = operator Sum op.Add (whole_sum s r)
ends symbol.Minus p s r = operator Sum op.Sub (whole_sum s r)
ends (symbol.Relation o) p s r = relation o (whole_sum s r)
ends symbol.AndAnd p s r = operator And op.And (whole_and s r)
ends symbol.OrOr p s r = operator Or op.Or (whole_expr s r)
ends symbol.CloseParen p s r = closes symbol.CloseParen p (whole_expr s r)
ends symbol.Comma p s r = closes symbol.Comma p (whole_expr s r)
ends symbol.Semicolon p s r = closes symbol.Semicolon p (whole_expr s r)
ends symbol.CloseBrace p s r = closes symbol.CloseBrace p (whole_expr s r)
ends symbol.OpenBrace p s r = closes symbol.OpenBrace p (whole_expr s r)
ends _ p s r = outcome Refused r

abbrev pub ends_settled : Symbol → Span → Settled → Outcome
ends_settled k p s = ends k p s.seen s.reader

-- whether a symbol is this one
abbrev pub is_close_paren : Symbol → Bool
is_close_paren symbol.CloseParen = true
is_close_paren _ = false

abbrev pub is_open_paren : Symbol → Bool
is_open_paren symbol.OpenParen = true
is_open_paren _ = false

abbrev pub is_close_brace : Symbol → Bool
is_close_brace symbol.CloseBrace = true
is_close_brace _ = false

abbrev pub is_let : Symbol → Bool
is_let symbol.WordLet = true
is_let _ = false

abbrev pub is_else : Symbol → Bool
is_else symbol.WordElse = true
is_else _ = false

-- the number that a symbol is behind a minus
abbrev pub negative_of : Symbol → Option ℤ
negative_of (symbol.Number v) = Some (neg_ℤ (pos v))
negative_of symbol.Greatest = Some (neg_ℤ (pos (2 ^ 63)))
negative_of _ = None

-- where a unary is owed
abbrev pub begins : Symbol → Span → Reader → Outcome
begins (symbol.Number v) p r = settled_outcome (complete (head.Int (pos v)) 0 p.start 0 r)
begins symbol.Minus p r = outcome (Opens (phase.Signed p.start)) r
begins symbol.Not p r = outcome (Opens phase.Owes) (pushed (frame.Not p.start) r)
begins symbol.Text p r = settled_outcome (complete (head.Text p) 0 p.start 0 r)
begins (symbol.Truth b) p r = settled_outcome (complete (head.Truth b) 0 p.start 0 r)
begins symbol.Name p r = outcome (Goes (phase.Named p)) r
begins (symbol.Call w) p r = outcome (Goes (phase.WordRead w p.start)) r
begins symbol.OpenParen p r = outcome (Opens (phase.Opened p.start)) r
begins symbol.OpenBrace p r = outcome (Opens phase.InItems) (pushed (frame.Items 0 p.start [] Form) r)
begins symbol.WordIf p r = owed_in (frame.Condition p.start) r
begins symbol.WordChan p r = outcome (Goes (phase.ChanRead p.start)) r
begins (symbol.ActOne w) p r = outcome (Goes (phase.OneRead w p.start)) r
begins (symbol.ActTwo w) p r = outcome (Goes (phase.TwoRead w p.start)) r
begins (symbol.ActAlone w) p r = outcome (Goes (phase.AloneRead w p.start)) r
begins _ p r = outcome Refused r

abbrev pub signed_by : Option ℤ → ℕ → Symbol → Span → Reader → Outcome
signed_by (Some n) m k p r = settled_outcome (complete (head.Int n) 0 m 0 r)
signed_by None m k p r = begins k p (pushed (frame.Negate m) r)

abbrev pub signed : ℕ → Symbol → Span → Reader → Outcome
signed m k p r = signed_by (negative_of k) m k p r

abbrev pub opened : ℕ → Symbol → Span → Reader → Outcome
opened o k p r = if is_close_paren k then settled_outcome (complete head.Unit 0 o 0 r) else begins k p (pushed (frame.Group o) r)

abbrev pub call_open : Callee → Symbol → Span → Reader → Outcome
call_open c k p r = if is_close_paren k then settled_outcome (call_done c 0 0 r) else begins k p (pushed (frame.Args c 0 0) r)

abbrev pub in_items : Symbol → Span → Reader → Outcome
in_items k p r =
    if is_let k then outcome (Goes phase.LetRead) r
    else (if is_close_brace k then end_items (top_of r.frames) (popped r) else begins k p r)

abbrev pub named : Span → Symbol → Span → Reader → Outcome
named x k p r = if is_open_paren k then outcome (Opens (phase.CallOpen (Called x))) r else ends_settled k p (complete (head.Variable x) 0 x.start 0 r)

abbrev pub then_read : ℕ → ℕ → Symbol → Span → Reader → Outcome
then_read at d k p r =
    if is_else k then outcome (Goes (phase.ElseRead at d)) r
    else ends_settled k p (settle_if at (max d 1) (formed head.Unit 0 at 0 r))

abbrev pub else_read : ℕ → ℕ → Symbol → Span → Reader → Outcome
else_read at d symbol.OpenBrace p r = outcome (Opens phase.InItems) (pushed (frame.Items 0 p.start [] (Else at d)) r)
else_read at d symbol.WordIf p r = outcome (Opens phase.Owes) (pushed (frame.Condition p.start) (pushed (frame.ElseIf at d) r))
else_read at d _ p r = outcome Refused r

abbrev pub owes_type : Symbol → Reader → Outcome
owes_type (symbol.Basic b) r = outcome (Goes (phase.HasType (basic_of b))) r
owes_type symbol.WordChan r = outcome (Goes phase.ChanTypeRead) r
owes_type (symbol.ActOne Ref) r = outcome (Goes phase.RefTypeRead) r
owes_type symbol.OpenParen r = outcome (Opens phase.OwesType) (pushed frame.PairLeft r)
owes_type _ r = outcome Refused r

-- a type is complete before the token, in the frame that was popped
abbrev pub param_typed : Span → List Param → Span → Written → Symbol → Reader → Outcome
param_typed f ps x t symbol.Comma r = outcome (Goes (phase.ParamOwed f (ps ++ record { name = x; ty = t } ∷ []))) r
param_typed f ps x t symbol.CloseParen r = outcome (Goes (phase.ParamsClosed f (ps ++ record { name = x; ty = t } ∷ []))) r
param_typed f ps x t _ r = outcome Refused r

abbrev pub result_typed : Span → List Param → Written → Symbol → ℕ → Reader → Outcome
result_typed f ps t symbol.OpenBrace p r = outcome (Opens phase.InItems) (pushed (frame.Items 0 p [] (Body (record { name = f; params = ps; gives = t }))) r)
result_typed f ps t _ p r = outcome Refused r

abbrev pub bracket_typed : Written → Symbol → Reader → Outcome
bracket_typed outer symbol.CloseBracket r = outcome (Goes (phase.HasType outer)) r
bracket_typed outer _ r = outcome Refused r

abbrev pub left_typed : Written → Symbol → Reader → Outcome
left_typed t symbol.Comma r = outcome (Goes phase.OwesType) (pushed (frame.PairRight t) r)
left_typed t _ r = outcome Refused r

abbrev pub right_typed : Written → Symbol → Reader → Outcome
right_typed outer symbol.CloseParen r = outcome (Goes (phase.HasType outer)) r
right_typed outer _ r = outcome Refused r

abbrev pub chan_typed : ℕ → Written → Symbol → Reader → Outcome
chan_typed at t symbol.CloseBracket r = outcome (Goes (phase.ChanTyped at t)) r
chan_typed at t _ r = outcome Refused r

abbrev pub typed : Written → Frame → Symbol → ℕ → Reader → Outcome
typed t (frame.ParamType f ps x) k p r = param_typed f ps x t k r
typed t (frame.ResultType f ps) k p r = result_typed f ps t k p r
typed t frame.ChanType k p r = bracket_typed (chan_type t) k r
typed t frame.RefType k p r = bracket_typed (ref_type t) k r
typed t frame.PairLeft k p r = left_typed t k r
typed t (frame.PairRight l) k p r = right_typed (pair_type l t) k r
typed t (frame.NewChan at) k p r = chan_typed at t k r
typed t _ k p r = outcome Refused r

abbrev pub typed_top : Written → Option Frame → Symbol → ℕ → Reader → Outcome
typed_top t None k p r = outcome Refused r
typed_top t (Some f) k p r = typed t f k p r

-- the words of a function up to its body
abbrev pub between : Symbol → Reader → Outcome
between symbol.WordFn r = outcome (Goes phase.FnRead) r
between _ r = outcome Refused r

abbrev pub fn_read : Symbol → Span → Reader → Outcome
fn_read symbol.Name p r = outcome (Goes (phase.FnNamed p)) r
fn_read _ p r = outcome Refused r

abbrev pub fn_named : Span → Symbol → Reader → Outcome
fn_named x symbol.OpenParen r = outcome (Opens (phase.ParamsOpen x)) r
fn_named x _ r = outcome Refused r

abbrev pub params_open : Span → Symbol → Span → Reader → Outcome
params_open x symbol.CloseParen p r = outcome (Goes (phase.ParamsClosed x [])) r
params_open x symbol.Name p r = outcome (Goes (phase.ParamNamed x [] p)) r
params_open x _ p r = outcome Refused r

abbrev pub param_owed : Span → List Param → Symbol → Span → Reader → Outcome
param_owed x ps symbol.Name p r = outcome (Goes (phase.ParamNamed x ps p)) r
param_owed x ps _ p r = outcome Refused r

abbrev pub param_named : Span → List Param → Span → Symbol → Reader → Outcome
param_named x ps y symbol.Colon r = outcome (Goes phase.OwesType) (pushed (frame.ParamType x ps y) r)
param_named x ps y _ r = outcome Refused r

abbrev pub params_closed : Span → List Param → Symbol → Reader → Outcome
params_closed x ps symbol.Colon r = outcome (Goes phase.OwesType) (pushed (frame.ResultType x ps) r)
params_closed x ps _ r = outcome Refused r

-- the bracket behind the word of a type, and behind that of an act
abbrev pub bracket : Frame → Symbol → Reader → Outcome
bracket f symbol.OpenBracket r = outcome (Opens phase.OwesType) (pushed f r)
bracket f _ r = outcome Refused r

abbrev pub paren : Phase → Symbol → Reader → Outcome
paren next symbol.OpenParen r = outcome (Opens next) r
paren next _ r = outcome Refused r

abbrev pub paren_in : Frame → Symbol → Reader → Outcome
paren_in f symbol.OpenParen r = outcome (Opens phase.Owes) (pushed f r)
paren_in f _ r = outcome Refused r

abbrev pub paren_end : Head → ℕ → Symbol → Reader → Outcome
paren_end h at symbol.CloseParen r = settled_outcome (complete h 0 at 0 r)
paren_end h at _ r = outcome Refused r

abbrev pub word_read : CallWord → ℕ → Symbol → Span → Reader → Outcome
word_read w at symbol.Name p r = outcome (Goes (phase.WordNamed w at p)) r
word_read w at _ p r = outcome Refused r

abbrev pub let_read : Symbol → Span → Reader → Outcome
let_read symbol.Name p r = outcome (Goes (phase.LetNamed p)) r
let_read _ p r = outcome Refused r

abbrev pub let_named : Span → Symbol → Reader → Outcome
let_named x symbol.Equal r = owed_in (frame.Let x) r
let_named x _ r = outcome Refused r

-- a token in a phase that keeps parameters or a type
abbrev pub move_typed : Phase → Symbol → Span → Reader → Outcome
move_typed (phase.ParamOwed x ps) k p r = param_owed x ps k p r
move_typed (phase.ParamNamed x ps y) k p r = param_named x ps y k r
move_typed (phase.ParamsClosed x ps) k p r = params_closed x ps k r
move_typed (phase.HasType t) k p r = typed_top t (top_of r.frames) k p.start (popped r)
move_typed (phase.ChanTyped at t) k p r = paren (phase.ChanOpen at t) k r
move_typed (phase.ChanOpen at t) k p r = paren_end (head.NewChan t) at k r
move_typed _ k p r = outcome Refused r

-- the form that was read last, if it was one
abbrev pub form_read : Phase → Option Seen
form_read (phase.Has s) = Some s
form_read _ = None

-- a token in each phase
abbrev pub move : Phase → Symbol → Span → Reader → Outcome
move phase.Between k p r = between k r
move phase.FnRead k p r = fn_read k p r
move (phase.FnNamed x) k p r = fn_named x k r
move (phase.ParamsOpen x) k p r = params_open x k p r
move phase.OwesType k p r = owes_type k r
move phase.ChanTypeRead k p r = bracket frame.ChanType k r
move phase.RefTypeRead k p r = bracket frame.RefType k r
move phase.Owes k p r = begins k p r
move (phase.Signed m) k p r = signed m k p r
move (phase.Opened o) k p r = opened o k p r
move (phase.Named x) k p r = named x k p r
move (phase.CallOpen c) k p r = call_open c k p r
move (phase.WordRead w at) k p r = word_read w at k p r
move (phase.WordNamed w at x) k p r = paren (phase.CallOpen (Started w at x)) k r
move (phase.AloneRead w at) k p r = paren (phase.AloneOpen w at) k r
move (phase.AloneOpen w at) k p r = paren_end (head.Act w) at k r
move (phase.OneRead w at) k p r = paren_in (frame.One w at) k r
move (phase.TwoRead w at) k p r = paren_in (frame.TwoLeft w at) k r
move (phase.ChanRead at) k p r = bracket (frame.NewChan at) k r
move phase.InItems k p r = in_items k p r
move phase.LetRead k p r = let_read k p r
move (phase.LetNamed x) k p r = let_named x k r
move (phase.Has s) k p r = ends k p s r
move (phase.ThenRead at d) k p r = then_read at d k p r
move (phase.ElseRead at d) k p r = else_read at d k p r
move f k p r = move_typed f k p r

-- how much a phase has open beside its frames
abbrev pub open_at : Phase → ℕ
open_at (phase.ParamsOpen x) = 1
open_at (phase.ParamOwed x ps) = 1
open_at (phase.ParamNamed x ps y) = 1
open_at (phase.Signed m) = 1
open_at (phase.Opened o) = 1
open_at (phase.CallOpen c) = 1
open_at (phase.AloneOpen w at) = 1
open_at (phase.ChanOpen at t) = 1
open_at _ = 0

-- how much is open in all
abbrev pub open_total : Phase → Reader → ℕ
open_total p r = open_at p + open_in r.frames

abbrev pub reached : Phase → Reader → Parser
reached p r = record { reader = r; phase = p }

-- what a token leads to
abbrev pub after_step : Step → Reader → ℕ → Result Parser ParseFault
after_step Refused r at = Err (Unexpected at)
after_step (Goes next) r at = Ok (reached next r)
after_step (Opens next) r at = if nat_lt max_open (open_total next r) then Err (TooNested at) else Ok (reached next r)

abbrev pub advance : Phase → Token → Reader → Result Parser ParseFault
advance p t r = after_step (move p (symbol_of t.kind) (span_of t) r).step (move p (symbol_of t.kind) (span_of t) r).reader t.start
