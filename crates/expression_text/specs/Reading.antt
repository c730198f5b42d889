-- How words are read, as deep as a number allows.
use Rattle.std.specs.Prelude.{ℕ, zero, suc, cond, List, [], ◌∷◌, ◌++◌, Option, Some, None, option_map, option_and_then}
use Rattle.stab_base.specs.Datum.{unit, truth, int, text, chan, reference, pair}
use Rattle.stab_base.specs.Limits.{is_within_limits}
use Rattle.language.specs.declared.head.Head.{Head}
use Rattle.language.specs.declared.head.Head.TheVariants as head
use Rattle.language.specs.Expression.{Expr, value, variable, failed, form, parts_of}
use Rattle.expression_text.specs.declared.word.Word.{Word}
use Rattle.expression_text.specs.declared.word.Word.TheVariants.{Unit, Truth, Int, Text, Chan, Ref, Both, Var, Fault, Block, Let, Do, If, Two, Not, Neg, Pair, Fst, Snd, Call, Spawn, Stable, NewChan, NewRef, Get, Set, Send, Recv, Pick, Stabilize, Cut, Pin, Print, Probe, Attempt, Section}

-- what a word begins: a whole expression, a pair of values, a form of so many parts, a block of so many items, or nothing
pub data Plan : Type 0 where
  leaf : Expr → Plan
  both : Plan
  few : Head → ℕ → Plan
  block : ℕ → Plan
  stray : Plan

abbrev pub plan : Word → Plan
plan Unit = leaf (value unit)
plan (Truth b) = leaf (value (truth b))
plan (Int n) = leaf (value (int n))
plan (Text t) = leaf (value (text t.0))
plan (Chan c) = leaf (value (chan c.0))
plan (Ref r) = leaf (value (reference r.0))
plan Both = both
plan (Var x) = leaf (variable x)
plan (Fault k) = leaf (failed k)
plan (Block n) = block n
plan (Let x) = stray
plan Do = stray
plan If = few head.If 3
plan (Two op) = few (head.Two op) 2
plan Not = few head.Not 1
plan Neg = few head.Neg 1
plan Pair = few head.Pair 2
plan Fst = few head.Fst 1
plan Snd = few head.Snd 1
plan (Call f n) = few (head.Call f) n
plan (Spawn f n) = few (head.Spawn f) n
plan (Stable f n) = few (head.Stable f) n
plan NewChan = few head.NewChan 0
plan NewRef = few head.NewRef 1
plan Get = few head.Get 1
plan Set = few head.Set 2
plan Send = few head.Send 2
plan Recv = few head.Recv 1
plan Pick = few head.Pick 2
plan Stabilize = few head.Stabilize 0
plan Cut = few head.Cut 0
plan Pin = few head.Pin 0
plan (Print) = few head.Print 1
plan Probe = few head.Probe 0
plan Attempt = few head.Attempt 0
plan (Section m) = few (head.Section m) 1

-- what is read, and the words behind it
abbrev pub Read : Type 0 → Type 0
Read A = Option (A × List Word)

abbrev pub pair_of : Expr → Expr → List Word → Read Expr
pair_of (value a) (value b) ws = cond (is_within_limits (pair a b)) (Some (value (pair a b), ws)) None
pair_of a b ws = None

-- what stands before an item
abbrev pub item_of : List Word → Read (Option ℕ)
item_of (Let x ∷ ws) = Some (Some x, ws)
item_of (Do ∷ ws) = Some (None, ws)
item_of ws = None

module _ (one : List Word → Read Expr) where
  -- so many expressions
  abbrev pub read_list : ℕ → List Word → Read (List Expr)
  read_list zero ws = Some ([], ws)
  read_list (suc n) ws = option_and_then (λ p. option_map (λ q. (p.0 ∷ q.0, q.1)) (read_list n p.1)) (one ws)

  -- so many items, each with what it is
  abbrev pub read_items : ℕ → List Word → Read (List (Option ℕ) × List Expr)
  read_items zero ws = Some (([], []), ws)
  read_items (suc n) ws =
      option_and_then (λ o. option_and_then (λ p. option_map (λ q. ((o.0 ∷ q.0.0, p.0 ∷ q.0.1), q.1)) (read_items n p.1)) (one o.1)) (item_of ws)

  abbrev pub read_plan : Plan → List Word → Read Expr
  read_plan (leaf e) ws = Some (e, ws)
  read_plan both ws = option_and_then (λ p. option_and_then (λ q. pair_of p.0 q.0 q.1) (one p.1)) (one ws)
  read_plan (few h n) ws = option_map (λ p. (form h (parts_of p.0), p.1)) (read_list n ws)
  read_plan (block n) ws = option_and_then (λ p. option_map (λ q. (form (head.Block p.0.0) (parts_of (p.0.1 ++ q.0 ∷ [])), q.1)) (one p.1)) (read_items n ws)
  read_plan stray ws = None

-- an expression of at most this depth, and the words behind it
abbrev pub read : ℕ → List Word → Read Expr
read zero ws = None
read (suc d) [] = None
read (suc d) (w ∷ ws) = read_plan (read d) (plan w) ws
