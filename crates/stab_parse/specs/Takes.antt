-- What was read goes into which innermost frames, and what becomes of it.
use Rattle.std.specs.Prelude.{Bool, true, false, Option, Some, None}
use Rattle.stab_parse.specs.declared.frame.Frame.{Frame}
use Rattle.stab_parse.specs.declared.frame.Frame.TheVariants as frame
use Rattle.stab_parse.specs.declared.frame.Left.{Left}
use Rattle.stab_parse.specs.declared.frame.Level.{Level}
use Rattle.stab_parse.specs.declared.frame.Level.TheVariants.{Product, Sum, Relation, And, Or}
use Rattle.stab_parse.specs.Seen.{Seen}
use Rattle.stab_parse.specs.declared.frame.Taker.{Taker}
use Rattle.stab_parse.specs.declared.frame.Taker.TheVariants as taker
use Rattle.stab_parse.specs.declared.reader.Reader.{Reader}
use Rattle.stab_parse.specs.declared.tree.Head.TheVariants as head
use Rattle.stab_parse.specs.Moves.{Settled, settled, seen_at, deeper, alone, formed, joined}

-- an operand goes into a prefix operator and a product
abbrev pub taker_of : Option Frame → Option Taker
taker_of (Some (frame.Not at)) = Some (taker.Not at)
taker_of (Some (frame.Negate at)) = Some (taker.Negate at)
taker_of (Some (frame.Operator Product o left)) = Some (taker.Product (record { op = o; seen = left }))
taker_of _ = None

-- what an operand and that which it goes into make
abbrev pub taken : Taker → Seen → Reader → Settled
taken (taker.Not at) s r = settled (seen_at at (deeper (alone s.depth))) (formed head.Not 1 at (alone s.depth) r)
taken (taker.Negate at) s r = settled (seen_at at (deeper (alone s.depth))) (formed head.Neg 1 at (alone s.depth) r)
taken (taker.Product l) s r = joined l.op l.seen s r

-- an operator of a level, with what stands left of it
abbrev pub left_side : Level → Option Frame → Option Left
left_side Sum (Some (frame.Operator Sum o left)) = Some (record { op = o; seen = left })
left_side Relation (Some (frame.Operator Relation o left)) = Some (record { op = o; seen = left })
left_side And (Some (frame.Operator And o left)) = Some (record { op = o; seen = left })
left_side Or (Some (frame.Operator Or o left)) = Some (record { op = o; seen = left })
left_side _ _ = None

-- what stands right of an operator goes into one of the same level
abbrev pub takes_right : Level → Option Frame → Bool
takes_right Sum (Some (frame.Operator Sum o left)) = true
takes_right Relation (Some (frame.Operator Relation o left)) = true
takes_right And (Some (frame.Operator And o left)) = true
takes_right Or (Some (frame.Operator Or o left)) = true
takes_right _ _ = false

-- what stands left of an operator waits for what stands right of it
abbrev pub is_operator : Option Frame → Bool
is_operator (Some (frame.Operator l o left)) = true
is_operator _ = false

-- an if goes into one before an else
abbrev pub takes_if : Option Frame → Bool
takes_if (Some (frame.ElseIf i e)) = true
takes_if _ = false
