-- Settling one operator after another.
use Rattle.std.proofs.Common.{◌≡◌, List, [], ◌∷◌, Option, Some, None, false, refl, ap, sym, ◌∙◌}
use Rattle.stab_parse.specs.declared.frame.Frame.{Frame}
use Rattle.stab_parse.specs.declared.frame.Frame.TheVariants as frame
use Rattle.stab_parse.specs.declared.frame.Left.{Left}
use Rattle.stab_parse.specs.declared.frame.Level.{Level}
use Rattle.stab_parse.specs.declared.frame.Level.TheVariants as level
use Rattle.stab_parse.specs.Seen.{Seen}
use Rattle.stab_parse.specs.declared.frame.Taker.{Taker}
use Rattle.stab_parse.specs.declared.reader.Reader.{Reader}
use Rattle.stab_parse.specs.Frames.{top_of, below_top}
use Rattle.stab_parse.specs.Moves.{Settled, settled, SettleStep, settle_step, settle_top, popped, whole_expr, join_top, joined}
use Rattle.stab_parse.specs.Takes.{is_operator, taker_of, taken, left_side}

-- an expression that no operator stands before
whole_alone : (fs : List Frame) (s : Seen) (r : Reader) → is_operator (top_of fs) ≡ false → settled s (record r { frames = fs }) ≡ whole_expr s (record r { frames = fs })
whole_alone [] s r h = refl
whole_alone (frame.Operator l o left ∷ fs) s r h = absurd cc
whole_alone (f ∷ fs) s r h = refl

pub stands_alone : (s : Seen) (r : Reader) → is_operator (top_of r.frames) ≡ false → settled s r ≡ whole_expr s r
stands_alone s r h = whole_alone r.frames s r h

-- an operand that goes into what takes it, where there is one
abbrev after_taker : Option Taker → Seen → Reader → SettleStep
after_taker (Some t) s r = settle_step (Some (taken t s (popped r)).seen) (taken t s (popped r)).reader
after_taker None s r = settle_step None r

taker_settles : (fs : List Frame) (s : Seen) (r : Reader) → after_taker (taker_of (top_of fs)) s (record r { frames = fs }) ≡ settle_top (top_of fs) s (record r { frames = below_top fs })
taker_settles [] s r = refl
taker_settles (frame.Operator level.Product o l ∷ fs) s r = refl
taker_settles (frame.Operator level.Sum o l ∷ fs) s r = refl
taker_settles (frame.Operator level.Relation o l ∷ fs) s r = refl
taker_settles (frame.Operator level.And o l ∷ fs) s r = refl
taker_settles (frame.Operator level.Or o l ∷ fs) s r = refl
taker_settles (f ∷ fs) s r = refl

pub takes : (t : Taker) (s whole : Seen) (r after : Reader) → taker_of (top_of r.frames) ≡ Some t → settled whole after ≡ taken t s (popped r)
    → settle_step (Some whole) after ≡ settle_top (top_of r.frames) s (popped r)
takes t s whole r after e h =
    ap (λ x. settle_step (Some x.seen) x.reader) h ∙ ap (λ x. after_taker x s r) (sym e) ∙ taker_settles r.frames s r

pub takes_none : (s : Seen) (r : Reader) → taker_of (top_of r.frames) ≡ None → settle_step None r ≡ settle_top (top_of r.frames) s (popped r)
takes_none s r e = ap (λ x. after_taker x s r) (sym e) ∙ taker_settles r.frames s r

-- a form that goes into the operator left of it, where there is one
abbrev after_left : Option Left → Seen → Reader → Settled
after_left (Some l) s r = joined l.op l.seen s (popped r)
after_left None s r = settled s r

left_joins : (l : Level) (fs : List Frame) (s : Seen) (r : Reader) → after_left (left_side l (top_of fs)) s (record r { frames = fs }) ≡ join_top l (top_of fs) s (record r { frames = below_top fs })
left_joins level.Product [] s r = refl
left_joins level.Product (frame.Operator level.Product o x ∷ fs) s r = refl
left_joins level.Product (frame.Operator level.Sum o x ∷ fs) s r = refl
left_joins level.Product (frame.Operator level.Relation o x ∷ fs) s r = refl
left_joins level.Product (frame.Operator level.And o x ∷ fs) s r = refl
left_joins level.Product (frame.Operator level.Or o x ∷ fs) s r = refl
left_joins level.Product (f ∷ fs) s r = refl
left_joins level.Sum [] s r = refl
left_joins level.Sum (frame.Operator level.Product o x ∷ fs) s r = refl
left_joins level.Sum (frame.Operator level.Sum o x ∷ fs) s r = refl
left_joins level.Sum (frame.Operator level.Relation o x ∷ fs) s r = refl
left_joins level.Sum (frame.Operator level.And o x ∷ fs) s r = refl
left_joins level.Sum (frame.Operator level.Or o x ∷ fs) s r = refl
left_joins level.Sum (f ∷ fs) s r = refl
left_joins level.Relation [] s r = refl
left_joins level.Relation (frame.Operator level.Product o x ∷ fs) s r = refl
left_joins level.Relation (frame.Operator level.Sum o x ∷ fs) s r = refl
left_joins level.Relation (frame.Operator level.Relation o x ∷ fs) s r = refl
left_joins level.Relation (frame.Operator level.And o x ∷ fs) s r = refl
left_joins level.Relation (frame.Operator level.Or o x ∷ fs) s r = refl
left_joins level.Relation (f ∷ fs) s r = refl
left_joins level.And [] s r = refl
left_joins level.And (frame.Operator level.Product o x ∷ fs) s r = refl
left_joins level.And (frame.Operator level.Sum o x ∷ fs) s r = refl
left_joins level.And (frame.Operator level.Relation o x ∷ fs) s r = refl
left_joins level.And (frame.Operator level.And o x ∷ fs) s r = refl
left_joins level.And (frame.Operator level.Or o x ∷ fs) s r = refl
left_joins level.And (f ∷ fs) s r = refl
left_joins level.Or [] s r = refl
left_joins level.Or (frame.Operator level.Product o x ∷ fs) s r = refl
left_joins level.Or (frame.Operator level.Sum o x ∷ fs) s r = refl
left_joins level.Or (frame.Operator level.Relation o x ∷ fs) s r = refl
left_joins level.Or (frame.Operator level.And o x ∷ fs) s r = refl
left_joins level.Or (frame.Operator level.Or o x ∷ fs) s r = refl
left_joins level.Or (f ∷ fs) s r = refl

pub joins : (l : Level) (x : Left) (s whole : Seen) (r after : Reader) → left_side l (top_of r.frames) ≡ Some x → settled whole after ≡ joined x.op x.seen s (popped r)
    → settled whole after ≡ join_top l (top_of r.frames) s (popped r)
joins l x s whole r after e h = h ∙ ap (λ y. after_left y s r) (sym e) ∙ left_joins l r.frames s r

pub joins_none : (l : Level) (s : Seen) (r : Reader) → left_side l (top_of r.frames) ≡ None → settled s r ≡ join_top l (top_of r.frames) s (popped r)
joins_none l s r e = ap (λ y. after_left y s r) (sym e) ∙ left_joins l r.frames s r
