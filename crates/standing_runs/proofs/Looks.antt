-- What a thread's expression becomes may be a thread's again.
use Rattle.std.proofs.Common.{◌≡◌, ℕ, ◌+◌, ◌≤◌, true, false, List, [], ◌∷◌, length, Option, Some, None, IsSomeAnd, IfSome, nat_le, nat_lt, refl, ap, if◌then◌else◌, arith}
use Rattle.std.specs.List.{AllByRecursion}
use Rattle.std.proofs.lemmas.Bool.{and_parts}
use Rattle.std.proofs.lemmas.Bool.Decides.{nat_tests}
use Rattle.stab_base.specs.Datum.{Datum, depth_of, leaves_of, pair}
use Rattle.stab_base.specs.Limits.{max_depth, max_leaves}
use Rattle.stab_base.specs.declared.fault.Fault.TheVariants.{TooDeep}
use Rattle.stab_code.specs.Program.{ProgramParts}
use Rattle.stab_code.specs.Valid.{IsValid}
use Rattle.language.specs.declared.head.Head.TheVariants.{Section}
use Rattle.language.specs.Depth.{depth, depth_of_parts}
use Rattle.language.specs.Expression.{Expr, value, variable, failed, form, Parts, none, part}
use Rattle.language.specs.Look.{answered, entered, look, look_at, look_by}
use Rattle.language.specs.Outcome.{Outcome, becomes, fails, acts, outcome}
use Rattle.language.specs.Program.{body}
use Rattle.language.specs.Redex.{Frame, after_values, cap, frames, frames_of, max_spine, rebuild, redex, Redex, spine, within}
use Rattle.language.specs.Table.{Look, done, fault, act, pure}
use Rattle.standing_runs.specs.Numbers.{NumbersFit}
use Rattle.standing_runs.specs.Standing.{IsBounded, IsThread}
use Rattle.expression_text.specs.Spelling.{items_of}
use Rattle.standing_runs.specs.Whole.{bound_by, IsValue, IsWhole, AreWhole}
use Rattle.standing_runs.proofs.Bodies.{body_new}
use Rattle.standing_runs.proofs.Heights.{back_expr, deep_within, high_within, IsLow, IsLowRedex, low_within}
use Rattle.standing_runs.proofs.Outcomes.{IsNew, IsNewAct, IsOutcome, outcome_new}
use Rattle.standing_runs.proofs.Putting.{height, heights}
use Rattle.standing_runs.proofs.Redexes.{are_frames, IsRound, IsSplit, rounds, split_form, within_whole}

not_above : (m n : ℕ) → nat_lt m n ≡ false → n ≤ m
not_above m n is = grind (arith, nat_tests)

up_to : (m n : ℕ) → nat_le m n ≡ true → m ≤ n
up_to m n is = grind (arith, nat_tests)

module _ (p : ProgramParts) where
  -- whole, and low beside the way to its redex
  pub record IsGood (e : Expr) : Type 0 where
    pub whole : IsWhole p [] e
    pub low : IfSome (redex e) IsLowRedex

  pub record IsFine (e : Expr) : Type 0 where
    pub good : IsGood e
    pub few : spine e ≤ max_spine

  -- a thread may stand at it
  abbrev pub MayStand : Expr → Type 0
  MayStand (failed k) = Unit {0}
  MayStand e = IsFine e

  lows_by : (o : Option Redex) → IfSome o IsLowRedex → AllByRecursion IsLow (frames_of o)
  lows_by None h = tt
  lows_by (Some r) h = h.round

  lows : (e : Expr) → IsGood e → AllByRecursion IsLow (frames e)
  lows e g = lows_by (redex e) g.low

  fine_stands : (e : Expr) → IsGood e → spine e ≤ max_spine → MayStand e
  fine_stands (value v) g few = record { good = g; few = few }
  fine_stands (variable x) g few = record { good = g; few = few }
  fine_stands (failed k) g few = tt
  fine_stands (form h ps) g few = record { good = g; few = few }

  -- with a fault in place of one with too many forms round its redex
  capped : (e : Expr) → IsGood e → MayStand (cap e)
  capped e g =
      elim (nat_lt max_spine (spine e)) as (λ b. nat_lt max_spine (spine e) ≡ b → MayStand (if b then failed TooDeep else e)) [
        | true ↦ λ is. tt
        | false ↦ λ is. fine_stands e g (not_above max_spine (spine e) is)
      ] refl

  within_good : (fs : List Frame) (x : Expr) → AllByRecursion (IsRound p) fs → AllByRecursion IsLow fs → IsNew p x → IsGood (within fs x)
  within_good fs x all low new = record { whole = within_whole p fs x all new.whole; low = low_within p fs x (are_frames p fs all) low new.whole new.low }

  abbrev section_at : ℕ → Frame
  section_at q = record { head = Section (record { 0 = q }); left = []; right = none }

  section_round : (q : ℕ) → IsRound p (section_at q)
  section_round q = record { plugs = λ x w. (record { parts = refl; few = omega arith; head = tt }, (w, tt)); frame = λ alone. refl }

  -- the forms round the redex of what a thread stands at, none where it failed
  round_of : (e : Expr) → MayStand e → AllByRecursion (IsRound p) (frames e) × AllByRecursion IsLow (frames e)
  round_of (value v) m = (tt, tt)
  round_of (variable x) m = (tt, tt)
  round_of (failed k) m = (tt, tt)
  round_of (form h ps) m = (rounds p (form h ps) m.good.whole, lows (form h ps) m.good)

  pub answered_stands : (e : Expr) (v : Datum) → MayStand e → IsValue p v → MayStand (answered e v)
  answered_stands e v m h =
      let round = round_of e m in
      capped (rebuild e (value v)) (within_good (frames e) (value v) round.0 round.1 (record { whole = h; low = omega arith }))

  pub entered_stands : (e : Expr) (q : ℕ) (b : Expr) → MayStand e → IsNew p b → MayStand (entered e q b)
  entered_stands e q b m new =
      let round = round_of e m in
      capped (rebuild e (form (Section (record { 0 = q })) (part b none))) (within_good (section_at q ∷ frames e) b (section_round q, round.0) (omega arith, round.1) new)

  -- a body stands alone
  pub new_stands : (e : Expr) → IsNew p e → MayStand e
  new_stands e new = fine_stands e (within_good [] e tt tt new) (spine_low (redex e) refl)
    where
      spine_low : (o : Option Redex) → redex e ≡ o → length (frames_of o) ≤ max_spine
      spine_low None is = omega arith
      spine_low (Some r) is = omega (arith, high_within r.round (form r.head (after_values r.values r.waiting)), ap height (back_expr e [] r is), new.low)

  abbrev pub IsLook : Look Expr → Type 0
  IsLook (done v) = Unit {0}
  IsLook (fault k) = Unit {0}
  IsLook (act a) = IsNewAct p a
  IsLook (pure e) = MayStand e

  module _ (valid : IsValid p) (fit : NumbersFit p) where
    look_stands : (round : List Frame) (o : Outcome) → AllByRecursion (IsRound p) round → AllByRecursion IsLow round → IsOutcome p o → IsLook (look_by round o)
    look_stands round (becomes e) all low new = capped (within round e) (within_good round e all low new)
    look_stands round (fails k) all low new = tt
    look_stands round (acts a) all low new = new

    redex_stands : (o : Option Redex) → IsSomeAnd o (IsSplit p) → IfSome o IsLowRedex → IsLook (look_at (body p) o)
    redex_stands None split low = absurd split
    redex_stands (Some r) split low =
        look_stands r.round (outcome (body p) r.head r.values r.waiting) split.round low.round
        (outcome_new p (body_new p valid fit) r.head r.values r.waiting split.whole.0 split.values split.whole.1 split.strict low.waiting)

    pub look_is : (e : Expr) → MayStand e → IsLook (look (body p) e)
    look_is (value v) m = tt
    look_is (failed k) m = tt
    look_is (variable x) m = tt
    look_is (form h ps) m = redex_stands (redex (form h ps)) (split_form p h ps [] tt m.good.whole) m.good.low

  -- how deep it is
  pub within_depth : (v : Datum) → IsValue p v → depth_of v ≤ 64
  within_depth (pair a b) h = up_to (depth_of (pair a b)) max_depth (and_parts (nat_le (depth_of (pair a b)) max_depth) (nat_le (leaves_of (pair a b)) max_leaves) h.0).0
  within_depth v h = omega arith

  mutual
    depth_height : (bound : List ℕ) (e : Expr) → IsWhole p bound e → depth e ≤ height e + 64
    depth_height bound (value v) w = omega (arith, within_depth v w)
    depth_height bound (variable x) w = omega arith
    depth_height bound (failed k) w = omega arith
    depth_height bound (form h ps) w = omega (arith, depth_heights bound (items_of h) ps w.1)

    depth_heights : (bound : List ℕ) (items : List (Option ℕ)) (ps : Parts) → AreWhole p bound items ps → depth_of_parts ps ≤ heights ps + 64
    depth_heights bound items none w = omega arith
    depth_heights bound [] (part e ps) w = omega (arith, depth_height bound e w.0, depth_heights bound [] ps w.1)
    depth_heights bound (o ∷ items) (part e ps) w = omega (arith, depth_height bound e w.0, depth_heights (bound_by bound o) items ps w.1)

  height_split : (e : Expr) (o : Option Redex) → redex e ≡ o → IsSomeAnd o (IsSplit p) → IfSome o IsLowRedex → length (frames_of o) ≤ max_spine → height e ≤ 1200
  height_split e None is split low few = absurd split
  height_split e (Some r) is split low few =
      omega (arith, ap height (back_expr e [] r is), deep_within r.round (form r.head (after_values r.values r.waiting)) 0 low.round (split_height r split low))
    where
      left_height : (left : List Datum) (ps : Parts) → heights ps ≤ 199 → heights (after_values left ps) ≤ 199
      left_height [] ps low = low
      left_height (v ∷ left) ps low = omega (arith, left_height left ps low)

      split_height : (r : Redex) → IsSplit p r → IsLowRedex r → height (form r.head (after_values r.values r.waiting)) ≤ 200 + 0
      split_height r split low = omega (arith, left_height r.values r.waiting low.waiting)

  good_height : (e : Expr) → IsFine e → height e ≤ 1200
  good_height (value v) f = omega arith
  good_height (variable x) f = omega arith
  good_height (failed k) f = omega arith
  good_height (form h ps) f = height_split (form h ps) (redex (form h ps)) refl (split_form p h ps [] tt f.good.whole) f.good.low f.few

  bounded : (e : Expr) → IsFine e → IsBounded p e
  bounded e f = record { whole = f.good.whole; round = f.few; flat = omega (arith, depth_height [] e f.good.whole, good_height e f) }

  pub stands_thread : (e : Expr) → MayStand e → IsThread p e
  stands_thread (value v) m = bounded (value v) m
  stands_thread (variable x) m = bounded (variable x) m
  stands_thread (failed k) m = tt
  stands_thread (form h ps) m = bounded (form h ps) m
