-- No step of the plain language brings a channel, a reference or a section from nowhere.
use Rattle.std.proofs.Common.{◌≡◌, ℕ, zero, suc, Bool, true, false, if◌then◌else◌, nat_eq, List, [], ◌∷◌, ◌++◌, Option, Some, None, refl, subst}
use Rattle.std.specs.Prelude.{ℤ, pos, ◌+ℤ◌, ◌-ℤ◌, ◌*ℤ◌, int_div, int_rem, nat_lt, slice_get, IfSome}
use Rattle.std.specs.List.{AllByRecursion}
use Rattle.std.specs.Ordering.{int_eq}
use Rattle.stab_base.specs.Datum.{Datum, truth, int, chan, reference, pair}
use Rattle.stab_base.specs.declared.fault.Fault.TheVariants.{TooDeep}
use Rattle.stab_code.specs.declared.head.Head as code
use Rattle.stab_code.specs.declared.head.Head.TheVariants as code_head
use Rattle.stab_code.specs.Trees.{Tree, Trees, tree, none as no_trees, more as more_trees}
use Rattle.stab_code.specs.Program.{ProgramParts, FunctionParts, body_of}
use Rattle.language.specs.declared.head.Head.{Head}
use Rattle.language.specs.declared.head.Head.TheVariants.{Section}
use Rattle.language.specs.Expression.{Expr, value, variable, failed, form, Parts, none, part, put_variable, put, put_parts, only}
use Rattle.language.specs.Redex.{first_counts_alone, Frame, after_values, within, Redex, redex_of, redex_in, redex, frames_of, frames, rebuild, spine, max_spine, cap}
use Rattle.language.specs.Program.{form_of, expr_of, exprs_of, body_by, body}
use Rattle.language.specs.Numbers.{fits_word}
use Rattle.language.specs.declared.head.Head.TheVariants.{Block, If, Two, Not, Neg, Pair, Fst, Snd, Call, Spawn, Stable, NewChan, NewRef, Get, Set, Send, Recv, Pick, Stabilize, Cut, Pin, Print, Probe, Attempt}
use Rattle.stab_code.specs.declared.head.Op.{Op}
use Rattle.stab_code.specs.declared.head.Op.TheVariants.{Or, And, Eq, Ne, Lt, Le, Gt, Ge, Add, Sub, Mul, Div, Rem}
use Rattle.stab_base.specs.Limits.{is_within_limits}
use Rattle.language.specs.Outcome.{Outcome, becomes, fails, acts, with_one, with_two, with_truth, with_number, with_chan, with_reference, with_pair, with_numbers, number, divided, by_operator, waiting_one, two_of, block_of, after_item, branch_of, pair_of, called, outcome}
use Rattle.language.specs.Plain.{language_of}
use Rattle.language.specs.Look.{look_by, look_at, look}
use Rattle.journal_laws.specs.Known.{IsActIn, IsLookIn, Known, IsMore, without_sections, AreNumbersKept, IsIn, IsHeadIn, IsExprIn, ArePartsIn}
use Rattle.journal_laws.proofs.Closed.{more_in}
use Rattle.journal_laws.proofs.Surviving.{some_is}

-- more is known
more_head : (j k : Known) → IsMore j k → (h : Head) → IsHeadIn j h → IsHeadIn k h
more_head j k m (Section q) i = m.sections q.0 i
more_head j k m _ i = tt

mutual
  pub more_expr : (j k : Known) → IsMore j k → (e : Expr) → IsExprIn j e → IsExprIn k e
  more_expr j k m (value v) i = more_in j k m.channels m.references v i
  more_expr j k m (variable x) i = tt
  more_expr j k m (failed f) i = tt
  more_expr j k m (form h ps) i = (more_head j k m h i.0, more_parts j k m ps i.1)

  more_parts : (j k : Known) → IsMore j k → (ps : Parts) → ArePartsIn j ps → ArePartsIn k ps
  more_parts j k m none i = tt
  more_parts j k m (part e ps) i = (more_expr j k m e i.0, more_parts j k m ps i.1)

module _ (k : Known) where
  some_value : (o : Option Datum) (x : ℕ) → ((v : Datum) → o ≡ Some v → IsIn k v) → IsExprIn k (put_variable o x)
  some_value None x f = tt
  some_value (Some v) x f = f v refl

  module _ (vs : ℕ → Option Datum) (values : (x : ℕ) (v : Datum) → vs x ≡ Some v → IsIn k v) where
    mutual
      pub put_in : (e : Expr) → IsExprIn k e → IsExprIn k (put vs e)
      put_in (value v) i = i
      put_in (variable x) i = some_value (vs x) x (values x)
      put_in (failed f) i = tt
      put_in (form h ps) i = (i.0, put_parts_in ps i.1)

      pub put_parts_in : (ps : Parts) → ArePartsIn k ps → ArePartsIn k (put_parts vs ps)
      put_parts_in none i = tt
      put_parts_in (part e ps) i = (put_in e i.0, put_parts_in ps i.1)

  only_in : (x : ℕ) (v : Datum) → IsIn k v → (y : ℕ) (w : Datum) → only x v y ≡ Some w → IsIn k w
  only_in x v i y w is =
      elim (nat_eq x y) as (λ b. (if b then Some v else None) ≡ Some w → IsIn k w) [
        | true ↦ λ is. subst (IsIn k) (some_is is) i
        | false ↦ λ is. absurd (cc)
      ] is

  pub got_in : (vs : List Datum) → AllByRecursion (IsIn k) vs → (x : ℕ) (v : Datum) → slice_get vs x ≡ Some v → IsIn k v
  got_in [] i x v is = absurd (cc)
  got_in (w ∷ vs) i zero v is = subst (IsIn k) (some_is is) i.0
  got_in (w ∷ vs) i (suc x) v is = got_in vs i.1 x v is

  after_values_in : (vs : List Datum) (ps : Parts) → AllByRecursion (IsIn k) vs → ArePartsIn k ps → ArePartsIn k (after_values vs ps)
  after_values_in [] ps i j = j
  after_values_in (v ∷ vs) ps i j = (i.0, after_values_in vs ps i.1 j)

  record IsFrameIn (f : Frame) : Type 0 where
    head : IsHeadIn k f.head
    left : AllByRecursion (IsIn k) f.left
    right : ArePartsIn k f.right

  record IsRedexIn (r : Redex) : Type 0 where
    round : AllByRecursion IsFrameIn r.round
    head : IsHeadIn k r.head
    values : AllByRecursion (IsIn k) r.values
    waiting : ArePartsIn k r.waiting

  within_in : (fs : List Frame) (e : Expr) → AllByRecursion IsFrameIn fs → IsExprIn k e → IsExprIn k (within fs e)
  within_in [] e fi i = i
  within_in (f ∷ fs) e fi i = within_in fs _ fi.1 (fi.0.head, after_values_in f.left _ fi.0.left (i, fi.0.right))

  all_and : (vs : List Datum) (v : Datum) → AllByRecursion (IsIn k) vs → IsIn k v → AllByRecursion (IsIn k) (vs ++ v ∷ [])
  all_and [] v i j = (j, tt)
  all_and (w ∷ vs) v i j = (i.0, all_and vs v i.1 j)

  mutual
    redex_of_in : (e : Expr) (round : List Frame) → AllByRecursion IsFrameIn round → IsExprIn k e → IfSome (redex_of e round) IsRedexIn
    redex_of_in (value v) round fi i = tt
    redex_of_in (variable x) round fi i = tt
    redex_of_in (failed f) round fi i = tt
    redex_of_in (form h ps) round fi i = redex_in_in ps h [] round fi i.0 tt i.1

    redex_in_in : (ps : Parts) (h : Head) (left : List Datum) (round : List Frame) → AllByRecursion IsFrameIn round → IsHeadIn k h → AllByRecursion (IsIn k) left → ArePartsIn k ps → IfSome (redex_in ps h left round) IsRedexIn
    redex_in_in none h left round fi hi li i = record { round = fi; head = hi; values = li; waiting = tt }
    redex_in_in (part (value v) ps) h left round fi hi li i =
        elim (first_counts_alone h) as (λ b. IfSome (if b then Some (record { round = round; head = h; values = v ∷ []; waiting = ps }) else redex_in ps h (left ++ v ∷ []) round) IsRedexIn) [
          | true ↦ record { round = fi; head = hi; values = (i.0, tt); waiting = i.1 }
          | false ↦ redex_in_in ps h (left ++ v ∷ []) round fi hi (all_and left v li i.0) i.1
        ]
    redex_in_in (part (variable x) ps) h left round fi hi li i = tt
    redex_in_in (part (failed f) ps) h left round fi hi li i = tt
    redex_in_in (part (form g qs) ps) h left round fi hi li i = redex_of_in (form g qs) (record { head = h; left = left; right = ps } ∷ round) (record { head = hi; left = li; right = i.1 }, fi) i.0

  frames_of_in : (o : Option Redex) → IfSome o IsRedexIn → AllByRecursion IsFrameIn (frames_of o)
  frames_of_in None i = tt
  frames_of_in (Some r) i = i.round

  cap_in : (e : Expr) → IsExprIn k e → IsExprIn k (cap e)
  cap_in e i = elim (nat_lt max_spine (spine e)) as (λ b. IsExprIn k (if b then failed TooDeep else e)) [ true ↦ tt | false ↦ i ]

  rebuild_in : (e r : Expr) → IsExprIn k e → IsExprIn k r → IsExprIn k (cap (rebuild e r))
  rebuild_in e r i j = cap_in (rebuild e r) (within_in (frames e) r (frames_of_in (redex e) (redex_of_in e [] tt i)) j)

-- a program's text has no channel, no reference and no section
form_in : (k : Known) (h : code.Head) (ps : Parts) → ArePartsIn k ps → IsExprIn k (form_of h ps)
form_in k code_head.Unit ps i = tt
form_in k (code_head.Truth b) ps i = tt
form_in k (code_head.Int n) ps i = tt
form_in k (code_head.Text t) ps i = tt
form_in k (code_head.Var x) ps i = tt
form_in k _ ps i = (tt, i)

mutual
  text_in : (k : Known) (t : Tree) → IsExprIn k (expr_of t)
  text_in k (tree h ts) = form_in k h (exprs_of ts) (texts_in k ts)

  texts_in : (k : Known) (ts : Trees) → ArePartsIn k (exprs_of ts)
  texts_in k no_trees = tt
  texts_in k (more_trees t ts) = (text_in k t, texts_in k ts)

body_by_in : (k : Known) (p : ProgramParts) (o : Option FunctionParts) → IsExprIn k (body_by p o)
body_by_in k p None = tt
body_by_in k p (Some f) = text_in k (body_of p f)

pub body_in : (k : Known) (p : ProgramParts) (f : ℕ) → IsExprIn k (body p f)
body_in k p f = body_by_in k p (slice_get p.functions f)

-- what an outcome brings is known
abbrev IsOutcomeIn : Known → Outcome → Type 0
IsOutcomeIn k (becomes e) = IsExprIn k e
IsOutcomeIn k (fails f) = Unit {0}
IsOutcomeIn k (acts a) = IsActIn IsExprIn k a

module _ (k : Known) where
  one : (vs : List Datum) (f : Datum → Outcome) → AllByRecursion (IsIn k) vs → ((v : Datum) → IsIn k v → IsOutcomeIn k (f v)) → IsOutcomeIn k (with_one vs f)
  one [] f i h = tt
  one (v ∷ []) f i h = h v i.0
  one (v ∷ w ∷ vs) f i h = tt

  two : (vs : List Datum) (f : Datum → Datum → Outcome) → AllByRecursion (IsIn k) vs → ((v w : Datum) → IsIn k v → IsIn k w → IsOutcomeIn k (f v w)) → IsOutcomeIn k (with_two vs f)
  two [] f i h = tt
  two (v ∷ []) f i h = tt
  two (v ∷ w ∷ []) f i h = h v w i.0 i.1.0
  two (v ∷ w ∷ u ∷ vs) f i h = tt

  of_truth : (v : Datum) (f : Bool → Outcome) → ((b : Bool) → IsOutcomeIn k (f b)) → IsOutcomeIn k (with_truth v f)
  of_truth (truth b) f h = h b
  of_truth _ f h = tt

  of_number : (v : Datum) (f : ℤ → Outcome) → ((n : ℤ) → IsOutcomeIn k (f n)) → IsOutcomeIn k (with_number v f)
  of_number (int n) f h = h n
  of_number _ f h = tt

  of_chan : (v : Datum) (f : ℕ → Outcome) → IsIn k v → ((c : ℕ) → k.channels c ≡ true → IsOutcomeIn k (f c)) → IsOutcomeIn k (with_chan v f)
  of_chan (chan c) f i h = h c i
  of_chan _ f i h = tt

  of_reference : (v : Datum) (f : ℕ → Outcome) → IsIn k v → ((r : ℕ) → k.references r ≡ true → IsOutcomeIn k (f r)) → IsOutcomeIn k (with_reference v f)
  of_reference (reference r) f i h = h r i
  of_reference _ f i h = tt

  of_pair : (v : Datum) (f : Datum → Datum → Outcome) → IsIn k v → ((a b : Datum) → IsIn k a → IsIn k b → IsOutcomeIn k (f a b)) → IsOutcomeIn k (with_pair v f)
  of_pair (pair a b) f i h = h a b i.0 i.1
  of_pair _ f i h = tt

  of_if : (b : Bool) (x y : Outcome) → IsOutcomeIn k x → IsOutcomeIn k y → IsOutcomeIn k (if b then x else y)
  of_if true x y h i = h
  of_if false x y h i = i

  number_in : (n : ℤ) → IsOutcomeIn k (number n)
  number_in n = of_if (fits_word n) _ _ tt tt

  divided_in : (m n r : ℤ) → IsOutcomeIn k (divided m n r)
  divided_in m n r = of_if (int_eq n (pos 0)) _ _ tt (of_if (fits_word (int_div m n)) _ _ tt tt)

  numbers_in : (v w : Datum) (f : ℤ → ℤ → Outcome) → ((m n : ℤ) → IsOutcomeIn k (f m n)) → IsOutcomeIn k (with_numbers v w f)
  numbers_in v w f h = of_number v _ (λ m. of_number w _ (λ n. h m n))

  operator_in : (op : Op) (v w : Datum) → IsOutcomeIn k (by_operator op v w)
  operator_in Eq v w = tt
  operator_in Ne v w = tt
  operator_in Lt v w = numbers_in v w _ (λ m n. tt)
  operator_in Le v w = numbers_in v w _ (λ m n. tt)
  operator_in Gt v w = numbers_in v w _ (λ m n. tt)
  operator_in Ge v w = numbers_in v w _ (λ m n. tt)
  operator_in Add v w = numbers_in v w _ (λ m n. number_in (m +ℤ n))
  operator_in Sub v w = numbers_in v w _ (λ m n. number_in (m -ℤ n))
  operator_in Mul v w = numbers_in v w _ (λ m n. number_in (m *ℤ n))
  operator_in Div v w = numbers_in v w _ (λ m n. divided_in m n (int_div m n))
  operator_in Rem v w = numbers_in v w _ (λ m n. divided_in m n (int_rem m n))
  operator_in Or v w = tt
  operator_in And v w = tt

  waiting_in : (ps : Parts) → ArePartsIn k ps → IsOutcomeIn k (waiting_one ps)
  waiting_in none i = tt
  waiting_in (part e none) i = i.0
  waiting_in (part e (part f ps)) i = tt

  two_in : (op : Op) (vs : List Datum) (ps : Parts) → AllByRecursion (IsIn k) vs → ArePartsIn k ps → IsOutcomeIn k (two_of op vs ps)
  two_in And vs ps i j = one vs _ i (λ v l. of_truth v _ (λ b. of_if b _ _ (waiting_in ps j) tt))
  two_in Or vs ps i j = one vs _ i (λ v l. of_truth v _ (λ b. of_if b _ _ tt (waiting_in ps j)))
  two_in op vs ps i j = two vs _ i (λ v w l m. operator_in op v w)

  block_in : (slots : List (Option ℕ)) (ps : Parts) → ArePartsIn k ps → IsOutcomeIn k (block_of slots ps)
  block_in [] none i = (tt, i)
  block_in [] (part e none) i = i.0
  block_in [] (part e (part f ps)) i = (tt, i)
  block_in (s ∷ slots) ps i = (tt, i)

  item_in : (slots : List (Option ℕ)) (v : Datum) (ps : Parts) → IsIn k v → ArePartsIn k ps → IsOutcomeIn k (after_item slots v ps)
  item_in [] v ps i j = tt
  item_in (None ∷ slots) v ps i j = block_in slots ps j
  item_in (Some x ∷ slots) v ps i j = block_in slots _ (put_parts_in k (only x v) (only_in k x v i) ps j)

  branch_in : (b : Bool) (ps : Parts) → ArePartsIn k ps → IsOutcomeIn k (branch_of b ps)
  branch_in b none i = tt
  branch_in b (part x none) i = tt
  branch_in true (part x (part y none)) i = i.0
  branch_in false (part x (part y none)) i = i.1.0
  branch_in b (part x (part y (part z ps))) i = tt

  pair_in : (v w : Datum) → IsIn k v → IsIn k w → IsOutcomeIn k (pair_of v w)
  pair_in v w i j = of_if (is_within_limits (pair v w)) _ _ (i, j) tt

  values_in : (vs : List Datum) → AllByRecursion (IsIn k) vs → AllByRecursion (IsIn (without_sections k)) vs
  values_in [] i = tt
  values_in (v ∷ vs) i = (more_in k (without_sections k) (λ c h. h) (λ r h. h) v i.0, values_in vs i.1)

  module _ (p : ProgramParts) where
    called_in : (l : Known) (f : ℕ) (vs : List Datum) → AllByRecursion (IsIn l) vs → IsExprIn l (called (body p) f vs)
    called_in l f vs i = put_in l (slice_get vs) (got_in l vs i) (body p f) (body_in l p f)

    outcome_in : (h : Head) (vs : List Datum) (ps : Parts) → AllByRecursion (IsIn k) vs → ArePartsIn k ps → IsOutcomeIn k (outcome (body p) h vs ps)
    outcome_in (Block slots) vs ps i j = one vs _ i (λ v l. item_in slots v ps l j)
    outcome_in If vs ps i j = one vs _ i (λ v l. of_truth v _ (λ b. branch_in b ps j))
    outcome_in (Two op) vs ps i j = two_in op vs ps i j
    outcome_in Not vs ps i j = one vs _ i (λ v l. of_truth v _ (λ b. tt))
    outcome_in Neg vs ps i j = one vs _ i (λ v l. of_number v _ (λ n. number_in (pos 0 -ℤ n)))
    outcome_in Pair vs ps i j = two vs _ i pair_in
    outcome_in Fst vs ps i j = one vs _ i (λ v l. of_pair v _ l (λ a b m n. m))
    outcome_in Snd vs ps i j = one vs _ i (λ v l. of_pair v _ l (λ a b m n. n))
    outcome_in (Call f) vs ps i j = called_in k f.0 vs i
    outcome_in (Section m) vs ps i j = one vs _ i (λ v l. l)
    outcome_in (Spawn f) vs ps i j = called_in (without_sections k) f.0 vs (values_in vs i)
    outcome_in (Stable f) vs ps i j = called_in k f.0 vs i
    outcome_in NewChan vs ps i j = tt
    outcome_in NewRef vs ps i j = one vs _ i (λ v l. l)
    outcome_in Get vs ps i j = one vs _ i (λ v l. of_reference v _ l (λ r m. m))
    outcome_in Set vs ps i j = two vs _ i (λ v w l n. of_reference v _ l (λ r m. (m, n)))
    outcome_in Send vs ps i j = two vs _ i (λ v w l n. of_chan v _ l (λ c m. (m, n)))
    outcome_in Recv vs ps i j = one vs _ i (λ v l. of_chan v _ l (λ c m. m))
    outcome_in Pick vs ps i j = two vs _ i (λ v w l n. of_chan v _ l (λ c m. of_chan w _ n (λ d o. (m, o))))
    outcome_in Stabilize vs ps i j = tt
    outcome_in Cut vs ps i j = tt
    outcome_in Pin vs ps i j = tt
    outcome_in Print vs ps i j = one vs _ i (λ v l. l)
    outcome_in Probe vs ps i j = tt
    outcome_in Attempt vs ps i j = tt

    by_in : (round : List Frame) (o : Outcome) → AllByRecursion (IsFrameIn k) round → IsOutcomeIn k o → IsLookIn IsExprIn k (look_by round o)
    by_in round (becomes e) fi i = cap_in k (within round e) (within_in k round e fi i)
    by_in round (fails f) fi i = tt
    by_in round (acts a) fi i = i

    at_in : (o : Option Redex) → IfSome o (IsRedexIn k) → IsLookIn IsExprIn k (look_at (body p) o)
    at_in None i = tt
    at_in (Some r) i = by_in r.round _ i.round (outcome_in r.head r.values r.waiting i.values i.waiting)

    look_in : (e : Expr) → IsExprIn k e → IsLookIn IsExprIn k (look (body p) e)
    look_in (value v) i = i
    look_in (failed f) i = tt
    look_in (variable x) i = tt
    look_in (form h ps) i = at_in (redex (form h ps)) (redex_of_in k (form h ps) [] tt i)

-- the plain language of a program keeps what is known
pub kept : (p : ProgramParts) → AreNumbersKept (language_of p) IsExprIn
kept p = record {
  more = more_expr;
  look = λ k e i. look_in k p e i;
  answered = λ k e v i j. rebuild_in k e (value v) i j;
  entered = λ k e q body i j is. rebuild_in k e _ i ((is, (j, tt)));
  failed = λ k f. tt;
}
