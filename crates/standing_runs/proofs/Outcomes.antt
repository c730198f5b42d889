-- What a redex of a whole expression does is whole and low.
use Rattle.std.proofs.Common.{◌≡◌, ℕ, zero, suc, ◌+◌, ◌<◌, ◌≤◌, ◌^◌, Bool, true, false, ◌||◌, nat_eq, List, [], ◌∷◌, length, Option, Some, None, ℤ, pos, negsuc, ◌+ℤ◌, ◌-ℤ◌, ◌*ℤ◌, int_div, int_rem, unsigned_abs, slice_get, FitsSigned, refl, sym, ap, subst, if◌then◌else◌, arith}
use Rattle.std.specs.Int.{w64}
use Rattle.std.specs.List.{AllByRecursion}
use Rattle.std.specs.Ordering.{int_eq}
use Rattle.std.proofs.lemmas.Bool.{false≢true, ltb-true}
use Rattle.std.proofs.lemmas.Int.{rem_below}
use Rattle.stab_base.specs.Datum.{Datum, truth, int, chan, reference, pair}
use Rattle.stab_base.specs.Limits.{is_within_limits}
use Rattle.stab_code.specs.Program.{ProgramParts}
use Rattle.stab_code.specs.declared.head.Op.{Op}
use Rattle.stab_code.specs.declared.head.Op.TheVariants.{Or, And, Eq, Ne, Lt, Le, Gt, Ge, Add, Sub, Mul, Div, Rem}
use Rattle.language.specs.declared.head.Head.{Head}
use Rattle.language.specs.declared.head.Head.TheVariants.{Block, If, Two, Not, Neg, Pair, Fst, Snd, Call, Spawn, Stable, NewChan, NewRef, Get, Set, Send, Recv, Pick, Stabilize, Cut, Pin, Print, Probe, Attempt, Section}
use Rattle.language.specs.Expression.{Expr, value, Parts, none, part, put_parts, only}
use Rattle.language.specs.Numbers.{fits_word}
use Rattle.language.specs.Outcome.{Outcome, becomes, fails, acts, with_one, with_two, with_truth, with_number, with_chan, with_reference, with_pair, with_numbers, number, divided, by_operator, waiting_one, two_of, block_of, after_item, branch_of, pair_of, called, outcome}
use Rattle.language.specs.Program.{body}
use Rattle.language.specs.Redex.{first_counts_alone, after_values}
use Rattle.language.specs.Table.{Act, spawns, makes_ref, sets, sends, enters, prints}
use Rattle.expression_text.specs.Spelling.{count, items_of}
use Rattle.standing_runs.specs.Numbers.{IsSlot}
use Rattle.standing_runs.specs.Whole.{bound_by, IsValue, IsForm, IsWhole, AreWhole, Takes}
use Rattle.standing_runs.proofs.Putting.{height, heights, heights_put, count_put, put_all, Covers}
use Rattle.standing_runs.proofs.Redexes.{count_after, split_left}

-- a number that 64 signed bits have
pub word_fits : (n : ℤ) → fits_word n ≡ true → FitsSigned w64 n
word_fits (pos n) is = record { sfits = ltb-true n (2 ^ 63) is }
word_fits (negsuc n) is = record { sfits = ltb-true n (2 ^ 63) is }

small_fits : (n : ℤ) → unsigned_abs n < 2 ^ 63 → FitsSigned w64 n
small_fits (pos n) lt = let low : n < 2 ^ 63 = omega arith in record { sfits = low }
small_fits (negsuc n) lt = let low : n < 2 ^ 63 = omega arith in record { sfits = low }

not_zero : (n : ℤ) → int_eq n (pos 0) ≡ false → 0 < unsigned_abs n
not_zero (pos zero) is = absurd (false≢true (sym is))
not_zero (pos (suc n)) is = omega arith
not_zero (negsuc n) is = omega arith

abs_small : (n : ℤ) → FitsSigned w64 n → unsigned_abs n ≤ 2 ^ 63
abs_small (pos n) f = let low : n < 2 ^ 63 = f.sfits in omega arith
abs_small (negsuc n) f = let low : n < 2 ^ 63 = f.sfits in omega arith

rest_fits : (m n : ℤ) → FitsSigned w64 n → int_eq n (pos 0) ≡ false → FitsSigned w64 (int_rem m n)
rest_fits m n f is = small_fits (int_rem m n) (omega (arith, rem_below m n (not_zero n is), abs_small n f))

module _ (p : ProgramParts) where
  -- an expression that may come in place of a redex
  pub record IsNew (e : Expr) : Type 0 where
    pub whole : IsWhole p [] e
    pub low : height e ≤ 200

  abbrev pub IsNewAct : Act Expr → Type 0
  IsNewAct (spawns b) = IsNew b
  IsNewAct (enters b) = IsNew b
  IsNewAct (makes_ref v) = IsValue p v
  IsNewAct (sets r v) = IsValue p v
  IsNewAct (sends c v) = IsValue p v
  IsNewAct (prints v) = IsValue p v
  IsNewAct _ = Unit {0}

  abbrev pub IsOutcome : Outcome → Type 0
  IsOutcome (becomes e) = IsNew e
  IsOutcome (fails k) = Unit {0}
  IsOutcome (acts a) = IsNewAct a

  new_value : (v : Datum) → IsValue p v → IsOutcome (becomes (value v))
  new_value v h = record { whole = h; low = omega arith }

  one : (vs : List Datum) (f : Datum → Outcome) → AllByRecursion (IsValue p) vs → ((v : Datum) → vs ≡ v ∷ [] → IsValue p v → IsOutcome (f v)) → IsOutcome (with_one vs f)
  one [] f i h = tt
  one (v ∷ []) f i h = h v refl i.0
  one (v ∷ w ∷ vs) f i h = tt

  two : (vs : List Datum) (f : Datum → Datum → Outcome) → AllByRecursion (IsValue p) vs → ((v w : Datum) → IsValue p v → IsValue p w → IsOutcome (f v w)) → IsOutcome (with_two vs f)
  two [] f i h = tt
  two (v ∷ []) f i h = tt
  two (v ∷ w ∷ []) f i h = h v w i.0 i.1.0
  two (v ∷ w ∷ u ∷ vs) f i h = tt

  of_truth : (v : Datum) (f : Bool → Outcome) → ((b : Bool) → IsOutcome (f b)) → IsOutcome (with_truth v f)
  of_truth (truth b) f h = h b
  of_truth _ f h = tt

  of_number : (v : Datum) (f : ℤ → Outcome) → IsValue p v → ((n : ℤ) → FitsSigned w64 n → IsOutcome (f n)) → IsOutcome (with_number v f)
  of_number (int n) f i h = h n i
  of_number _ f i h = tt

  of_chan : (v : Datum) (f : ℕ → Outcome) → ((c : ℕ) → IsOutcome (f c)) → IsOutcome (with_chan v f)
  of_chan (chan c) f h = h c
  of_chan _ f h = tt

  of_reference : (v : Datum) (f : ℕ → Outcome) → ((r : ℕ) → IsOutcome (f r)) → IsOutcome (with_reference v f)
  of_reference (reference r) f h = h r
  of_reference _ f h = tt

  of_pair : (v : Datum) (f : Datum → Datum → Outcome) → IsValue p v → ((a b : Datum) → IsValue p a → IsValue p b → IsOutcome (f a b)) → IsOutcome (with_pair v f)
  of_pair (pair a b) f i h = h a b i.1 i.2
  of_pair _ f i h = tt

  of_if : (b : Bool) (x y : Outcome) → (b ≡ true → IsOutcome x) → (b ≡ false → IsOutcome y) → IsOutcome (if b then x else y)
  of_if true x y h i = h refl
  of_if false x y h i = i refl

  truth_new : (b : Bool) → IsOutcome (becomes (value (truth b)))
  truth_new b = new_value (truth b) tt

  number_new : (n : ℤ) → IsOutcome (number n)
  number_new n = of_if (fits_word n) _ _ (λ is. new_value (int n) (word_fits n is)) (λ is. tt)

  divided_new : (m n r : ℤ) → (int_eq n (pos 0) ≡ false → fits_word (int_div m n) ≡ true → FitsSigned w64 r) → IsOutcome (divided m n r)
  divided_new m n r h = of_if (int_eq n (pos 0)) _ _ (λ is. tt) (λ is. of_if (fits_word (int_div m n)) _ _ (λ fits. new_value (int r) (h is fits)) (λ no. tt))

  numbers_new : (v w : Datum) (f : ℤ → ℤ → Outcome) → IsValue p v → IsValue p w → ((m n : ℤ) → FitsSigned w64 n → IsOutcome (f m n)) → IsOutcome (with_numbers v w f)
  numbers_new v w f i j h = of_number v _ i (λ m a. of_number w _ j (λ n b. h m n b))

  operator_new : (op : Op) (v w : Datum) → IsValue p v → IsValue p w → IsOutcome (by_operator op v w)
  operator_new Eq v w i j = truth_new _
  operator_new Ne v w i j = truth_new _
  operator_new Lt v w i j = numbers_new v w _ i j (λ m n f. truth_new _)
  operator_new Le v w i j = numbers_new v w _ i j (λ m n f. truth_new _)
  operator_new Gt v w i j = numbers_new v w _ i j (λ m n f. truth_new _)
  operator_new Ge v w i j = numbers_new v w _ i j (λ m n f. truth_new _)
  operator_new Add v w i j = numbers_new v w _ i j (λ m n f. number_new (m +ℤ n))
  operator_new Sub v w i j = numbers_new v w _ i j (λ m n f. number_new (m -ℤ n))
  operator_new Mul v w i j = numbers_new v w _ i j (λ m n f. number_new (m *ℤ n))
  operator_new Div v w i j = numbers_new v w _ i j (λ m n f. divided_new m n (int_div m n) (λ is fits. word_fits (int_div m n) fits))
  operator_new Rem v w i j = numbers_new v w _ i j (λ m n f. divided_new m n (int_rem m n) (λ is fits. rest_fits m n f is))
  operator_new Or v w i j = tt
  operator_new And v w i j = tt

  waiting_new : (ps : Parts) → AreWhole p [] [] ps → heights ps ≤ 199 → IsOutcome (waiting_one ps)
  waiting_new none w low = tt
  waiting_new (part e none) w low = record { whole = w.0; low = omega arith }
  waiting_new (part e (part f ps)) w low = tt

  two_new : (op : Op) (vs : List Datum) (ps : Parts) → AllByRecursion (IsValue p) vs → AreWhole p [] [] ps → heights ps ≤ 199 → IsOutcome (two_of op vs ps)
  two_new And vs ps i w low = one vs _ i (λ v is l. of_truth v _ (λ b. of_if b _ _ (λ t. waiting_new ps w low) (λ t. truth_new false)))
  two_new Or vs ps i w low = one vs _ i (λ v is l. of_truth v _ (λ b. of_if b _ _ (λ t. truth_new true) (λ t. waiting_new ps w low)))
  two_new op vs ps i w low = two vs _ i (λ a b l m. operator_new op a b l m)

  branch_new : (b : Bool) (ps : Parts) → AreWhole p [] [] ps → heights ps ≤ 199 → IsOutcome (branch_of b ps)
  branch_new b none w low = tt
  branch_new b (part x none) w low = tt
  branch_new true (part x (part y none)) w low = record { whole = w.0; low = omega arith }
  branch_new false (part x (part y none)) w low = record { whole = w.1.0; low = omega arith }
  branch_new b (part x (part y (part z ps))) w low = tt

  pair_new : (v w : Datum) → IsValue p v → IsValue p w → IsOutcome (pair_of v w)
  pair_new v w i j = of_if (is_within_limits (pair v w)) _ _ (λ is. new_value (pair v w) (is, i, j)) (λ is. tt)

  -- what is left of a block
  block_new : (slots : List (Option ℕ)) (ps : Parts) → AllByRecursion IsSlot slots → count ps ≡ length slots + 1 → count ps < 2 ^ 32 → AreWhole p [] slots ps → heights ps ≤ 199 → IsOutcome (block_of slots ps)
  block_new [] none all is few w low = absurd (omega arith)
  block_new [] (part e none) all is few w low = record { whole = w.0; low = omega arith }
  block_new [] (part e (part f ps)) all is few w low = absurd (omega arith)
  block_new (s ∷ slots) ps all is few w low = record { whole = (record { parts = is; few = few; head = all }, w); low = omega arith }

  only_value : (x : ℕ) (v : Datum) → IsValue p v → (y : ℕ) (w : Datum) → only x v y ≡ Some w → IsValue p w
  only_value x v i y w is =
      elim (nat_eq x y) as (λ b. (if b then Some v else None) ≡ Some w → IsValue p w) [
        | true ↦ λ is. let same : v ≡ w = cc in subst (IsValue p) same i
        | false ↦ λ is. absurd (let no : None ≡ Some w = is in cc)
      ] is

  -- the variable of a let is no more open
  closed_by : (x : ℕ) (v : Datum) → Covers (only x v) (bound_by [] (Some x)) []
  closed_by x v y here empty =
      elim (nat_eq x y) as (λ b. (b || false) ≡ true → (if b then Some v else None) ≡ None → false ≡ true) [
        | true ↦ λ here given. absurd (let no : Some v ≡ None = given in cc)
        | false ↦ λ here given. here
      ] here empty

  item_new : (slots : List (Option ℕ)) (v : Datum) (ps : Parts) → IsForm p (Block slots) (suc (count ps)) → AreWhole p [] slots (part (value v) ps) → heights ps ≤ 199 → IsOutcome (after_item slots v ps)
  item_new [] v ps f w low = absurd f.head
  item_new (None ∷ slots) v ps f w low = block_new slots ps f.head.1 (omega (arith, f.parts)) (omega (arith, f.few)) w.1 low
  item_new (Some x ∷ slots) v ps f w low =
      let given = only x v in
      block_new slots (put_parts given ps) f.head.1 (omega (arith, f.parts, count_put given ps)) (omega (arith, f.few, count_put given ps))
      (put_all p given (only_value x v w.0) (bound_by [] (Some x)) [] (closed_by x v) slots ps w.1) (omega (arith, heights_put given ps))

  -- the bodies of a program's functions
  module _ (bodies : (f : ℕ) (vs : List Datum) → Takes (slice_get p.functions f) (length vs) → AllByRecursion (IsValue p) vs → IsNew (called (body p) f vs)) where
    -- a call with all its parts
    called_new : (f : ℕ) (vs : List Datum) (ps : Parts) → ps ≡ none → Takes (slice_get p.functions f) (count (after_values vs ps)) → AllByRecursion (IsValue p) vs → IsNew (called (body p) f vs)
    called_new f vs ps is takes all =
        let alone : count (after_values vs ps) ≡ length vs = omega (arith, count_after vs ps, ap count is) in
        bodies f vs (subst (Takes (slice_get p.functions f)) alone takes) all

    pub outcome_new : (h : Head) (vs : List Datum) (ps : Parts) → IsForm p h (count (after_values vs ps)) → AllByRecursion (IsValue p) vs → AreWhole p [] (items_of h) (after_values vs ps) → (first_counts_alone h ≡ false → ps ≡ none) →
        heights ps ≤ 199 → IsOutcome (outcome (body p) h vs ps)
    outcome_new (Block slots) vs ps f i w s low = one vs _ i (λ v is l.
        item_new slots v ps
        (subst (λ (us : List Datum). IsForm p (Block slots) (count (after_values us ps))) is f)
        (subst (λ (us : List Datum). AreWhole p [] slots (after_values us ps)) is w) low)
    outcome_new If vs ps f i w s low = one vs _ i (λ v is l. of_truth v _ (λ b. branch_new b ps (split_left p [] vs ps w).1 low))
    outcome_new (Two op) vs ps f i w s low = two_new op vs ps i (split_left p [] vs ps w).1 low
    outcome_new Not vs ps f i w s low = one vs _ i (λ v is l. of_truth v _ (λ b. truth_new _))
    outcome_new Neg vs ps f i w s low = one vs _ i (λ v is l. of_number v _ l (λ n fits. number_new (pos 0 -ℤ n)))
    outcome_new Pair vs ps f i w s low = two vs _ i pair_new
    outcome_new Fst vs ps f i w s low = one vs _ i (λ v is l. of_pair v _ l (λ a b m n. new_value a m))
    outcome_new Snd vs ps f i w s low = one vs _ i (λ v is l. of_pair v _ l (λ a b m n. new_value b n))
    outcome_new (Call g) vs ps f i w s low = called_new g.0 vs ps (s refl) f.head i
    outcome_new (Section m) vs ps f i w s low = one vs _ i (λ v is l. new_value v l)
    outcome_new (Spawn g) vs ps f i w s low = called_new g.0 vs ps (s refl) f.head i
    outcome_new (Stable g) vs ps f i w s low = called_new g.0 vs ps (s refl) f.head i
    outcome_new NewChan vs ps f i w s low = tt
    outcome_new NewRef vs ps f i w s low = one vs _ i (λ v is l. l)
    outcome_new Get vs ps f i w s low = one vs _ i (λ v is l. of_reference v _ (λ q. tt))
    outcome_new Set vs ps f i w s low = two vs _ i (λ v u l m. of_reference v _ (λ q. m))
    outcome_new Send vs ps f i w s low = two vs _ i (λ v u l m. of_chan v _ (λ c. m))
    outcome_new Recv vs ps f i w s low = one vs _ i (λ v is l. of_chan v _ (λ c. tt))
    outcome_new Pick vs ps f i w s low = two vs _ i (λ v u l m. of_chan v _ (λ c. of_chan u _ (λ d. tt)))
    outcome_new Stabilize vs ps f i w s low = tt
    outcome_new Cut vs ps f i w s low = tt
    outcome_new Pin vs ps f i w s low = tt
    outcome_new (Print) vs ps f i w s low = one vs _ i (λ v is l. l)
    outcome_new Probe vs ps f i w s low = tt
    outcome_new Attempt vs ps f i w s low = tt
