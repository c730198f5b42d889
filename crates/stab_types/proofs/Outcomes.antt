-- What a typed redex does: what it becomes has its type, and no kind is wrong.
use Rattle.std.proofs.Common.{◌≡◌, ℕ, Bool, true, false, cond, if◌then◌else◌, List, [], ◌∷◌, length, take, slice_get, Option, Some, None, refl, sym, ap, subst, ◌∙◌}
use Rattle.std.specs.Prelude.{ℤ, pos, ◌+ℤ◌, ◌-ℤ◌, ◌*ℤ◌, int_div, int_rem, IfSome}
use Rattle.std.specs.Ordering.{int_eq}
use Rattle.std.proofs.lemmas.Bool.{false≢true}
use Rattle.stab_base.specs.Datum.{Datum, truth, int, chan, reference, pair}
use Rattle.stab_base.specs.Limits.{is_within_limits}
use Rattle.stab_base.specs.declared.fault.Fault.TheVariants.{WrongKind, Overflow, ZeroDivisor, DeepValue}
use Rattle.stab_code.specs.declared.head.Head as code
use Rattle.stab_code.specs.declared.head.Head.TheVariants as code_head
use Rattle.stab_code.specs.declared.head.Op.{Op}
use Rattle.stab_code.specs.declared.head.Op.TheVariants.{Or, And, Lt, Le, Gt, Ge, Add, Sub, Mul, Div, Rem}
use Rattle.stab_code.specs.Heads.{slots_of, strict_parts}
use Rattle.stab_code.specs.Program.{FunctionParts}
use Rattle.stab_code.specs.Written.{Written, unit_type, bool_type, int_type, chan_type, ref_type, pair_type}
use Rattle.language.specs.Expression.{Expr, value, Parts, none, part, put_parts, only}
use Rattle.language.specs.Numbers.{fits_word}
use Rattle.language.specs.Redex.{after_values}
use Rattle.language.specs.Outcome.{Outcome, becomes, fails, acts, with_one, with_two, with_truth, with_number, with_chan, with_reference, with_pair, with_numbers, number, divided, by_operator, waiting_one, two_of, block_of, after_item, branch_of, pair_of, called, outcome}
use Rattle.language.specs.Table.{Act, spawns, makes_chan, makes_ref, gets, sets, sends, receives, picks, enters, stabilizes, cuts, pins, prints, probes, attempts}
use Rattle.stab_types.specs.ExprType.{ExprType, of, never, has_never, all_of}
use Rattle.stab_types.specs.Rule.{Rule, from_numbers, block_type, stops, unit_literal, truth_literal, int_literal, text_literal, variable as seen_variable, block, branches, else_branch, then_branch, and_value, and_never, or_value, or_never, numbers, equal, unequal, not, negative, pair as new_pair, first, second, call, stable, spawn, new_channel, new_reference, get, set, send, receive, pick, stabilize, cut, pin, print, probe, attempt}
use Rattle.stab_types.specs.Typed.{Seen, behind}
use Rattle.stab_types.proofs.World.{World, Fits, FitsType, AllFit, IsUnder, under_refl}
use Rattle.stab_types.proofs.Running.{running, written, Runs, AllRun, nothing_seen, runs_under, values_fit}
use Rattle.stab_types.proofs.Putting.{some_is, put_all, let_put}

-- a redex: each part is a value, or the first one alone counts and is one
pub data Settled : Bool → List Datum → Parts → Type 0 where
  all_values : {vs : List Datum} → Settled false vs none
  first_value : {v : Datum} {rest : Parts} → Settled true (v ∷ []) rest
  no_part : Settled true [] none

-- of a form of a program whether its first part counts alone
abbrev pub first_alone : code.Head → Bool
first_alone (code_head.Block slots) = true
first_alone code_head.If = true
first_alone (code_head.Two Or) = true
first_alone (code_head.Two And) = true
first_alone _ = false

strict_by : (h : code.Head) (n : ℕ) → strict_parts h n ≡ cond (first_alone h) 1 n
strict_by (code_head.Block slots) n = refl
strict_by code_head.If n = refl
strict_by (code_head.Two Or) n = refl
strict_by (code_head.Two And) n = refl
strict_by _ n = refl

no_slots : (h : code.Head) → first_alone h ≡ false → slots_of h ≡ []
no_slots (code_head.Block slots) e = absurd (false≢true (sym e))
no_slots _ e = refl

all_values_type : (w : World) (vs : List Datum) (ts : List ExprType) → AllFit w vs ts → has_never (take (length ts) ts) ≡ false
all_values_type w [] [] fit = refl
all_values_type w [] (t ∷ ts) fit = absurd fit
all_values_type w (v ∷ vs) [] fit = absurd fit
all_values_type w (v ∷ vs) ((of a) ∷ ts) fit = all_values_type w vs ts fit.1
all_values_type w (v ∷ vs) (never ∷ ts) fit = absurd fit.0

module _ (functions : List FunctionParts) (w : World) where
  strict_types : (b : Bool) (slots : List (Option ℕ)) (vs : List Datum) (rest : Parts) (ts : List ExprType) → (b ≡ false → slots ≡ []) → Settled b vs rest →
      AllRun functions w nothing_seen slots (after_values vs rest) ts → has_never (take (cond b 1 (length ts)) ts) ≡ false
  strict_types b slots vs rest ts alone all_values r =
      all_values_type w vs ts (values_fit functions w vs ts (subst (λ (s : List (Option ℕ)). AllRun functions w nothing_seen s (after_values vs none) ts) (alone refl) r))
  strict_types b [] vs rest [] alone first_value r = absurd r
  strict_types b (slot ∷ slots) vs rest [] alone first_value r = absurd r
  strict_types b [] vs rest ((of a) ∷ ts) alone first_value r = refl
  strict_types b (slot ∷ slots) vs rest ((of a) ∷ ts) alone first_value r = refl
  strict_types b [] vs rest (never ∷ ts) alone first_value r = absurd r.0
  strict_types b (slot ∷ slots) vs rest (never ∷ ts) alone first_value r = absurd r.1
  strict_types b slots vs rest [] alone no_part r = refl
  strict_types b [] vs rest (t ∷ ts) alone no_part r = absurd r
  strict_types b (slot ∷ slots) vs rest (t ∷ ts) alone no_part r = absurd r

  -- what an act asks for and what answers it, where the redex may stand where u is asked for
  abbrev pub ActFits : Act Expr → ExprType → Type 0
  ActFits (spawns body) u = (t : ExprType) × Runs functions w nothing_seen body t × (u ≡ of unit_type)
  ActFits makes_chan u = (a : Written) × (u ≡ of (chan_type a))
  ActFits (makes_ref v) u = (a : Written) × Fits w v a × (u ≡ of (ref_type a))
  ActFits (gets r) u = (a : Written) × (w.references r ≡ Some a) × (u ≡ of a)
  ActFits (sets r v) u = (a : Written) × (w.references r ≡ Some a) × Fits w v a × (u ≡ of unit_type)
  ActFits (sends c v) u = (a : Written) × (w.channels c ≡ Some a) × Fits w v a × (u ≡ of unit_type)
  ActFits (receives c) u = (a : Written) × (w.channels c ≡ Some a) × (u ≡ of a)
  ActFits (picks c d) u = (a : Written) × (w.channels c ≡ Some a) × (w.channels d ≡ Some a) × (u ≡ of (pair_type int_type a))
  ActFits (enters body) u = Runs functions w nothing_seen body u
  ActFits stabilizes u = Unit {0}
  ActFits cuts u = u ≡ of unit_type
  ActFits pins u = u ≡ of unit_type
  ActFits (prints v) u = u ≡ of unit_type
  ActFits probes u = u ≡ of int_type
  ActFits attempts u = u ≡ of int_type

  abbrev pub OutcomeFits : Outcome → ExprType → Type 0
  OutcomeFits (becomes e) u = Runs functions w nothing_seen e u
  OutcomeFits (fails k) u = k ≡ WrongKind → ⊥
  OutcomeFits (acts a) u = ActFits a u

  pub one : (vs : List Datum) (t u : ExprType) (k : Datum → Outcome) → AllFit w vs (t ∷ []) → ((v : Datum) → FitsType w v t → OutcomeFits (k v) u) → OutcomeFits (with_one vs k) u
  one [] t u k fit f = absurd fit
  one (v ∷ []) t u k fit f = f v fit.0
  one (v ∷ x ∷ vs) t u k fit f = absurd fit.1

  two : (vs : List Datum) (s t u : ExprType) (k : Datum → Datum → Outcome) → AllFit w vs (s ∷ t ∷ []) → ((v x : Datum) → FitsType w v s → FitsType w x t → OutcomeFits (k v x) u) → OutcomeFits (with_two vs k) u
  two [] s t u k fit f = absurd fit
  two (v ∷ []) s t u k fit f = absurd fit.1
  two (v ∷ x ∷ []) s t u k fit f = f v x fit.0 fit.1.0
  two (v ∷ x ∷ y ∷ vs) s t u k fit f = absurd fit.1.1

  of_truth : (v : Datum) (u : ExprType) (k : Bool → Outcome) → Fits w v bool_type → ((b : Bool) → OutcomeFits (k b) u) → OutcomeFits (with_truth v k) u
  of_truth (truth b) u k fit f = f b
  of_truth _ u k fit f = absurd fit

  of_number : (v : Datum) (u : ExprType) (k : ℤ → Outcome) → Fits w v int_type → ((n : ℤ) → OutcomeFits (k n) u) → OutcomeFits (with_number v k) u
  of_number (int n) u k fit f = f n
  of_number _ u k fit f = absurd fit

  of_chan : (v : Datum) (a : Written) (u : ExprType) (k : ℕ → Outcome) → Fits w v (chan_type a) → ((c : ℕ) → w.channels c ≡ Some a → OutcomeFits (k c) u) → OutcomeFits (with_chan v k) u
  of_chan (chan c) a u k fit f = f c fit
  of_chan _ a u k fit f = absurd fit

  of_reference : (v : Datum) (a : Written) (u : ExprType) (k : ℕ → Outcome) → Fits w v (ref_type a) → ((r : ℕ) → w.references r ≡ Some a → OutcomeFits (k r) u) → OutcomeFits (with_reference v k) u
  of_reference (reference r) a u k fit f = f r fit
  of_reference _ a u k fit f = absurd fit

  of_pair : (v : Datum) (a b : Written) (u : ExprType) (k : Datum → Datum → Outcome) → Fits w v (pair_type a b) → ((x y : Datum) → Fits w x a → Fits w y b → OutcomeFits (k x y) u) → OutcomeFits (with_pair v k) u
  of_pair (pair x y) a b u k fit f = f x y fit.0 fit.1
  of_pair _ a b u k fit f = absurd fit

  numbers_of : (v x : Datum) (u : ExprType) (k : ℤ → ℤ → Outcome) → Fits w v int_type → Fits w x int_type → ((m n : ℤ) → OutcomeFits (k m n) u) → OutcomeFits (with_numbers v x k) u
  numbers_of v x u k fit also f = of_number v u _ fit (λ m. of_number x u _ also (λ n. f m n))

  of_if : (b : Bool) (x y : Outcome) (u : ExprType) → OutcomeFits x u → OutcomeFits y u → OutcomeFits (if b then x else y) u
  of_if true x y u h k = h
  of_if false x y u h k = k

  overflow : Overflow ≡ WrongKind → ⊥
  overflow e = cc

  zero_divisor : ZeroDivisor ≡ WrongKind → ⊥
  zero_divisor e = cc

  deep_value : DeepValue ≡ WrongKind → ⊥
  deep_value e = cc

  number_fits : (n : ℤ) → OutcomeFits (number n) (of int_type)
  number_fits n = of_if (fits_word n) _ _ (of int_type) tt overflow

  divided_fits : (m n r : ℤ) → OutcomeFits (divided m n r) (of int_type)
  divided_fits m n r = of_if (int_eq n (pos 0)) _ _ (of int_type) zero_divisor (of_if (fits_word (int_div m n)) _ _ (of int_type) tt overflow)

  number_operator : (op : Op) (a : Written) (v x : Datum) → from_numbers op ≡ Some a → Fits w v int_type → Fits w x int_type → OutcomeFits (by_operator op v x) (of a)
  number_operator Lt a v x e fit also = subst (λ (b : Written). OutcomeFits (by_operator Lt v x) (of b)) (some_is e) (numbers_of v x (of bool_type) _ fit also (λ m n. tt))
  number_operator Le a v x e fit also = subst (λ (b : Written). OutcomeFits (by_operator Le v x) (of b)) (some_is e) (numbers_of v x (of bool_type) _ fit also (λ m n. tt))
  number_operator Gt a v x e fit also = subst (λ (b : Written). OutcomeFits (by_operator Gt v x) (of b)) (some_is e) (numbers_of v x (of bool_type) _ fit also (λ m n. tt))
  number_operator Ge a v x e fit also = subst (λ (b : Written). OutcomeFits (by_operator Ge v x) (of b)) (some_is e) (numbers_of v x (of bool_type) _ fit also (λ m n. tt))
  number_operator Add a v x e fit also = subst (λ (b : Written). OutcomeFits (by_operator Add v x) (of b)) (some_is e) (numbers_of v x (of int_type) _ fit also (λ m n. number_fits (m +ℤ n)))
  number_operator Sub a v x e fit also = subst (λ (b : Written). OutcomeFits (by_operator Sub v x) (of b)) (some_is e) (numbers_of v x (of int_type) _ fit also (λ m n. number_fits (m -ℤ n)))
  number_operator Mul a v x e fit also = subst (λ (b : Written). OutcomeFits (by_operator Mul v x) (of b)) (some_is e) (numbers_of v x (of int_type) _ fit also (λ m n. number_fits (m *ℤ n)))
  number_operator Div a v x e fit also = subst (λ (b : Written). OutcomeFits (by_operator Div v x) (of b)) (some_is e) (numbers_of v x (of int_type) _ fit also (λ m n. divided_fits m n (int_div m n)))
  number_operator Rem a v x e fit also = subst (λ (b : Written). OutcomeFits (by_operator Rem v x) (of b)) (some_is e) (numbers_of v x (of int_type) _ fit also (λ m n. divided_fits m n (int_rem m n)))
  number_operator _ a v x e fit also = absurd (cc)

  branch_fits : (b : Bool) (rest : Parts) (s t u : ExprType) → AllRun functions w nothing_seen [] rest (s ∷ t ∷ []) → IsUnder s u → IsUnder t u → OutcomeFits (branch_of b rest) u
  branch_fits b none s t u r h k = absurd r
  branch_fits b (part x none) s t u r h k = absurd r.1
  branch_fits true (part x (part y none)) s t u r h k = runs_under functions w nothing_seen x s u h r.0
  branch_fits false (part x (part y none)) s t u r h k = runs_under functions w nothing_seen y t u k r.1.0
  branch_fits b (part x (part y (part z ps))) s t u r h k = absurd r.1.1

  waiting_fits : (rest : Parts) (t u : ExprType) → AllRun functions w nothing_seen [] rest (t ∷ []) → IsUnder t u → OutcomeFits (waiting_one rest) u
  waiting_fits none t u r h = absurd r
  waiting_fits (part e none) t u r h = runs_under functions w nothing_seen e t u h r.0
  waiting_fits (part e (part f ps)) t u r h = absurd r.1

  -- what is left of a block
  block_fits : (slots : List (Option ℕ)) (ps : Parts) (ts : List ExprType) (t : ExprType) → AllRun functions w nothing_seen slots ps ts → block_type slots ts ≡ Some t → OutcomeFits (block_of slots ps) t
  block_fits [] none [] t r e = absurd (cc)
  block_fits [] none (s ∷ ts) t r e = absurd r
  block_fits [] (part x ps) [] t r e = absurd r
  block_fits [] (part x none) (s ∷ []) t r e = subst (Runs functions w nothing_seen x) (some_is e) r.0
  block_fits [] (part x none) (s ∷ s' ∷ ts) t r e = absurd r.1
  block_fits [] (part x (part y ps)) (s ∷ []) t r e = absurd r.1
  block_fits [] (part x (part y ps)) (s ∷ s' ∷ ts) t r e = absurd (cc)
  block_fits (slot ∷ slots) ps ts t r e = (ts, t, r, written {seen = nothing_seen} {c = code_head.Block (slot ∷ slots)} refl (block e), under_refl t)

  item_fits : (slot : Option ℕ) (slots : List (Option ℕ)) (v : Datum) (rest : Parts) (ts : List ExprType) (u : ExprType) →
      AllRun functions w nothing_seen (slot ∷ slots) (part (value v) rest) ts → block_type (slot ∷ slots) ts ≡ Some u → OutcomeFits (after_item (slot ∷ slots) v rest) u
  item_fits slot slots v rest [] u r e = absurd r
  item_fits slot slots v rest (never ∷ ts) u r e = absurd r.1
  item_fits None slots v rest ((of a) ∷ ts) u r e = block_fits slots rest ts u r.2 e
  item_fits (Some x) slots v rest ((of a) ∷ ts) u r e =
      block_fits slots (put_parts (only x v) rest) ts u (put_all functions w (only x v) (behind (Some x) (of a) nothing_seen) nothing_seen (let_put functions w x v (of a) r.1) slots rest ts r.2) e

  first_fits : (slot : Option ℕ) (slots : List (Option ℕ)) (vs : List Datum) (rest : Parts) (ts : List ExprType) (u : ExprType) → Settled true vs rest →
      AllRun functions w nothing_seen (slot ∷ slots) (after_values vs rest) ts → block_type (slot ∷ slots) ts ≡ Some u → OutcomeFits (with_one vs (λ v. after_item (slot ∷ slots) v rest)) u
  first_fits slot slots vs rest ts u (first_value {v = v}) r e = item_fits slot slots v rest ts u r e
  first_fits slot slots vs rest [] u no_part r e = absurd (cc)
  first_fits slot slots vs rest (t ∷ ts) u no_part r e = absurd r

  -- a form whose first part alone counts and is true or false
  test_fits : (vs : List Datum) (rest : Parts) (ts : List ExprType) (u : ExprType) (k : Bool → Outcome) → Settled true vs rest → AllRun functions w nothing_seen [] (after_values vs rest) (of bool_type ∷ ts) →
      (AllRun functions w nothing_seen [] rest ts → (b : Bool) → OutcomeFits (k b) u) → OutcomeFits (with_one vs (λ v. with_truth v k)) u
  test_fits vs rest ts u k (first_value {v = v}) r f = of_truth v u k r.0 (f r.1)
  test_fits vs rest ts u k no_part r f = absurd r

  pub strict_fit : (vs : List Datum) (rest : Parts) (ts : List ExprType) → Settled false vs rest → AllRun functions w nothing_seen [] (after_values vs rest) ts → AllFit w vs ts
  strict_fit vs rest ts all_values r = values_fit functions w vs ts r

  -- an operator between two numbers
  operator_fits : (op : Op) (a : Written) (vs : List Datum) (rest : Parts) → from_numbers op ≡ Some a → Settled (first_alone (code_head.Two op)) vs rest →
      AllRun functions w nothing_seen [] (after_values vs rest) (of int_type ∷ of int_type ∷ []) → OutcomeFits (two_of op vs rest) (of a)
  operator_fits And a vs rest e s r = absurd (cc)
  operator_fits Or a vs rest e s r = absurd (cc)
  operator_fits op a vs rest e s r = two vs (of int_type) (of int_type) (of a) _ (strict_fit vs rest _ s r) (λ v x h k. number_operator op a v x e h k)

  pair_fits : (v x : Datum) (a b : Written) → Fits w v a → Fits w x b → OutcomeFits (pair_of v x) (of (pair_type a b))
  pair_fits v x a b h k = of_if (is_within_limits (pair v x)) _ _ (of (pair_type a b)) (h, k) deep_value

  module _ (body : ℕ → Expr)
      (bodies : (f : ℕ) (callee : FunctionParts) (vs : List Datum) → slice_get functions f ≡ Some callee → AllFit w vs (all_of callee.takes) → Runs functions w nothing_seen (called body f vs) (of callee.gives)) where
    abbrev Does : code.Head → List Datum → Parts → ExprType → Type 0
    Does c vs rest u = IfSome (running c) (λ h. OutcomeFits (outcome body h vs rest) u)

    stops_never : (c : code.Head) (vs : List Datum) (rest : Parts) (ts : List ExprType) → has_never (take (strict_parts c (length ts)) ts) ≡ true → Settled (first_alone c) vs rest →
        AllRun functions w nothing_seen (slots_of c) (after_values vs rest) ts → ⊥
    stops_never c vs rest ts stop settled r =
        false≢true (sym (strict_types (first_alone c) (slots_of c) vs rest ts (no_slots c) settled r) ∙ ap (λ n. has_never (take n ts)) (sym (strict_by c (length ts))) ∙ stop)

    pub does : {seen : Seen} (c : code.Head) (vs : List Datum) (rest : Parts) (ts : List ExprType) (u : ExprType) → Rule functions seen c ts u → Settled (first_alone c) vs rest →
        AllRun functions w nothing_seen (slots_of c) (after_values vs rest) ts → Does c vs rest u
    does c vs rest ts u (stops stop) s r = absurd (stops_never c vs rest ts stop s r)
    does c vs rest ts u unit_literal s r = tt
    does c vs rest ts u (truth_literal b) s r = tt
    does c vs rest ts u (int_literal n) s r = tt
    does c vs rest ts u (text_literal t) s r = tt
    does c vs rest ts u (seen_variable e) s r = tt
    does c vs rest ts u (block {slot = slot} {slots = slots} e) s r = first_fits slot slots vs rest ts u s r e
    does c vs rest ts u branches s r = test_fits vs rest _ u _ s r (λ q b. branch_fits b rest u u u q (under_refl u) (under_refl u))
    does c vs rest ts u else_branch s r = test_fits vs rest _ u _ s r (λ q b. branch_fits b rest never u u q tt (under_refl u))
    does c vs rest ts u then_branch s r = test_fits vs rest _ u _ s r (λ q b. branch_fits b rest u never u q (under_refl u) tt)
    does c vs rest ts u and_value s r = test_fits vs rest _ u _ s r (λ q b. of_if b _ _ (of bool_type) (waiting_fits rest (of bool_type) (of bool_type) q refl) tt)
    does c vs rest ts u and_never s r = test_fits vs rest _ u _ s r (λ q b. of_if b _ _ (of bool_type) (waiting_fits rest never (of bool_type) q tt) tt)
    does c vs rest ts u or_value s r = test_fits vs rest _ u _ s r (λ q b. of_if b _ _ (of bool_type) tt (waiting_fits rest (of bool_type) (of bool_type) q refl))
    does c vs rest ts u or_never s r = test_fits vs rest _ u _ s r (λ q b. of_if b _ _ (of bool_type) tt (waiting_fits rest never (of bool_type) q tt))
    does c vs rest ts u (numbers {op = op} {a = a} e) s r = operator_fits op a vs rest e s r
    does c vs rest ts u equal s r = two vs _ _ u _ (strict_fit vs rest _ s r) (λ v x h k. tt)
    does c vs rest ts u unequal s r = two vs _ _ u _ (strict_fit vs rest _ s r) (λ v x h k. tt)
    does c vs rest ts u not s r = one vs _ u _ (strict_fit vs rest _ s r) (λ v h. of_truth v u _ h (λ b. tt))
    does c vs rest ts u negative s r = one vs _ u _ (strict_fit vs rest _ s r) (λ v h. of_number v u _ h (λ n. number_fits (pos 0 -ℤ n)))
    does c vs rest ts u (new_pair {a = a} {b = b}) s r = two vs _ _ u _ (strict_fit vs rest _ s r) (λ v x h k. pair_fits v x a b h k)
    does c vs rest ts u (first {a = a} {b = b}) s r = one vs _ u _ (strict_fit vs rest _ s r) (λ v h. of_pair v a b u _ h (λ x y m n. m))
    does c vs rest ts u (second {a = a} {b = b}) s r = one vs _ u _ (strict_fit vs rest _ s r) (λ v h. of_pair v a b u _ h (λ x y m n. n))
    does c vs rest ts u (call {f = f} {callee = callee} e) s r = bodies f.0 callee vs e (strict_fit vs rest _ s r)
    does c vs rest ts u (stable {f = f} {callee = callee} e) s r = bodies f.0 callee vs e (strict_fit vs rest _ s r)
    does c vs rest ts u (spawn {f = f} {callee = callee} e) s r = (of callee.gives, bodies f.0 callee vs e (strict_fit vs rest _ s r), refl)
    does c vs rest ts u (new_channel {a = a}) s r = (a, refl)
    does c vs rest ts u (new_reference {a = a}) s r = one vs _ u _ (strict_fit vs rest _ s r) (λ v h. (a, h, refl))
    does c vs rest ts u (get {a = a}) s r = one vs _ u _ (strict_fit vs rest _ s r) (λ v h. of_reference v a u _ h (λ q m. (a, m, refl)))
    does c vs rest ts u (set {a = a}) s r = two vs _ _ u _ (strict_fit vs rest _ s r) (λ v x h k. of_reference v a u _ h (λ q m. (a, m, k, refl)))
    does c vs rest ts u (send {a = a}) s r = two vs _ _ u _ (strict_fit vs rest _ s r) (λ v x h k. of_chan v a u _ h (λ q m. (a, m, k, refl)))
    does c vs rest ts u (receive {a = a}) s r = one vs _ u _ (strict_fit vs rest _ s r) (λ v h. of_chan v a u _ h (λ q m. (a, m, refl)))
    does c vs rest ts u (pick {a = a}) s r = two vs _ _ u _ (strict_fit vs rest _ s r) (λ v x h k. of_chan v a u _ h (λ q m. of_chan x a u _ k (λ q' n. (a, m, n, refl))))
    does c vs rest ts u stabilize s r = tt
    does c vs rest ts u cut s r = refl
    does c vs rest ts u pin s r = refl
    does c vs rest ts u (print {a = a}) s r = one vs _ u _ (strict_fit vs rest _ s r) (λ v h. refl)
    does c vs rest ts u probe s r = refl
    does c vs rest ts u attempt s r = refl
