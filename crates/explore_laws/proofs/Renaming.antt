-- What is next for an expression doesn't depend on the numbers of channels, references and sections in it.
use Rattle.std.proofs.Common.{◌≡◌, ℕ, zero, suc, Bool, true, false, not, ◌&&◌, if◌then◌else◌, nat_eq, List, [], ◌∷◌, ◌++◌, length, Option, Some, None, refl, sym, ap, ◌∙◌}
use Rattle.std.specs.Prelude.{ℤ, pos, ◌+◌, ◌+ℤ◌, ◌-ℤ◌, ◌*ℤ◌, int_div, int_rem, nat_lt, nat_le, max, map as each, slice_get, option_map}
use Rattle.std.specs.Ordering.{int_eq}
use Rattle.std.specs.Cmp.{nat_eq_equiv}
use Rattle.std.proofs.lemmas.Bool.{eqb-true}
use Rattle.stab_base.specs.Datum.{Datum, unit, truth, int, text, chan, reference, pair, depth_of, leaves_of, datum_eq}
use Rattle.stab_base.specs.Limits.{max_depth, max_leaves, is_within_limits}
use Rattle.stab_base.specs.declared.fault.Fault.TheVariants.{TooDeep, DeepValue}
use Rattle.stab_code.specs.declared.head.Head as code
use Rattle.stab_code.specs.declared.head.Head.TheVariants as code_head
use Rattle.stab_code.specs.Trees.{Tree, Trees, tree, none as no_trees, more as more_trees}
use Rattle.stab_code.specs.Program.{ProgramParts, FunctionParts, body_of}
use Rattle.stab_code.specs.declared.head.Op.{Op}
use Rattle.stab_code.specs.declared.head.Op.TheVariants.{Or, And, Eq, Ne, Lt, Le, Gt, Ge, Add, Sub, Mul, Div, Rem}
use Rattle.language.specs.declared.head.Head.{Head}
use Rattle.language.specs.declared.head.Head.TheVariants.{Section, Block, If, Two, Not, Neg, Pair, Fst, Snd, Call, Spawn, Stable, NewChan, NewRef, Get, Set, Send, Recv, Pick, Stabilize, Cut, Pin, Print, Probe, Attempt}
use Rattle.language.specs.Expression.{Expr, value, variable, failed, form, Parts, none, part, put_variable, put, put_parts, only}
use Rattle.language.specs.Redex.{first_counts_alone, Frame, after_values, within, Redex, redex_of, redex_in, redex, frames_of, frames, rebuild, spine, max_spine, cap}
use Rattle.language.specs.Program.{form_of, expr_of, exprs_of, body_by, body}
use Rattle.language.specs.Numbers.{fits_word}
use Rattle.language.specs.Table.{spawns, enters, pure}
use Rattle.language.specs.Outcome.{Outcome, becomes, fails, acts, with_one, with_two, with_truth, with_number, with_chan, with_reference, with_pair, with_numbers, number, truth_value, divided, by_operator, waiting_one, two_of, block_of, after_item, branch_of, pair_of, called, outcome}
use Rattle.language.specs.Look.{look_by, look_at, look, answered, entered}
use Rattle.explore_laws.specs.Renamed.{Naming, IsNaming, datum_in, head_in, expr_in, parts_in, act_in, look_in}

pub each_append : {A B : Type 0} (f : A → B) (xs ys : List A) → each f (xs ++ ys) ≡ each f xs ++ each f ys
each_append f [] ys = refl
each_append f (x ∷ xs) ys = ap (λ zs. f x ∷ zs) (each_append f xs ys)

each_length : {A B : Type 0} (f : A → B) (xs : List A) → length (each f xs) ≡ length xs
each_length f [] = refl
each_length f (x ∷ xs) = ap suc (each_length f xs)

each_get : {A B : Type 0} (f : A → B) (xs : List A) (i : ℕ) → slice_get (each f xs) i ≡ option_map f (slice_get xs i)
each_get f [] i = refl
each_get f (x ∷ xs) zero = refl
each_get f (x ∷ xs) (suc i) = each_get f xs i

pub same_number : (f : ℕ → ℕ) → ((b c : ℕ) → f b ≡ f c → b ≡ c) → (b c : ℕ) → nat_eq (f b) (f c) ≡ nat_eq b c
same_number f one b c =
    elim (nat_eq (f b) (f c)) as (λ x. nat_eq (f b) (f c) ≡ x → x ≡ nat_eq b c) [
      | true ↦ λ is. sym (ap (λ k. nat_eq b k) (sym (one b c (eqb-true (f b) (f c) is))) ∙ nat_eq_equiv.refl b)
      | false ↦ λ is.
          (elim (nat_eq b c) as (λ y. nat_eq b c ≡ y → false ≡ y) [
            | true ↦ λ at. sym is ∙ ap (λ k. nat_eq (f b) k) (ap f (sym (eqb-true b c at))) ∙ nat_eq_equiv.refl (f b)
            | false ↦ λ at. refl
          ]) refl
    ] refl

module _ (n : Naming) where
  depth_same : (v : Datum) → depth_of (datum_in n v) ≡ depth_of v
  depth_same (pair a b) = ap (λ x. max x (depth_of (datum_in n b)) + 1) (depth_same a) ∙ ap (λ y. max (depth_of a) y + 1) (depth_same b)
  depth_same v = refl

  leaves_same : (v : Datum) → leaves_of (datum_in n v) ≡ leaves_of v
  leaves_same (pair a b) = ap (λ x. x + leaves_of (datum_in n b)) (leaves_same a) ∙ ap (λ y. leaves_of a + y) (leaves_same b)
  leaves_same v = refl

  pub limits_same : (v : Datum) → is_within_limits (datum_in n v) ≡ is_within_limits v
  limits_same v = ap (λ x. nat_le x max_depth && nat_le (leaves_of (datum_in n v)) max_leaves) (depth_same v) ∙ ap (λ y. nat_le (depth_of v) max_depth && nat_le y max_leaves) (leaves_same v)

  -- values put in for variables
  module _ (vs ws : ℕ → Option Datum) (values : (x : ℕ) → ws x ≡ option_map (datum_in n) (vs x)) where
    variable_same : (o : Option Datum) (x : ℕ) → put_variable (option_map (datum_in n) o) x ≡ expr_in n (put_variable o x)
    variable_same None x = refl
    variable_same (Some v) x = refl

    mutual
      pub put_same : (e : Expr) → put ws (expr_in n e) ≡ expr_in n (put vs e)
      put_same (value v) = refl
      put_same (variable x) = ap (λ o. put_variable o x) (values x) ∙ variable_same (vs x) x
      put_same (failed f) = refl
      put_same (form h ps) = ap (form (head_in n h)) (put_parts_same ps)

      pub put_parts_same : (ps : Parts) → put_parts ws (parts_in n ps) ≡ parts_in n (put_parts vs ps)
      put_parts_same none = refl
      put_parts_same (part e ps) = ap (λ x. part x (put_parts ws (parts_in n ps))) (put_same e) ∙ ap (part (expr_in n (put vs e))) (put_parts_same ps)

  only_same : (x : ℕ) (v : Datum) (y : ℕ) → only x (datum_in n v) y ≡ option_map (datum_in n) (only x v y)
  only_same x v y = elim (nat_eq x y) as (λ b. (if b then Some (datum_in n v) else None) ≡ option_map (datum_in n) (if b then Some v else None)) [ true ↦ refl | false ↦ refl ]

  -- a program's text has no channel, no reference and no section
  form_same : (h : code.Head) (ps : Parts) → parts_in n ps ≡ ps → expr_in n (form_of h ps) ≡ form_of h ps
  form_same code_head.Unit ps is = refl
  form_same h ps is = ap (form_of h) is

  mutual
    text_same : (t : Tree) → expr_in n (expr_of t) ≡ expr_of t
    text_same (tree h ts) = form_same h (exprs_of ts) (texts_same ts)

    texts_same : (ts : Trees) → parts_in n (exprs_of ts) ≡ exprs_of ts
    texts_same no_trees = refl
    texts_same (more_trees t ts) = ap (λ e. part e (parts_in n (exprs_of ts))) (text_same t) ∙ ap (part (expr_of t)) (texts_same ts)

  body_by_same : (p : ProgramParts) (o : Option FunctionParts) → expr_in n (body_by p o) ≡ body_by p o
  body_by_same p None = refl
  body_by_same p (Some f) = text_same (body_of p f)

  pub body_same : (p : ProgramParts) (f : ℕ) → expr_in n (body p f) ≡ body p f
  body_same p f = body_by_same p (slice_get p.functions f)

  called_same : (p : ProgramParts) (f : ℕ) (vs : List Datum) → called (body p) f (each (datum_in n) vs) ≡ expr_in n (called (body p) f vs)
  called_same p f vs =
      ap (put (slice_get (each (datum_in n) vs))) (sym (body_same p f))
      ∙ put_same (slice_get vs) (slice_get (each (datum_in n) vs)) (each_get (datum_in n) vs) (body p f)

  -- the redex and what is round it
  abbrev pub frame_in : Frame → Frame
  frame_in f = record { head = head_in n f.head; left = each (datum_in n) f.left; right = parts_in n f.right }

  abbrev redex_with : Redex → Redex
  redex_with r = record { round = each frame_in r.round; head = head_in n r.head; values = each (datum_in n) r.values; waiting = parts_in n r.waiting }

  counts_same : (h : Head) → first_counts_alone (head_in n h) ≡ first_counts_alone h
  counts_same (Two op) = refl
  counts_same h = refl

  after_same : (vs : List Datum) (ps : Parts) → after_values (each (datum_in n) vs) (parts_in n ps) ≡ parts_in n (after_values vs ps)
  after_same [] ps = refl
  after_same (v ∷ vs) ps = ap (part (value (datum_in n v))) (after_same vs ps)

  within_same : (fs : List Frame) (e : Expr) → within (each frame_in fs) (expr_in n e) ≡ expr_in n (within fs e)
  within_same [] e = refl
  within_same (f ∷ fs) e =
      ap (λ ps. within (each frame_in fs) (form (head_in n f.head) ps)) (after_same f.left (part e f.right))
      ∙ within_same fs (form f.head (after_values f.left (part e f.right)))

  mutual
    redex_of_same : (e : Expr) (round : List Frame) → redex_of (expr_in n e) (each frame_in round) ≡ option_map redex_with (redex_of e round)
    redex_of_same (value v) round = refl
    redex_of_same (variable x) round = refl
    redex_of_same (failed f) round = refl
    redex_of_same (form h ps) round = redex_in_same ps h [] round

    redex_in_same : (ps : Parts) (h : Head) (left : List Datum) (round : List Frame) → redex_in (parts_in n ps) (head_in n h) (each (datum_in n) left) (each frame_in round) ≡ option_map redex_with (redex_in ps h left round)
    redex_in_same none h left round = refl
    redex_in_same (part (value v) ps) h left round =
        ap (λ b. if b then Some (record { round = each frame_in round; head = head_in n h; values = datum_in n v ∷ []; waiting = parts_in n ps }) else redex_in (parts_in n ps) (head_in n h) (each (datum_in n) left ++ datum_in n v ∷ []) (each frame_in round)) (counts_same h)
        ∙ (elim (first_counts_alone h) as (λ b. (if b then Some (record { round = each frame_in round; head = head_in n h; values = datum_in n v ∷ []; waiting = parts_in n ps }) else redex_in (parts_in n ps) (head_in n h) (each (datum_in n) left ++ datum_in n v ∷ []) (each frame_in round))
        ≡ option_map redex_with (if b then Some (record { round = round; head = h; values = v ∷ []; waiting = ps }) else redex_in ps h (left ++ v ∷ []) round)) [
          | true ↦ refl
          | false ↦ ap (λ vs. redex_in (parts_in n ps) (head_in n h) vs (each frame_in round)) (sym (each_append (datum_in n) left (v ∷ []))) ∙ redex_in_same ps h (left ++ v ∷ []) round
        ])
    redex_in_same (part (variable x) ps) h left round = refl
    redex_in_same (part (failed f) ps) h left round = refl
    redex_in_same (part (form g qs) ps) h left round = redex_of_same (form g qs) (record { head = h; left = left; right = ps } ∷ round)

  frames_of_same : (o : Option Redex) → frames_of (option_map redex_with o) ≡ each frame_in (frames_of o)
  frames_of_same None = refl
  frames_of_same (Some r) = refl

  pub frames_same : (e : Expr) → frames (expr_in n e) ≡ each frame_in (frames e)
  frames_same e = ap frames_of (redex_of_same e []) ∙ frames_of_same (redex e)

  cap_same : (e : Expr) → cap (expr_in n e) ≡ expr_in n (cap e)
  cap_same e =
      ap (λ k. if nat_lt max_spine k then failed TooDeep else expr_in n e) (ap length (frames_same e) ∙ each_length frame_in (frames e))
      ∙ (elim (nat_lt max_spine (spine e)) as (λ b. (if b then failed TooDeep else expr_in n e) ≡ expr_in n (if b then failed TooDeep else e)) [ true ↦ refl | false ↦ refl ])

  rebuild_same : (e r : Expr) → rebuild (expr_in n e) (expr_in n r) ≡ expr_in n (rebuild e r)
  rebuild_same e r = ap (λ fs. within fs (expr_in n r)) (frames_same e) ∙ within_same (frames e) r

  pub answered_same : (e : Expr) (v : Datum) → answered (expr_in n e) (datum_in n v) ≡ expr_in n (answered e v)
  answered_same e v = ap cap (rebuild_same e (value v)) ∙ cap_same (rebuild e (value v))

  pub entered_same : (e b : Expr) (q : ℕ) → entered (expr_in n e) 0 (expr_in n b) ≡ expr_in n (entered e q b)
  entered_same e b q = ap cap (rebuild_same e (form (Section (record { 0 = q })) (part b none))) ∙ cap_same (rebuild e (form (Section (record { 0 = q })) (part b none)))

  -- what becomes of a redex
  abbrev outcome_in : Outcome → Outcome
  outcome_in (becomes e) = becomes (expr_in n e)
  outcome_in (fails k) = fails k
  outcome_in (acts a) = acts (act_in n a)

  one : (vs : List Datum) (f g : Datum → Outcome) → ((v : Datum) → g (datum_in n v) ≡ outcome_in (f v)) → with_one (each (datum_in n) vs) g ≡ outcome_in (with_one vs f)
  one [] f g h = refl
  one (v ∷ []) f g h = h v
  one (v ∷ w ∷ vs) f g h = refl

  two : (vs : List Datum) (f g : Datum → Datum → Outcome) → ((v w : Datum) → g (datum_in n v) (datum_in n w) ≡ outcome_in (f v w)) → with_two (each (datum_in n) vs) g ≡ outcome_in (with_two vs f)
  two [] f g h = refl
  two (v ∷ []) f g h = refl
  two (v ∷ w ∷ []) f g h = h v w
  two (v ∷ w ∷ u ∷ vs) f g h = refl

  of_truth : (v : Datum) (f g : Bool → Outcome) → ((b : Bool) → g b ≡ outcome_in (f b)) → with_truth (datum_in n v) g ≡ outcome_in (with_truth v f)
  of_truth (truth b) f g h = h b
  of_truth v f g h = refl

  of_number : (v : Datum) (f g : ℤ → Outcome) → ((m : ℤ) → g m ≡ outcome_in (f m)) → with_number (datum_in n v) g ≡ outcome_in (with_number v f)
  of_number (int m) f g h = h m
  of_number v f g h = refl

  of_chan : (v : Datum) (f g : ℕ → Outcome) → ((c : ℕ) → g (n.chan c) ≡ outcome_in (f c)) → with_chan (datum_in n v) g ≡ outcome_in (with_chan v f)
  of_chan (chan c) f g h = h c
  of_chan v f g h = refl

  of_reference : (v : Datum) (f g : ℕ → Outcome) → ((r : ℕ) → g (n.reference r) ≡ outcome_in (f r)) → with_reference (datum_in n v) g ≡ outcome_in (with_reference v f)
  of_reference (reference r) f g h = h r
  of_reference v f g h = refl

  of_pair : (v : Datum) (f g : Datum → Datum → Outcome) → ((a b : Datum) → g (datum_in n a) (datum_in n b) ≡ outcome_in (f a b)) → with_pair (datum_in n v) g ≡ outcome_in (with_pair v f)
  of_pair (pair a b) f g h = h a b
  of_pair v f g h = refl

  of_if : (b : Bool) (x y u w : Outcome) → u ≡ outcome_in x → w ≡ outcome_in y → (if b then u else w) ≡ outcome_in (if b then x else y)
  of_if true x y u w h i = h
  of_if false x y u w h i = i

  number_same : (m : ℤ) → number m ≡ outcome_in (number m)
  number_same m = of_if (fits_word m) _ _ _ _ refl refl

  divided_same : (k m r : ℤ) → divided k m r ≡ outcome_in (divided k m r)
  divided_same k m r = of_if (int_eq m (pos 0)) _ _ _ _ refl (of_if (fits_word (int_div k m)) _ _ _ _ refl refl)

  numbers_same : (v w : Datum) (f : ℤ → ℤ → Outcome) → ((k m : ℤ) → f k m ≡ outcome_in (f k m)) → with_numbers (datum_in n v) (datum_in n w) f ≡ outcome_in (with_numbers v w f)
  numbers_same v w f h = of_number v _ _ (λ k. of_number w _ _ (λ m. h k m))

  waiting_same : (ps : Parts) → waiting_one (parts_in n ps) ≡ outcome_in (waiting_one ps)
  waiting_same none = refl
  waiting_same (part e none) = refl
  waiting_same (part e (part f ps)) = refl

  block_same : (slots : List (Option ℕ)) (ps : Parts) → block_of slots (parts_in n ps) ≡ outcome_in (block_of slots ps)
  block_same [] none = refl
  block_same [] (part e none) = refl
  block_same [] (part e (part f ps)) = refl
  block_same (s ∷ slots) ps = refl

  item_same : (slots : List (Option ℕ)) (v : Datum) (ps : Parts) → after_item slots (datum_in n v) (parts_in n ps) ≡ outcome_in (after_item slots v ps)
  item_same [] v ps = refl
  item_same (None ∷ slots) v ps = block_same slots ps
  item_same (Some x ∷ slots) v ps = ap (block_of slots) (put_parts_same (only x v) (only x (datum_in n v)) (only_same x v) ps) ∙ block_same slots (put_parts (only x v) ps)

  choice_same : (b : Bool) (x y : Expr) → (if b then expr_in n x else expr_in n y) ≡ expr_in n (if b then x else y)
  choice_same true x y = refl
  choice_same false x y = refl

  branch_same : (b : Bool) (ps : Parts) → branch_of b (parts_in n ps) ≡ outcome_in (branch_of b ps)
  branch_same b none = refl
  branch_same b (part x none) = refl
  branch_same b (part x (part y none)) = ap becomes (choice_same b x y)
  branch_same b (part x (part y (part z ps))) = refl

  pair_same : (v w : Datum) → pair_of (datum_in n v) (datum_in n w) ≡ outcome_in (pair_of v w)
  pair_same v w =
      ap (λ b. if b then becomes (value (datum_in n (pair v w))) else fails DeepValue) (limits_same (pair v w))
      ∙ of_if (is_within_limits (pair v w)) _ _ _ _ refl refl

  module _ (is : IsNaming n) where
    equal_same : (v w : Datum) → datum_eq (datum_in n v) (datum_in n w) ≡ datum_eq v w
    equal_same unit unit = refl
    equal_same (truth a) (truth b) = refl
    equal_same (int a) (int b) = refl
    equal_same (text a) (text b) = refl
    equal_same (chan b) (chan c) = same_number n.chan is.chans b c
    equal_same (reference q) (reference r) = same_number n.reference is.references q r
    equal_same (pair a b) (pair c d) = ap (λ x. x && datum_eq (datum_in n b) (datum_in n d)) (equal_same a c) ∙ ap (λ y. datum_eq a c && y) (equal_same b d)
    equal_same v w = refl

    operator_same : (op : Op) (v w : Datum) → by_operator op (datum_in n v) (datum_in n w) ≡ outcome_in (by_operator op v w)
    operator_same Eq v w = ap truth_value (equal_same v w)
    operator_same Ne v w = ap (λ b. truth_value (not b)) (equal_same v w)
    operator_same Lt v w = numbers_same v w _ (λ k m. refl)
    operator_same Le v w = numbers_same v w _ (λ k m. refl)
    operator_same Gt v w = numbers_same v w _ (λ k m. refl)
    operator_same Ge v w = numbers_same v w _ (λ k m. refl)
    operator_same Add v w = numbers_same v w _ (λ k m. number_same (k +ℤ m))
    operator_same Sub v w = numbers_same v w _ (λ k m. number_same (k -ℤ m))
    operator_same Mul v w = numbers_same v w _ (λ k m. number_same (k *ℤ m))
    operator_same Div v w = numbers_same v w _ (λ k m. divided_same k m (int_div k m))
    operator_same Rem v w = numbers_same v w _ (λ k m. divided_same k m (int_rem k m))
    operator_same Or v w = refl
    operator_same And v w = refl

    two_same : (op : Op) (vs : List Datum) (ps : Parts) → two_of op (each (datum_in n) vs) (parts_in n ps) ≡ outcome_in (two_of op vs ps)
    two_same And vs ps = one vs _ _ (λ v. of_truth v _ _ (λ b. of_if b _ _ _ _ (waiting_same ps) refl))
    two_same Or vs ps = one vs _ _ (λ v. of_truth v _ _ (λ b. of_if b _ _ _ _ refl (waiting_same ps)))
    two_same op vs ps = two vs _ _ (operator_same op)

    module _ (p : ProgramParts) where
      outcome_same : (h : Head) (vs : List Datum) (ps : Parts) → outcome (body p) (head_in n h) (each (datum_in n) vs) (parts_in n ps) ≡ outcome_in (outcome (body p) h vs ps)
      outcome_same (Block slots) vs ps = one vs _ _ (λ v. item_same slots v ps)
      outcome_same If vs ps = one vs _ _ (λ v. of_truth v _ _ (λ b. branch_same b ps))
      outcome_same (Two op) vs ps = two_same op vs ps
      outcome_same Not vs ps = one vs _ _ (λ v. of_truth v _ _ (λ b. refl))
      outcome_same Neg vs ps = one vs _ _ (λ v. of_number v _ _ (λ m. number_same (pos 0 -ℤ m)))
      outcome_same Pair vs ps = two vs _ _ pair_same
      outcome_same Fst vs ps = one vs _ _ (λ v. of_pair v _ _ (λ a b. refl))
      outcome_same Snd vs ps = one vs _ _ (λ v. of_pair v _ _ (λ a b. refl))
      outcome_same (Call f) vs ps = ap becomes (called_same p f.0 vs)
      outcome_same (Section m) vs ps = one vs _ _ (λ v. refl)
      outcome_same (Spawn f) vs ps = ap (λ e. acts (spawns e)) (called_same p f.0 vs)
      outcome_same (Stable f) vs ps = ap (λ e. acts (enters e)) (called_same p f.0 vs)
      outcome_same NewChan vs ps = refl
      outcome_same NewRef vs ps = one vs _ _ (λ v. refl)
      outcome_same Get vs ps = one vs _ _ (λ v. of_reference v _ _ (λ r. refl))
      outcome_same Set vs ps = two vs _ _ (λ v w. of_reference v _ _ (λ r. refl))
      outcome_same Send vs ps = two vs _ _ (λ v w. of_chan v _ _ (λ c. refl))
      outcome_same Recv vs ps = one vs _ _ (λ v. of_chan v _ _ (λ c. refl))
      outcome_same Pick vs ps = two vs _ _ (λ v w. of_chan v _ _ (λ c. of_chan w _ _ (λ d. refl)))
      outcome_same Stabilize vs ps = refl
      outcome_same Cut vs ps = refl
      outcome_same Pin vs ps = refl
      outcome_same Print vs ps = one vs _ _ (λ v. refl)
      outcome_same Probe vs ps = refl
      outcome_same Attempt vs ps = refl

      by_same : (round : List Frame) (o : Outcome) → look_by (each frame_in round) (outcome_in o) ≡ look_in n (look_by round o)
      by_same round (becomes e) = ap (λ x. pure (cap x)) (within_same round e) ∙ ap pure (cap_same (within round e))
      by_same round (fails k) = refl
      by_same round (acts a) = refl

      at_same : (o : Option Redex) → look_at (body p) (option_map redex_with o) ≡ look_in n (look_at (body p) o)
      at_same None = refl
      at_same (Some r) = ap (look_by (each frame_in r.round)) (outcome_same r.head r.values r.waiting) ∙ by_same r.round (outcome (body p) r.head r.values r.waiting)

      -- what is next for the renamed expression is the renamed what is next
      pub look_same : (e : Expr) → look (body p) (expr_in n e) ≡ look_in n (look (body p) e)
      look_same (value v) = refl
      look_same (failed k) = refl
      look_same (variable x) = refl
      look_same (form h ps) = ap (look_at (body p)) (redex_of_same (form h ps) []) ∙ at_same (redex (form h ps))
