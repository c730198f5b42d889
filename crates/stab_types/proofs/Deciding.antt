-- The computed types are those of the table.
use Rattle.std.proofs.Common.{◌≡◌, ℕ, Bool, true, false, ◌&&◌, if◌then◌else◌, List, [], ◌∷◌, length, take, slice_get, Option, Some, None, refl, sym, ap, subst, ◌∙◌}
use Rattle.std.specs.Prelude.{option_and_then, option_map}
use Rattle.std.proofs.lemmas.Bool.{false≢true}
use Rattle.stab_base.specs.declared.numbers.FnId.{FnId}
use Rattle.stab_code.specs.declared.head.Head.{Head}
use Rattle.stab_code.specs.declared.head.Head.TheVariants as head
use Rattle.stab_code.specs.declared.head.Head.TheVariants.{Truth, Int, Text, Var, Block, If, Two, Not, Neg, Pair, Fst, Snd, Call, Spawn, Stable, NewChan, NewRef, Get, Set, Send, Recv, Pick, Stabilize, Cut, Pin, Print, Probe, Attempt}
use Rattle.stab_code.specs.declared.head.Op.{Op}
use Rattle.stab_code.specs.declared.head.Op.TheVariants.{Or, And, Eq, Ne}
use Rattle.stab_code.specs.Heads.{slots_of, strict_parts}
use Rattle.stab_code.specs.Program.{FunctionParts}
use Rattle.stab_code.specs.Trees.{Tree, Trees, tree, none, more}
use Rattle.stab_code.specs.Written.{Written, unit_type, bool_type, int_type, text_type, chan_type, ref_type, pair_type}
use Rattle.stab_types.specs.ExprType.{ExprType, of, never, has_never, all_of}
use Rattle.stab_types.specs.Rule.{Rule, from_numbers, block_type, stops, unit_literal, truth_literal, int_literal, text_literal, variable, block, branches, else_branch, then_branch, and_value, and_never, or_value, or_never, numbers, equal, unequal, not, negative, pair, first, second, call, stable, spawn, new_channel, new_reference, get, set, send, receive, pick, stabilize, cut, pin, print, probe, attempt}
use Rattle.stab_types.specs.Typed.{Seen, behind, HasType, HaveTypes}
use Rattle.stab_types.specs.Computed.{written_eq, exactly, of_one, of_two, joined, branches_of, shortcut_of, two_numbers, operator_of, first_of, second_of, held_in, sent_on, given_to, picked_from, called_with, spawned_with, alone, block_of, going, type_by, type_in, types_in}
use Rattle.stab_types.proofs.Putting.{some_is}

pub equal_refl : (a : Written) → written_eq a a ≡ true
equal_refl unit_type = refl
equal_refl bool_type = refl
equal_refl int_type = refl
equal_refl text_type = refl
equal_refl (chan_type a) = equal_refl a
equal_refl (ref_type a) = equal_refl a
equal_refl (pair_type a b) = ap (λ x. x && written_eq b b) (equal_refl a) ∙ equal_refl b

both_true : (x y : Bool) → (x && y) ≡ true → (x ≡ true) × (y ≡ true)
both_true true y h = (refl, h)
both_true false y h = absurd (false≢true h)

pub equal_is : (a b : Written) → written_eq a b ≡ true → a ≡ b
equal_is unit_type unit_type h = refl
equal_is bool_type bool_type h = refl
equal_is int_type int_type h = refl
equal_is text_type text_type h = refl
equal_is (chan_type a) (chan_type b) h = ap chan_type (equal_is a b h)
equal_is (ref_type a) (ref_type b) h = ap ref_type (equal_is a b h)
equal_is (pair_type a b) (pair_type c d) h = let parts = both_true (written_eq a c) (written_eq b d) h in ap (λ x. pair_type x b) (equal_is a c parts.0) ∙ ap (pair_type c) (equal_is b d parts.1)
equal_is _ _ h = absurd (false≢true h)

-- what a test of equal types answers
if_equal : (a b : Written) (x : Option ExprType) (u : ExprType) → (if written_eq a b then x else None) ≡ Some u → (a ≡ b) × (x ≡ Some u)
if_equal a b x u h =
    elim (written_eq a b) as (λ c. written_eq a b ≡ c → (if c then x else None) ≡ Some u → (a ≡ b) × (x ≡ Some u)) [
      | true ↦ λ e h. (equal_is a b e, h)
      | false ↦ λ e h. absurd (cc)
    ] refl h

equal_then : (a : Written) (x : Option ExprType) → (if written_eq a a then x else None) ≡ x
equal_then a x = ap (λ b. if b then x else None) (equal_refl a)

exactly_all : (bs : List Written) (t : ExprType) → exactly (all_of bs) bs t ≡ Some t
exactly_all [] t = refl
exactly_all (b ∷ bs) t = equal_then b (exactly (all_of bs) bs t) ∙ exactly_all bs t

exactly_is : (ts : List ExprType) (bs : List Written) (t u : ExprType) → exactly ts bs t ≡ Some u → (ts ≡ all_of bs) × (t ≡ u)
exactly_is [] [] t u h = (refl, some_is h)
exactly_is ((of a) ∷ ts) (b ∷ bs) t u h =
    let same = if_equal a b (exactly ts bs t) u h in
    let rest = exactly_is ts bs t u same.1 in
    (ap (λ x. of x ∷ ts) same.0 ∙ ap (λ xs. of b ∷ xs) rest.0, rest.1)
exactly_is _ _ t u h = absurd (cc)

all_go : (bs : List Written) → has_never (take (length (all_of bs)) (all_of bs)) ≡ false
all_go [] = refl
all_go (b ∷ bs) = all_go bs

module _ (functions : List FunctionParts) (seen : Seen) where
  abbrev Has : Head → List ExprType → ExprType → Type 0
  Has h ts u = Rule functions seen h ts u

  by_exact : (h : Head) (bs : List Written) (t : ExprType) → Has h (all_of bs) t → (ts : List ExprType) (u : ExprType) → exactly ts bs t ≡ Some u → Has h ts u
  by_exact h bs t rule ts u e = let is = exactly_is ts bs t u e in subst (λ (us : List ExprType). Has h us u) (sym is.0) (subst (λ (x : ExprType). Has h (all_of bs) x) is.1 rule)

  by_one : (h : Head) (k : Written → Option ExprType) → ((a : Written) (u : ExprType) → k a ≡ Some u → Has h (of a ∷ []) u) → (ts : List ExprType) (u : ExprType) → of_one ts k ≡ Some u → Has h ts u
  by_one h k f ((of a) ∷ []) u e = f a u e
  by_one h k f _ u e = absurd (cc)

  by_two : (h : Head) (k : Written → Written → Option ExprType) → ((a b : Written) (u : ExprType) → k a b ≡ Some u → Has h (of a ∷ of b ∷ []) u) → (ts : List ExprType) (u : ExprType) → of_two ts k ≡ Some u → Has h ts u
  by_two h k f ((of a) ∷ (of b) ∷ []) u e = f a b u e
  by_two h k f _ u e = absurd (cc)

  as_type : (h : Head) (ts : List ExprType) (t u : ExprType) → Has h ts t → Some t ≡ Some u → Has h ts u
  as_type h ts t u rule e = subst (Has h ts) (some_is e) rule

  alone_has : (x : ℕ) (ts : List ExprType) (u : ExprType) → alone ts (seen x) ≡ Some u → Has (Var x) ts u
  alone_has x [] u e = variable e
  alone_has x (t ∷ ts) u e = absurd (cc)

  block_has : (slots : List (Option ℕ)) (ts : List ExprType) (u : ExprType) → block_of slots ts ≡ Some u → Has (Block slots) ts u
  block_has [] ts u e = absurd (cc)
  block_has (slot ∷ slots) ts u e = block e

  joined_has : (s t u : ExprType) → joined s t ≡ Some u → Has If (of bool_type ∷ s ∷ t ∷ []) u
  joined_has never t u e = as_type If _ t u else_branch e
  joined_has (of a) never u e = as_type If _ (of a) u then_branch e
  joined_has (of a) (of b) u e =
      let same = if_equal a b (Some (of a)) u e in
      as_type If _ (of a) u (subst (λ (x : Written). Has If (of bool_type ∷ of a ∷ of x ∷ []) (of a)) same.0 branches) same.1

  branches_has : (ts : List ExprType) (u : ExprType) → branches_of ts ≡ Some u → Has If ts u
  branches_has ((of a) ∷ s ∷ t ∷ []) u e =
      let same = if_equal a bool_type (joined s t) u e in
      subst (λ (x : Written). Has If (of x ∷ s ∷ t ∷ []) u) (sym same.0) (joined_has s t u same.1)
  branches_has _ u e = absurd (cc)

  and_has : (ts : List ExprType) (u : ExprType) → shortcut_of ts ≡ Some u → Has (Two And) ts u
  and_has ((of a) ∷ never ∷ []) u e =
      let same = if_equal a bool_type (Some (of bool_type)) u e in
      subst (λ (x : Written). Has (Two And) (of x ∷ never ∷ []) u) (sym same.0) (as_type (Two And) _ (of bool_type) u and_never same.1)
  and_has ((of a) ∷ (of b) ∷ []) u e =
      let same = if_equal a bool_type (if written_eq b bool_type then Some (of bool_type) else None) u e in
      let also = if_equal b bool_type (Some (of bool_type)) u same.1 in
      subst (λ (x : Written). Has (Two And) (of x ∷ of b ∷ []) u) (sym same.0)
      (subst (λ (x : Written). Has (Two And) (of bool_type ∷ of x ∷ []) u) (sym also.0) (as_type (Two And) _ (of bool_type) u and_value also.1))
  and_has _ u e = absurd (cc)

  or_has : (ts : List ExprType) (u : ExprType) → shortcut_of ts ≡ Some u → Has (Two Or) ts u
  or_has ((of a) ∷ never ∷ []) u e =
      let same = if_equal a bool_type (Some (of bool_type)) u e in
      subst (λ (x : Written). Has (Two Or) (of x ∷ never ∷ []) u) (sym same.0) (as_type (Two Or) _ (of bool_type) u or_never same.1)
  or_has ((of a) ∷ (of b) ∷ []) u e =
      let same = if_equal a bool_type (if written_eq b bool_type then Some (of bool_type) else None) u e in
      let also = if_equal b bool_type (Some (of bool_type)) u same.1 in
      subst (λ (x : Written). Has (Two Or) (of x ∷ of b ∷ []) u) (sym same.0)
      (subst (λ (x : Written). Has (Two Or) (of bool_type ∷ of x ∷ []) u) (sym also.0) (as_type (Two Or) _ (of bool_type) u or_value also.1))
  or_has _ u e = absurd (cc)

  numbers_has : (op : Op) (o : Option Written) (ts : List ExprType) (u : ExprType) → from_numbers op ≡ o → two_numbers o ts ≡ Some u → Has (Two op) ts u
  numbers_has op None ts u is e = absurd (cc)
  numbers_has op (Some a) ts u is e = by_exact (Two op) (int_type ∷ int_type ∷ []) (of a) (numbers is) ts u e

  operator_has : (op : Op) (ts : List ExprType) (u : ExprType) → operator_of op ts ≡ Some u → Has (Two op) ts u
  operator_has And ts u e = and_has ts u e
  operator_has Or ts u e = or_has ts u e
  operator_has Eq ts u e = by_two (Two Eq) (λ a b. Some (of bool_type)) (λ a b v is. as_type (Two Eq) _ (of bool_type) v equal is) ts u e
  operator_has Ne ts u e = by_two (Two Ne) (λ a b. Some (of bool_type)) (λ a b v is. as_type (Two Ne) _ (of bool_type) v unequal is) ts u e
  operator_has op ts u e = numbers_has op (from_numbers op) ts u refl e

  first_has : (a : Written) (u : ExprType) → first_of a ≡ Some u → Has Fst (of a ∷ []) u
  first_has (pair_type a b) u e = as_type Fst _ (of a) u first e
  first_has _ u e = absurd (cc)

  second_has : (a : Written) (u : ExprType) → second_of a ≡ Some u → Has Snd (of a ∷ []) u
  second_has (pair_type a b) u e = as_type Snd _ (of b) u second e
  second_has _ u e = absurd (cc)

  get_has : (a : Written) (u : ExprType) → option_map of (held_in a) ≡ Some u → Has Get (of a ∷ []) u
  get_has (ref_type a) u e = as_type Get _ (of a) u get e
  get_has _ u e = absurd (cc)

  receive_has : (a : Written) (u : ExprType) → option_map of (sent_on a) ≡ Some u → Has Recv (of a ∷ []) u
  receive_has (chan_type a) u e = as_type Recv _ (of a) u receive e
  receive_has _ u e = absurd (cc)

  set_has : (a b : Written) (u : ExprType) → given_to (held_in a) b ≡ Some u → Has Set (of a ∷ of b ∷ []) u
  set_has (ref_type a) b u e =
      let same = if_equal a b (Some (of unit_type)) u e in
      as_type Set _ (of unit_type) u (subst (λ (x : Written). Has Set (of (ref_type a) ∷ of x ∷ []) (of unit_type)) same.0 set) same.1
  set_has _ b u e = absurd (cc)

  send_has : (a b : Written) (u : ExprType) → given_to (sent_on a) b ≡ Some u → Has Send (of a ∷ of b ∷ []) u
  send_has (chan_type a) b u e =
      let same = if_equal a b (Some (of unit_type)) u e in
      as_type Send _ (of unit_type) u (subst (λ (x : Written). Has Send (of (chan_type a) ∷ of x ∷ []) (of unit_type)) same.0 send) same.1
  send_has _ b u e = absurd (cc)

  pick_has : (a b : Written) (u : ExprType) → picked_from (sent_on a) (sent_on b) ≡ Some u → Has Pick (of a ∷ of b ∷ []) u
  pick_has (chan_type a) (chan_type b) u e =
      let same = if_equal a b (Some (of (pair_type int_type a))) u e in
      as_type Pick _ (of (pair_type int_type a)) u (subst (λ (x : Written). Has Pick (of (chan_type a) ∷ of (chan_type x) ∷ []) (of (pair_type int_type a))) same.0 pick) same.1
  pick_has _ _ u e = absurd (cc)

  call_has : (f : FnId) (o : Option FunctionParts) (ts : List ExprType) (u : ExprType) → slice_get functions f.0 ≡ o → called_with o ts ≡ Some u → Has (Call f) ts u
  call_has f None ts u is e = absurd (cc)
  call_has f (Some callee) ts u is e = by_exact (Call f) callee.takes (of callee.gives) (call is) ts u e

  stable_has : (f : FnId) (o : Option FunctionParts) (ts : List ExprType) (u : ExprType) → slice_get functions f.0 ≡ o → called_with o ts ≡ Some u → Has (Stable f) ts u
  stable_has f None ts u is e = absurd (cc)
  stable_has f (Some callee) ts u is e = by_exact (Stable f) callee.takes (of callee.gives) (stable is) ts u e

  spawn_has : (f : FnId) (o : Option FunctionParts) (ts : List ExprType) (u : ExprType) → slice_get functions f.0 ≡ o → spawned_with o ts ≡ Some u → Has (Spawn f) ts u
  spawn_has f None ts u is e = absurd (cc)
  spawn_has f (Some callee) ts u is e = by_exact (Spawn f) callee.takes (of unit_type) (spawn is) ts u e

  going_has : (h : Head) (ts : List ExprType) (u : ExprType) → going functions seen h ts ≡ Some u → Has h ts u
  going_has head.Unit ts u e = by_exact head.Unit [] (of unit_type) unit_literal ts u e
  going_has (Truth b) ts u e = by_exact (Truth b) [] (of bool_type) (truth_literal b) ts u e
  going_has (Int n) ts u e = by_exact (Int n) [] (of int_type) (int_literal n) ts u e
  going_has (Text t) ts u e = by_exact (Text t) [] (of text_type) (text_literal t) ts u e
  going_has (Var x) ts u e = alone_has x ts u e
  going_has (Block slots) ts u e = block_has slots ts u e
  going_has If ts u e = branches_has ts u e
  going_has (Two op) ts u e = operator_has op ts u e
  going_has Not ts u e = by_exact Not (bool_type ∷ []) (of bool_type) not ts u e
  going_has Neg ts u e = by_exact Neg (int_type ∷ []) (of int_type) negative ts u e
  going_has Pair ts u e = by_two Pair (λ a b. Some (of (pair_type a b))) (λ a b v is. as_type Pair _ (of (pair_type a b)) v pair is) ts u e
  going_has Fst ts u e = by_one Fst first_of first_has ts u e
  going_has Snd ts u e = by_one Snd second_of second_has ts u e
  going_has (Call f) ts u e = call_has f (slice_get functions f.0) ts u refl e
  going_has (Stable f) ts u e = stable_has f (slice_get functions f.0) ts u refl e
  going_has (Spawn f) ts u e = spawn_has f (slice_get functions f.0) ts u refl e
  going_has (NewChan a) ts u e = by_exact (NewChan a) [] (of (chan_type a)) new_channel ts u e
  going_has NewRef ts u e = by_one NewRef (λ a. Some (of (ref_type a))) (λ a v is. as_type NewRef _ (of (ref_type a)) v new_reference is) ts u e
  going_has Get ts u e = by_one Get (λ a. option_map of (held_in a)) get_has ts u e
  going_has Set ts u e = by_two Set (λ a b. given_to (held_in a) b) set_has ts u e
  going_has Send ts u e = by_two Send (λ a b. given_to (sent_on a) b) send_has ts u e
  going_has Recv ts u e = by_one Recv (λ a. option_map of (sent_on a)) receive_has ts u e
  going_has Pick ts u e = by_two Pick (λ a b. picked_from (sent_on a) (sent_on b)) pick_has ts u e
  going_has Stabilize ts u e = by_exact Stabilize [] never stabilize ts u e
  going_has Cut ts u e = by_exact Cut [] (of unit_type) cut ts u e
  going_has Pin ts u e = by_exact Pin [] (of unit_type) pin ts u e
  going_has Print ts u e = by_one Print (λ a. Some (of unit_type)) (λ a v is. as_type Print _ (of unit_type) v print is) ts u e
  going_has Probe ts u e = by_exact Probe [] (of int_type) probe ts u e
  going_has Attempt ts u e = by_exact Attempt [] (of int_type) attempt ts u e

  -- what is computed is a type by the table
  pub computed_has : (h : Head) (ts : List ExprType) (u : ExprType) → type_by functions seen h ts ≡ Some u → Has h ts u
  computed_has h ts u e =
      elim (has_never (take (strict_parts h (length ts)) ts)) as (λ b. has_never (take (strict_parts h (length ts)) ts) ≡ b → (if b then Some never else going functions seen h ts) ≡ Some u → Has h ts u) [
        | true ↦ λ is e. subst (Has h ts) (some_is e) (stops is)
        | false ↦ λ is e. going_has h ts u e
      ] refl e

  joined_same : (t : ExprType) → joined t t ≡ Some t
  joined_same never = refl
  joined_same (of a) = equal_then a (Some (of a))

  joined_first : (t : ExprType) → joined t never ≡ Some t
  joined_first never = refl
  joined_first (of a) = refl

  block_computed : (slot : Option ℕ) (slots : List (Option ℕ)) (ts : List ExprType) (u : ExprType) → block_type (slot ∷ slots) ts ≡ Some u → type_by functions seen (Block (slot ∷ slots)) ts ≡ Some u
  block_computed slot slots [] u e = e
  block_computed slot slots ((of a) ∷ ts) u e = e
  block_computed slot slots (never ∷ ts) u e = elim (block_type slots ts) as (λ o. option_map (λ _. never) o ≡ Some u → Some never ≡ Some u) [ None ↦ λ e. absurd (cc) | (Some t) ↦ λ e. e ] e

  numbers_computed : (op : Op) (a : Written) → from_numbers op ≡ Some a → type_by functions seen (Two op) (of int_type ∷ of int_type ∷ []) ≡ Some (of a)
  numbers_computed And a e = absurd (cc)
  numbers_computed Or a e = absurd (cc)
  numbers_computed Eq a e = absurd (cc)
  numbers_computed Ne a e = absurd (cc)
  numbers_computed _ a e = ap (option_map of) e

  unless_never : (ts : List ExprType) (n : ℕ) (x : Option ExprType) (u : ExprType) → has_never (take n ts) ≡ false → x ≡ Some u → (if has_never (take n ts) then Some never else x) ≡ Some u
  unless_never ts n x u go is = ap (λ b. if b then Some never else x) go ∙ is

  -- each type by the table is computed
  pub has_computed : (h : Head) (ts : List ExprType) (u : ExprType) → Has h ts u → type_by functions seen h ts ≡ Some u
  has_computed h ts u (stops e) = ap (λ b. if b then Some never else going functions seen h ts) e
  has_computed h ts u unit_literal = refl
  has_computed h ts u (truth_literal b) = refl
  has_computed h ts u (int_literal n) = refl
  has_computed h ts u (text_literal t) = refl
  has_computed h ts u (variable e) = e
  has_computed h ts u (block {slot = slot} {slots = slots} e) = block_computed slot slots ts u e
  has_computed h ts u branches = joined_same u
  has_computed h ts u else_branch = refl
  has_computed h ts u then_branch = joined_first u
  has_computed h ts u and_value = refl
  has_computed h ts u and_never = refl
  has_computed h ts u or_value = refl
  has_computed h ts u or_never = refl
  has_computed h ts u (numbers {op = op} {a = a} e) = numbers_computed op a e
  has_computed h ts u equal = refl
  has_computed h ts u unequal = refl
  has_computed h ts u not = refl
  has_computed h ts u negative = refl
  has_computed h ts u pair = refl
  has_computed h ts u first = refl
  has_computed h ts u second = refl
  has_computed h ts u (call {f = f} {callee = callee} e) = unless_never ts (length ts) _ u (all_go callee.takes) (ap (λ o. called_with o ts) e ∙ exactly_all callee.takes u)
  has_computed h ts u (stable {f = f} {callee = callee} e) = unless_never ts (length ts) _ u (all_go callee.takes) (ap (λ o. called_with o ts) e ∙ exactly_all callee.takes u)
  has_computed h ts u (spawn {f = f} {callee = callee} e) = unless_never ts (length ts) _ u (all_go callee.takes) (ap (λ o. spawned_with o ts) e ∙ exactly_all callee.takes u)
  has_computed h ts u new_channel = refl
  has_computed h ts u new_reference = refl
  has_computed h ts u get = refl
  has_computed h ts u (set {a = a}) = equal_then a (Some (of unit_type))
  has_computed h ts u (send {a = a}) = equal_then a (Some (of unit_type))
  has_computed h ts u receive = refl
  has_computed h ts u (pick {a = a}) = equal_then a (Some (of (pair_type int_type a)))
  has_computed h ts u stabilize = refl
  has_computed h ts u cut = refl
  has_computed h ts u pin = refl
  has_computed h ts u print = refl
  has_computed h ts u probe = refl
  has_computed h ts u attempt = refl

module _ (functions : List FunctionParts) where
  then_some : {X Y : Type 0} (f : X → Option Y) (o : Option X) (y : Y) → option_and_then f o ≡ Some y → (x : X) × (o ≡ Some x) × (f x ≡ Some y)
  then_some f None y e = absurd (cc)
  then_some f (Some x) y e = (x, refl, e)

  map_some : {X Y : Type 0} (f : X → Y) (o : Option X) (y : Y) → option_map f o ≡ Some y → (x : X) × (o ≡ Some x) × (f x ≡ y)
  map_some f None y e = absurd (cc)
  map_some f (Some x) y e = (x, refl, some_is e)

  mutual
    -- a text has the type that is computed
    pub in_has : (seen : Seen) (x : Tree) (u : ExprType) → type_in functions seen x ≡ Some u → HasType functions seen x u
    in_has seen (tree h parts) u e =
        let t = then_some (type_by functions seen h) (types_in functions seen (slots_of h) parts) u e in
        (t.0, ins_have seen (slots_of h) parts t.0 t.1, computed_has functions seen h t.0 u t.2)

    ins_have : (seen : Seen) (slots : List (Option ℕ)) (parts : Trees) (ts : List ExprType) → types_in functions seen slots parts ≡ Some ts → HaveTypes functions seen slots parts ts
    ins_have seen [] none ts e = subst (HaveTypes functions seen [] none) (some_is e) tt
    ins_have seen (slot ∷ slots) none ts e = subst (HaveTypes functions seen (slot ∷ slots) none) (some_is e) tt
    ins_have seen [] (more x parts) ts e =
        let t = then_some (λ t. option_map (λ ts. t ∷ ts) (types_in functions seen [] parts)) (type_in functions seen x) ts e in
        let us = map_some (λ us. t.0 ∷ us) (types_in functions seen [] parts) ts t.2 in
        subst (HaveTypes functions seen [] (more x parts)) us.2 (in_has seen x t.0 t.1, ins_have seen [] parts us.0 us.1)
    ins_have seen (slot ∷ slots) (more x parts) ts e =
        let t = then_some (λ t. option_map (λ ts. t ∷ ts) (types_in functions (behind slot t seen) slots parts)) (type_in functions seen x) ts e in
        let us = map_some (λ us. t.0 ∷ us) (types_in functions (behind slot t.0 seen) slots parts) ts t.2 in
        subst (HaveTypes functions seen (slot ∷ slots) (more x parts)) us.2 (in_has seen x t.0 t.1, ins_have (behind slot t.0 seen) slots parts us.0 us.1)

  mutual
    -- each type that a text has is computed, so a text has one type at most
    pub has_in : (seen : Seen) (x : Tree) (u : ExprType) → HasType functions seen x u → type_in functions seen x ≡ Some u
    has_in seen (tree h parts) u has = ap (option_and_then (type_by functions seen h)) (have_ins seen (slots_of h) parts has.0 has.1) ∙ has_computed functions seen h has.0 u has.2

    have_ins : (seen : Seen) (slots : List (Option ℕ)) (parts : Trees) (ts : List ExprType) → HaveTypes functions seen slots parts ts → types_in functions seen slots parts ≡ Some ts
    have_ins seen [] none [] has = refl
    have_ins seen (slot ∷ slots) none [] has = refl
    have_ins seen [] none (t ∷ ts) has = absurd has
    have_ins seen (slot ∷ slots) none (t ∷ ts) has = absurd has
    have_ins seen [] (more x parts) [] has = absurd has
    have_ins seen (slot ∷ slots) (more x parts) [] has = absurd has
    have_ins seen [] (more x parts) (t ∷ ts) has =
        ap (option_and_then (λ t. option_map (λ ts. t ∷ ts) (types_in functions seen [] parts))) (has_in seen x t has.0)
        ∙ ap (option_map (λ ts. t ∷ ts)) (have_ins seen [] parts ts has.1)
    have_ins seen (slot ∷ slots) (more x parts) (t ∷ ts) has =
        ap (option_and_then (λ t. option_map (λ ts. t ∷ ts) (types_in functions (behind slot t seen) slots parts))) (has_in seen x t has.0)
        ∙ ap (option_map (λ ts. t ∷ ts)) (have_ins (behind slot t seen) slots parts ts has.1)
