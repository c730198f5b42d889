-- The types of forms from the numbers of their parts' types.
use Rattle.std.proofs.Common.{◌≡◌, ℕ, zero, suc, ◌+◌, ◌<◌, ◌≤◌, nat_lt, nat_eq, true, false, ◌&&◌, if◌then◌else◌, List, [], ◌∷◌, length, take, get_or, map, Option, Some, None, refl, sym, ap, subst, ◌∙◌, arith, IfSome}
use Rattle.std.specs.Prelude.{option_map, slice_get, Result, Ok, Err, IfOk}
use Rattle.std.specs.List.{list_any, AllByRecursion}
use Rattle.std.proofs.lemmas.Option.{slice_get_within}
use Rattle.stab_code.specs.declared.head.Op.{Op}
use Rattle.stab_code.specs.declared.head.Head.TheVariants.{Var, Call, Stable, Spawn}
use Rattle.stab_code.specs.Program.{FunctionParts}
use Rattle.stab_types.specs.declared.given.Signature.{Signature}
use Rattle.stab_types.specs.Typed.{Seen}
use Rattle.std.proofs.lemmas.Bool.{false≢true, eqb-true}
use Rattle.std.proofs.lemmas.Bool.Decides.{nat_tests}
use Rattle.stab_code.specs.Written.{Written, unit_type}
use Rattle.type_table.specs.declared.shape.TypeId.{TypeId}
use Rattle.type_table.specs.Table.{type_at, IsLonger}
use Rattle.type_table.proofs.Types.{id, longer_refl, longer_trans}
use Rattle.stab_types.specs.declared.given.Given.{Given}
use Rattle.stab_types.specs.declared.given.Given.TheVariants.{Of, Never}
use Rattle.stab_types.specs.ExprType.{ExprType, of, never, has_never}
use Rattle.stab_types.specs.Computed.{written_eq, exactly, of_one, of_two, block_of, operator_of, called_with, spawned_with, plain_type, going, alone, type_by}
use Rattle.stab_types.specs.Rule.{block_type}
use Rattle.stab_code.specs.declared.head.Head.{Head}
use Rattle.stab_code.specs.Heads.{strict_parts}
use Rattle.stab_types.specs.Given.{type_of, is_below, AreBelow, AreSeenBelow, AreSignatures, IsComputed, seen_in, seen_of}
use Rattle.stab_types.specs.Rows.{is_never, one_given, two_given, are_given}
use Rattle.stab_types.proofs.Deciding.{equal_refl, equal_is}
use Rattle.stab_types.proofs.Putting.{some_is}
use Rattle.stab_types.proofs.Judging.{function_at, same_length, takes_are, gives_is, gives_low, takes_low}

pub below_is : (a n : ℕ) → nat_lt a n ≡ true → a < n
below_is a n h = grind (arith, nat_tests)

pub is_lt : (a n : ℕ) → a < n → nat_lt a n ≡ true
is_lt a n h = grind (arith, nat_tests)

-- no type
pub none_computed : (types : List Written) (F : List Written → Option ExprType) → ((all : List Written) → F all ≡ None) → IsComputed types types None F
none_computed types F h = record { longer = longer_refl types; below = tt; is = λ all l. sym (h all) }

pub none_later : (old new : List Written) (F : List Written → Option ExprType) → IsLonger old new → ((all : List Written) → IsLonger new all → F all ≡ None) → IsComputed old new None F
none_later old new F longer h = record { longer = longer; below = tt; is = λ all l. sym (h all l) }

-- a type of the table
pub some_computed : (old new : List Written) (n : TypeId) (F : List Written → Option ExprType) → IsLonger old new → n.0 < length new → ((all : List Written) → IsLonger new all → Some (of (type_at all n)) ≡ F all) → IsComputed old new (Some (Of n)) F
some_computed old new n F longer within h = record { longer = longer; below = is_lt n.0 (length new) within; is = h }

pub exactly_none : (all : List Written) (gs : List Given) (t : ExprType) → 0 < length gs → exactly (map (type_of all) gs) [] t ≡ None
exactly_none all [] t h = absurd (omega arith)
exactly_none all (Never ∷ gs) t h = refl
exactly_none all ((Of a) ∷ gs) t h = refl

pub exactly_empty : (all : List Written) (gs : List Given) (t : ExprType) → length gs ≡ 0 → exactly (map (type_of all) gs) [] t ≡ Some t
exactly_empty all [] t h = refl
exactly_empty all (g ∷ gs) t h = absurd (omega arith)

pub one_none : (gs : List Given) → None ≡ one_given gs → (all : List Written) (k : Written → Option ExprType) → of_one (map (type_of all) gs) k ≡ None
one_none [] h all k = refl
one_none (Never ∷ gs) h all k = refl
one_none ((Of a) ∷ []) h all k = absurd (cc)
one_none ((Of a) ∷ g ∷ gs) h all k = refl

pub one_some : (gs : List Given) (a : TypeId) → Some a ≡ one_given gs → gs ≡ Of a ∷ []
one_some [] a h = absurd (cc)
one_some (Never ∷ gs) a h = absurd (cc)
one_some ((Of b) ∷ []) a h = let same : a ≡ b = cc in ap (λ x. Of x ∷ []) (sym same)
one_some ((Of b) ∷ g ∷ gs) a h = absurd (cc)

pub two_none : (gs : List Given) → None ≡ two_given gs → (all : List Written) (k : Written → Written → Option ExprType) → of_two (map (type_of all) gs) k ≡ None
two_none [] h all k = refl
two_none (Never ∷ gs) h all k = refl
two_none ((Of a) ∷ []) h all k = refl
two_none ((Of a) ∷ Never ∷ gs) h all k = refl
two_none ((Of a) ∷ (Of b) ∷ []) h all k = absurd (cc)
two_none ((Of a) ∷ (Of b) ∷ g ∷ gs) h all k = refl

pub two_some : (gs : List Given) (a b : TypeId) → Some (a, b) ≡ two_given gs → gs ≡ Of a ∷ Of b ∷ []
two_some [] a b h = absurd (cc)
two_some (Never ∷ gs) a b h = absurd (cc)
two_some ((Of x) ∷ []) a b h = absurd (cc)
two_some ((Of x) ∷ Never ∷ gs) a b h = absurd (cc)
two_some ((Of x) ∷ (Of y) ∷ []) a b h = let e : (a, b) ≡ (x, y) = some_is h in let first : a ≡ x = ap (λ (p : TypeId × TypeId). p.0) e in let second : b ≡ y = ap (λ (p : TypeId × TypeId). p.1) e in ap (λ z. Of z ∷ Of y ∷ []) (sym first) ∙ ap (λ z. Of a ∷ Of z ∷ []) (sym second)
two_some ((Of x) ∷ (Of y) ∷ g ∷ gs) a b h = absurd (cc)

-- equal numbers, equal types
abbrev pub Apart : List Written → Type 0
Apart types = (all : List Written) → IsLonger types all → (m n : TypeId) → m.0 < length types → n.0 < length types → type_at all m ≡ type_at all n → m ≡ n

pub same_test : (types : List Written) → Apart types → (all : List Written) → IsLonger types all → (m n : TypeId) → m.0 < length types → n.0 < length types → written_eq (type_at all m) (type_at all n) ≡ nat_eq m.0 n.0
same_test types apart all l m n low high =
    elim (written_eq (type_at all m) (type_at all n)) as (λ b. written_eq (type_at all m) (type_at all n) ≡ b → b ≡ nat_eq m.0 n.0) [
      | true ↦ λ e. let same : m.0 ≡ n.0 = ap (λ (k : TypeId). k.0) (apart all l m n low high (equal_is (type_at all m) (type_at all n) e)) in grind (arith, nat_tests)
      | false ↦ λ e. elim (nat_eq m.0 n.0) as (λ b. nat_eq m.0 n.0 ≡ b → false ≡ b) [
        | true ↦ λ f. absurd (false≢true (sym e ∙ ap (λ k. written_eq (type_at all (id k)) (type_at all n)) (eqb-true m.0 n.0 f) ∙ equal_refl (type_at all n)))
        | false ↦ λ f. refl
      ] refl
    ] refl

-- ---- types as wanted

pub are_lengths : (gs : List Given) (ns : List TypeId) → (length gs ≡ length ns → ⊥) → false ≡ are_given gs ns
are_lengths [] [] h = absurd (h refl)
are_lengths [] (n ∷ ns) h = refl
are_lengths (Never ∷ gs) ns h = refl
are_lengths ((Of a) ∷ gs) [] h = refl
are_lengths ((Of a) ∷ gs) (n ∷ ns) h =
    elim (nat_eq a.0 n.0) as (λ b. false ≡ (b && are_given gs ns)) [ true ↦ are_lengths gs ns (λ e. h (ap suc e)) | false ↦ refl ]

-- ---- blocks

block_length : (all : List Written) (slots : List (Option ℕ)) (gs : List Given) → (length gs ≡ length slots + 1 → ⊥) → block_type slots (map (type_of all) gs) ≡ None
block_length all [] [] h = refl
block_length all [] (g ∷ []) h = absurd (h (omega arith))
block_length all [] (g ∷ x ∷ gs) h = refl
block_length all (slot ∷ slots) [] h = refl
block_length all (slot ∷ slots) ((Of a) ∷ gs) h = block_length all slots gs (λ e. h (omega (arith, e)))
block_length all (slot ∷ slots) (Never ∷ gs) h = ap (option_map (λ _. never)) (block_length all slots gs (λ e. h (omega (arith, e))))

block_last : (all : List Written) (slots : List (Option ℕ)) (gs : List Given) (d : Given) → length gs ≡ length slots + 1 → list_any is_never (take (length slots) gs) ≡ false → block_type slots (map (type_of all) gs) ≡ Some (type_of all (get_or gs (length slots) d))
block_last all [] [] d size h = absurd (omega arith)
block_last all [] (g ∷ []) d size h = refl
block_last all [] (g ∷ x ∷ gs) d size h = absurd (omega arith)
block_last all (slot ∷ slots) [] d size h = absurd (omega arith)
block_last all (slot ∷ slots) ((Of a) ∷ gs) d size h = block_last all slots gs d (omega arith) h
block_last all (slot ∷ slots) (Never ∷ gs) d size h = absurd (false≢true (sym h))

block_some : (all : List Written) (slots : List (Option ℕ)) (gs : List Given) → length gs ≡ length slots + 1 → (t : ExprType) × (block_type slots (map (type_of all) gs) ≡ Some t)
block_some all [] [] size = absurd (omega arith)
block_some all [] (g ∷ []) size = (type_of all g, refl)
block_some all [] (g ∷ x ∷ gs) size = absurd (omega arith)
block_some all (slot ∷ slots) [] size = absurd (omega arith)
block_some all (slot ∷ slots) ((Of a) ∷ gs) size = block_some all slots gs (omega arith)
block_some all (slot ∷ slots) (Never ∷ gs) size = let t = block_some all slots gs (omega arith) in (never, ap (option_map (λ _. never)) t.1)

block_never : (all : List Written) (slots : List (Option ℕ)) (gs : List Given) → length gs ≡ length slots + 1 → list_any is_never (take (length slots) gs) ≡ true → block_type slots (map (type_of all) gs) ≡ Some never
block_never all [] gs size h = absurd (false≢true h)
block_never all (slot ∷ slots) [] size h = absurd (omega arith)
block_never all (slot ∷ slots) ((Of a) ∷ gs) size h = block_never all slots gs (omega arith) h
block_never all (slot ∷ slots) (Never ∷ gs) size h = let t = block_some all slots gs (omega arith) in ap (option_map (λ _. never)) t.1

block_item : (slots : List (Option ℕ)) (ts : List ExprType) → (length slots ≡ 0 → ⊥) → block_of slots ts ≡ block_type slots ts
block_item [] ts h = absurd (h refl)
block_item (slot ∷ slots) ts h = refl

at_below : (n : ℕ) (gs : List Given) (i : ℕ) (d : Given) → i < length gs → AreBelow n gs → is_below n (get_or gs i d) ≡ true
at_below n [] i d h b = absurd (omega arith)
at_below n (g ∷ gs) zero d h b = b.0
at_below n (g ∷ gs) (suc i) d h b = at_below n gs i d (omega arith) b.1

module _ (slots : List (Option ℕ)) (gs : List Given) (some : length slots ≡ 0 → ⊥) (types : List Written) (below : AreBelow (length types) gs) where
  pub block_none_row : (length gs ≡ length slots + 1 → ⊥) → IsComputed types types None (λ all. block_of slots (map (type_of all) gs))
  block_none_row h = none_computed types _ (λ all. block_item slots (map (type_of all) gs) some ∙ block_length all slots gs h)

  pub block_never_row : length gs ≡ length slots + 1 → list_any is_never (take (length slots) gs) ≡ true → IsComputed types types (Some Never) (λ all. block_of slots (map (type_of all) gs))
  block_never_row size h = record { longer = longer_refl types; below = refl; is = λ all l. sym (block_item slots (map (type_of all) gs) some ∙ block_never all slots gs size h) }

  pub block_last_row : (d : Given) → length gs ≡ length slots + 1 → list_any is_never (take (length slots) gs) ≡ false → IsComputed types types (Some (get_or gs (length slots) d)) (λ all. block_of slots (map (type_of all) gs))
  block_last_row d size h = record { longer = longer_refl types; below = at_below (length types) gs (length slots) d (omega arith) below; is = λ all l. sym (block_item slots (map (type_of all) gs) some ∙ block_last all slots gs d size h) }

-- ---- parts that must be values first

never_same : (all : List Written) (n : ℕ) (gs : List Given) → has_never (take n (map (type_of all) gs)) ≡ list_any is_never (take n gs)
never_same all zero gs = refl
never_same all (suc n) [] = refl
never_same all (suc n) (Never ∷ gs) = refl
never_same all (suc n) ((Of a) ∷ gs) = never_same all n gs

pub length-types : (all : List Written) (gs : List Given) → length (map (type_of all) gs) ≡ length gs
length-types all [] = refl
length-types all (g ∷ gs) = ap suc (length-types all gs)

pub stop_same : (all : List Written) (h : Head) (gs : List Given) → has_never (take (strict_parts h (length (map (type_of all) gs))) (map (type_of all) gs)) ≡ list_any is_never (take (strict_parts h (length gs)) gs)
stop_same all h gs = ap (λ n. has_never (take (strict_parts h n) (map (type_of all) gs))) (length-types all gs) ∙ never_same all (strict_parts h (length gs)) gs

-- ---- an arm for each head

pub op_arm : {E : Type 0} (op x : Op) (gs : List Given) (old new : List Written) → op ≡ x → (r : Result (Option Given) E) → IfOk r (λ found. IsComputed old new found (λ all. operator_of x (map (type_of all) gs))) →
    IfOk r (λ found. IsComputed old new found (λ all. operator_of op (map (type_of all) gs)))
op_arm op x gs old new e r h = subst (λ (o : Op). IfOk r (λ found. IsComputed old new found (λ all. operator_of o (map (type_of all) gs)))) (sym e) h

pub head_arm : {E : Type 0} (h x : Head) (gs : List Given) (old new : List Written) → h ≡ x → (r : Result (Option Given) E) → IfOk r (λ found. IsComputed old new found (λ all. plain_type x (map (type_of all) gs))) →
    IfOk r (λ found. IsComputed old new found (λ all. plain_type h (map (type_of all) gs)))
head_arm h x gs old new e r k = subst (λ (o : Head). IfOk r (λ found. IsComputed old new found (λ all. plain_type o (map (type_of all) gs)))) (sym e) k

pub head_one : (h x : Head) (gs : List Given) (old new : List Written) → h ≡ x → (found : Option Given) → IsComputed old new found (λ all. plain_type x (map (type_of all) gs)) → IsComputed old new found (λ all. plain_type h (map (type_of all) gs))
head_one h x gs old new e found k = subst (λ (o : Head). IsComputed old new found (λ all. plain_type o (map (type_of all) gs))) (sym e) k

-- ---- variables

pub variable_computed : (seen : List (Option Given)) (x : ℕ) (found : Option Given) → found ≡ seen_in seen x → (types : List Written) → AreSeenBelow (length types) seen → IsComputed types types found (λ all. seen_of all seen x)
variable_computed seen x found is types below = record {
  longer = longer_refl types;
  below = subst (λ (o : Option Given). IfSome o (λ g. is_below (length types) g ≡ true)) (sym is) (below x);
  is = λ all l. ap (option_map (type_of all)) is;
}

-- ---- calls

slice_get_none : {X : Type 0} (xs : List X) (i : ℕ) → length xs ≤ i → slice_get xs i ≡ None
slice_get_none [] i h = refl
slice_get_none (x ∷ xs) zero h = absurd (omega arith)
slice_get_none (x ∷ xs) (suc i) h = slice_get_none xs i (omega arith)

exactly_are : (types : List Written) → Apart types → (all : List Written) → IsLonger types all → (gs : List Given) (ns : List TypeId) (t : ExprType) → AreBelow (length types) gs → AllByRecursion (λ (n : TypeId). nat_lt n.0 (length types) ≡ true) ns →
    exactly (map (type_of all) gs) (map (type_at all) ns) t ≡ (if are_given gs ns then Some t else None)
exactly_are types apart all l [] [] t low high = refl
exactly_are types apart all l [] (n ∷ ns) t low high = refl
exactly_are types apart all l (Never ∷ gs) ns t low high = refl
exactly_are types apart all l ((Of a) ∷ gs) [] t low high = refl
exactly_are types apart all l ((Of a) ∷ gs) (n ∷ ns) t low high =
    ap (λ b. if b then exactly (map (type_of all) gs) (map (type_at all) ns) t else None) (same_test types apart all l a n (below_is a.0 (length types) low.0) (below_is n.0 (length types) high.0))
    ∙ elim (nat_eq a.0 n.0) as (λ b. (if b then exactly (map (type_of all) gs) (map (type_at all) ns) t else None) ≡ (if b && are_given gs ns then Some t else None)) [
      | true ↦ exactly_are types apart all l gs ns t low.1 high.1
      | false ↦ refl
    ]

module _ (types : List Written) (signatures : List Signature) (functions : List FunctionParts) (are : AreSignatures types signatures functions) (i : ℕ) where
  size : length signatures ≡ length functions
  size = same_length (λ (s : Signature). map (type_at types) s.takes.items) (λ (f : FunctionParts). f.takes) signatures functions (are.takes types (longer_refl types))

  no_function : length signatures ≤ i → slice_get functions i ≡ None
  no_function h = slice_get_none functions i (omega (arith, size))

  pub no_call : (gs : List Given) → length signatures ≤ i → IsComputed types types None (λ all. called_with (slice_get functions i) (map (type_of all) gs))
  no_call gs h = none_computed types _ (λ all. ap (λ o. called_with o (map (type_of all) gs)) (no_function h))

  pub no_spawn : (gs : List Given) → length signatures ≤ i → IsComputed types types None (λ all. spawned_with (slice_get functions i) (map (type_of all) gs))
  no_spawn gs h = none_computed types _ (λ all. ap (λ o. spawned_with o (map (type_of all) gs)) (no_function h))

  module _ (apart : Apart types) (s : Signature) (at : slice_get signatures i ≡ Some s) (gs : List Given) (below : AreBelow (length types) gs) where
    within : i < length functions
    within = omega (arith, size, slice_get_within signatures i s at)

    call_is : (all : List Written) → IsLonger types all → called_with (slice_get functions i) (map (type_of all) gs) ≡ (if are_given gs s.takes.items then Some (of (type_at all s.gives)) else None)
    call_is all l =
        let f = function_at functions i within in
        ap (λ o. called_with o (map (type_of all) gs)) f.1
        ∙ ap (λ ws. exactly (map (type_of all) gs) ws (of f.0.gives)) (sym (takes_are types signatures functions are i s f.0 at f.1 all l))
        ∙ ap (λ w. exactly (map (type_of all) gs) (map (type_at all) s.takes.items) (of w)) (sym (gives_is types signatures functions are i s f.0 at f.1 all l))
        ∙ exactly_are types apart all l gs s.takes.items (of (type_at all s.gives)) below (takes_low types signatures functions are i s at)

    spawn_is : (all : List Written) → IsLonger types all → spawned_with (slice_get functions i) (map (type_of all) gs) ≡ (if are_given gs s.takes.items then Some (of unit_type) else None)
    spawn_is all l =
        let f = function_at functions i within in
        ap (λ o. spawned_with o (map (type_of all) gs)) f.1
        ∙ ap (λ ws. exactly (map (type_of all) gs) ws (of unit_type)) (sym (takes_are types signatures functions are i s f.0 at f.1 all l))
        ∙ exactly_are types apart all l gs s.takes.items (of unit_type) below (takes_low types signatures functions are i s at)

    pub call_wrong : are_given gs s.takes.items ≡ false → IsComputed types types None (λ all. called_with (slice_get functions i) (map (type_of all) gs))
    call_wrong e = record { longer = longer_refl types; below = tt; is = λ all l. sym (call_is all l ∙ ap (λ b. if b then Some (of (type_at all s.gives)) else None) e) }

    pub call_right : are_given gs s.takes.items ≡ true → IsComputed types types (Some (Of s.gives)) (λ all. called_with (slice_get functions i) (map (type_of all) gs))
    call_right e =
        let f = function_at functions i within in
        some_computed types types s.gives _ (longer_refl types) (gives_low types signatures functions are i s f.0 at f.1) (λ all l. sym (call_is all l ∙ ap (λ b. if b then Some (of (type_at all s.gives)) else None) e))

    pub spawn_wrong : are_given gs s.takes.items ≡ false → IsComputed types types None (λ all. spawned_with (slice_get functions i) (map (type_of all) gs))
    spawn_wrong e = record { longer = longer_refl types; below = tt; is = λ all l. sym (spawn_is all l ∙ ap (λ b. if b then Some (of unit_type) else None) e) }

    pub spawn_right : (new : List Written) (n : TypeId) → are_given gs s.takes.items ≡ true → IsLonger types new → n.0 < length new → ((all : List Written) → IsLonger new all → type_at all n ≡ unit_type) →
        IsComputed types new (Some (Of n)) (λ all. spawned_with (slice_get functions i) (map (type_of all) gs))
    spawn_right new n e longer within unit = some_computed types new n _ longer within
        (λ all l. ap (λ w. Some (of w)) (unit all l) ∙ sym (spawn_is all (longer_trans types new all longer l) ∙ ap (λ b. if b then Some (of unit_type) else None) e))

-- ---- heads that name no variable and no function

pub going_plain : (functions : List FunctionParts) (seen : Seen) (h : Head) (ts : List ExprType) → ((x : _) → h ≡ Var x → ⊥) → ((f : _) → h ≡ Call f → ⊥) → ((f : _) → h ≡ Stable f → ⊥) → ((f : _) → h ≡ Spawn f → ⊥) → going functions seen h ts ≡ plain_type h ts
going_plain functions seen (Var x) ts a b c d = absurd (a x refl)
going_plain functions seen (Call f) ts a b c d = absurd (b f refl)
going_plain functions seen (Stable f) ts a b c d = absurd (c f refl)
going_plain functions seen (Spawn f) ts a b c d = absurd (d f refl)
going_plain functions seen _ ts a b c d = refl

-- ---- answers that are computed in another way

pub recomputed : (old new : List Written) (r : Option Given) (F G : List Written → Option ExprType) → IsComputed old new r F → ((all : List Written) → F all ≡ G all) → IsComputed old new r G
recomputed old new r F G c same = record { longer = c.longer; below = c.below; is = λ all l. c.is all l ∙ same all }

pub ok_then : {X E : Type 0} {P Q : X → Type 0} (r : Result X E) → IfOk r P → ((x : X) → P x → Q x) → IfOk r Q
ok_then (Ok x) h f = f x h
ok_then (Err e) h f = tt

pub alone_empty : (all : List Written) (gs : List Given) (o : Option ExprType) → length gs ≡ 0 → alone (map (type_of all) gs) o ≡ o
alone_empty all [] o h = refl
alone_empty all (g ∷ gs) o h = absurd (omega arith)

pub stopped : (functions : List FunctionParts) (seen : List Written → Seen) (h : Head) (gs : List Given) (types : List Written) → list_any is_never (take (strict_parts h (length gs)) gs) ≡ true → IsComputed types types (Some Never) (λ all. type_by functions (seen all) h (map (type_of all) gs))
stopped functions seen h gs types e = record {
  longer = longer_refl types;
  below = refl;
  is = λ all l. sym (ap (λ b. if b then Some never else going functions (seen all) h (map (type_of all) gs)) (stop_same all h gs ∙ e));
}

pub not_stopped : (functions : List FunctionParts) (seen : Seen) (all : List Written) (h : Head) (gs : List Given) → list_any is_never (take (strict_parts h (length gs)) gs) ≡ false → going functions seen h (map (type_of all) gs) ≡ type_by functions seen h (map (type_of all) gs)
not_stopped functions seen all h gs e = sym (ap (λ b. if b then Some never else going functions seen h (map (type_of all) gs)) (stop_same all h gs ∙ e))
