-- What is seen behind lets, and when what they hid is put back.
use Rattle.std.proofs.Common.{◌≡◌, ℕ, zero, suc, ◌<◌, nat_eq, Bool, true, false, cond, List, [], ◌∷◌, ◌++◌, length, map, set, slice_get, Option, Some, None, refl, sym, ap, subst, ◌∙◌, arith, append-nil, IfSome}
use Rattle.std.specs.Prelude.{option_and_then, option_map}
use Rattle.std.specs.List.{All}
use Rattle.std.specs.Option.{ForSome}
use Rattle.std.proofs.lemmas.Bool.{eqb-true}
use Rattle.std.proofs.lemmas.Bool.Decides.{nat_tests}
use Rattle.std.proofs.lemmas.List.{get_or-set_same, get_or-set_other, length-set, set-get_or, set-set}
use Rattle.std.proofs.lemmas.List.Elements.{All-cons, All-head, All-nil}
use Rattle.std.proofs.lemmas.Option.{slice_get-map}
use Rattle.stab_code.specs.declared.head.Head.{Head}
use Rattle.stab_code.specs.declared.node_id.NodeId.{NodeId}
use Rattle.stab_code.specs.Heads.{slots_of, variable_of}
use Rattle.stab_code.specs.Program.{ProgramParts, tree_at}
use Rattle.stab_code.specs.Syntax.{named_from, named_in, one_or_none, with_own}
use Rattle.stab_code.specs.Written.{Written}
use Rattle.stab_code.proofs.Lists.{All-left, All-right}
use Rattle.stab_types.specs.declared.given.Given.{Given}
use Rattle.stab_types.specs.declared.variables.Hidden.{Hidden}
use Rattle.stab_types.specs.Typed.{behind}
use Rattle.stab_types.specs.Given.{type_of, is_below, AreSeenBelow, seen_in, seen_of, with_let, hidden_by, put_back}

seen-set_at : (seen : List (Option Given)) (x : ℕ) (o : Option Given) (y : ℕ) → x < length seen → seen_in (set seen x o) y ≡ cond (nat_eq y x) o (seen_in seen y)
seen-set_at seen x o y h =
    elim (nat_eq y x) as (λ b. nat_eq y x ≡ b → seen_in (set seen x o) y ≡ cond b o (seen_in seen y)) [
      | true ↦ λ e. ap (seen_in (set seen x o)) (eqb-true y x e) ∙ get_or-set_same seen x o None h
      | false ↦ λ e. get_or-set_other seen x y o None (grind (arith, nat_tests))
    ] refl

-- what is seen behind an item has the types that are seen there
typed_let : (all : List Written) (b : Bool) (g : Given) (o : Option Given) → cond b (Some (type_of all g)) (option_map (type_of all) o) ≡ option_map (type_of all) (cond b (Some g) o)
typed_let all true g o = refl
typed_let all false g o = refl

-- the slot of an item, if it is a let, is one of the list's
abbrev pub IsWithin : ℕ → Option ℕ → Type 0
IsWithin n slot = ForSome slot (λ x. x < n)

pub let_seen : (slot : Option ℕ) (g : Given) (seen : List (Option Given)) (all : List Written) → IsWithin (length seen) slot → behind slot (type_of all g) (seen_of all seen) ≡ seen_of all (with_let slot g seen)
let_seen None g seen all h = refl
let_seen (Some x) g seen all h =
    λ j y. (typed_let all (nat_eq y x) g (seen_in seen y) ∙ ap (option_map (type_of all)) (sym (seen-set_at seen x (Some g) y (h x refl)))) j

cond_below : (n : ℕ) (b : Bool) (g : Given) (o : Option Given) → is_below n g ≡ true → IfSome o (λ g. is_below n g ≡ true) → IfSome (cond b (Some g) o) (λ g. is_below n g ≡ true)
cond_below n true g o h k = h
cond_below n false g o h k = k

pub let_below : (n : ℕ) (slot : Option ℕ) (g : Given) (seen : List (Option Given)) → IsWithin (length seen) slot → AreSeenBelow n seen → is_below n g ≡ true → AreSeenBelow n (with_let slot g seen)
let_below n None g seen within h k = h
let_below n (Some x) g seen within h k = λ y. subst (λ (o : Option Given). IfSome o (λ g. is_below n g ≡ true)) (sym (seen-set_at seen x (Some g) y (within x refl))) (cond_below n (nat_eq y x) g (seen_in seen y) k (h y))

pub length-with_let : (slot : Option ℕ) (g : Given) (seen : List (Option Given)) → length (with_let slot g seen) ≡ length seen
length-with_let None g seen = refl
length-with_let (Some x) g seen = length-set seen x (Some g)

put_back-last : (seen : List (Option Given)) (hidden : List Hidden) (h : Hidden) → put_back seen (hidden ++ h ∷ []) ≡ put_back (set seen h.slot h.given) hidden
put_back-last seen [] h = refl
put_back-last seen (x ∷ hidden) h = ap (λ vs. set vs x.slot x.given) (put_back-last seen hidden h)

-- the last of them put back alone
pub put_back_last : (seen : List (Option Given)) (all rest : List Hidden) (last : Hidden) → all ≡ rest ++ last ∷ [] → put_back (set seen last.slot last.given) rest ≡ put_back seen all
put_back_last seen all rest last is = sym (put_back-last seen rest last) ∙ ap (put_back seen) (sym is)

-- putting back what a let hid is as if it had not been seen
pub put_back-let : (slot : Option ℕ) (g : Given) (seen : List (Option Given)) (hidden : List Hidden) → put_back (with_let slot g seen) (hidden ++ hidden_by slot seen) ≡ put_back seen hidden
put_back-let None g seen hidden = ap (put_back seen) (append-nil hidden)
put_back-let (Some x) g seen hidden =
    put_back-last (set seen x (Some g)) hidden (record { slot = x; given = seen_in seen x })
    ∙ ap (λ vs. put_back vs hidden) (set-set seen x (Some g) (seen_in seen x) ∙ set-get_or seen x None)

abbrev pub AreWithin : ℕ → List Hidden → Type 0
AreWithin n hidden = All (λ (h : Hidden). h.slot < n) hidden

pub hidden_within : (n : ℕ) (slot : Option ℕ) (seen : List (Option Given)) → IsWithin n slot → AreWithin n (hidden_by slot seen)
hidden_within n None seen h = All-nil (λ (h : Hidden). h.slot < n)
hidden_within n (Some x) seen h = All-cons (λ (h : Hidden). h.slot < n) (record { slot = x; given = seen_in seen x }) [] (h x refl) (All-nil (λ (h : Hidden). h.slot < n))

pub within_rest : (seen : List (Option Given)) (all rest : List Hidden) (last : Hidden) → all ≡ rest ++ last ∷ [] → AreWithin (length seen) all → AreWithin (length (set seen last.slot last.given)) rest
within_rest seen all rest last is within =
    let split : AreWithin (length seen) (rest ++ last ∷ []) = subst (AreWithin (length seen)) is within in
    subst (λ (n : ℕ). AreWithin n rest) (sym (length-set seen last.slot last.given)) (All-left (λ (h : Hidden). h.slot < length seen) rest (last ∷ []) split)

-- the slot of an item
abbrev pub slot_in : List (Option ℕ) → ℕ → Option ℕ
slot_in own i = option_and_then (λ (o : Option ℕ). o) (slice_get own i)

module _ (P : ℕ → Type 0) where
  own_slot : (slot : Option ℕ) (xs : List ℕ) → All P (one_or_none slot ++ xs) → ForSome slot P
  own_slot None xs all y is = absurd (cc)
  own_slot (Some x) xs all y is = let same : x ≡ y = cc in subst P same (All-head P x xs all)

  no_slot : ForSome None P
  no_slot y is = absurd (cc)

  -- what holds of the slots that some parts and their lets name holds of those of each
  part_slots : (own : List (Option ℕ)) (named : List (List ℕ)) (i : ℕ) (xs : List ℕ) → All P (with_own own named) → slice_get named i ≡ Some xs → All P xs × ForSome (slot_in own i) P
  part_slots own [] i xs all found = absurd (cc)
  part_slots [] (part ∷ named) zero xs all found = let same : part ≡ xs = cc in (subst (All P) same (All-left P part (with_own [] named) all), no_slot)
  part_slots [] (part ∷ named) (suc i) xs all found = ((part_slots [] named i xs (All-right P part (with_own [] named) all) found).0, no_slot)
  part_slots (slot ∷ own) (part ∷ named) zero xs all found =
      let same : part ≡ xs = cc in
      let rest = All-right P (one_or_none slot) (part ++ with_own own named) all in
      (subst (All P) same (All-left P part (with_own own named) rest), own_slot slot (part ++ with_own own named) all)
  part_slots (slot ∷ own) (part ∷ named) (suc i) xs all found =
      let rest = All-right P (one_or_none slot) (part ++ with_own own named) all in
      part_slots own named i xs (All-right P part (with_own own named) rest) found

-- the slots that a part of a form names are within what those of the form are, and so is the slot of its let
pub part_named : (p : ProgramParts) (head : Head) (parts : List NodeId) (limit : ℕ) → All (λ slot. slot < limit) (named_from head (map (λ n. named_in (tree_at p n)) parts)) → (i : ℕ) (part : NodeId) → slice_get parts i ≡ Some part →
    All (λ slot. slot < limit) (named_in (tree_at p part)) × IsWithin limit (slot_in (slots_of head) i)
part_named p head parts limit all i part found =
    let named = map (λ n. named_in (tree_at p n)) parts in
    part_slots (λ slot. slot < limit) (slots_of head) named i (named_in (tree_at p part)) (All-right (λ slot. slot < limit) (one_or_none (variable_of head)) (with_own (slots_of head) named) all)
    (slice_get-map (λ n. named_in (tree_at p n)) parts i ∙ ap (option_map (λ n. named_in (tree_at p n))) found)
