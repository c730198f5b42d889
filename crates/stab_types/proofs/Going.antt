-- The types of a form's parts, one after another.
use Rattle.std.proofs.Common.{◌≡◌, ℕ, zero, suc, ◌≤◌, ◌<◌, nat_lt, true, List, [], ◌∷◌, ◌++◌, length, drop, map, slice_get, Option, Some, None, refl, sym, ap, subst, ◌∙◌, arith, append_assoc, append-nil, IfSome}
use Rattle.std.specs.Prelude.{option_and_then, option_map}
use Rattle.std.specs.List.{AllByRecursion}
use Rattle.std.proofs.lemmas.Bool.Decides.{nat_tests}
use Rattle.std.proofs.lemmas.List.{map-append}
use Rattle.std.proofs.lemmas.List.Elements.{All-append, All-nil}
use Rattle.stab_code.specs.declared.head.Head.{Head}
use Rattle.stab_code.specs.declared.node_id.NodeId.{NodeId}
use Rattle.stab_code.specs.Heads.{slots_of}
use Rattle.stab_code.specs.Program.{FunctionParts, ProgramParts, tree_at, trees_at}
use Rattle.stab_code.specs.Trees.{Tree, Trees, tree, none, more}
use Rattle.stab_code.specs.Written.{Written}
use Rattle.type_table.specs.declared.shape.TypeId.{TypeId}
use Rattle.type_table.specs.Table.{IsLonger}
use Rattle.type_table.proofs.Types.{longer_refl, longer_trans, longer_length}
use Rattle.stab_types.specs.declared.given.Given.{Given}
use Rattle.stab_types.specs.declared.given.Given.TheVariants.{Of, Never}
use Rattle.stab_types.specs.declared.given.Signature.{Signature}
use Rattle.stab_types.specs.declared.variables.Hidden.{Hidden}
use Rattle.stab_types.specs.ExprType.{ExprType}
use Rattle.stab_types.specs.Typed.{Seen, behind}
use Rattle.stab_types.specs.Computed.{type_by, type_in, types_in}
use Rattle.stab_types.specs.Given.{type_of, is_below, AreBelow, AreSeenBelow, seen_in, seen_of, AreSignatures, IsComputed, with_let, hidden_by, put_back}
use Rattle.stab_types.proofs.Lets.{AreWithin, IsWithin, hidden_within, length-with_let, let_below, let_seen, put_back-let, slot_in}

lt_more : (a m n : ℕ) → m ≤ n → nat_lt a m ≡ true → nat_lt a n ≡ true
lt_more a m n le h = grind (arith, nat_tests)

below_more : (m n : ℕ) (g : Given) → m ≤ n → is_below m g ≡ true → is_below n g ≡ true
below_more m n (Of a) le h = lt_more a.0 m n le h
below_more m n Never le h = refl

pub all_below : (m n : ℕ) (gs : List Given) → m ≤ n → AreBelow m gs → AreBelow n gs
all_below m n [] le h = tt
all_below m n (g ∷ gs) le h = (below_more m n g le h.0, all_below m n gs le h.1)

some_below : (m n : ℕ) (o : Option Given) → m ≤ n → IfSome o (λ g. is_below m g ≡ true) → IfSome o (λ g. is_below n g ≡ true)
some_below m n None le h = tt
some_below m n (Some g) le h = below_more m n g le h

pub all_seen_below : (m n : ℕ) (seen : List (Option Given)) → m ≤ n → AreSeenBelow m seen → AreSeenBelow n seen
all_seen_below m n seen le h = λ x. some_below m n (seen_in seen x) le (h x)

pub below_snoc : (n : ℕ) (gs : List Given) (g : Given) → AreBelow n gs → is_below n g ≡ true → AreBelow n (gs ++ g ∷ [])
below_snoc n [] g h k = (k, tt)
below_snoc n (x ∷ gs) g h k = (h.0, below_snoc n gs g h.1 k)

pub numbers_below : (m n : ℕ) (ns : List TypeId) → m ≤ n → AllByRecursion (λ (k : TypeId). nat_lt k.0 m ≡ true) ns → AllByRecursion (λ (k : TypeId). nat_lt k.0 n ≡ true) ns
numbers_below m n [] le h = tt
numbers_below m n (k ∷ ns) le h = (lt_more k.0 m n le h.0, numbers_below m n ns le h.1)

pub takes_more : (m n : ℕ) (ss : List Signature) → m ≤ n → AllByRecursion (λ (s : Signature). AllByRecursion (λ (k : TypeId). nat_lt k.0 m ≡ true) s.takes.items) ss → AllByRecursion (λ (s : Signature). AllByRecursion (λ (k : TypeId). nat_lt k.0 n ≡ true) s.takes.items) ss
takes_more m n [] le h = tt
takes_more m n (s ∷ ss) le h = (numbers_below m n s.takes.items le h.0, takes_more m n ss le h.1)

pub gives_more : (m n : ℕ) (ss : List Signature) → m ≤ n → AllByRecursion (λ (s : Signature). nat_lt s.gives.0 m ≡ true) ss → AllByRecursion (λ (s : Signature). nat_lt s.gives.0 n ≡ true) ss
gives_more m n [] le h = tt
gives_more m n (s ∷ ss) le h = (lt_more s.gives.0 m n le h.0, gives_more m n ss le h.1)

pub signatures_more : (old new : List Written) (ss : List Signature) (fs : List FunctionParts) → IsLonger old new → AreSignatures old ss fs → AreSignatures new ss fs
signatures_more old new ss fs l are = record {
  takes_below = takes_more (length old) (length new) ss (longer_length old new l) are.takes_below;
  gives_below = gives_more (length old) (length new) ss (longer_length old new l) are.gives_below;
  takes = λ all m. are.takes all (longer_trans old new all l m);
  gives = λ all m. are.gives all (longer_trans old new all l m);
}

module _ (functions : List FunctionParts) where
  -- no part is left
  types_none : (env : Seen) (slots : List (Option ℕ)) → types_in functions env slots none ≡ Some []
  types_none env [] = refl
  types_none env (slot ∷ slots) = refl

  -- one part more, and its let
  types_some : (env : Seen) (slots : List (Option ℕ)) (i : ℕ) (x : Tree) (xs : Trees) (t : ExprType) → type_in functions env x ≡ Some t →
      types_in functions env (drop i slots) (more x xs) ≡ option_map (λ ts. t ∷ ts) (types_in functions (behind (slot_in slots i) t env) (drop (suc i) slots) xs)
  types_some env [] zero x xs t is = ap (option_and_then (λ t. option_map (λ ts. t ∷ ts) (types_in functions env [] xs))) is
  types_some env [] (suc i) x xs t is = ap (option_and_then (λ t. option_map (λ ts. t ∷ ts) (types_in functions env [] xs))) is
  types_some env (slot ∷ slots) zero x xs t is = ap (option_and_then (λ t. option_map (λ ts. t ∷ ts) (types_in functions (behind slot t env) slots xs))) is
  types_some env (slot ∷ slots) (suc i) x xs t is = types_some env slots i x xs t is

  types_stop : (env : Seen) (slots : List (Option ℕ)) (x : Tree) (xs : Trees) → type_in functions env x ≡ None → types_in functions env slots (more x xs) ≡ None
  types_stop env [] x xs is = ap (option_and_then (λ t. option_map (λ ts. t ∷ ts) (types_in functions env [] xs))) is
  types_stop env (slot ∷ slots) x xs is = ap (option_and_then (λ t. option_map (λ ts. t ∷ ts) (types_in functions (behind slot t env) slots xs))) is

  one_more : (all : List Written) (gs : List Given) (g : Given) (o : Option (List ExprType)) →
      option_map (λ rest. map (type_of all) gs ++ rest) (option_map (λ ts. type_of all g ∷ ts) o) ≡ option_map (λ rest. map (type_of all) (gs ++ g ∷ []) ++ rest) o
  one_more all gs g None = refl
  one_more all gs g (Some ts) = ap Some (sym (append_assoc (map (type_of all) gs) (type_of all g ∷ []) ts) ∙ ap (λ us. us ++ ts) (sym (map-append (type_of all) gs (g ∷ []))))

  module _ (p : ProgramParts) where
    -- after some parts of a node: the table, what is seen then and what lets have hidden, and the types so far
    pub record IsGoing (old types : List Written) (before seen : List (Option Given)) (hidden : List Hidden) (head : Head) (nodes : List NodeId) (i : ℕ) (parts : List Given) : Type 0 where
      pub longer : IsLonger old types
      pub parts_below : AreBelow (length types) parts
      pub seen_below : AreSeenBelow (length types) seen
      pub same_length : length seen ≡ length before
      pub within : AreWithin (length seen) hidden
      pub back : put_back seen hidden ≡ before
      pub is : (all : List Written) → IsLonger types all →
          types_in functions (seen_of all before) (slots_of head) (trees_at p nodes) ≡ option_map (λ rest. map (type_of all) parts ++ rest) (types_in functions (seen_of all seen) (drop i (slots_of head)) (trees_at p (drop i nodes)))

    nothing_before : (o : Option (List ExprType)) → o ≡ option_map (λ rest. rest) o
    nothing_before None = refl
    nothing_before (Some ts) = refl

    pub going_start : (types : List Written) (before : List (Option Given)) (head : Head) (nodes : List NodeId) → AreSeenBelow (length types) before → IsGoing types types before before [] head nodes 0 []
    going_start types before head nodes below = record {
      longer = longer_refl types;
      parts_below = tt;
      seen_below = below;
      same_length = refl;
      within = All-nil (λ (h : Hidden). h.slot < length before);
      back = refl;
      is = λ all l. nothing_before _;
    }

    drop_found : (xs : List NodeId) (i : ℕ) (x : NodeId) → slice_get xs i ≡ Some x → drop i xs ≡ x ∷ drop (suc i) xs
    drop_found [] i x h = absurd (cc)
    drop_found (y ∷ xs) zero x h = let same : y ≡ x = cc in ap (λ z. z ∷ xs) same
    drop_found (y ∷ xs) (suc i) x h = drop_found xs i x h

    drop_end : (xs : List NodeId) (i : ℕ) → length xs ≤ i → drop i xs ≡ []
    drop_end [] zero h = refl
    drop_end [] (suc i) h = refl
    drop_end (x ∷ xs) zero h = absurd (omega arith)
    drop_end (x ∷ xs) (suc i) h = drop_end xs i (omega arith)

    abbrev prefix : List Written → List Given → Option (List ExprType) → Option (List ExprType)
    prefix all gs o = option_map (λ rest. map (type_of all) gs ++ rest) o

    module _ (old types : List Written) (before seen : List (Option Given)) (hidden : List Hidden) (head : Head) (nodes : List NodeId) (i : ℕ) (parts : List Given) (going : IsGoing old types before seen hidden head nodes i parts) where
      pub going_step : (next : List Written) (g : Given) (n : NodeId) (slot : Option ℕ) (now : List (Option Given)) (kept : List Hidden) (j : ℕ) → slice_get nodes i ≡ Some n →
          IsComputed types next (Some g) (λ all. type_in functions (seen_of all seen) (tree_at p n)) →
          slot ≡ slot_in (slots_of head) i → IsWithin (length seen) slot → now ≡ with_let slot g seen → kept ≡ hidden ++ hidden_by slot seen → j ≡ suc i →
          IsGoing old next before now kept head nodes j (parts ++ g ∷ [])
      going_step next g n slot now kept j found computed slot_is within now_is kept_is j_is =
          let size = longer_length types next computed.longer in
          let long = length-with_let slot g seen in
          let its : IsGoing old next before (with_let slot g seen) (hidden ++ hidden_by slot seen) head nodes (suc i) (parts ++ g ∷ []) = record {
            longer = longer_trans old types next going.longer computed.longer;
            parts_below = below_snoc (length next) parts g (all_below (length types) (length next) parts size going.parts_below) computed.below;
            seen_below = let_below (length next) slot g seen within (all_seen_below (length types) (length next) seen size going.seen_below) computed.below;
            same_length = long ∙ going.same_length;
            within = subst (λ (k : ℕ). AreWithin k (hidden ++ hidden_by slot seen)) (sym long) (All-append (λ (h : Hidden). h.slot < length seen) hidden (hidden_by slot seen) going.within (hidden_within (length seen) slot seen within));
            back = put_back-let slot g seen hidden ∙ going.back;
            is = λ all l.
                let env = seen_of all seen in
                let slots = slots_of head in
                let rest = trees_at p (drop (suc i) nodes) in
                going.is all (longer_trans types next all computed.longer l)
                ∙ ap (λ ns. prefix all parts (types_in functions env (drop i slots) (trees_at p ns))) (drop_found nodes i n found)
                ∙ ap (prefix all parts) (types_some env slots i (tree_at p n) rest (type_of all g) (sym (computed.is all l)))
                ∙ one_more all parts g (types_in functions (behind (slot_in slots i) (type_of all g) env) (drop (suc i) slots) rest)
                ∙ ap (λ (o : Option ℕ). prefix all (parts ++ g ∷ []) (types_in functions (behind o (type_of all g) env) (drop (suc i) slots) rest)) (sym slot_is)
                ∙ ap (λ (e : Seen). prefix all (parts ++ g ∷ []) (types_in functions e (drop (suc i) slots) rest)) (let_seen slot g seen all within);
          } in
          subst (λ (k : ℕ). IsGoing old next before now kept head nodes k (parts ++ g ∷ [])) (sym j_is)
          (subst (λ (hs : List Hidden). IsGoing old next before now hs head nodes (suc i) (parts ++ g ∷ [])) (sym kept_is)
          (subst (λ (vs : List (Option Given)). IsGoing old next before vs (hidden ++ hidden_by slot seen) head nodes (suc i) (parts ++ g ∷ [])) (sym now_is) its))

      module _ (m : NodeId) (is_tree : tree_at p m ≡ tree head (trees_at p nodes)) where
        whole : (all : List Written) → type_in functions (seen_of all before) (tree_at p m) ≡ option_and_then (type_by functions (seen_of all before) head) (types_in functions (seen_of all before) (slots_of head) (trees_at p nodes))
        whole all = ap (type_in functions (seen_of all before)) is_tree

        -- a part without a type
        pub going_none : (next : List Written) (n : NodeId) → slice_get nodes i ≡ Some n → IsComputed types next None (λ all. type_in functions (seen_of all seen) (tree_at p n)) →
            IsComputed old next None (λ all. type_in functions (seen_of all before) (tree_at p m))
        going_none next n found computed = record {
          longer = longer_trans old types next going.longer computed.longer;
          below = tt;
          is = λ all l.
              sym (
              whole all
              ∙ ap (option_and_then (type_by functions (seen_of all before) head)) (
              going.is all (longer_trans types next all computed.longer l)
              ∙ ap (λ ns. prefix all parts (types_in functions (seen_of all seen) (drop i (slots_of head)) (trees_at p ns))) (drop_found nodes i n found)
              ∙ ap (prefix all parts) (types_stop (seen_of all seen) (drop i (slots_of head)) (tree_at p n) (trees_at p (drop (suc i) nodes)) (sym (computed.is all l)))));
        }

        -- all parts have types
        pub going_end : (next : List Written) (found : Option Given) → length nodes ≤ i → IsComputed types next found (λ all. type_by functions (seen_of all before) head (map (type_of all) parts)) →
            IsComputed old next found (λ all. type_in functions (seen_of all before) (tree_at p m))
        going_end next found end computed = record {
          longer = longer_trans old types next going.longer computed.longer;
          below = computed.below;
          is = λ all l.
              computed.is all l
              ∙ ap (type_by functions (seen_of all before) head) (sym (append-nil (map (type_of all) parts)))
              ∙ sym (
              whole all
              ∙ ap (option_and_then (type_by functions (seen_of all before) head)) (
              going.is all (longer_trans types next all computed.longer l)
              ∙ ap (λ ns. prefix all parts (types_in functions (seen_of all seen) (drop i (slots_of head)) (trees_at p ns))) (drop_end nodes i end)
              ∙ ap (prefix all parts) (types_none (seen_of all seen) (drop i (slots_of head)))));
        }
