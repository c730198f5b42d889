-- The table of lines and the list of threads that have one, when a line is noted or forgotten and when there is more room.
use Rattle.std.proofs.Common.{◌≡◌, ◌≢◌, ℕ, zero, suc, ◌+◌, ◌-◌, ◌<◌, ◌≤◌, Bool, true, false, cond, ◌||◌, nat_eq, List, [], ◌∷◌, ◌++◌, length, get_or, take, replicate, Option, Some, None, is_some, refl, sym, ap, subst, ◌∙◌, arith, length-append, get_or-set_same, get_or-set_other}
use Rattle.std.specs.Prelude.{nat_lt, filter}
use Rattle.std.specs.List.{IsDistinct, AllByRecursion, count_by, slice_set}
use Rattle.std.proofs.Math.ListN.{length-set}
use Rattle.std.specs.Ordering.{nat_cmp}
use Rattle.std.specs.Cmp.{nat_cmp_total, nat_eq_equiv}
use Rattle.std.specs.FinMap.{get, empty, keys, contains_key, same_map, get-empty, nat_cmp-IsAntisymmetric}
use Rattle.std.proofs.lemmas.Bool.{false≢true}
use Rattle.std.proofs.lemmas.Bool.Decides.{nat_tests}
use Rattle.std.proofs.lemmas.List.{take_all, get_or_append_left, get_or-append_right, get_or-replicate, get_or_past, length-replicate}
use Rattle.std.proofs.lemmas.List.Folds.{list_any-append}
use Rattle.std.proofs.lemmas.List.Sums.{count_by-le-length, length-filter, sum_by-set}
use Rattle.std.specs.List.Sorted.{IsPermutation, IsNonDecreasingBy}
use Rattle.std.proofs.lemmas.List.Sorted.{IsPermutation-map, list_any-IsPermutation, length_permutation}
use Rattle.std.proofs.lemmas.Map.Keys.{IsDistinct-IsPermutation, IsDistinct-push, IsDistinct-head, IsDistinct-tail, IsDistinct-cons}
use Rattle.stab_base.specs.declared.numbers.ThreadId.{ThreadId}
use Rattle.linked_lists.specs.Lists.{is_listed}
use Rattle.linked_lists.specs.Numbered.{by_number}
use Rattle.linked_lists.proofs.Numbered.{get_from}
use Rattle.linked_lists.proofs.Leaving.{IsDistinct-nil}
use Rattle.restore.specs.declared.line.Line.{Line}
use Rattle.restore.specs.declared.line.Line.TheVariants.{From}
use Rattle.restore.specs.Found.{numbers, IsFound}
use Rattle.restore.proofs.Ordered.{sorted_keys, sorted_numbers}

abbrev Table : Type 0
Table = List (Option Line)

alike : (a b : ℕ) → a ≡ b → nat_eq a b ≡ true
alike a b same = grind (arith, nat_tests)

or_true : (b : Bool) → (b || true) ≡ true
or_true true = refl
or_true false = refl

or_false : (b : Bool) → (b || false) ≡ b
or_false true = refl
or_false false = refl

nothing : (o : Option Line) → is_some o ≡ false → o ≡ None
nothing None there = refl
nothing (Some line) there = absurd (false≢true (sym there))

cases_lt : {P : Type 0} (m n : ℕ) → (m < n → P) → (n ≤ m → P) → P
cases_lt {P} m n below above =
    elim (nat_lt m n) as (λ b. nat_lt m n ≡ b → P) [
      | true ↦ λ e. below (grind (arith, nat_tests))
      | false ↦ λ e. above (grind (arith, nat_tests))
    ] refl

all_none : (n i : ℕ) → get_or (replicate {A = Option Line} n None) i None ≡ None
all_none n i = cases_lt i n (λ low. get_or-replicate n i None None low) (λ high. get_or_past (replicate n None) i None (let l = length-replicate {A = Option Line} n None in omega arith))

none_found_more : (lines : Table) (n : ℕ) → filter (λ (o : Option Line). is_some o) (lines ++ replicate n None) ≡ filter (λ (o : Option Line). is_some o) lines
none_found_more [] zero = refl
none_found_more [] (suc n) = none_found_more [] n
none_found_more (o ∷ lines) n = ap (λ l. cond (is_some o) (o ∷ l) l) (none_found_more lines n)

none_more : (lines : Table) (n : ℕ) → count_by (λ (o : Option Line). is_some o) (lines ++ replicate n None) ≡ count_by (λ (o : Option Line). is_some o) lines
none_more lines n =
    sym (length-filter (λ (o : Option Line). is_some o) (lines ++ replicate n None)) ∙ ap length (none_found_more lines n) ∙ length-filter (λ (o : Option Line). is_some o) lines

flipped : (a b : ℕ) → nat_eq a b ≡ false → nat_eq b a ≡ false
flipped a b e = grind (arith, nat_tests)

flips : (a b : ℕ) → nat_eq a b ≡ nat_eq b a
flips a b = grind (arith, nat_tests)

all_front : (P : ℕ → Type 0) (xs : List ℕ) (x : ℕ) → AllByRecursion P (xs ++ x ∷ []) → AllByRecursion P xs × P x
all_front P [] x all = (tt, all.0)
all_front P (y ∷ xs) x all = let rest = all_front P xs x all.1 in ((all.0, rest.0), rest.1)

cases_eq : {P : Type 0} (a b : ℕ) → (a ≡ b → P) → (nat_eq a b ≡ false → P) → P
cases_eq {P} a b same other =
    elim (nat_eq a b) as (λ r. nat_eq a b ≡ r → P) [
      | true ↦ λ e. same (grind (arith, nat_tests))
      | false ↦ λ e. other e
    ] refl

differ : (a b : ℕ) → nat_eq a b ≡ false → a ≢ b
differ a b e is = grind (arith, nat_tests)

-- the last of a list stands once in it
distinct_front : (xs : List ℕ) (q : ℕ) → IsDistinct nat_eq (xs ++ q ∷ []) → IsDistinct nat_eq xs × (is_listed q xs ≡ false)
distinct_front [] q once = (IsDistinct-nil, refl)
distinct_front (x ∷ xs) q once =
    let rest = distinct_front xs q (IsDistinct-tail nat_eq x (xs ++ q ∷ []) once) in
    let off = all_front (λ y. nat_eq x y ≡ false) xs q (IsDistinct-head nat_eq x (xs ++ q ∷ []) once) in
    let other : nat_eq q x ≡ false = flipped x q off.1 in
    (IsDistinct-cons nat_eq x xs off.0 rest.0, ap (λ b. b || is_listed q xs) other ∙ rest.1)

-- what the map has of a thread is what stands at its place
pub at_place : (lines : Table) (t : ℕ) → get (by_number 0 lines) t ≡ get_or lines t None
at_place lines t = get_from t 0 t lines (omega arith)

pub numbers_push : (ts : List ThreadId) (t : ThreadId) → numbers (ts ++ t ∷ []) ≡ numbers ts ++ t.0 ∷ []
numbers_push [] t = refl
numbers_push (u ∷ ts) t = ap (λ l. u.0 ∷ l) (numbers_push ts t)

pub length-numbers : (ts : List ThreadId) → length (numbers ts) ≡ length ts
length-numbers [] = refl
length-numbers (t ∷ ts) = ap suc (length-numbers ts)

past : (lines : Table) (t : ℕ) → is_some (get_or lines t None) ≡ true → t < length lines
past [] t there = absurd (false≢true there)
past (o ∷ lines) zero there = omega arith
past (o ∷ lines) (suc t) there = let low : t < length lines = past lines t there in omega arith

module _ (lines : Table) where
  -- who is listed has a place
  pub listed_within : (touched : List ℕ) (capacity t : ℕ) → IsFound lines touched capacity → is_listed t touched ≡ true → t < length lines
  listed_within touched capacity t is there = past lines t (ap is_some (sym (at_place lines t)) ∙ sym (is.listed t) ∙ there)

  -- the others keep what they have
  pub set_other : (t u : ℕ) (o : Option Line) → nat_eq u t ≡ false → get (by_number 0 (slice_set lines t o)) u ≡ get (by_number 0 lines) u
  set_other t u o other = at_place (slice_set lines t o) u ∙ get_or-set_other lines t u o None (differ u t other) ∙ sym (at_place lines u)

  pub set_here : (t : ℕ) (o : Option Line) → t < length lines → get (by_number 0 (slice_set lines t o)) t ≡ o
  set_here t o low = at_place (slice_set lines t o) t ∙ get_or-set_same lines t o None low

  count_set : (t : ℕ) (o : Option Line) → t < length lines → count_by (λ (o : Option Line). is_some o) (slice_set lines t o) + cond (is_some (get_or lines t None)) 1 0 ≡ count_by (λ (o : Option Line). is_some o) lines + cond (is_some o) 1 0
  count_set t o low = sum_by-set (λ (o : Option Line). cond (is_some o) 1 0) lines t o None low

  -- another line in the place of one
  pub found_again : (touched : List ℕ) (capacity t : ℕ) (line before : Line) → t < length lines → get_or lines t None ≡ Some before → IsFound lines touched capacity → IsFound (slice_set lines t (Some line)) touched capacity
  found_again touched capacity t line before low was is = record {
    once = is.once;
    listed = λ u. is.listed u ∙ cases_eq u t
        (λ same. subst (λ k. is_some (get (by_number 0 lines) k) ≡ is_some (get (by_number 0 (slice_set lines t (Some line))) k)) (sym same) (ap is_some (at_place lines t ∙ was) ∙ sym (ap is_some (set_here t (Some line) low))))
        (λ other. sym (ap is_some (set_other t u (Some line) other)));
    count = (let c = count_set t (Some line) low in let z : cond {A = ℕ} (is_some (get_or lines t None)) 1 0 ≡ 1 = ap (λ (o : Option Line). cond {A = ℕ} (is_some o) 1 0) was in let e = is.count in omega arith);
    spare = (let r = is.spare in let l = length-set lines t (Some line) in omega arith);
  }

  -- the first line of a thread
  pub found_first : (touched : List ℕ) (capacity t : ℕ) (line : Line) → t < length lines → get_or lines t None ≡ None → IsFound lines touched capacity → IsFound (slice_set lines t (Some line)) (touched ++ t ∷ []) capacity
  found_first touched capacity t line low was is =
      let out : is_listed t touched ≡ false = is.listed t ∙ ap is_some (at_place lines t ∙ was) in
      record {
        once = IsDistinct-push nat_eq_equiv touched t is.once out;
        listed = λ u. list_any-append (nat_eq u) touched (t ∷ []) ∙ cases_eq u t
            (λ same. ap (λ b. is_listed u touched || (b || false)) (alike u t same) ∙ or_true (is_listed u touched) ∙ sym (subst (λ k. is_some (get (by_number 0 (slice_set lines t (Some line))) k) ≡ true) (sym same) (ap is_some (set_here t (Some line) low))))
            (λ other. ap (λ b. is_listed u touched || (b || false)) other ∙ or_false (is_listed u touched) ∙ is.listed u ∙ sym (ap is_some (set_other t u (Some line) other)));
        count = (let c = count_set t (Some line) low in let z : cond {A = ℕ} (is_some (get_or lines t None)) 1 0 ≡ 0 = ap (λ (o : Option Line). cond {A = ℕ} (is_some o) 1 0) was in let e = is.count in let n = length-append touched (t ∷ []) in omega arith);
        spare = (let r = is.spare in let l = length-set lines t (Some line) in omega arith);
      }

  -- fewer threads have a line than there is memory for, where one has none
  pub few_found : (touched : List ℕ) (capacity t : ℕ) → t < length lines → get_or lines t None ≡ None → IsFound lines touched capacity → length touched < capacity
  few_found touched capacity t low was is =
      let c = count_set t (Some (From (record { 0 = 0 }))) low in
      let z : cond {A = ℕ} (is_some (get_or lines t None)) 1 0 ≡ 0 = ap (λ (o : Option Line). cond {A = ℕ} (is_some o) 1 0) was in
      let most = count_by-le-length (λ (o : Option Line). is_some o) (slice_set lines t (Some (From (record { 0 = 0 })))) in
      let l = length-set lines t (Some (From (record { 0 = 0 }))) in
      let e = is.count in
      let r = is.spare in
      omega arith

  -- the last thread that has a line loses it
  pub found_less : (touched : List ℕ) (capacity more t : ℕ) → IsFound lines (touched ++ t ∷ []) capacity → capacity ≤ more → IsFound (slice_set lines t None) touched more
  found_less touched capacity more t is le =
      let split : (u : ℕ) → (is_listed u touched || (nat_eq u t || false)) ≡ contains_key (by_number 0 lines) u = λ u. sym (list_any-append (nat_eq u) touched (t ∷ [])) ∙ is.listed u in
      let there : is_some (get_or lines t None) ≡ true = ap is_some (sym (at_place lines t)) ∙ sym (split t) ∙ ap (λ b. is_listed t touched || (b || false)) (alike t t refl) ∙ or_true (is_listed t touched) in
      let low : t < length lines = past lines t there in
      let parts = distinct_front touched t is.once in
      record {
        once = parts.0;
        listed = λ u. cases_eq u t
            (λ same. subst (λ k. is_listed k touched ≡ is_some (get (by_number 0 (slice_set lines t None)) k)) (sym same) (parts.1 ∙ sym (ap is_some (set_here t None low))))
            (λ other. sym (ap (λ b. is_listed u touched || (b || false)) other ∙ or_false (is_listed u touched)) ∙ split u ∙ sym (ap is_some (set_other t u None other)));
        count = (let c = count_set t None low in let z : cond {A = ℕ} (is_some (get_or lines t None)) 1 0 ≡ 1 = ap (λ b. cond {A = ℕ} b 1 0) there in let e = is.count in let n = length-append touched (t ∷ []) in omega arith);
        spare = (let r = is.spare in let l = length-set lines t None in omega arith);
      }

  -- no thread has a line where none is listed
  pub none_found : (touched : List ℕ) (capacity : ℕ) → touched ≡ [] → IsFound lines touched capacity → by_number 0 lines ≡ empty
  none_found touched capacity none is =
      same_map nat_cmp_total nat_cmp-IsAntisymmetric (by_number 0 lines) empty (λ q. nothing (get (by_number 0 lines) q) (sym (is.listed q) ∙ ap (is_listed q) none) ∙ sym (get-empty nat_cmp q))

  opened_at : (n t : ℕ) → length lines ≤ n → get_or (take n lines ++ replicate (n - length lines) None) t None ≡ get_or lines t None
  opened_at n t le =
      ap (λ l. get_or (l ++ replicate (n - length lines) None) t None) (take_all n lines le)
      ∙ cases_lt t (length lines)
      (λ low. get_or_append_left lines (replicate (n - length lines) None) None t low)
      (λ high. get_or-append_right lines (replicate (n - length lines) None) (length lines) t None refl high ∙ all_none (n - length lines) (t - length lines) ∙ sym (get_or_past lines t None high))

  pub opened_map : (n : ℕ) → length lines ≤ n → by_number 0 (take n lines ++ replicate (n - length lines) None) ≡ by_number 0 lines
  opened_map n le = same_map nat_cmp_total nat_cmp-IsAntisymmetric _ _ (λ q. at_place (take n lines ++ replicate (n - length lines) None) q ∙ opened_at n q le ∙ sym (at_place lines q))

  -- there is more room, with no line in it
  pub found_opened : (touched : List ℕ) (capacity more n : ℕ) → length lines ≤ n → n ≤ more → IsFound lines touched capacity → IsFound (take n lines ++ replicate (n - length lines) None) touched more
  found_opened touched capacity more n le fits is = record {
    once = is.once;
    listed = λ u. is.listed u ∙ sym (ap (λ m. contains_key m u) (opened_map n le));
    count = is.count ∙ sym (ap (λ l. count_by (λ (o : Option Line). is_some o) (l ++ replicate (n - length lines) None)) (take_all n lines le) ∙ none_more lines (n - length lines));
    spare = (let a = length-append (take n lines) (replicate {A = Option Line} (n - length lines) None) in let b = length-replicate {A = Option Line} (n - length lines) None in let c : length (take n lines) ≡ length lines = ap length (take_all n lines le) in omega arith);
  }

  -- the same, from what the calls leave
  pub found_reserved : (new : Table) (ts us : List ThreadId) (capacity more n k : ℕ) → k ≡ length lines → length lines ≤ n → n ≤ more → us ≡ ts → new ≡ take n lines ++ replicate (n - k) None → IsFound lines (numbers ts) capacity → IsFound new (numbers us) more
  found_reserved new ts us capacity more n k long le fits same items is =
      subst (λ l. IsFound l (numbers us) more) (sym (items ∙ ap (λ j. take n lines ++ replicate (n - j) None) long)) (subst (λ us. IsFound (take n lines ++ replicate (n - length lines) None) (numbers us) more) (sym same) (found_opened (numbers ts) capacity more n le fits is))

  pub map_reserved : (new : Table) (n k : ℕ) → k ≡ length lines → length lines ≤ n → new ≡ take n lines ++ replicate (n - k) None → by_number 0 new ≡ by_number 0 lines
  map_reserved new n k long le items = ap (λ l. by_number 0 l) (items ∙ ap (λ j. take n lines ++ replicate (n - j) None) long) ∙ opened_map n le

  -- the threads in another order
  pub found_sorted : (ts us : List ThreadId) (capacity more : ℕ) → IsPermutation ts us → more ≡ capacity → IsFound lines (numbers ts) capacity → IsFound lines (numbers us) more
  found_sorted ts us capacity more moved same is = record {
    once = IsDistinct-IsPermutation nat_eq flips (numbers ts) (numbers us) (IsPermutation-map (λ (t : ThreadId). t.0) ts us moved) is.once;
    listed = λ t. sym (list_any-IsPermutation (nat_eq t) (numbers ts) (numbers us) (IsPermutation-map (λ (t : ThreadId). t.0) ts us moved)) ∙ is.listed t;
    count = length_permutation (numbers ts) (numbers us) (IsPermutation-map (λ (t : ThreadId). t.0) ts us moved) ∙ is.count;
    spare = (let r = is.spare in omega arith);
  }

  pub sorted_touched : (ts us : List ThreadId) (capacity : ℕ) → IsPermutation ts us → IsNonDecreasingBy (λ (t : ThreadId). t.0) us → IsFound lines (numbers ts) capacity → numbers us ≡ keys (by_number 0 lines)
  sorted_touched ts us capacity moved rise is =
      let k = found_sorted ts us capacity capacity moved refl is in
      sorted_keys (by_number 0 lines) (numbers us) (sorted_numbers us rise) k.once k.listed

-- a table without places
pub nothing_found : (lines : Table) (ts : List ThreadId) (capacity : ℕ) → lines ≡ [] → ts ≡ [] → IsFound lines (numbers ts) capacity
nothing_found lines ts capacity none nobody =
    subst (λ l. IsFound l (numbers ts) capacity) (sym none) (subst (λ us. IsFound [] (numbers us) capacity) (sym nobody) (record { once = IsDistinct-nil; listed = λ t. sym (ap is_some (get-empty nat_cmp t)); count = refl; spare = omega arith }))

-- the last of a list is listed
pub last_listed : (xs : List ℕ) (t : ℕ) → is_listed t (xs ++ t ∷ []) ≡ true
last_listed xs t = list_any-append (nat_eq t) xs (t ∷ []) ∙ ap (λ b. is_listed t xs || (b || false)) (alike t t refl) ∙ or_true (is_listed t xs)

pub no_numbers : (ts : List ThreadId) → length ts ≡ 0 → numbers ts ≡ []
no_numbers [] none = refl
no_numbers (t ∷ ts) none = absurd (omega arith)
