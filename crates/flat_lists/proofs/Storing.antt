-- What is stored, as lists.
use Rattle.std.proofs.Common.{◌≡◌, ℕ, zero, suc, ◌+◌, ◌-◌, ◌<◌, ◌≤◌, List, [], ◌∷◌, ◌++◌, length, take, drop, get_or, slice_get, Some, refl, ap, ◌∙◌, sym, arith, length-drop, length-append}
use Rattle.std.specs.List.{flat_map, slice_range}
use Rattle.std.proofs.lemmas.List.{drop_all, length-take-le, take-append-le, drop-append-le}
use Rattle.std.proofs.lemmas.Grind.{get_or_tail}
use Rattle.std.proofs.lemmas.List.Folds.{drop_split}
use Rattle.std.proofs.lemmas.Option.{slice_get-get_or}
use Rattle.std.proofs.Math.Seq.{drop-append_seam, take-length}
use Rattle.flat_lists.specs.Stored.{AreEnds, lists_in, start_of}

pub ends_within : {A : Type 0} → (from : ℕ) (ends : List ℕ) (items : List A) → AreEnds from ends items → from ≤ length items
ends_within from [] items are = omega arith
ends_within from (to ∷ ends) items are = omega (arith, are.0, ends_within to ends items are.1)

range-append : {A : Type 0} → (items more : List A) (from to : ℕ) → from ≤ to → to ≤ length items → slice_range (items ++ more) from to ≡ slice_range items from to
range-append items more from to h k =
    ap (take (to - from)) (drop-append-le from items more (omega arith))
    ∙ take-append-le (to - from) (drop from items) more (omega (arith, length-drop from items))

range-behind : {A : Type 0} → (items more : List A) (to : ℕ) → to ≡ length items + length more → slice_range (items ++ more) (length items) to ≡ more
range-behind items more to e =
    let long : to - length items ≡ length more = omega arith in
    rw (drop-append_seam items more, long) (take-length more)

-- a list that is stored behind the others
pub list_pushed : {A : Type 0} → (from : ℕ) (ends : List ℕ) (items more : List A) (to : ℕ) → AreEnds from ends items → to ≡ length items + length more → lists_in from (ends ++ to ∷ []) (items ++ more) ≡ lists_in from ends items ++ more ∷ []
list_pushed from [] items more to are e = rw are (ap (λ own. own ∷ []) (range-behind items more to e))
list_pushed from (end ∷ ends) items more to are e =
    ap (λ own. own ∷ lists_in end (ends ++ to ∷ []) (items ++ more)) (range-append items more from end are.0 (ends_within end ends items are.1))
    ∙ ap (λ lists. slice_range items from end ∷ lists) (list_pushed end ends items more to are.1 e)

pub ends_pushed : {A : Type 0} → (from : ℕ) (ends : List ℕ) (items more : List A) (to : ℕ) → AreEnds from ends items → to ≡ length items + length more → AreEnds from (ends ++ to ∷ []) (items ++ more)
ends_pushed from [] items more to are e = (omega arith, e ∙ sym (length-append items more))
ends_pushed from (end ∷ ends) items more to are e = (are.0, ends_pushed end ends items more to are.1 e)

pub count_of_lists : {A : Type 0} → (from : ℕ) (ends : List ℕ) (items : List A) → length (lists_in from ends items) ≡ length ends
count_of_lists from [] items = refl
count_of_lists from (to ∷ ends) items = ap suc (count_of_lists to ends items)

-- a list by its number
abbrev pub IsListAt : {A : Type 0} → ℕ → List ℕ → List A → ℕ → ℕ → Type 0
IsListAt from ends items i to =
    (start_of from ends i ≤ to) × (to ≤ length items) × (slice_get (lists_in from ends items) i ≡ Some (slice_range items (start_of from ends i) to))

list_at : {A : Type 0} → (from : ℕ) (ends : List ℕ) (items : List A) (i to : ℕ) → AreEnds from ends items → slice_get ends i ≡ Some to → IsListAt from ends items i to
list_at from [] items i to are found = absurd cc
list_at from (end ∷ ends) items zero to are found =
    let e : end ≡ to = cc in
    let within = ends_within end ends items are.1 in
    (rw (← e) are.0, rw (← e) within, rw e refl)
list_at from (end ∷ ends) items (suc i) to are found = list_at end ends items i to are.1 found

pub list_found : {A : Type 0} → (ends : List ℕ) (items : List A) (lists : List (List A)) (i to : ℕ) → AreEnds 0 ends items → lists_in 0 ends items ≡ lists → i < length lists → to ≡ get_or ends i to → IsListAt 0 ends items i to
list_found ends items lists i to are view h found =
    let inside : i < length ends = omega (arith, h, ap length view, count_of_lists 0 ends items) in
    list_at 0 ends items i to are (slice_get-get_or ends i to inside ∙ ap Some (sym found))

start_is : (from : ℕ) (ends : List ℕ) (i : ℕ) → i ≤ length ends → start_of from ends i ≡ get_or (from ∷ ends) i 0
start_is from ends zero h = refl
start_is from [] (suc i) h = absurd (omega arith)
start_is from (to ∷ ends) (suc i) h = start_is to ends i (omega arith)

-- a list begins where the one before it ends
pub start_behind : (from : ℕ) (ends : List ℕ) (i : ℕ) → 0 < i → i < length ends → start_of from ends i ≡ get_or ends (i - 1) 0
start_behind from ends i some h = start_is from ends i (omega arith) ∙ get_or_tail from ends i 0 some

-- the places where lists of these lengths end
abbrev ends_of : {A : Type 0} → ℕ → List (List A) → List ℕ
ends_of from [] = []
ends_of from (items ∷ lists) = (from + length items) ∷ ends_of (from + length items) lists

-- what is stored follows from the lists
stored_is : {A : Type 0} → (from : ℕ) (ends : List ℕ) (items : List A) → AreEnds from ends items → (ends ≡ ends_of from (lists_in from ends items)) × (drop from items ≡ flat_map (λ list. list) (lists_in from ends items))
stored_is from [] items are = (refl, drop_all from items (omega arith))
stored_is from (to ∷ ends) items are =
    let long = length-take-le (to - from) (drop from items) (omega (arith, length-drop from items, ends_within to ends items are.1)) in
    let end : from + length (slice_range items from to) ≡ to = omega (arith, are.0) in
    let rest = stored_is to ends items are.1 in
    (rw end (ap (λ others. to ∷ others) rest.0), drop_split items from to are.0 ∙ ap (λ others. slice_range items from to ++ others) rest.1)

-- so lists are the same only where they are stored so
pub stored_lists : {A : Type 0} → (ends others : List ℕ) (items own : List A) → AreEnds 0 ends items → AreEnds 0 others own → lists_in 0 ends items ≡ lists_in 0 others own → (ends ≡ others) × (items ≡ own)
stored_lists ends others items own are be same =
    let left = stored_is 0 ends items are in
    let right = stored_is 0 others own be in
    (left.0 ∙ ap (ends_of 0) same ∙ sym right.0, left.1 ∙ ap (flat_map (λ list. list)) same ∙ sym right.1)
