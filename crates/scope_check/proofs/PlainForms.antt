-- Where stretches begin, and the forms in them.
use Rattle.std.proofs.Common.{◌≡◌, inl, inr, ℕ, zero, suc, ◌+◌, ◌-◌, ◌<◌, ◌≤◌, ◌^◌, List, [], ◌∷◌, ◌++◌, length, take, drop, get_or, slice_get, Some, refl, sym, ap, subst, ◌∙◌, arith, length-append}
use Rattle.std.specs.Prelude.{Ok, true, false, reverse}
use Rattle.std.specs.List.{AllByRecursion, slice_range}
use Rattle.std.proofs.lemmas.Bool.{cases_lt}
use Rattle.std.proofs.lemmas.List.{take-append-le}
use Rattle.std.proofs.Math.Seq.{drop-append_seam, take-length}
use Rattle.std.proofs.lemmas.Option.{slice_get-get_or, slice_get_within}
use Rattle.stab_code.specs.declared.head.Head.{Head as Code}
use Rattle.stab_code.specs.Nodes.{nodes_in}
use Rattle.stab_code.proofs.Lists.{slice_get-left, slice_get-right}
use Rattle.stab_parse.specs.declared.tree.FormNode.{FormNode}
use Rattle.stab_parse.specs.declared.tree.Function.{Function}
use Rattle.stab_parse.specs.Forms.{Form}
use Rattle.stab_parse.specs.FormList.{nodes_of}
use Rattle.scope_check.specs.declared.fault.ScopeFault.{ScopeFault}
use Rattle.scope_check.specs.declared.progress.Progress.{Progress}
use Rattle.scope_check.specs.Made.{IsFormFault, IsFormMade, nodes_now, scoped_now}
use Rattle.scope_check.specs.Places.{IsAt, part_lists}
use Rattle.scope_check.specs.Progress.{IsFaultOf, met_of, seen_of}
use Rattle.scope_check.specs.Scope.{Met, head_met}
use Rattle.scope_check.specs.Stretches.{ArePlain, ArePlainFrom, IsPlainFrom, IsStretchFault, IsStretchMade, heads_met, plain, stretch}
use Rattle.scope_check.proofs.Added.{length-nodes_in}
use Rattle.scope_check.proofs.Places.{at-within, length-part_lists, some-size}
use Rattle.scope_check.proofs.Sizes.{length-nodes_of}
use Rattle.scope_check.proofs.Stretched.{Agrees, form-agrees, heads-fault, heads-length, heads-next}

-- ---- where stretches begin

-- a plain form goes on, and behind another one begins anew
pub from-plain : (forms : List FormNode) (i n : ℕ) (f : FormNode) → IsPlainFrom forms i n → slice_get forms i ≡ Some f → plain f ≡ true → IsPlainFrom forms (i + 1) n
from-plain forms i n f is there own first = (
  λ h j g low high found. elim (cases_lt j i) [
    | inl before ↦ (is first).0 h j g low before found
    | inr behind ↦
        let here : i ≡ j = omega arith in
        let same : f ≡ g = let e = sym there ∙ ap (slice_get forms) here ∙ found in cc in
        ap plain (sym same) ∙ own
  ],
  λ are. (is first).1 (λ j g low high found. are j g low (omega arith) found),
)

pub from-other : (forms : List FormNode) (i : ℕ) (f : FormNode) → slice_get forms i ≡ Some f → plain f ≡ false → IsPlainFrom forms (i + 1) (i + 1)
from-other forms i f there own first = (
  (λ h j g low high found. absurd (omega arith)),
  (λ are. elim (cases_lt i first) [
    | inl behind ↦ omega arith
    | inr before ↦ let wrong = are i f before (omega arith) there in absurd cc
  ]),
)

pub marked-next : (forms : List FormNode) (numbers : List ℕ) (n : ℕ) → ArePlainFrom forms numbers → IsPlainFrom forms (length numbers + 1) n → ArePlainFrom forms (numbers ++ n ∷ [])
marked-next forms numbers n are is at number found = elim (cases_lt at (length numbers)) [
  | inl before ↦ are at number (sym (slice_get-left numbers (n ∷ []) at before) ∙ found)
  | inr behind ↦
      let last : at ≡ length numbers + 0 = omega (arith, slice_get_within (numbers ++ n ∷ []) at number found, length-append numbers (n ∷ []), behind) in
      let same : n ≡ number = let e = sym (slice_get-right numbers (n ∷ []) at 0 last) ∙ found in cc in
      subst (λ own. IsPlainFrom forms (at + 1) own) same (subst (λ end. IsPlainFrom forms (end + 1) n) (omega (arith, last)) is)
]

pub plain-there : (forms : List FormNode) (numbers : List ℕ) (at own first d : ℕ) → length numbers ≡ length forms → ArePlainFrom forms numbers → at < length forms → own ≡ get_or numbers at d → own ≤ first → ArePlain forms first (at + 1)
plain-there forms numbers at own first d marked are there own_is h =
    (are at own (slice_get-get_or numbers at d (omega (arith, marked, there)) ∙ ap Some (sym own_is)) first).0 h

-- ---- the forms in a form are a stretch

all-found : {X : Type 0} (P : X → Type 0) (xs : List X) → ((i : ℕ) (x : X) → slice_get xs i ≡ Some x → P x) → AllByRecursion P xs
all-found P [] h = tt
all-found P (x ∷ xs) h = (h 0 x refl, all-found P xs (λ i y found. h (suc i) y found))

module _ (forms : List FormNode) (first at : ℕ) (f : Form) (is : IsAt forms first at f) where
  forms-range : slice_range forms first (at + 1) ≡ nodes_of f
  forms-range =
      let own_is = is.own_is in
      let count : (at + 1) - first ≡ length (nodes_of f) = omega (arith, length-nodes_of f) in
      ap (take ((at + 1) - first)) (ap (λ l. drop first l) is.forms_are ∙ ap (λ n. drop n (is.before ++ (nodes_of f ++ is.after))) (sym is.first_is) ∙ drop-append_seam is.before (nodes_of f ++ is.after))
      ∙ ap (λ n. take n (nodes_of f ++ is.after)) count ∙ take-append-le (length (nodes_of f)) (nodes_of f) is.after (omega arith) ∙ take-length (nodes_of f)

  all-plain : ArePlain forms first (at + 1) → AllByRecursion (λ g. plain g ≡ true) (nodes_of f)
  all-plain are = all-found (λ g. plain g ≡ true) (nodes_of f) (λ i g found.
      let first_is = is.first_is in
      let own_is = is.own_is in
      let inside = slice_get_within (nodes_of f) i g found in
      are (first + i) g (omega arith) (omega (arith, inside, length-nodes_of f))
      (ap (λ l. slice_get l (first + i)) is.forms_are ∙ slice_get-right is.before (nodes_of f ++ is.after) (first + i) i (omega arith) ∙ slice_get-left (nodes_of f) is.after i inside ∙ found))

-- ---- one form more in a stretch

take-found : {X : Type 0} (xs : List X) (i : ℕ) (x : X) → slice_get xs i ≡ Some x → take (suc i) xs ≡ take i xs ++ x ∷ []
take-found [] i x found = absurd cc
take-found (y ∷ xs) zero x found = let same : y ≡ x = cc in ap (λ z. z ∷ []) same
take-found (y ∷ xs) (suc i) x found = ap (λ l. y ∷ l) (take-found xs i x found)

-- it is what stands before one of its forms, the form, and others
pub record IsParted {X : Type 0} (xs : List X) (first i end : ℕ) (x : X) : Type 0 where
  pub rest : List X
  pub range_is : slice_range xs first end ≡ slice_range xs first i ++ (x ∷ rest)

take-parted : {X : Type 0} (xs : List X) (i n : ℕ) (x : X) → i < n → slice_get xs i ≡ Some x → (rest : List X) × (take n xs ≡ take i xs ++ (x ∷ rest))
take-parted [] i n x h found = absurd cc
take-parted (y ∷ xs) i zero x h found = absurd (omega arith)
take-parted (y ∷ xs) zero (suc n) x h found = let same : y ≡ x = cc in (take n xs, ap (λ z. z ∷ take n xs) same)
take-parted (y ∷ xs) (suc i) (suc n) x h found =
    let next = take-parted xs i n x (omega arith) found in
    (next.0, ap (λ l. y ∷ l) next.1)

found-behind : {X : Type 0} (xs : List X) (first i : ℕ) (x : X) → first ≤ i → slice_get xs i ≡ Some x → slice_get (drop first xs) (i - first) ≡ Some x
found-behind xs zero i x h found = ap (slice_get xs) (omega arith) ∙ found
found-behind [] (suc first) i x h found = absurd cc
found-behind (y ∷ xs) (suc first) zero x h found = absurd (omega arith)
found-behind (y ∷ xs) (suc first) (suc i) x h found = ap (slice_get (drop first xs)) (omega arith) ∙ found-behind xs first i x (omega arith) found

pub range-next : {X : Type 0} (xs : List X) (first i : ℕ) (x : X) → first ≤ i → slice_get xs i ≡ Some x → slice_range xs first (i + 1) ≡ slice_range xs first i ++ x ∷ []
range-next xs first i x h found =
    let count : (i + 1) - first ≡ suc (i - first) = omega arith in
    ap (λ n. take n (drop first xs)) count ∙ take-found (drop first xs) (i - first) x (found-behind xs first i x h found)

pub range-parted : {X : Type 0} (xs : List X) (first i end : ℕ) (x : X) → first ≤ i → i < end → slice_get xs i ≡ Some x → IsParted xs first i end x
range-parted xs first i end x h k found =
    let p = take-parted (drop first xs) (i - first) (end - first) x (omega arith) (found-behind xs first i x h found) in
    record { rest = p.0; range_is = p.1 }

-- ---- what a stretch makes is what the definition gives

module _ (bytes : List ℕ) (fs : List Function) (arity : ℕ) (forms : List FormNode) (small : length forms < 2 ^ 32) (at : ℕ) (old : Progress) (are : ArePlain forms (length old.heads.items) (at + 1)) where
  -- as many heads as nodes, where a form stands behind them
  heads-there : (f : Form) → IsAt forms (length (nodes_now forms old)) at f → length (nodes_now forms old) ≡ length old.heads.items
  heads-there f is =
      let own_is = is.own_is in
      omega (arith, length-nodes_in old.heads.items (part_lists 0 [] forms), length-part_lists 0 [] forms, at-within forms (length (nodes_now forms old)) at f is, some-size f)

  place-is : (f : Form) → IsAt forms (length (nodes_now forms old)) at f → IsAt forms (length old.heads.items) at f
  place-is f is = subst (λ n. IsAt forms n at f) (heads-there f is) is

  agrees : (f : Form) (is : IsAt forms (length (nodes_now forms old)) at f)
      → Agrees bytes fs arity (seen_of old) forms small old.heads.items f (heads_met bytes fs (seen_of old) (met_of old) (stretch forms (at + 1) old)) (scoped_now bytes fs arity forms at old f)
  agrees f is =
      let there = place-is f is in
      subst (λ l. Agrees bytes fs arity (seen_of old) forms small old.heads.items f (heads_met bytes fs (seen_of old) (met_of old) l) (scoped_now bytes fs arity forms at old f))
      (sym (forms-range forms (length old.heads.items) at f there))
      (form-agrees bytes fs arity (seen_of old) forms small old.heads.items f (met_of old) (length (nodes_now forms old)) at refl is (all-plain forms (length old.heads.items) at f there are))

  whole-now : (new : Progress) → IsStretchMade bytes fs forms (at + 1) old new → (f : Form) → IsAt forms (length (nodes_now forms old)) at f → length (nodes_now forms new) ≡ length new.heads.items
  whole-now new made f is =
      let there = place-is f is in
      let count = heads-length bytes fs (seen_of old) (met_of old) (stretch forms (at + 1) old) (made.0, met_of new) made.1 in
      omega (
        arith,
        count,
        ap length made.2,
        length-append old.heads.items made.0,
        ap length (forms-range forms (length old.heads.items) at f there),
        length-nodes_of f,
        at-within forms (length old.heads.items) at f there,
        length-nodes_in new.heads.items (part_lists 0 [] forms),
        length-part_lists 0 [] forms,
      )

  pub stretch-made : (new : Progress) → IsStretchMade bytes fs forms (at + 1) old new → IsFormMade bytes fs arity forms at old new
  stretch-made new made f is =
      let agree = subst (λ r. Agrees bytes fs arity (seen_of old) forms small old.heads.items f r (scoped_now bytes fs arity forms at old f)) made.1 (agrees f is) in (
        agree.0,
        agree.1,
        (ap (λ l. nodes_in l (part_lists 0 [] forms)) made.2 ∙ agree.2.0, agree.2.1),
        whole-now new made f is,
      )

  pub stretch-fault : (fault : ScopeFault) → IsStretchFault bytes fs forms (at + 1) old fault → IsFormFault bytes fs arity forms at old fault
  stretch-fault fault h f is =
      elim h [
        | inl memory ↦ inl memory
        | inr e ↦ inr (subst (λ r. Agrees bytes fs arity (seen_of old) forms small old.heads.items f r (scoped_now bytes fs arity forms at old f)) e (agrees f is))
      ]

-- ---- one head more

module _ (bytes : List ℕ) (fs : List Function) (forms : List FormNode) (at : ℕ) (old now : Progress) (i : ℕ) (made : List Code) (f : FormNode) (found : slice_get forms i ≡ Some f) (from : length old.heads.items ≤ i)
    (far : heads_met bytes fs (seen_of old) (met_of old) (slice_range forms (length old.heads.items) i) ≡ Ok (made, met_of now)) (seen : now.seen.items ≡ old.seen.items) where
  head-same : head_met bytes fs (seen_of old) (met_of now) f.head f.parts ≡ head_met bytes fs (seen_of now) (met_of now) f.head f.parts
  head-same = ap (λ s. head_met bytes fs (reverse s) (met_of now) f.head f.parts) (sym seen)

  pub stretch-next : (own : Code) (met : Met) → head_met bytes fs (seen_of now) (met_of now) f.head f.parts ≡ Ok (own, met)
      → heads_met bytes fs (seen_of old) (met_of old) (slice_range forms (length old.heads.items) (i + 1)) ≡ Ok (made ++ own ∷ [], met)
  stretch-next own met e =
      ap (heads_met bytes fs (seen_of old) (met_of old)) (range-next forms (length old.heads.items) i f from found)
      ∙ heads-next bytes fs (seen_of old) (met_of old) (slice_range forms (length old.heads.items) i) f made (met_of now) met own far (head-same ∙ e)

  pub stretch-breaks : (fault : ScopeFault) → i < at + 1 → IsFaultOf (head_met bytes fs (seen_of now) (met_of now) f.head f.parts) fault → IsStretchFault bytes fs forms (at + 1) old fault
  stretch-breaks fault h broken =
      let p = range-parted forms (length old.heads.items) i (at + 1) f from h found in
      elim broken [
        | inl memory ↦ inl memory
        | inr e ↦ inr (ap (heads_met bytes fs (seen_of old) (met_of old)) p.range_is
            ∙ heads-fault bytes fs (seen_of old) (met_of old) (slice_range forms (length old.heads.items) i) f p.rest made (met_of now) fault far (head-same ∙ e))
      ]
