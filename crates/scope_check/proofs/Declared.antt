-- Functions, one after the other.
use Rattle.std.proofs.Common.{◌≡◌, ℕ, suc, ◌+◌, ◌<◌, Bool, true, false, not, List, [], ◌∷◌, ◌++◌, length, map, take, drop, get_or, Option, Some, None, refl, sym, ap, ◌∙◌, add-one}
use Rattle.std.specs.Borrow.{Bor}
use Rattle.std.specs.Prelude.{bytes_eq, if◌then◌else◌, nat_le}
use Rattle.std.specs.List.{list_any}
use Rattle.std.proofs.lemmas.Bool.{true≢false}
use Rattle.std.proofs.lemmas.List.{length-map, map-append}
use Rattle.std.proofs.Math.Seq.{drop-cons, take-suc}
use Rattle.stab_parse.specs.declared.tree.Function.{Function}
use Rattle.scope_check.specs.declared.fault.ScopeFault.{ScopeFault}
use Rattle.scope_check.specs.declared.fault.ScopeFault.TheVariants.{TooMany}
use Rattle.scope_check.specs.Limits.{max_functions}
use Rattle.scope_check.specs.Names.{is_same, named}
use Rattle.scope_check.specs.Scope.{first_fault, function_fault, names_of, own_fault, param_fault, twice}
use Rattle.scope_check.proofs.Tables.{any-map}

-- an item that stands in a list, and those before and behind it
pub take-next : {A : Type 0} (xs : List A) (i : ℕ) (x : A) → i < length xs → x ≡ get_or xs i x → take (i + 1) xs ≡ take i xs ++ x ∷ []
take-next xs i x h e = ap (λ n. take n xs) (add-one i) ∙ take-suc xs i x h ∙ ap (λ y. take i xs ++ y ∷ []) (sym e)

pub drop-next : {A : Type 0} (xs : List A) (i : ℕ) (x : A) → i < length xs → x ≡ get_or xs i x → drop i xs ≡ x ∷ drop (i + 1) xs
drop-next xs i x h e = drop-cons xs i x h ∙ ap (λ y. y ∷ drop (suc i) xs) (sym e) ∙ ap (λ n. x ∷ drop n xs) (sym (add-one i))

-- names are known by their bytes
pub known-name : (bytes : List ℕ) (f : Function) (before : List Function) (keys : List (Bor (List ℕ))) (name : Bor (List ℕ)) → name.now ≡ named bytes f.name → map (λ k. k.now) keys ≡ names_of bytes before
    → list_any (λ k. bytes_eq name.now k.now) keys ≡ list_any (λ g. is_same bytes f.name g.name) before
known-name bytes f before keys name e names =
    sym (any-map (λ k. k.now) (bytes_eq name.now) keys) ∙ ap (list_any (bytes_eq name.now)) names ∙ ap (λ n. list_any (bytes_eq n) (names_of bytes before)) e
    ∙ any-map (λ g. named bytes g.name) (bytes_eq (named bytes f.name)) before

pub second-of : {A : Type 0} (a b : Bool) (x y z : A) → a ≡ false → b ≡ true → (if a then x else if b then y else z) ≡ y
second-of true b x y z e f = absurd (true≢false e)
second-of false true x y z e f = refl
second-of false false x y z e f = absurd (true≢false (sym f))

pub third-of : {A : Type 0} (a b : Bool) (x y z : A) → a ≡ false → b ≡ false → (if a then x else if b then y else z) ≡ z
third-of true b x y z e f = absurd (true≢false e)
third-of false true x y z e f = absurd (true≢false f)
third-of false false x y z e f = refl

was-known : (known added : Bool) → added ≡ not known → known ≡ not added
was-known true added e = ap not (sym e)
was-known false added e = ap not (sym e)

own-first : (full known : Bool) (x y : ScopeFault) (own behind : Option ScopeFault) → (if full then Some x else if known then Some y else first_fault own behind) ≡ first_fault (if full then Some x else if known then Some y else own) behind
own-first true known x y own behind = refl
own-first false true x y own behind = refl
own-first false false x y own behind = refl

own-new : (full is_new : Bool) (x y : ScopeFault) (own : Option ScopeFault) → (if full then Some x else if not is_new then Some y else own) ≡ None → is_new ≡ true
own-new full true x y own e = refl
own-new true false x y own e = absurd (cc)
own-new false false x y own e = absurd (cc)

-- where the functions before have no fault
module _ (bytes : List ℕ) (fs : List Function) (i : ℕ) (f : Function) (within : i < length fs) (is : f ≡ get_or fs i f) (keys : List (Bor (List ℕ))) (name : Bor (List ℕ))
    (name_is : name.now ≡ named bytes f.name) (so_far : function_fault bytes [] fs ≡ function_fault bytes (take i fs) (drop i fs)) (names : map (λ k. k.now) keys ≡ names_of bytes (take i fs))
    (added : Bool) (added_is : added ≡ not (list_any (λ k. bytes_eq name.now k.now) keys)) where
  here : function_fault bytes [] fs ≡ function_fault bytes (take i fs) (f ∷ drop (i + 1) fs)
  here = so_far ∙ ap (function_fault bytes (take i fs)) (drop-next fs i f within is)

  count : length (take i fs) ≡ length keys
  count = sym (sym (length-map keys (λ k. k.now)) ∙ ap length names ∙ length-map (take i fs) (λ g. named bytes g.name))

  known : list_any (λ g. is_same bytes f.name g.name) (take i fs) ≡ not added
  known = sym (known-name bytes f (take i fs) keys name name_is names) ∙ was-known _ added added_is

  abbrev behind : Option ScopeFault
  behind = function_fault bytes (take i fs ++ f ∷ []) (drop (i + 1) fs)

  abbrev fault-if : Bool → Bool → Option ScopeFault
  fault-if full there = if full then Some (TooMany f.name.start) else if there then Some (twice f.name) else param_fault bytes [] f.params

  first-own : function_fault bytes [] fs ≡ first_fault (own_fault bytes (length keys) added f) behind
  first-own =
      here ∙ own-first (nat_le max_functions (length (take i fs))) (list_any (λ g. is_same bytes f.name g.name) (take i fs)) (TooMany f.name.start) (twice f.name) (param_fault bytes [] f.params) behind
      ∙ ap (λ n. first_fault (fault-if (nat_le max_functions n) (list_any (λ g. is_same bytes f.name g.name) (take i fs))) behind) count
      ∙ ap (λ there. first_fault (fault-if (nat_le max_functions (length keys)) there) behind) known

  pub fault-own : (fault : ScopeFault) → own_fault bytes (length keys) added f ≡ Some fault → function_fault bytes [] fs ≡ Some fault
  fault-own fault own = first-own ∙ ap (λ o. first_fault o behind) own

  module _ (none : own_fault bytes (length keys) added f ≡ None) where
    pub no-fault : function_fault bytes [] fs ≡ function_fault bytes (take (i + 1) fs) (drop (i + 1) fs)
    no-fault = first-own ∙ ap (λ o. first_fault o behind) none ∙ ap (λ l. function_fault bytes l (drop (i + 1) fs)) (sym (take-next fs i f within is))

    new-name : list_any (λ k. bytes_eq name.now k.now) keys ≡ false
    new-name =
        known-name bytes f (take i fs) keys name name_is names ∙ known
        ∙ ap not (own-new (nat_le max_functions (length keys)) added (TooMany f.name.start) (twice f.name) (param_fault bytes [] f.params) none)

    pub names-next : (keys_new : List (Bor (List ℕ))) → keys_new ≡ (if list_any (λ k. bytes_eq name.now k.now) keys then keys else keys ++ name ∷ []) → map (λ k. k.now) keys_new ≡ names_of bytes (take (i + 1) fs)
    names-next keys_new k =
        ap (map (λ n. n.now)) (k ∙ ap (λ b. if b then keys else keys ++ name ∷ []) new-name) ∙ map-append (λ n. n.now) keys (name ∷ [])
        ∙ ap (λ l. l ++ name.now ∷ []) names ∙ ap (λ n. names_of bytes (take i fs) ++ n ∷ []) name_is
        ∙ sym (ap (names_of bytes) (take-next fs i f within is) ∙ map-append (λ g. named bytes g.name) (take i fs) (f ∷ []))
