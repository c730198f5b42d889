-- Whether a body is typed, from the answer for its node.
use Rattle.std.proofs.Common.{◌≡◌, ℕ, zero, suc, ◌+◌, ◌-◌, ◌<◌, ◌≤◌, nat_lt, nat_eq, Bool, true, false, List, [], ◌∷◌, ◌++◌, length, map, replicate, get_or, slice_get, Option, Some, None, refl, sym, ap, subst, ◌∙◌, arith, inl, inr, length-append}
use Rattle.std.specs.Prelude.{option_map, IfSome}
use Rattle.std.specs.List.{AllByRecursion}
use Rattle.std.proofs.lemmas.Bool.{false≢true, eqb-true}
use Rattle.std.proofs.lemmas.Bool.Decides.{nat_tests}
use Rattle.std.proofs.lemmas.List.{length-replicate}
use Rattle.std.proofs.lemmas.Option.{slice_get-get_or}
use Rattle.stab_code.specs.Program.{FunctionParts, ProgramParts, body_of}
use Rattle.stab_code.specs.Written.{Written}
use Rattle.type_table.specs.declared.shape.TypeId.{TypeId}
use Rattle.type_table.specs.Table.{type_at, IsLonger}
use Rattle.type_table.proofs.Types.{id, longer_refl}
use Rattle.stab_types.specs.declared.given.Given.{Given}
use Rattle.stab_types.specs.declared.given.Given.TheVariants.{Of, Never}
use Rattle.stab_types.specs.declared.given.Signature.{Signature}
use Rattle.stab_types.specs.ExprType.{of, never, all_of}
use Rattle.stab_types.specs.Typed.{parameters, IsBodyTyped, IsTyped, IsFirstUntyped}
use Rattle.stab_types.specs.Checked.{IsVerdictOn}
use Rattle.stab_types.specs.Computed.{type_in}
use Rattle.stab_types.specs.Given.{type_of, is_below, AreSeenBelow, parameters_in, seen_in, seen_of, AreSignatures, is_given_as}
use Rattle.stab_types.proofs.Deciding.{in_has, has_in}
use Rattle.stab_types.proofs.Putting.{some_is}

-- ---- parameters

none_left : (k x : ℕ) → seen_in (replicate k None) x ≡ None
none_left zero x = refl
none_left (suc k) zero = refl
none_left (suc k) (suc x) = none_left k x

abbrev before_lets : List TypeId → ℕ → List (Option Given)
before_lets takes k = map (λ n. Some (Of n)) takes ++ replicate k None

-- what is seen where a body begins are the parameters
parameter_at : (all : List Written) (takes : List TypeId) (k x : ℕ) → seen_of all (before_lets takes k) x ≡ slice_get (all_of (map (type_at all) takes)) x
parameter_at all [] k x = ap (option_map (type_of all)) (none_left k x)
parameter_at all (n ∷ takes) k zero = refl
parameter_at all (n ∷ takes) k (suc x) = parameter_at all takes k x

parameter_below : (m : ℕ) (takes : List TypeId) (k x : ℕ) → AllByRecursion (λ (n : TypeId). nat_lt n.0 m ≡ true) takes → IfSome (seen_in (before_lets takes k) x) (λ g. is_below m g ≡ true)
parameter_below m [] k x all = subst (λ (o : Option Given). IfSome o (λ g. is_below m g ≡ true)) (sym (none_left k x)) tt
parameter_below m (n ∷ takes) k zero all = all.0
parameter_below m (n ∷ takes) k (suc x) all = parameter_below m takes k x all.1

pub parameters_below : (m slots : ℕ) (takes : List TypeId) → AllByRecursion (λ (n : TypeId). nat_lt n.0 m ≡ true) takes → AreSeenBelow m (parameters_in slots takes)
parameters_below m slots takes all = λ x. parameter_below m takes (slots - length takes) x all

length-map : {X Y : Type 0} (f : X → Y) (xs : List X) → length (map f xs) ≡ length xs
length-map f [] = refl
length-map f (x ∷ xs) = ap suc (length-map f xs)

pub length-parameters_in : (slots : ℕ) (takes : List TypeId) → length takes ≤ slots → length (parameters_in slots takes) ≡ slots
length-parameters_in slots takes h =
    let own : List (Option Given) = map (λ n. Some (Of n)) takes in
    omega (arith, length-append own (replicate (slots - length takes) None), length-map (λ (n : TypeId). Some (Of n)) takes, length-replicate {A = Option Given} (slots - length takes) None)

module _ (p : ProgramParts) (f : FunctionParts) (types : List Written) (gives : TypeId) (gives_is : type_at types gives ≡ f.gives) where
  abbrev Computed : Option Given → Type 0
  Computed given = option_map (type_of types) given ≡ type_in p.functions (parameters f) (body_of p f)

  pub typed_of : (n : TypeId) → Computed (Some (Of n)) → n ≡ gives → IsBodyTyped p f
  typed_of n is same = inl (in_has p.functions (parameters f) (body_of p f) (of f.gives) (sym is ∙ ap (λ a. Some (of a)) (ap (type_at types) same ∙ gives_is)))

  pub typed_never : Computed (Some Never) → IsBodyTyped p f
  typed_never is = inr (in_has p.functions (parameters f) (body_of p f) never (sym is))

  pub untyped_none : Computed None → IsBodyTyped p f → ⊥
  untyped_none is (inl has) = let same : None ≡ Some (of f.gives) = is ∙ has_in p.functions (parameters f) (body_of p f) (of f.gives) has in cc
  untyped_none is (inr has) = let same : None ≡ Some never = is ∙ has_in p.functions (parameters f) (body_of p f) never has in cc

  pub untyped_of : (n : TypeId) → Computed (Some (Of n)) → (type_at types n ≡ type_at types gives → ⊥) → IsBodyTyped p f → ⊥
  untyped_of n is apart (inl has) =
      let same : Some (of (type_at types n)) ≡ Some (of f.gives) = is ∙ has_in p.functions (parameters f) (body_of p f) (of f.gives) has in
      let equal : type_at types n ≡ f.gives = cc in
      apart (equal ∙ sym gives_is)
  untyped_of n is apart (inr has) = let same : Some (of (type_at types n)) ≡ Some never = is ∙ has_in p.functions (parameters f) (body_of p f) never has in cc

  pub verdict : ((n : TypeId) → n.0 < length types → type_at types n ≡ type_at types gives → n ≡ gives) → (given : Option Given) → IfSome given (λ g. is_below (length types) g ≡ true) → Computed given → IsVerdictOn p f (is_given_as given gives)
  verdict apart None below is = untyped_none is
  verdict apart (Some Never) below is = typed_never is
  verdict apart (Some (Of n)) below is =
      elim (nat_eq n.0 gives.0) as (λ b. nat_eq n.0 gives.0 ≡ b → IsVerdictOn p f b) [
        | true ↦ λ e. typed_of n is (ap id (eqb-true n.0 gives.0 e))
        | false ↦ λ e. untyped_of n is (λ same. let equal : n.0 ≡ gives.0 = ap (λ (m : TypeId). m.0) (apart n (grind (arith, nat_tests)) same) in let yes : nat_eq n.0 gives.0 ≡ true = grind (arith, nat_tests) in false≢true (sym e ∙ yes))
      ] refl

-- the signature of a function
map_at : {X Y Z : Type 0} (g : X → Z) (h : Y → Z) (xs : List X) (ys : List Y) (i : ℕ) (x : X) (y : Y) → map g xs ≡ map h ys → slice_get xs i ≡ Some x → slice_get ys i ≡ Some y → g x ≡ h y
map_at g h [] ys i x y same a b = absurd (cc)
map_at g h (u ∷ xs) [] i x y same a b = absurd (cc)
map_at g h (u ∷ xs) (v ∷ ys) zero x y same a b = let heads : g u ≡ h v = cc in let first : u ≡ x = cc in let second : v ≡ y = cc in ap g (sym first) ∙ heads ∙ ap h second
map_at g h (u ∷ xs) (v ∷ ys) (suc i) x y same a b = let tails : map g xs ≡ map h ys = cc in map_at g h xs ys i x y tails a b

pub same_length : {X Y Z : Type 0} (g : X → Z) (h : Y → Z) (xs : List X) (ys : List Y) → map g xs ≡ map h ys → length xs ≡ length ys
same_length g h [] [] same = refl
same_length g h [] (v ∷ ys) same = absurd (cc)
same_length g h (u ∷ xs) [] same = absurd (cc)
same_length g h (u ∷ xs) (v ∷ ys) same = let tails : map g xs ≡ map h ys = cc in ap suc (same_length g h xs ys tails)

all_found : {X : Type 0} (P : X → Type 0) (xs : List X) (i : ℕ) (x : X) → AllByRecursion P xs → slice_get xs i ≡ Some x → P x
all_found P [] i x all found = absurd (cc)
all_found P (y ∷ xs) zero x all found = subst P (some_is found) all.0
all_found P (y ∷ xs) (suc i) x all found = all_found P xs i x all.1 found

module _ (types : List Written) (signatures : List Signature) (functions : List FunctionParts) (are : AreSignatures types signatures functions) (i : ℕ) (s : Signature) (f : FunctionParts) (at : slice_get signatures i ≡ Some s) (found : slice_get functions i ≡ Some f) where
  pub takes_are : (all : List Written) → IsLonger types all → map (type_at all) s.takes.items ≡ f.takes
  takes_are all l = map_at (λ (s : Signature). map (type_at all) s.takes.items) (λ (f : FunctionParts). f.takes) signatures functions i s f (are.takes all l) at found

  pub takes_length : length s.takes.items ≡ length f.takes
  takes_length = sym (length-map (type_at types) s.takes.items) ∙ ap length (takes_are types (longer_refl types))

  pub gives_is : (all : List Written) → IsLonger types all → type_at all s.gives ≡ f.gives
  gives_is all l = map_at (λ (s : Signature). type_at all s.gives) (λ (f : FunctionParts). f.gives) signatures functions i s f (are.gives all l) at found

  pub gives_low : s.gives.0 < length types
  gives_low = let low : nat_lt s.gives.0 (length types) ≡ true = all_found (λ (s : Signature). nat_lt s.gives.0 (length types) ≡ true) signatures i s are.gives_below at in grind (arith, nat_tests)

  -- what is seen are the function's parameters
  pub parameters_seen : (all : List Written) → IsLonger types all → (slots : ℕ) → seen_of all (parameters_in slots s.takes.items) ≡ parameters f
  parameters_seen all l slots = λ j x. (parameter_at all s.takes.items (slots - length s.takes.items) x ∙ ap (λ ws. slice_get (all_of ws) x) (takes_are all l)) j

pub takes_low : (types : List Written) (signatures : List Signature) (functions : List FunctionParts) (are : AreSignatures types signatures functions) (i : ℕ) (s : Signature) → slice_get signatures i ≡ Some s → AllByRecursion (λ (n : TypeId). nat_lt n.0 (length types) ≡ true) s.takes.items
takes_low types signatures functions are i s at = all_found (λ (s : Signature). AllByRecursion (λ (n : TypeId). nat_lt n.0 (length types) ≡ true) s.takes.items) signatures i s are.takes_below at

pub function_at : (fs : List FunctionParts) (i : ℕ) → i < length fs → (f : FunctionParts) × (slice_get fs i ≡ Some f)
function_at [] i h = absurd (omega arith)
function_at (f ∷ fs) zero h = (f, refl)
function_at (f ∷ fs) (suc i) h = function_at fs i (omega arith)

-- what holds of the functions before one and of it holds of one more
pub one_more : (p : ProgramParts) (k j : ℕ) (b : Bool) → ((i : ℕ) (f : FunctionParts) → i < k → slice_get p.functions i ≡ Some f → IsBodyTyped p f) → ((f : FunctionParts) → slice_get p.functions k ≡ Some f → IsVerdictOn p f b) → b ≡ true → j ≡ k + 1 →
    (i : ℕ) (f : FunctionParts) → i < j → slice_get p.functions i ≡ Some f → IsBodyTyped p f
one_more p k j b before own good next i f below found =
    elim (nat_eq i k) as (λ c. nat_eq i k ≡ c → IsBodyTyped p f) [
      | true ↦ λ e. subst (IsVerdictOn p f) good (own f (ap (slice_get p.functions) (sym (eqb-true i k e)) ∙ found))
      | false ↦ λ e. before i f (grind (arith, nat_tests)) found
    ] refl

pub first_untyped : (p : ProgramParts) (k : ℕ) (b : Bool) → k < length p.functions → ((i : ℕ) (f : FunctionParts) → i < k → slice_get p.functions i ≡ Some f → IsBodyTyped p f) → ((f : FunctionParts) → slice_get p.functions k ≡ Some f → IsVerdictOn p f b) → b ≡ false →
    IsFirstUntyped p (record { 0 = k })
first_untyped p k b within before own bad =
    let f = function_at p.functions k within in
    record { function = f.0; there = f.1; untyped = subst (IsVerdictOn p f.0) bad (own f.0 f.1); before = before }

pub all_typed : (p : ProgramParts) (k : ℕ) → length p.functions ≤ k → ((i : ℕ) (f : FunctionParts) → i < k → slice_get p.functions i ≡ Some f → IsBodyTyped p f) → IsTyped p
all_typed p k end before i d h = before i (get_or p.functions i d) (omega arith) (slice_get-get_or p.functions i d h)
