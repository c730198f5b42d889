-- The types of shapes.
use Rattle.std.proofs.Common.{◌≡◌, ℕ, zero, suc, ◌+◌, ◌≤◌, ◌<◌, nat_lt, Bool, true, false, ◌&&◌, List, [], ◌∷◌, ◌++◌, length, slice_get, unwrap_or, Some, refl, sym, ap, subst, ◌∙◌, arith, length-append, append_assoc, append-nil, ◌⊎◌, inl, inr}
use Rattle.std.proofs.lemmas.Bool.{false≢true}
use Rattle.std.proofs.lemmas.Bool.Decides.{nat_tests}
use Rattle.stab_code.specs.Written.{Written, unit_type, bool_type, int_type, text_type, chan_type, ref_type, pair_type}
use Rattle.stab_code.proofs.Lists.{slice_get-left, slice_get-right}
use Rattle.type_table.specs.declared.shape.TypeId.{TypeId}
use Rattle.type_table.specs.declared.shape.TypeShape.{TypeShape}
use Rattle.type_table.specs.declared.shape.TypeShape.TheVariants as shape
use Rattle.type_table.specs.Table.{type_at, written_by, is_made_below, types_after, types_of, base_shapes, base_types, is_made, AreMadeBelow, AreApart, IsLonger}

-- the number of a place
abbrev pub id : ℕ → TypeId
id n = record { 0 = n }

pub length-types_after : (types : List Written) (shapes : List TypeShape) → length (types_after types shapes) ≡ length types + length shapes
length-types_after types [] = omega arith
length-types_after types (s ∷ shapes) = length-types_after (types ++ written_by types s ∷ []) shapes ∙ omega (arith, length-append types (written_by types s ∷ []))

pub length-types_of : (shapes : List TypeShape) → length (types_of shapes) ≡ length shapes
length-types_of shapes = length-types_after [] shapes ∙ omega arith

-- more types leave the first ones
pub type_at-longer : (old new : List Written) (n : TypeId) → IsLonger old new → n.0 < length old → type_at new n ≡ type_at old n
type_at-longer old new n l h = ap (λ ts. type_at ts n) l.is ∙ ap (λ o. unwrap_or o unit_type) (slice_get-left old l.more n.0 h)

pub longer_refl : (ts : List Written) → IsLonger ts ts
longer_refl ts = record { more = []; is = sym (append-nil ts) }

pub longer_trans : (a b c : List Written) → IsLonger a b → IsLonger b c → IsLonger a c
longer_trans a b c l m = record { more = l.more ++ m.more; is = m.is ∙ ap (λ ts. ts ++ m.more) l.is ∙ append_assoc a l.more m.more }

pub longer_length : (a b : List Written) → IsLonger a b → length a ≤ length b
longer_length a b l = omega (arith, ap length l.is, length-append a l.more)

and_true : (x y : Bool) → (x && y) ≡ true → (x ≡ true) × (y ≡ true)
and_true true y h = (refl, h)
and_true false y h = absurd (false≢true h)

below_is : (a n : ℕ) → nat_lt a n ≡ true → a < n
below_is a n h = grind (arith, nat_tests)

written-longer : (old new : List Written) (s : TypeShape) → IsLonger old new → is_made_below (length old) s ≡ true → written_by new s ≡ written_by old s
written-longer old new (shape.Chan a) l h = ap chan_type (type_at-longer old new a l (below_is a.0 _ h))
written-longer old new (shape.Ref a) l h = ap ref_type (type_at-longer old new a l (below_is a.0 _ h))
written-longer old new (shape.Pair a b) l h =
    let parts = and_true (nat_lt a.0 (length old)) (nat_lt b.0 (length old)) h in
    ap (λ x. pair_type x (type_at new b)) (type_at-longer old new a l (below_is a.0 _ parts.0)) ∙ ap (pair_type (type_at old a)) (type_at-longer old new b l (below_is b.0 _ parts.1))
written-longer old new _ l h = refl

pub after_longer : (types : List Written) (shapes : List TypeShape) → IsLonger types (types_after types shapes)
after_longer types [] = longer_refl types
after_longer types (s ∷ shapes) = longer_trans types (types ++ written_by types s ∷ []) _ (record { more = written_by types s ∷ []; is = refl }) (after_longer (types ++ written_by types s ∷ []) shapes)

-- the type of each number is that of its shape
after_at : (types : List Written) (shapes : List TypeShape) (k i : ℕ) (s : TypeShape) → i ≡ length types + k → slice_get shapes k ≡ Some s → is_made_below i s ≡ true →
    type_at (types_after types shapes) (id i) ≡ written_by (types_after types shapes) s
after_at types [] k i s e found below = absurd (cc)
after_at types (x ∷ shapes) zero i s e found below =
    let next = types ++ written_by types x ∷ [] in
    let all = types_after next shapes in
    let same : x ≡ s = cc in
    let size = length-append types (written_by types x ∷ []) in
    let at : i ≡ length types = omega arith in
    let low : is_made_below (length types) s ≡ true = subst (λ (j : ℕ). is_made_below j s ≡ true) at below in
    type_at-longer next all (id i) (after_longer next shapes) (omega arith)
    ∙ ap (λ o. unwrap_or o unit_type) (slice_get-right types (written_by types x ∷ []) i 0 (omega arith))
    ∙ ap (written_by types) same
    ∙ sym (written-longer types all s (after_longer types (x ∷ shapes)) low)
after_at types (x ∷ shapes) (suc k) i s e found below =
    let size = length-append types (written_by types x ∷ []) in
    after_at (types ++ written_by types x ∷ []) shapes k i s (omega arith) found below

lt_more : (a m n : ℕ) → m ≤ n → nat_lt a m ≡ true → nat_lt a n ≡ true
lt_more a m n le h = grind (arith, nat_tests)

made_more : (m n : ℕ) (s : TypeShape) → m ≤ n → is_made_below m s ≡ true → is_made_below n s ≡ true
made_more m n (shape.Chan a) le h = lt_more a.0 m n le h
made_more m n (shape.Ref a) le h = lt_more a.0 m n le h
made_more m n (shape.Pair a b) le h =
    let parts = and_true (nat_lt a.0 m) (nat_lt b.0 m) h in
    let left : nat_lt a.0 n ≡ true = lt_more a.0 m n le parts.0 in
    ap (λ x. x && nat_lt b.0 n) left ∙ lt_more b.0 m n le parts.1
made_more m n _ le h = refl

found_within : (shapes : List TypeShape) (i : ℕ) (s : TypeShape) → slice_get shapes i ≡ Some s → i < length shapes
found_within [] i s h = absurd (cc)
found_within (x ∷ shapes) zero s h = omega arith
found_within (x ∷ shapes) (suc i) s h = omega (arith, found_within shapes i s h)

found_at : (shapes : List TypeShape) (i : ℕ) → i < length shapes → (s : TypeShape) × (slice_get shapes i ≡ Some s)
found_at [] i h = absurd (omega arith)
found_at (x ∷ shapes) zero h = (x, refl)
found_at (x ∷ shapes) (suc i) h = found_at shapes i (omega arith)

module _ (shapes : List TypeShape) (made : AreMadeBelow shapes) (all : List Written) (l : IsLonger (types_of shapes) all) where
  pub types_at : (i : ℕ) (s : TypeShape) → slice_get shapes i ≡ Some s → type_at all (id i) ≡ written_by all s
  types_at i s found =
      let within = found_within shapes i s found in
      let size = length-types_of shapes in
      type_at-longer (types_of shapes) all (id i) l (omega arith)
      ∙ after_at [] shapes i i s (omega arith) found (made i s found)
      ∙ sym (written-longer (types_of shapes) all s l (made_more i (length (types_of shapes)) s (omega arith) (made i s found)))

  is_unit : (s : TypeShape) → written_by all s ≡ unit_type → s ≡ shape.Unit
  is_unit shape.Unit h = refl
  is_unit _ h = absurd (cc)

  is_bool : (s : TypeShape) → written_by all s ≡ bool_type → s ≡ shape.Bool
  is_bool shape.Bool h = refl
  is_bool _ h = absurd (cc)

  is_int : (s : TypeShape) → written_by all s ≡ int_type → s ≡ shape.Int
  is_int shape.Int h = refl
  is_int _ h = absurd (cc)

  is_text : (s : TypeShape) → written_by all s ≡ text_type → s ≡ shape.Text
  is_text shape.Text h = refl
  is_text _ h = absurd (cc)

  is_chan : (s : TypeShape) (a : Written) → written_by all s ≡ chan_type a → (m : TypeId) × (s ≡ shape.Chan m) × (type_at all m ≡ a)
  is_chan (shape.Chan m) a h = (m, refl, cc)
  is_chan _ a h = absurd (cc)

  is_ref : (s : TypeShape) (a : Written) → written_by all s ≡ ref_type a → (m : TypeId) × (s ≡ shape.Ref m) × (type_at all m ≡ a)
  is_ref (shape.Ref m) a h = (m, refl, cc)
  is_ref _ a h = absurd (cc)

  is_pair : (s : TypeShape) (a b : Written) → written_by all s ≡ pair_type a b → (m n : TypeId) × (s ≡ shape.Pair m n) × (type_at all m ≡ a) × (type_at all n ≡ b)
  is_pair (shape.Pair m n) a b h = (m, n, refl, cc, cc)
  is_pair _ a b h = absurd (cc)

  module _ (apart : AreApart shapes) where
    same_shape : (i j : ℕ) (s t : TypeShape) → slice_get shapes i ≡ Some s → slice_get shapes j ≡ Some t → s ≡ t → i ≡ j
    same_shape i j s t found also same = apart i j t (found ∙ ap Some same) also

    -- equal types have equal numbers, of shapes that are this type
    abbrev Same : Written → Type 0
    Same w = (i j : ℕ) (s t : TypeShape) → slice_get shapes i ≡ Some s → slice_get shapes j ≡ Some t → written_by all s ≡ w → written_by all t ≡ w → i ≡ j

    -- the same of parts of types that are there
    same_part : (a : Written) → Same a → (m n : TypeId) (i j : ℕ) (s t : TypeShape) → slice_get shapes i ≡ Some s → slice_get shapes j ≡ Some t → nat_lt m.0 i ≡ true → nat_lt n.0 j ≡ true → type_at all m ≡ a → type_at all n ≡ a → m ≡ n
    same_part a same m n i j s t found also low high p q =
        let first = found_within shapes i s found in
        let second = found_within shapes j t also in
        let below = below_is m.0 i low in
        let above = below_is n.0 j high in
        let u = found_at shapes m.0 (omega arith) in
        let v = found_at shapes n.0 (omega arith) in
        ap id (same m.0 n.0 u.0 v.0 u.1 v.1 (sym (types_at m.0 u.0 u.1) ∙ p) (sym (types_at n.0 v.0 v.1) ∙ q))

    same_type : (w : Written) → Same w
    same_type unit_type i j s t found also h k = same_shape i j s t found also (is_unit s h ∙ sym (is_unit t k))
    same_type bool_type i j s t found also h k = same_shape i j s t found also (is_bool s h ∙ sym (is_bool t k))
    same_type int_type i j s t found also h k = same_shape i j s t found also (is_int s h ∙ sym (is_int t k))
    same_type text_type i j s t found also h k = same_shape i j s t found also (is_text s h ∙ sym (is_text t k))
    same_type (chan_type a) i j s t found also h k =
        let x = is_chan s a h in
        let y = is_chan t a k in
        let low : nat_lt x.0.0 i ≡ true = subst (λ (u : TypeShape). is_made_below i u ≡ true) x.1 (made i s found) in
        let high : nat_lt y.0.0 j ≡ true = subst (λ (u : TypeShape). is_made_below j u ≡ true) y.1 (made j t also) in
        let same : x.0 ≡ y.0 = same_part a (same_type a) x.0 y.0 i j s t found also low high x.2 y.2 in
        same_shape i j s t found also (x.1 ∙ ap shape.Chan same ∙ sym y.1)
    same_type (ref_type a) i j s t found also h k =
        let x = is_ref s a h in
        let y = is_ref t a k in
        let low : nat_lt x.0.0 i ≡ true = subst (λ (u : TypeShape). is_made_below i u ≡ true) x.1 (made i s found) in
        let high : nat_lt y.0.0 j ≡ true = subst (λ (u : TypeShape). is_made_below j u ≡ true) y.1 (made j t also) in
        let same : x.0 ≡ y.0 = same_part a (same_type a) x.0 y.0 i j s t found also low high x.2 y.2 in
        same_shape i j s t found also (x.1 ∙ ap shape.Ref same ∙ sym y.1)
    same_type (pair_type a b) i j s t found also h k =
        let x = is_pair s a b h in
        let y = is_pair t a b k in
        let low = and_true (nat_lt x.0.0 i) (nat_lt x.1.0 i) (subst (λ (u : TypeShape). is_made_below i u ≡ true) x.2 (made i s found)) in
        let high = and_true (nat_lt y.0.0 j) (nat_lt y.1.0 j) (subst (λ (u : TypeShape). is_made_below j u ≡ true) y.2 (made j t also)) in
        let first : x.0 ≡ y.0 = same_part a (same_type a) x.0 y.0 i j s t found also low.0 high.0 x.3 y.3 in
        let second : x.1 ≡ y.1 = same_part b (same_type b) x.1 y.1 i j s t found also low.1 high.1 x.4 y.4 in
        same_shape i j s t found also (x.2 ∙ ap (λ m. shape.Pair m x.1) first ∙ ap (shape.Pair y.0) second ∙ sym y.2)

    pub equal_numbers : (m n : TypeId) → m.0 < length (types_of shapes) → n.0 < length (types_of shapes) → type_at all m ≡ type_at all n → m ≡ n
    equal_numbers m n low high same =
        let size = length-types_of shapes in
        let u = found_at shapes m.0 (omega arith) in
        let v = found_at shapes n.0 (omega arith) in
        ap id (same_type (type_at all n) m.0 n.0 u.0 v.0 u.1 v.1 (sym (types_at m.0 u.0 u.1) ∙ same) (sym (types_at n.0 v.0 v.1)))

-- one shape more
pub types_more : (types : List Written) (shapes : List TypeShape) (s : TypeShape) → types_after types (shapes ++ s ∷ []) ≡ types_after types shapes ++ written_by (types_after types shapes) s ∷ []
types_more types [] s = refl
types_more types (x ∷ shapes) s = types_more (types ++ written_by types x ∷ []) shapes s

found_more : (shapes : List TypeShape) (s x : TypeShape) (i : ℕ) → slice_get (shapes ++ s ∷ []) i ≡ Some x → (slice_get shapes i ≡ Some x) ⊎ ((i ≡ length shapes) × (s ≡ x))
found_more [] s x zero h = inr (refl, cc)
found_more [] s x (suc i) h = absurd (cc)
found_more (y ∷ shapes) s x zero h = inl h
found_more (y ∷ shapes) s x (suc i) h = elim (found_more shapes s x i h) [ inl a ↦ inl a | inr b ↦ inr (ap suc b.0, b.1) ]

pub made_with : (shapes : List TypeShape) (s : TypeShape) → AreMadeBelow shapes → is_made_below (length shapes) s ≡ true → AreMadeBelow (shapes ++ s ∷ [])
made_with shapes s made below i x h =
    elim (found_more shapes s x i h) [
      | inl a ↦ made i x a
      | inr b ↦ subst (λ (j : ℕ). is_made_below j x ≡ true) (sym b.0) (subst (λ (y : TypeShape). is_made_below (length shapes) y ≡ true) b.1 below)
    ]

pub apart_with : (shapes : List TypeShape) (s : TypeShape) → AreApart shapes → ((i : ℕ) → slice_get shapes i ≡ Some s → ⊥) → AreApart (shapes ++ s ∷ [])
apart_with shapes s apart new i j x h k =
    elim (found_more shapes s x i h) [
      | inl a ↦ elim (found_more shapes s x j k) [ inl c ↦ apart i j x a c | inr d ↦ absurd (new i (a ∙ ap Some (sym d.1))) ]
      | inr b ↦ elim (found_more shapes s x j k) [ inl c ↦ absurd (new j (c ∙ ap Some (sym b.1))) | inr d ↦ b.0 ∙ sym d.0 ]
    ]

pub types_snoc : (shapes : List TypeShape) (s : TypeShape) → types_of (shapes ++ s ∷ []) ≡ types_of shapes ++ written_by (types_of shapes) s ∷ []
types_snoc shapes s = types_more [] shapes s

pub found_last : (shapes : List TypeShape) (s : TypeShape) → slice_get (shapes ++ s ∷ []) (length shapes) ≡ Some s
found_last [] s = refl
found_last (x ∷ shapes) s = found_last shapes s

-- ---- the base types

some_is : {X : Type 0} {a b : X} → Some a ≡ Some b → a ≡ b
some_is h = cc

-- the number of a base type's shape
abbrev place : TypeShape → ℕ
place shape.Bool = 1
place shape.Int = 2
place shape.Text = 3
place _ = 0

base_place : (i : ℕ) (s : TypeShape) → slice_get base_shapes i ≡ Some s → i ≡ place s
base_place zero s h = ap place (some_is h)
base_place (suc zero) s h = ap place (some_is h)
base_place (suc (suc zero)) s h = ap place (some_is h)
base_place (suc (suc (suc zero))) s h = ap place (some_is h)
base_place (suc (suc (suc (suc i)))) s h = absurd (cc)

pub base_apart : AreApart base_shapes
base_apart i j s found also = base_place i s found ∙ sym (base_place j s also)

base_below : (i k : ℕ) (s : TypeShape) → slice_get base_shapes i ≡ Some s → is_made_below k s ≡ true
base_below zero k s h = ap (is_made_below k) (sym (some_is h))
base_below (suc zero) k s h = ap (is_made_below k) (sym (some_is h))
base_below (suc (suc zero)) k s h = ap (is_made_below k) (sym (some_is h))
base_below (suc (suc (suc zero))) k s h = ap (is_made_below k) (sym (some_is h))
base_below (suc (suc (suc (suc i)))) k s h = absurd (cc)

pub base_made : AreMadeBelow base_shapes
base_made i s found = base_below i i s found

not_base : (b s : TypeShape) → is_made b ≡ false → is_made s ≡ true → Some b ≡ Some s → ⊥
not_base b s base made same = false≢true (sym base ∙ ap is_made (some_is same) ∙ made)

-- a shape that is made of others, and isn't behind the base types, is nowhere
pub nowhere_in : (keys : List TypeShape) (s : TypeShape) → is_made s ≡ true → ((i : ℕ) → slice_get keys i ≡ Some s → ⊥) → (i : ℕ) → slice_get (base_shapes ++ keys) i ≡ Some s → ⊥
nowhere_in keys s made new zero found = not_base shape.Unit s refl made found
nowhere_in keys s made new (suc zero) found = not_base shape.Bool s refl made found
nowhere_in keys s made new (suc (suc zero)) found = not_base shape.Int s refl made found
nowhere_in keys s made new (suc (suc (suc zero))) found = not_base shape.Text s refl made found
nowhere_in keys s made new (suc (suc (suc (suc i)))) found = new i found

-- the shapes behind the base types
pub behind_base : (keys : List TypeShape) (i n : ℕ) → n ≡ i + 4 → slice_get (base_shapes ++ keys) n ≡ slice_get keys i
behind_base keys i n is = slice_get-right base_shapes keys n i (omega arith)

-- the first numbers are those of the base types
pub base_at : (all : List Written) → IsLonger base_types all → (k : ℕ) (s : TypeShape) → slice_get base_shapes k ≡ Some s → type_at all (id k) ≡ written_by all s
base_at all l zero s h = ap (λ ts. type_at ts (id 0)) l.is ∙ ap (written_by all) (some_is h)
base_at all l (suc zero) s h = ap (λ ts. type_at ts (id 1)) l.is ∙ ap (written_by all) (some_is h)
base_at all l (suc (suc zero)) s h = ap (λ ts. type_at ts (id 2)) l.is ∙ ap (written_by all) (some_is h)
base_at all l (suc (suc (suc zero))) s h = ap (λ ts. type_at ts (id 3)) l.is ∙ ap (written_by all) (some_is h)
base_at all l (suc (suc (suc (suc k)))) s h = absurd (cc)

pub base_number : (now all : List Written) → IsLonger base_types now → IsLonger now all → (k : ℕ) (b s : TypeShape) → slice_get base_shapes k ≡ Some b → s ≡ b → type_at all (id k) ≡ written_by all s
base_number now all base l k b s found same = base_at all (longer_trans base_types now all base l) k s (found ∙ ap Some (sym same))

pub base_within : (now : List Written) → IsLonger base_types now → (k : ℕ) → k < 4 → k < length now
base_within now base k few = let four : 4 ≤ length now = longer_length base_types now base in omega arith
