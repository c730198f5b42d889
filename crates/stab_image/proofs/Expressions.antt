-- What stands in the state of a run may stand in an image.
use Rattle.std.proofs.Common.{◌≡◌, ℕ, zero, suc, ◌<◌, ◌≤◌, ◌^◌, true, List, [], ◌∷◌, ◌++◌, length, Option, Some, None, slice_get, nat_lt, refl, arith}
use Rattle.std.specs.Prelude.{◌&&◌, not}
use Rattle.std.specs.List.{AllByRecursion}
use Rattle.std.proofs.lemmas.Bool.{and_from, eq-eqb}
use Rattle.std.proofs.lemmas.Bool.Decides.{nat_tests}
use Rattle.stab_base.specs.Datum.{Datum, unit, truth, int, text, chan, reference, pair}
use Rattle.stab_code.specs.Program.{FunctionParts, ProgramParts, arity_of}
use Rattle.language.specs.declared.head.Head.{Head}
use Rattle.language.specs.declared.head.Head.TheVariants.{Block, Call, Spawn, Stable, Section}
use Rattle.language.specs.Expression.{Expr, value, variable, failed, form, Parts, none, part}
use Rattle.language.specs.Redex.{max_spine, spine}
use Rattle.journal_laws.specs.Known.{ArePartsIn, IsExprIn, IsHeadIn, IsIn, Known}
use Rattle.expression_text.specs.Spelling.{count, item_word, items_of, opening, spell, spell_parts, spell_value, IsWell, AreWell, IsWithin}
use Rattle.image_text.specs.Range.{AreInRange, IsCount, IsInRange, IsName}
use Rattle.image_lines.specs.LineText.{IsRight}
use Rattle.image_state.specs.Counted.{are_of, has_function, is_of}
use Rattle.image_state.specs.Stands.{has_arity, head_stands, parts_stand, stands, thread_stands}
use Rattle.image_state.specs.Values.{has_texts, is_known}
use Rattle.standing_runs.proofs.Looks.{within_depth}
use Rattle.standing_runs.specs.Numbers.{IsSlot}
use Rattle.standing_runs.specs.Standing.{IsBounded, IsThread}
use Rattle.standing_runs.specs.Whole.{AreWhole, bound_by, IsForm, IsHead, IsValue, IsWhole, Takes}

pub below_so : (m n : ℕ) → m < n → nat_lt m n ≡ true
below_so m n lt = grind (arith, nat_tests)

not_below : (m n : ℕ) → n ≤ m → not (nat_lt m n) ≡ true
not_below m n le = grind (arith, nat_tests)

all_append : {X : Type 0} (P : X → Type 0) (xs ys : List X) → AllByRecursion P xs → AllByRecursion P ys → AllByRecursion P (xs ++ ys)
all_append P [] ys h k = k
all_append P (x ∷ xs) ys h k = (h.0, all_append P xs ys h.1 k)

-- a function that takes arguments is there
there : (fs : List FunctionParts) (f n : ℕ) → Takes (slice_get fs f) n → f < length fs
there [] f n h = absurd h
there (g ∷ fs) zero n h = omega arith
there (g ∷ fs) (suc f) n h = omega (arith, there fs f n h)

takes_so : (o : Option FunctionParts) (n : ℕ) → Takes o n → has_arity o n ≡ true
takes_so None n h = absurd h
takes_so (Some f) n h = eq-eqb (arity_of f) n h

-- the numbers that are known are within the ranges of names
pub record AreNames (k : Known) : Type 0 where
  pub channels : (c : ℕ) → k.channels c ≡ true → IsName c
  pub references : (r : ℕ) → k.references r ≡ true → IsName r
  pub sections : (m : ℕ) → k.sections m ≡ true → IsCount m

-- functions and texts can be numbered
pub record AreFew (p : ProgramParts) : Type 0 where
  pub functions : length p.functions < 2 ^ 32
  pub texts : length p.texts < 2 ^ 32

module _ (p : ProgramParts) where
  pub texts_so : (v : Datum) → IsValue p v → has_texts (length p.texts) v ≡ true
  texts_so (text t) h = below_so t (length p.texts) h
  texts_so (pair a b) h = and_from (has_texts (length p.texts) a) (has_texts (length p.texts) b) (texts_so a h.1) (texts_so b h.2)
  texts_so v h = refl

  function_so : (h : Head) (n : ℕ) → IsHead p h n → has_function p h ≡ true
  function_so (Call f) n h = below_so f.0 (length p.functions) (there p.functions f.0 n h)
  function_so (Spawn f) n h = below_so f.0 (length p.functions) (there p.functions f.0 n h)
  function_so (Stable f) n h = below_so f.0 (length p.functions) (there p.functions f.0 n h)
  function_so g n h = refl

  mutual
    -- its functions and texts are the program's
    pub counted : (bound : List ℕ) (e : Expr) → IsWhole p bound e → is_of p e ≡ true
    counted bound (value v) w = texts_so v w
    counted bound (variable x) w = refl
    counted bound (failed k) w = refl
    counted bound (form h ps) w = and_from (has_function p h) (are_of p ps) (function_so h (count ps) w.0.head) (all_counted bound (items_of h) ps w.1)

    all_counted : (bound : List ℕ) (items : List (Option ℕ)) (ps : Parts) → AreWhole p bound items ps → are_of p ps ≡ true
    all_counted bound items none w = refl
    all_counted bound [] (part e ps) w = and_from (is_of p e) (are_of p ps) (counted bound e w.0) (all_counted bound [] ps w.1)
    all_counted bound (o ∷ items) (part e ps) w = and_from (is_of p e) (are_of p ps) (counted bound e w.0) (all_counted (bound_by bound o) items ps w.1)

  -- it is well formed
  within_so : (v : Datum) → IsValue p v → IsWithin v
  within_so (pair a b) h = (h.0, within_so a h.1, within_so b h.2)
  within_so v h = tt

  mutual
    well : (bound : List ℕ) (e : Expr) → IsWhole p bound e → IsWell e
    well bound (value v) w = within_so v w
    well bound (variable x) w = tt
    well bound (failed k) w = tt
    well bound (form h ps) w = (w.0.parts, all_well bound (items_of h) ps w.1)

    all_well : (bound : List ℕ) (items : List (Option ℕ)) (ps : Parts) → AreWhole p bound items ps → AreWell ps
    all_well bound items none w = tt
    all_well bound [] (part e ps) w = (well bound e w.0, all_well bound [] ps w.1)
    all_well bound (o ∷ items) (part e ps) w = (well bound e w.0, all_well (bound_by bound o) items ps w.1)

  module _ (k : Known) where
    pub known_so : (v : Datum) → IsIn k v → is_known k v ≡ true
    known_so (chan c) h = h
    known_so (reference r) h = h
    known_so (pair a b) h = and_from (is_known k a) (is_known k b) (known_so a h.0) (known_so b h.1)
    known_so v h = refl

    head_so : (h : Head) (n : ℕ) → IsHead p h n → IsHeadIn k h → head_stands p k h n ≡ true
    head_so (Block []) n h i = absurd h
    head_so (Block (s ∷ slots)) n h i = refl
    head_so (Call f) n h i = takes_so (slice_get p.functions f.0) n h
    head_so (Spawn f) n h i = takes_so (slice_get p.functions f.0) n h
    head_so (Stable f) n h i = takes_so (slice_get p.functions f.0) n h
    head_so (Section m) n h i = i
    head_so g n h i = refl

    mutual
      -- it may stand where these slots are bound
      may_stand : (bound : List ℕ) (e : Expr) → IsWhole p bound e → IsExprIn k e → stands p k bound e ≡ true
      may_stand bound (value v) w i = known_so v i
      may_stand bound (variable x) w i = w.0
      may_stand bound (failed f) w i = absurd w
      may_stand bound (form h ps) w i = and_from (head_stands p k h (count ps)) (parts_stand p k bound (items_of h) ps) (head_so h (count ps) w.0.head i.0) (all_stand bound (items_of h) ps w.1 i.1)

      all_stand : (bound : List ℕ) (items : List (Option ℕ)) (ps : Parts) → AreWhole p bound items ps → ArePartsIn k ps → parts_stand p k bound items ps ≡ true
      all_stand bound items none w i = refl
      all_stand bound [] (part e ps) w i = and_from (stands p k bound e) (parts_stand p k bound [] ps) (may_stand bound e w.0 i.0) (all_stand bound [] ps w.1 i.1)
      all_stand bound (None ∷ items) (part e ps) w i = and_from (stands p k bound e) (parts_stand p k bound items ps) (may_stand bound e w.0 i.0) (all_stand bound items ps w.1 i.1)
      all_stand bound (Some x ∷ items) (part e ps) w i =
          and_from (stands p k bound e) (parts_stand p k (bound ++ x ∷ []) items ps) (may_stand bound e w.0 i.0) (all_stand (bound ++ x ∷ []) items ps w.1 i.1)

    bounded_stands : (e : Expr) → IsBounded p e → IsExprIn k e → (stands p k [] e && not (nat_lt max_spine (spine e))) ≡ true
    bounded_stands e b i = and_from (stands p k [] e) (not (nat_lt max_spine (spine e))) (may_stand [] e b.whole i) (not_below max_spine (spine e) b.round)

    pub thread_so : (e : Expr) → IsThread p e → IsExprIn k e → thread_stands p k e ≡ true
    thread_so (failed f) b i = refl
    thread_so (value v) b i = bounded_stands (value v) b i
    thread_so (variable x) b i = bounded_stands (variable x) b i
    thread_so (form h ps) b i = bounded_stands (form h ps) b i

    module _ (few : AreFew p) (names : AreNames k) where
      -- its numbers are within their ranges
      value_range : (v : Datum) → IsValue p v → IsIn k v → AreInRange (spell_value v)
      value_range unit h i = (tt, tt)
      value_range (truth b) h i = (tt, tt)
      value_range (int n) h i = (h, tt)
      value_range (text t) h i = (let low : t < length p.texts = h in omega (arith, few.texts), tt)
      value_range (chan c) h i = (names.channels c i, tt)
      value_range (reference r) h i = (names.references r i, tt)
      value_range (pair a b) h i = (tt, all_append IsInRange (spell_value a) (spell_value b) (value_range a h.1 i.0) (value_range b h.2 i.1))

      opening_range : (h : Head) (n : ℕ) → IsForm p h n → IsHeadIn k h → IsInRange (opening h n)
      opening_range (Block slots) n f i = omega (arith, f.parts, f.few)
      opening_range (Call g) n f i = (omega (arith, there p.functions g.0 n f.head, few.functions), omega (arith, f.few))
      opening_range (Spawn g) n f i = (omega (arith, there p.functions g.0 n f.head, few.functions), omega (arith, f.few))
      opening_range (Stable g) n f i = (omega (arith, there p.functions g.0 n f.head, few.functions), omega (arith, f.few))
      opening_range (Section m) n f i = names.sections m.0 i
      opening_range g n f i = tt

      slots_of_head : (h : Head) (n : ℕ) → IsHead p h n → AllByRecursion IsSlot (items_of h)
      slots_of_head (Block []) n h = absurd h
      slots_of_head (Block (s ∷ slots)) n h = h
      slots_of_head g n h = tt

      item_range : (o : Option ℕ) → IsSlot o → IsInRange (item_word o)
      item_range None h = tt
      item_range (Some x) h = let low : x < 2 ^ 32 = h in omega arith

      mutual
        range : (bound : List ℕ) (e : Expr) → IsWhole p bound e → IsExprIn k e → AreInRange (spell e)
        range bound (value v) w i = value_range v w i
        range bound (variable x) w i = (let low : x < 2 ^ 32 = w.1 in omega arith, tt)
        range bound (failed f) w i = (tt, tt)
        range bound (form h ps) w i = (opening_range h (count ps) w.0 i.0, all_range bound (items_of h) ps (slots_of_head h (count ps) w.0.head) w.1 i.1)

        all_range : (bound : List ℕ) (items : List (Option ℕ)) (ps : Parts) → AllByRecursion IsSlot items → AreWhole p bound items ps → ArePartsIn k ps → AreInRange (spell_parts items ps)
        all_range bound items none s w i = tt
        all_range bound [] (part e ps) s w i = all_append IsInRange (spell e) (spell_parts [] ps) (range bound e w.0 i.0) (all_range bound [] ps s w.1 i.1)
        all_range bound (o ∷ items) (part e ps) s w i = (
          item_range o s.0,
          all_append IsInRange (spell e) (spell_parts items ps) (range bound e w.0 i.0) (all_range (bound_by bound o) items ps s.1 w.1 i.1),
        )

      bounded_right : (e : Expr) → IsBounded p e → IsExprIn k e → IsRight e
      bounded_right e b i = record { range = range [] e b.whole i; well = well [] e b.whole; flat = b.flat }

      pub value_right : (v : Datum) → IsValue p v → IsIn k v → IsRight (value v)
      value_right v h i = record { range = value_range v h i; well = within_so v h; flat = omega (arith, within_depth p v h) }

      pub thread_right : (e : Expr) → IsThread p e → IsExprIn k e → IsRight e
      thread_right (failed f) b i = record { range = (tt, tt); well = tt; flat = omega arith }
      thread_right (value v) b i = bounded_right (value v) b i
      thread_right (variable x) b i = bounded_right (variable x) b i
      thread_right (form h ps) b i = bounded_right (form h ps) b i

  pub thread_counted : (e : Expr) → IsThread p e → is_of p e ≡ true
  thread_counted (failed f) b = refl
  thread_counted (value v) b = counted [] (value v) b.whole
  thread_counted (variable x) b = refl
  thread_counted (form h ps) b = counted [] (form h ps) b.whole
