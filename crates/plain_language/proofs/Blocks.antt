-- What is left of a block, and the parts that wait.
use Rattle.std.proofs.Common.{◌≡◌, ℕ, Bool, true, false, cond, nat_eq, List, [], ◌∷◌, length, take, drop, get_or, Option, Some, refl, sym, ap, ◌∙◌, arith}
use Rattle.std.specs.Prelude.{option_and_then}
use Rattle.stab_base.specs.Datum.{Datum}
use Rattle.stab_base.specs.declared.fault.Fault.TheVariants.{WrongKind}
use Rattle.plain_language.specs.declared.given.Given.TheVariants.{Nothing}
use Rattle.language.specs.declared.head.Head.TheVariants.{Block}
use Rattle.language.specs.Expression.{Expr, value, variable, failed, form, Parts, none, part, parts_of, put}
use Rattle.language.specs.Busy.{values_in, waiting_parts}
use Rattle.plain_language.specs.Given.{given_to, as_value}
use Rattle.language.specs.Operands.{one_of, truth_of}
use Rattle.plain_language.specs.Pures.{left_of_block}
use Rattle.language.specs.Outcome.{Outcome, becomes, fails, with_one, with_truth, after_item, block_of, branch_of, waiting_one}
use Rattle.language.proofs.Operands.{with_truth-some}
use Rattle.language.proofs.Putting.{put-nothing}

pub put-given_nothing : (e : Expr) → put (given_to Nothing) e ≡ e
put-given_nothing e = put-nothing e

pub waiting_two : (es : List Expr) (d : Expr) → length es ≡ 2 → becomes (get_or es 1 d) ≡ waiting_one (parts_of (drop 1 es))
waiting_two [] d h = absurd (omega arith)
waiting_two (a ∷ []) d h = absurd (omega arith)
waiting_two (a ∷ b ∷ []) d h = refl
waiting_two (a ∷ b ∷ c ∷ es) d h = absurd (omega arith)

pub waiting_wrong : (es : List Expr) → (length es ≡ 2 → ⊥) → fails WrongKind ≡ waiting_one (parts_of (drop 1 es))
waiting_wrong [] h = refl
waiting_wrong (a ∷ []) h = refl
waiting_wrong (a ∷ b ∷ []) h = absurd (h (omega arith))
waiting_wrong (a ∷ b ∷ c ∷ es) h = refl

-- the test of a branch
branch_by : (vs : List Datum) (k : Bool → Outcome) (b : Bool) → Some b ≡ option_and_then truth_of (one_of vs) → with_one vs (λ v. with_truth v k) ≡ k b
branch_by [] k b h = cc
branch_by (v ∷ []) k b h = with_truth-some v b k h
branch_by (v ∷ w ∷ vs) k b h = cc

three : (b : Bool) (es : List Expr) (d : Expr) → length es ≡ 3 → becomes (cond b (get_or es 1 d) (get_or es 2 d)) ≡ branch_of b (parts_of (drop 1 es))
three b [] d h = absurd (omega arith)
three b (x ∷ []) d h = absurd (omega arith)
three b (x ∷ y ∷ []) d h = absurd (omega arith)
three b (x ∷ y ∷ z ∷ []) d h = refl
three b (x ∷ y ∷ z ∷ w ∷ es) d h = absurd (omega arith)

not_three : (b : Bool) (es : List Expr) → (length es ≡ 3 → ⊥) → fails WrongKind ≡ branch_of b (parts_of (drop 1 es))
not_three b [] h = refl
not_three b (x ∷ []) h = refl
not_three b (x ∷ y ∷ []) h = refl
not_three b (x ∷ y ∷ z ∷ []) h = absurd (h (omega arith))
not_three b (x ∷ y ∷ z ∷ w ∷ es) h = refl

pub branched : (es : List Expr) (b : Bool) (d : Expr) → Some b ≡ option_and_then truth_of (one_of (values_in (take 1 es))) → length es ≡ 3 →
    becomes (cond b (get_or es 1 d) (get_or es 2 d)) ≡ with_one (values_in (take 1 es)) (λ v. with_truth v (λ c. branch_of c (parts_of (drop 1 es))))
branched es b d h size = three b es d size ∙ sym (branch_by (values_in (take 1 es)) (λ c. branch_of c (parts_of (drop 1 es))) b h)

pub branched_wrong : (es : List Expr) (b : Bool) → Some b ≡ option_and_then truth_of (one_of (values_in (take 1 es))) → (length es ≡ 3 → ⊥) →
    fails WrongKind ≡ with_one (values_in (take 1 es)) (λ v. with_truth v (λ c. branch_of c (parts_of (drop 1 es))))
branched_wrong es b h size = not_three b es size ∙ sym (branch_by (values_in (take 1 es)) (λ c. branch_of c (parts_of (drop 1 es))) b h)

-- what is left of a block
pub block_of-left : (slots : List (Option ℕ)) (ps : Parts) → block_of slots ps ≡ becomes (left_of_block slots ps)
block_of-left [] none = refl
block_of-left [] (part e none) = refl
block_of-left [] (part e (part x ps)) = refl
block_of-left (s ∷ slots) ps = refl

empty_is : (b : Bool) → b ≡ nat_eq 0 0 → b ≡ false → ⊥
empty_is b is h = cc

-- more than the last part is left
pub left_many : (slots : List (Option ℕ)) (ps : List Expr) → (length ps ≡ 1 → ⊥) → form (Block slots) (parts_of ps) ≡ left_of_block slots (parts_of ps)
left_many [] [] h = refl
left_many [] (e ∷ []) h = absurd (h refl)
left_many [] (e ∷ x ∷ es) h = refl
left_many (s ∷ slots) ps h = refl

pub left_items : (slots : List (Option ℕ)) (ps : List Expr) (b : Bool) → b ≡ nat_eq (length slots) 0 → b ≡ false → form (Block slots) (parts_of ps) ≡ left_of_block slots (parts_of ps)
left_items [] ps b is h = absurd (empty_is b is h)
left_items (s ∷ slots) ps b is h = refl

-- the first item, which has a value
item_by : (w v : Datum) (slot : Option ℕ) (left : List (Option ℕ)) (rest : List Expr) → w ≡ v → with_one (values_in (take 1 (value w ∷ rest))) (λ u. after_item (slot ∷ left) u (parts_of rest)) ≡ after_item (slot ∷ left) v (parts_of rest)
item_by w v slot left rest same = ap (λ u. after_item (slot ∷ left) u (parts_of rest)) same

pub item_is : (es rest : List Expr) (first : Expr) (v : Datum) (slots left : List (Option ℕ)) (slot : Option ℕ) → es ≡ first ∷ rest → Some v ≡ as_value first → slots ≡ slot ∷ left →
    after_item (slot ∷ left) v (parts_of rest) ≡ with_one (values_in (take 1 es)) (λ u. after_item slots u (waiting_parts true es))
item_is es rest (value w) v slots left slot all is cut =
    let same : w ≡ v = cc in
    sym (item_by w v slot left rest same)
    ∙ ap (λ s. with_one (values_in (take 1 (value w ∷ rest))) (λ u. after_item s u (parts_of rest))) (sym cut)
    ∙ ap (λ xs. with_one (values_in (take 1 xs)) (λ u. after_item slots u (waiting_parts true xs))) (sym all)
item_is es rest (variable x) v slots left slot all is cut = cc
item_is es rest (failed k) v slots left slot all is cut = cc
item_is es rest (form g ps) v slots left slot all is cut = cc
