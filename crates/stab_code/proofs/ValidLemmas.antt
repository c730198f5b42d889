-- What the facts of a valid program say of one function or node.
use Rattle.std.proofs.Common.{◌≡◌, inl, inr, ℕ, ◌+◌, ◌<◌, ◌≤◌, ◌==◌, not, List, [], ◌∷◌, ◌++◌, length, slice_get, Option, Some, None, IfSome, IsSomeAnd, option_map, refl, sym, ap, subst, ◌∙◌, arith, eqb-true, length-append}
use Rattle.std.specs.List.{All, filter, range_with_len}
use Rattle.std.proofs.lemmas.Bool.{cases_Bool}
use Rattle.std.proofs.lemmas.List.Elements.{All-append, All-cons, All-head, All-nil, All-same, All-tail, All-weaker}
use Rattle.std.proofs.lemmas.List.FromFn.{get_or-range_with_len, length-range_with_len}
use Rattle.stab_base.specs.declared.numbers.FnId.{FnId}
use Rattle.stab_base.specs.declared.numbers.TextId.{TextId}
use Rattle.stab_code.specs.declared.head.Head.{Head}
use Rattle.stab_code.specs.declared.head.Head.TheVariants.{Block, Call, Spawn, Stable}
use Rattle.stab_code.specs.Heads.{callee_of, slots_of, text_of, variable_of}
use Rattle.stab_code.specs.Nodes.{NodeParts}
use Rattle.stab_code.specs.Program.{FunctionParts, arity_of, ProgramParts, body_of}
use Rattle.stab_code.specs.Syntax.{one_or_none, with_own, without, left_open, lets_from, lets_of, named_from, named_in, open_from, open_in}
use Rattle.stab_code.specs.Trees.{Tree, Trees, tree, none, more, fold_all}
use Rattle.stab_code.specs.Valid.{BlocksHaveItems, HasItem, MainIsThere, PartsFit, SlotsAreInOrder, TextsAreThere, VariablesAreSeen, head_parts}
use Rattle.stab_code.proofs.Lists.{All-at, All-left, All-right}

-- what holds of the slots that a form leaves open or lets holds of those that it names
module _ (P : ℕ → Type 0) where
  from_filter : (x : ℕ) (ys : List ℕ) → P x → All P (filter (λ z. not (z == x)) ys) → All P ys
  from_filter x [] px all = All-nil P
  from_filter x (y ∷ ys) px all =
      let others = filter (λ z. not (z == x)) ys in
      elim (cases_Bool (y == x)) [
        | inl same ↦ All-cons P y ys (subst P (sym (eqb-true y x same)) px) (from_filter x ys px (rw same at all))
        | inr apart ↦ let kept : All P (y ∷ others) = rw apart at all in All-cons P y ys (All-head P y others kept) (from_filter x ys px (All-tail P y others kept))
      ]

  -- what holds of a let's slot and of the others holds of all
  from_without : (slot : Option ℕ) (ys : List ℕ) → All P (one_or_none slot) → All P (without slot ys) → All P ys
  from_without None ys own all = all
  from_without (Some x) ys own all = from_filter x ys (All-head P x [] own) all

  mutual
    -- a slot that a form names is left open or let
    named-open-let : (t : Tree) → All P (open_in t) → All P (lets_of t) → All P (named_in t)
    named-open-let (tree head parts) opened lets =
        All-append P (one_or_none (variable_of head)) (with_own (slots_of head) (fold_all named_from parts)) (All-left P (one_or_none (variable_of head)) (left_open (slots_of head) (fold_all open_from parts)) opened)
        (named-parts (slots_of head) parts (All-right P (one_or_none (variable_of head)) (left_open (slots_of head) (fold_all open_from parts)) opened) lets)

    named-parts : (own : List (Option ℕ)) (ts : Trees) → All P (left_open own (fold_all open_from ts)) → All P (with_own own (fold_all lets_from ts)) → All P (with_own own (fold_all named_from ts))
    named-parts own none opened lets = All-nil P
    named-parts [] (more t ts) opened lets =
        All-append P (named_in t) (with_own [] (fold_all named_from ts)) (named-open-let t (All-left P (open_in t) (left_open [] (fold_all open_from ts)) opened) (All-left P (lets_of t) (with_own [] (fold_all lets_from ts)) lets))
        (named-parts [] ts (All-right P (open_in t) (left_open [] (fold_all open_from ts)) opened) (All-right P (lets_of t) (with_own [] (fold_all lets_from ts)) lets))
    named-parts (slot ∷ own) (more t ts) opened lets =
        let its = All-left P (one_or_none slot) (lets_of t ++ with_own own (fold_all lets_from ts)) lets in
        let others = All-right P (one_or_none slot) (lets_of t ++ with_own own (fold_all lets_from ts)) lets in
        let unseen = without slot (left_open own (fold_all open_from ts)) in
        All-append P (one_or_none slot) (named_in t ++ with_own own (fold_all named_from ts)) its
        (All-append P (named_in t) (with_own own (fold_all named_from ts)) (named-open-let t (All-left P (open_in t) unseen opened) (All-left P (lets_of t) (with_own own (fold_all lets_from ts)) others))
        (named-parts own ts (from_without slot (left_open own (fold_all open_from ts)) its (All-right P (open_in t) unseen opened)) (All-right P (lets_of t) (with_own own (fold_all lets_from ts)) others)))

module _ (p : ProgramParts) (in_order : SlotsAreInOrder p) (k : ℕ) (f : FunctionParts) (found : slice_get p.functions k ≡ Some f) where
  slots_of_function : range_with_len 0 (arity_of f) ++ lets_of (body_of p f) ≡ range_with_len 0 f.slots
  slots_of_function = All-at (λ g. range_with_len 0 (arity_of g) ++ lets_of (body_of p g) ≡ range_with_len 0 g.slots) p.functions k f in_order found

  -- a function has at least as many slots as parameters
  pub arity_le-slots : arity_of f ≤ f.slots
  arity_le-slots =
      omega (arith, length-range_with_len 0 (arity_of f), length-range_with_len 0 f.slots, length-append (range_with_len 0 (arity_of f)) (lets_of (body_of p f)), ap length slots_of_function)

  -- the slots of its lets are below their number
  pub lets-below : All (λ slot. slot < f.slots) (lets_of (body_of p f))
  lets-below =
      let below : All (λ slot. slot < f.slots) (range_with_len 0 f.slots) = λ i d h. omega (arith, get_or-range_with_len 0 f.slots i d (omega (arith, length-range_with_len 0 f.slots)), length-range_with_len 0 f.slots) in
      All-right (λ slot. slot < f.slots) (range_with_len 0 (arity_of f)) (lets_of (body_of p f))
      (All-same (λ slot. slot < f.slots) (range_with_len 0 (arity_of f) ++ lets_of (body_of p f)) (range_with_len 0 f.slots) slots_of_function below)

  -- and so is each slot that its body names
  pub named-below : VariablesAreSeen p → All (λ slot. slot < f.slots) (named_in (body_of p f))
  named-below seen =
      let opened : All (λ slot. slot < arity_of f) (open_in (body_of p f)) = All-at (λ g. All (λ slot. slot < arity_of g) (open_in (body_of p g))) p.functions k f seen found in
      named-open-let (λ slot. slot < f.slots) (body_of p f) (All-weaker (λ slot. slot < arity_of f) (λ slot. slot < f.slots) (λ slot h. omega (arith, arity_le-slots)) (open_in (body_of p f)) opened) lets-below

head_parts-callee : (functions : List FunctionParts) (head : Head) (f : FnId) → callee_of head ≡ Some f → head_parts functions head ≡ option_map arity_of (slice_get functions f.0)
head_parts-callee functions (Call g) f e = let same : g ≡ f = cc in ap (λ h. option_map arity_of (slice_get functions h.0)) same
head_parts-callee functions (Spawn g) f e = let same : g ≡ f = cc in ap (λ h. option_map arity_of (slice_get functions h.0)) same
head_parts-callee functions (Stable g) f e = let same : g ≡ f = cc in ap (λ h. option_map arity_of (slice_get functions h.0)) same
head_parts-callee functions _ f e = absurd cc

-- a function that is there, with so many parameters
abbrev pub IsCallee : ProgramParts → FnId → ℕ → Type 0
IsCallee p f arguments = (callee : FunctionParts) × (slice_get p.functions f.0 ≡ Some callee) × (arity_of callee ≡ arguments)

with_arity : (p : ProgramParts) (f : FnId) (arguments : ℕ) (found : Option FunctionParts) → slice_get p.functions f.0 ≡ found → option_map arity_of found ≡ Some arguments → IsCallee p f arguments
with_arity p f arguments None at e = absurd cc
with_arity p f arguments (Some callee) at e = (callee, at, cc)

module _ (p : ProgramParts) (fit : PartsFit p) (n : ℕ) (node : NodeParts) (found : slice_get p.nodes n ≡ Some node) where
  pub node-fits : head_parts p.functions node.head ≡ Some (length node.parts)
  node-fits = All-at (λ x. head_parts p.functions x.head ≡ Some (length x.parts)) p.nodes n node fit found

  -- the function that a node names is there, and the node has its arguments
  pub callee-fits : (f : FnId) → callee_of node.head ≡ Some f → IsCallee p f (length node.parts)
  callee-fits f names = with_arity p f (length node.parts) (slice_get p.functions f.0) refl (sym (head_parts-callee p.functions node.head f names) ∙ node-fits)

  -- a block has the forms of its items and a last one
  pub block-fits : (slots : List (Option ℕ)) → node.head ≡ Block slots → length node.parts ≡ length slots + 1
  block-fits slots is = let all : head_parts p.functions (Block slots) ≡ Some (length node.parts) = subst (λ h. head_parts p.functions h ≡ Some (length node.parts)) is node-fits in cc

-- a block has an item
pub block-items : (p : ProgramParts) → BlocksHaveItems p → (n : ℕ) (node : NodeParts) → slice_get p.nodes n ≡ Some node → (slots : List (Option ℕ)) → node.head ≡ Block slots → 0 < length slots
block-items p have n node found slots is = subst HasItem is (All-at (λ x. HasItem x.head) p.nodes n node have found)

-- the text that a node names is there
pub text-there : (p : ProgramParts) → TextsAreThere p → (n : ℕ) (node : NodeParts) → slice_get p.nodes n ≡ Some node → (t : TextId) → text_of node.head ≡ Some t → t.0 < length p.texts
text-there p there n node found t names =
    subst (λ named. IfSome named (λ text. text.0 < length p.texts)) names (All-at (λ x. IfSome (text_of x.head) (λ text. text.0 < length p.texts)) p.nodes n node there found)

-- main takes nothing
pub main-takes : (p : ProgramParts) → MainIsThere p → (main : FunctionParts) → slice_get p.functions p.main.0 ≡ Some main → main.takes ≡ []
main-takes p there main found = subst (λ o. IsSomeAnd o (λ f. f.takes ≡ [])) found there
