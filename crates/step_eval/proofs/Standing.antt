-- How the form at hand changes as its parts get values.
use Rattle.std.proofs.Common.{◌≡◌, ℕ, zero, suc, ◌+◌, ◌<◌, ◌≤◌, List, [], ◌∷◌, ◌++◌, length, drop, slice_get, Option, Some, None, refl, ap, sym, ◌∙◌, subst, arith, length-append}
use Rattle.stab_base.specs.Datum.{Datum}
use Rattle.stab_base.specs.declared.numbers.Seq.{Seq}
use Rattle.stab_code.specs.declared.head.Head.{Head}
use Rattle.stab_code.specs.declared.head.Head.TheVariants.{Block, If, Two}
use Rattle.stab_code.specs.declared.head.Op.TheVariants.{Or, And}
use Rattle.stab_code.specs.declared.node_id.NodeId.{NodeId}
use Rattle.stab_code.specs.Heads.{slots_of, strict_parts}
use Rattle.stab_code.specs.Nodes.{NodeParts}
use Rattle.stab_code.specs.Program.{FunctionParts, ProgramParts, tree_at, trees_at}
use Rattle.stab_code.specs.Valid.{IsValid, HasItem, head_parts}
use Rattle.stab_code.proofs.Lists.{All-at}
use Rattle.language.specs.Expression.{value, Parts, part, put}
use Rattle.language.specs.Program.{expr_of}
use Rattle.language.specs.Redex.{after_values, within}
use Rattle.step_eval.specs.declared.site.Site.{Site}
use Rattle.step_eval.specs.declared.site.Site.TheVariants.{Form}
use Rattle.step_eval.specs.FrameView.{FrameView}
use Rattle.step_eval.specs.Fits.{FormFits, IsLeft, SiteFits}
use Rattle.step_eval.specs.Meaning.{at_form, at_start, form_at, frame_at, head_left, node_at, strict_at, with_value, within_forms}
use Rattle.step_eval.specs.Ready.{IsLeaf, IsNext, IsNextPart, IsStepping}
use Rattle.step_eval.specs.Scoped.{IsScoped}
use Rattle.step_eval.proofs.Forms.{form-start, fits-start}
use Rattle.step_eval.proofs.Nodes.{node_there, part_below, part_count}
use Rattle.step_eval.proofs.Scopes.{AreScoped, first-scoped, part-scoped, parts-scoped}

after_values-push : (left : List Datum) (v : Datum) (ps : Parts) → after_values (left ++ v ∷ []) ps ≡ after_values left (part (value v) ps)
after_values-push [] v ps = refl
after_values-push (u ∷ left) v ps = ap (part (value u)) (after_values-push left v ps)

pub drop-next : {A : Type 0} (xs : List A) (k : ℕ) (x : A) → slice_get xs k ≡ Some x → drop k xs ≡ x ∷ drop (suc k) xs
drop-next [] k x e = cc
drop-next (y ∷ xs) zero x e = cc
drop-next (y ∷ xs) (suc k) x e = drop-next xs k x e

slice_get-drop : {A : Type 0} (xs : List A) (from k m : ℕ) → m ≡ from + k → slice_get (drop from xs) k ≡ slice_get xs m
slice_get-drop xs zero k m e = let same : k ≡ m = omega arith in ap (slice_get xs) same
slice_get-drop [] (suc from) k m e = refl
slice_get-drop (x ∷ xs) (suc from) k zero e = absurd (omega arith)
slice_get-drop (x ∷ xs) (suc from) k (suc m) e = slice_get-drop xs from k m (omega arith)

-- where the parts that count are
pub strict-there : (functions : List FunctionParts) (h : Head) (from k count : ℕ) → head_parts functions h ≡ Some count → IsLeft h from → k < strict_parts h count → from + k < count
strict-there functions (Block slots) from k count is left few = let n : length slots + 1 ≡ count = cc in omega arith
strict-there functions If from k count is left few = let n : 3 ≡ count = cc in omega arith
strict-there functions (Two Or) from k count is left few = let n : 2 ≡ count = cc in omega arith
strict-there functions (Two And) from k count is left few = let n : 2 ≡ count = cc in omega arith
strict-there functions _ from k count is left few = omega arith

-- only a block has lost parts, or has lets, and of it the first that is left counts alone
no-lets : (h : Head) (from k count : ℕ) (P : Type 0) → IsLeft h from → k < strict_parts h count → (slots_of (head_left from h) ≡ [] → from ≡ 0 → P) → (k ≡ 0 → P) → P
no-lets (Block slots) from k count P left few other first = first (omega arith)
no-lets _ from k count P left few other first = other refl left

block-begins : (h : Head) → HasItem h → IsLeft h 0
block-begins (Block slots) has = has
block-begins _ has = refl

module _ (p : ProgramParts) (valid : IsValid p) where
  pub part-there : (n : NodeId) (from size k : ℕ) → FormFits p n from size → k < strict_at p (Form n from) → from + k < length (node_at p n).parts
  part-there n from size k fits few = strict-there p.functions (node_at p n).head from k (length (node_at p n).parts) (part_count p valid n fits.there) fits.left few

  pub left-scoped : (n : NodeId) (from size : ℕ) → FormFits p n from size → AreScoped size (slots_of (head_left from (node_at p n).head)) (trees_at p (drop from (node_at p n).parts))
  left-scoped n from size fits = parts-scoped size (head_left from (node_at p n).head) (trees_at p (drop from (node_at p n).parts)) fits.scoped

  first-of : (size : ℕ) (own : List (Option ℕ)) (ns : List NodeId) (q : NodeId) → AreScoped size own (trees_at p ns) → slice_get ns 0 ≡ Some q → IsScoped size (tree_at p q)
  first-of size own [] q s e = cc
  first-of size own (n ∷ ns) q s e =
      let same : n ≡ q = cc in
      subst (λ (m : NodeId). IsScoped size (tree_at p m)) same (first-scoped size own (tree_at p n) (trees_at p ns) s)

  -- a part that counts has its variables among the values of the form's
  pub part-seen : (n : NodeId) (from size k : ℕ) (q : NodeId) → FormFits p n from size → k < strict_at p (Form n from) → slice_get (node_at p n).parts (from + k) ≡ Some q → IsScoped size (tree_at p q)
  part-seen n from size k q fits few found =
      let own : List (Option ℕ) = slots_of (head_left from (node_at p n).head) in
      let left : List NodeId = drop from (node_at p n).parts in
      let at : slice_get left k ≡ Some q = slice_get-drop (node_at p n).parts from k (from + k) refl ∙ found in
      let all : AreScoped size own (trees_at p left) = left-scoped n from size fits in
      no-lets (node_at p n).head from k (length (node_at p n).parts) (IsScoped size (tree_at p q)) fits.left few
      (λ none zero. part-scoped p size left k q (subst (λ (slots : List (Option ℕ)). AreScoped size slots (trees_at p left)) none all) at)
      (λ first. first-of size own left q all (ap (slice_get left) (sym first) ∙ at))

  pub begins-left : (n : NodeId) → n.0 < length p.nodes → IsLeft (node_at p n).head 0
  begins-left n there = block-begins (node_at p n).head (All-at (λ node. HasItem node.head) p.nodes n.0 (node_at p n) valid.blocks_have_items (node_there p n there))

  -- and so has any part of a form without lets
  pub any-part : (n : NodeId) (size k : ℕ) (q : NodeId) (h : Head) → FormFits p n 0 size → (node_at p n).head ≡ h → slots_of (head_left 0 h) ≡ [] → slice_get (node_at p n).parts k ≡ Some q → IsScoped size (tree_at p q)
  any-part n size k q h fits is none found =
      let left : List NodeId = drop 0 (node_at p n).parts in
      let P : Head → Type 0 = λ (g : Head). AreScoped size (slots_of (head_left 0 g)) (trees_at p left) in
      let Q : List (Option ℕ) → Type 0 = λ (os : List (Option ℕ)). AreScoped size os (trees_at p left) in
      part-scoped p size left k q (subst Q none (subst P is (left-scoped n 0 size fits))) (slice_get-drop (node_at p n).parts 0 k k (omega arith) ∙ found)

  pub any-there : (n : NodeId) (k : ℕ) (q : NodeId) → n.0 < length p.nodes → slice_get (node_at p n).parts k ≡ Some q → q.0 < length p.nodes
  any-there n k q there found = let below : q.0 < n.0 = part_below p valid n there k q found in omega arith

  pub part-in : (n : NodeId) (from size k : ℕ) (q : NodeId) → FormFits p n from size → k < strict_at p (Form n from) → slice_get (node_at p n).parts (from + k) ≡ Some q → q.0 < length p.nodes
  part-in n from size k q fits few found =
      let below : q.0 < n.0 = part_below p valid n fits.there (from + k) q found in
      let there : n.0 < length p.nodes = fits.there in
      omega arith

-- the form at hand is its frame round its next part
pub form-part : (p : ProgramParts) (n : NodeId) (from : ℕ) (done env : List Datum) (q : NodeId) → slice_get (node_at p n).parts (from + length done) ≡ Some q → form_at p (at_form n from done env) ≡ within (frame_at p (at_form n from done env) ∷ []) (put (slice_get env) (expr_of (tree_at p q)))
form-part p n from done env q e =
    let next : drop (from + length done) (node_at p n).parts ≡ q ∷ drop (suc (from + length done)) (node_at p n).parts = drop-next (node_at p n).parts (from + length done) q e in
    let sum : from + (length done + 1) ≡ suc (from + length done) = omega arith in
    rw (next, sum) refl

-- a value in a frame is one value more
pub form-give : (p : ProgramParts) (f : FrameView) (v : Datum) → form_at p (with_value f v) ≡ within (frame_at p f ∷ []) (value v)
form-give p f v = rw (after_values-push, length-append) refl

-- the next part is a leaf
pub form-leaf : (p : ProgramParts) (n : NodeId) (from : ℕ) (done more env : List Datum) (q : NodeId) (v : Datum) → slice_get (node_at p n).parts (from + length done) ≡ Some q → put (slice_get env) (expr_of (tree_at p q)) ≡ value v → more ≡ done ++ v ∷ [] → form_at p (at_form n from more env) ≡ form_at p (at_form n from done env)
form-leaf p n from done more env q v next leaf is =
    ap (λ d. form_at p (at_form n from d env)) is
    ∙ form-give p (at_form n from done env) v
    ∙ sym (ap (λ e. within (frame_at p (at_form n from done env) ∷ []) e) leaf)
    ∙ sym (form-part p n from done env q next)

module _ (p : ProgramParts) (valid : IsValid p) (n : NodeId) (from : ℕ) (done env : List Datum) (fits : FormFits p n from (length env)) where
  pub all-taken : (length done ≤ strict_at p (Form n from)) → (length done < strict_at p (Form n from) → ⊥) → IsNextPart p (at_form n from done env) n from None
  all-taken most stop = record { fits = fits; all = omega (arith, stop) }

  -- the next part is none
  pub next-part : (q : NodeId) → length done < strict_at p (Form n from) → slice_get (node_at p n).parts (from + length done) ≡ Some q → IsLeaf p q env None → IsNextPart p (at_form n from done env) n from (Some q)
  next-part q few found leaf =
      let there : q.0 < length p.nodes = part-in p valid n from (length env) (length done) q fits few found in
      record {
        is_part = found;
        begins = form-start p valid q there env leaf;
        fits = fits-start p valid q there (length env) leaf (begins-left p valid q there) (part-seen p valid n from (length env) (length done) q fits few found);
        below = part_below p valid n fits.there (from + length done) q found;
        few = few;
      }

-- going in keeps the expression
pub form-in : (p : ProgramParts) (n : NodeId) (from : ℕ) (done env : List Datum) (round : List FrameView) (q : NodeId) → IsNext p n from (at_form n from done env) q → within_forms p (at_form n from done env ∷ round) (form_at p (at_start q env)) ≡ within_forms p round (form_at p (at_form n from done env))
form-in p n from done env round q next =
    ap (within_forms p round) (ap (λ e. within (frame_at p (at_form n from done env) ∷ []) e) (sym next.begins) ∙ sym (form-part p n from done env q next.is_part))

-- a value comes to its frame
pub give-form : (p : ProgramParts) (f : FrameView) (v : Datum) (round : List FrameView) → within_forms p round (form_at p (with_value f v)) ≡ within_forms p (f ∷ round) (value v)
give-form p f v round = ap (within_forms p round) (form-give p f v)

-- what was read of a node is its own
pub part-found : (p : ProgramParts) (n : NodeId) (node : NodeParts) (ns : List NodeId) (k j : ℕ) (q : NodeId) → node ≡ node_at p n → ns ≡ node.parts → slice_get ns k ≡ Some q → k ≡ j → slice_get (node_at p n).parts j ≡ Some q
part-found p n node ns k j q is parts found same =
    ap (λ m. slice_get m.parts j) (sym is) ∙ ap (λ qs. slice_get qs j) (sym parts) ∙ ap (slice_get ns) (sym same) ∙ found

pub strict-found : (p : ProgramParts) (n : NodeId) (from : ℕ) (node : NodeParts) (s : ℕ) → node ≡ node_at p n → s ≡ strict_parts node.head (length node.parts) → s ≡ strict_at p (Form n from)
strict-found p n from node s is strict = strict ∙ ap (λ m. strict_parts m.head (length m.parts)) is

pub stepping-fits : (p : ProgramParts) (n : NodeId) (from : ℕ) (here : FrameView) (mk : Option Seq) (round : List FrameView) → IsStepping p n from here mk round → FormFits p n from (length here.env)
stepping-fits p n from here mk round s = let P : Site → Type 0 = λ (x : Site). SiteFits p x (length here.env) in subst P s.at s.settled.fits
