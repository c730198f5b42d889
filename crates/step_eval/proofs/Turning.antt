-- What the form at hand does, from its head and its values.
use Rattle.std.proofs.Common.{◌≡◌, ℕ, zero, suc, ◌+◌, ◌<◌, ◌≤◌, Bool, true, false, cond, List, [], ◌∷◌, length, drop, slice_get, Option, Some, None, option_map, IfSome, IsSomeAnd, refl, ap, sym, ◌∙◌, subst, arith}
use Rattle.std.specs.Prelude.{option_and_then}
use Rattle.stab_base.specs.Datum.{Datum}
use Rattle.stab_base.specs.declared.numbers.FnId.{FnId}
use Rattle.stab_code.specs.declared.head.Head as code
use Rattle.stab_code.specs.declared.head.Head.TheVariants.{If, Two, Call}
use Rattle.stab_code.specs.declared.head.Op.TheVariants.{Or, And}
use Rattle.stab_code.specs.declared.node_id.NodeId.{NodeId}
use Rattle.stab_code.specs.Heads.{strict_parts}
use Rattle.stab_code.specs.Program.{FunctionParts, ProgramParts, arity_of, tree_at, trees_at}
use Rattle.stab_code.specs.Valid.{IsValid, head_parts}
use Rattle.language.specs.Expression.{part, none, put, put_parts}
use Rattle.language.specs.Operands.{one_of, truth_of}
use Rattle.language.specs.Outcome.{Outcome, becomes, branch_of, outcome, truth_value, waiting_one, with_one, with_truth}
use Rattle.language.specs.Program.{body, expr_of, exprs_of}
use Rattle.language.proofs.Operands.{with_truth-some}
use Rattle.step_eval.specs.declared.act.Act.{Act}
use Rattle.step_eval.specs.declared.act.Act.TheVariants.{Spawn, Enter}
use Rattle.step_eval.specs.declared.site.Site.{Site}
use Rattle.step_eval.specs.declared.site.Site.TheVariants.{Form}
use Rattle.step_eval.specs.FrameView.{FrameView}
use Rattle.step_eval.specs.Fits.{FormFits, SiteFits}
use Rattle.step_eval.specs.Meaning.{head_at, head_of, head_left, node_at, behind_values, strict_at, waiting_at}
use Rattle.step_eval.specs.Operands.{HasOperands, operand_count}
use Rattle.step_eval.specs.Ready.{IsSettled}
use Rattle.step_eval.specs.Turns.{Takes, turn_at}
use Rattle.step_eval.proofs.Nodes.{part_count}
use Rattle.step_eval.proofs.Standing.{drop-next}

pub dropped : {A : Type 0} (xs : List A) (k : ℕ) → length xs ≤ k → drop k xs ≡ []
dropped [] zero h = refl
dropped [] (suc k) h = refl
dropped (x ∷ xs) zero h = absurd (omega arith)
dropped (x ∷ xs) (suc k) h = dropped xs k (omega arith)

-- the last of a list, and the last two
pub drop-last : {A : Type 0} (xs : List A) (k : ℕ) (x : A) → slice_get xs k ≡ Some x → length xs ≡ suc k → drop k xs ≡ x ∷ []
drop-last xs k x e n = drop-next xs k x e ∙ ap (λ ys. x ∷ ys) (dropped xs (suc k) (omega arith))

drop-two : {A : Type 0} (xs : List A) (k : ℕ) (x y : A) → slice_get xs k ≡ Some x → slice_get xs (suc k) ≡ Some y → length xs ≡ suc (suc k) → drop k xs ≡ x ∷ y ∷ []
drop-two xs k x y e f n = drop-next xs k x e ∙ ap (λ ys. x ∷ ys) (drop-last xs (suc k) y f n)

-- by the truth value of the only value
truth-some : (vs : List Datum) (b : Bool) (k : Bool → Outcome) → Some b ≡ option_and_then truth_of (one_of vs) → with_one vs (λ v. with_truth v k) ≡ k b
truth-some [] b k e = cc
truth-some (v ∷ []) b k e = with_truth-some v b k e
truth-some (v ∷ w ∷ vs) b k e = cc

module _ (p : ProgramParts) (n : NodeId) (from : ℕ) (here : FrameView) (at : here.site ≡ Form n from) where
  pub turn-is : (h : code.Head) → (node_at p n).head ≡ h → turn_at p here ≡ outcome (body p) (head_of (head_left from h)) here.done (behind_values p here)
  turn-is h is =
      ap (λ s. outcome (body p) (head_at p s) here.done (behind_values p here)) at
      ∙ ap (λ k. outcome (body p) (head_of (head_left from k)) here.done (behind_values p here)) is

  pub rest-is : (ns : List NodeId) → drop (from + length here.done) (node_at p n).parts ≡ ns → behind_values p here ≡ put_parts (slice_get here.env) (exprs_of (trees_at p ns))
  rest-is ns is =
      ap (λ s. put_parts (slice_get here.env) (waiting_at p s (length here.done))) at
      ∙ ap (λ qs. put_parts (slice_get here.env) (exprs_of (trees_at p qs))) is

  pub count-is : (h : code.Head) → IsSettled p here → (node_at p n).head ≡ h → length here.done ≡ strict_parts h (length (node_at p n).parts)
  count-is h settled is = settled.all ∙ ap (strict_at p) at ∙ ap (λ k. strict_parts k (length (node_at p n).parts)) is

pub parts-are : (p : ProgramParts) → IsValid p → (n : NodeId) → n.0 < length p.nodes → (h : code.Head) (count : ℕ) → (node_at p n).head ≡ h → head_parts p.functions h ≡ Some count → length (node_at p n).parts ≡ count
parts-are p valid n there h count is are =
    let all : head_parts p.functions h ≡ Some (length (node_at p n).parts) = ap (head_parts p.functions) (sym is) ∙ part_count p valid n there in
    cc

module _ (p : ProgramParts) (valid : IsValid p) (n : NodeId) (here : FrameView) (at : here.site ≡ Form n 0) (settled : IsSettled p here) (there : n.0 < length p.nodes) where
  module _ (yes no : NodeId) (is : (node_at p n).head ≡ If) (first : slice_get (node_at p n).parts 1 ≡ Some yes) (second : slice_get (node_at p n).parts 2 ≡ Some no) where
    branches : behind_values p here ≡ part (put (slice_get here.env) (expr_of (tree_at p yes))) (part (put (slice_get here.env) (expr_of (tree_at p no))) none)
    branches =
        let one : length here.done ≡ 1 = count-is p n 0 here at If settled is in
        let three : length (node_at p n).parts ≡ 3 = parts-are p valid n there If 3 is refl in
        rest-is p n 0 here at (yes ∷ no ∷ []) (ap (λ k. drop k (node_at p n).parts) (let k : 0 + length here.done ≡ 1 = omega arith in k) ∙ drop-two (node_at p n).parts 1 yes no first second three)

    pub branch-some : (b : Bool) → Some b ≡ option_and_then truth_of (one_of here.done) → turn_at p here ≡ becomes (cond b (put (slice_get here.env) (expr_of (tree_at p yes))) (put (slice_get here.env) (expr_of (tree_at p no))))
    branch-some b e = turn-is p n 0 here at If is ∙ truth-some here.done b (λ t. branch_of t (behind_values p here)) e ∙ ap (branch_of b) branches

  module _ (right : NodeId) (second : slice_get (node_at p n).parts 1 ≡ Some right) where
    pub and-some : (node_at p n).head ≡ Two And → (b : Bool) → Some b ≡ option_and_then truth_of (one_of here.done) → turn_at p here ≡ cond b (becomes (put (slice_get here.env) (expr_of (tree_at p right)))) (truth_value false)
    and-some is b e =
        let one : length here.done ≡ 1 = count-is p n 0 here at (Two And) settled is in
        let two : length (node_at p n).parts ≡ 2 = parts-are p valid n there (Two And) 2 is refl in
        turn-is p n 0 here at (Two And) is
        ∙ truth-some here.done b (λ t. cond t (waiting_one (behind_values p here)) (truth_value false)) e
        ∙ ap (λ rest. cond b (waiting_one rest) (truth_value false)) (rest-is p n 0 here at (right ∷ []) (ap (λ k. drop k (node_at p n).parts) (let k : 0 + length here.done ≡ 1 = omega arith in k) ∙ drop-last (node_at p n).parts 1 right second two))

    pub or-some : (node_at p n).head ≡ Two Or → (b : Bool) → Some b ≡ option_and_then truth_of (one_of here.done) → turn_at p here ≡ cond b (truth_value true) (becomes (put (slice_get here.env) (expr_of (tree_at p right))))
    or-some is b e =
        let one : length here.done ≡ 1 = count-is p n 0 here at (Two Or) settled is in
        let two : length (node_at p n).parts ≡ 2 = parts-are p valid n there (Two Or) 2 is refl in
        turn-is p n 0 here at (Two Or) is
        ∙ truth-some here.done b (λ t. cond t (truth_value true) (waiting_one (behind_values p here))) e
        ∙ ap (λ rest. cond b (truth_value true) (waiting_one rest)) (rest-is p n 0 here at (right ∷ []) (ap (λ k. drop k (node_at p n).parts) (let k : 0 + length here.done ≡ 1 = omega arith in k) ∙ drop-last (node_at p n).parts 1 right second two))

takes-by : (o : Option FunctionParts) (count size : ℕ) → option_map arity_of o ≡ Some count → size ≡ count → IsSomeAnd o (λ g. arity_of g ≡ size)
takes-by None count size e is = cc
takes-by (Some g) count size e is = cc

-- a call has as many values as its function takes arguments
pub call-takes : (p : ProgramParts) → IsValid p → (n : NodeId) (from : ℕ) (here : FrameView) (f : FnId) → here.site ≡ Form n from → IsSettled p here → n.0 < length p.nodes → (node_at p n).head ≡ Call f → Takes p f (length here.done)
call-takes p valid n from here f at settled there is =
    takes-by (slice_get p.functions f.0) (length (node_at p n).parts) (length here.done)
    (ap (head_parts p.functions) (sym is) ∙ part_count p valid n there)
    (count-is p n from here at (Call f) settled is)

has-operands : (p : ProgramParts) (count : ℕ) (a : Act) → operand_count p.functions a ≡ Some count → HasOperands p count a
has-operands p count (Spawn f) e = takes-by (slice_get p.functions f.0) count count e refl
has-operands p count (Enter f) e = takes-by (slice_get p.functions f.0) count count e refl
has-operands p count a e = e

-- an act has as many operands as its form has parts
pub act-operands : (p : ProgramParts) → IsValid p → (n : NodeId) (from : ℕ) (here : FrameView) → here.site ≡ Form n from → IsSettled p here → (h : code.Head) → (node_at p n).head ≡ h → (o : Option Act) →
    IfSome o (λ a. (functions : List FunctionParts) → operand_count functions a ≡ head_parts functions h) → IfSome o (λ a. (parts : ℕ) → strict_parts h parts ≡ parts) → IfSome o (HasOperands p (length here.done))
act-operands p valid n from here at settled h is None counts whole = tt
act-operands p valid n from here at settled h is (Some a) counts whole =
    let S : Site → Type 0 = λ (s : Site). SiteFits p s (length here.env) in
    let fits : FormFits p n from (length here.env) = subst S at settled.fits in
    has-operands p (length here.done) a
    (counts p.functions ∙ ap (head_parts p.functions) (sym is) ∙ part_count p valid n fits.there
    ∙ ap Some (sym (count-is p n from here at h settled is ∙ whole (length (node_at p n).parts))))
