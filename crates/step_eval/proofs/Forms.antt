-- What a node's form stands for when it is begun.
use Rattle.std.proofs.Common.{◌≡◌, ℕ, ◌<◌, List, length, slice_get, Some, refl, ap, sym, ◌∙◌, subst, arith}
use Rattle.stab_base.specs.Datum.{Datum}
use Rattle.stab_code.specs.declared.head.Head as code
use Rattle.stab_code.specs.declared.head.Head.TheVariants.{Unit, Truth, Int, Text, Var}
use Rattle.stab_code.specs.declared.node_id.NodeId.{NodeId}
use Rattle.stab_code.specs.Nodes.{NodeParts}
use Rattle.stab_code.specs.Program.{ProgramParts, tree_at, trees_at}
use Rattle.stab_code.specs.Trees.{tree}
use Rattle.stab_code.specs.Valid.{IsValid}
use Rattle.language.specs.Expression.{value, form, Parts, put, put_parts, put_variable}
use Rattle.language.specs.Program.{expr_of, exprs_of, form_of}
use Rattle.step_eval.specs.Meaning.{node_at, head_of, form_at, at_start}
use Rattle.step_eval.specs.Fits.{IsForm, IsLeft, FormFits}
use Rattle.step_eval.specs.Scoped.{IsScoped}
use Rattle.step_eval.proofs.Nodes.{tree_is, tree_left-zero, head_left-zero}

-- a form that is no literal and no variable is itself
pub form_of-head : (h : code.Head) (ps : Parts) → IsForm h → form_of h ps ≡ form (head_of h) ps
form_of-head Unit ps is = elim is [ ]
form_of-head (Truth b) ps is = elim is [ ]
form_of-head (Int n) ps is = elim is [ ]
form_of-head (Text t) ps is = elim is [ ]
form_of-head (Var x) ps is = elim is [ ]
form_of-head _ ps is = refl

-- the head of a node, as it was matched
pub head-is : (p : ProgramParts) (n : NodeId) (node : NodeParts) (head h : code.Head) → node ≡ node_at p n → head ≡ node.head → head ≡ h → (node_at p n).head ≡ h
head-is p n node head h is its found = sym (its ∙ ap (λ m. m.head) is) ∙ found

module _ (p : ProgramParts) (valid : IsValid p) (n : NodeId) (there : n.0 < length p.nodes) where
  -- a node's expression, from its head
  pub expr_is : expr_of (tree_at p n) ≡ form_of (node_at p n).head (exprs_of (trees_at p (node_at p n).parts))
  expr_is = ap expr_of (tree_is p valid n there)

  -- a form that begins
  pub form-start : (env : List Datum) → IsForm (node_at p n).head → put (slice_get env) (expr_of (tree_at p n)) ≡ form_at p (at_start n env)
  form-start env is =
      ap (put (slice_get env)) (expr_is ∙ form_of-head (node_at p n).head _ is)
      ∙ ap (λ h. form (head_of h) (put_parts (slice_get env) (exprs_of (trees_at p (node_at p n).parts)))) (sym (head_left-zero (node_at p n).head))

  -- what a leaf is
  pub leaf-value : (env : List Datum) (v : Datum) → ((ps : Parts) → form_of (node_at p n).head ps ≡ value v) → put (slice_get env) (expr_of (tree_at p n)) ≡ value v
  leaf-value env v is = ap (put (slice_get env)) (expr_is ∙ is _)

  pub leaf-variable : (env : List Datum) (x : ℕ) (v : Datum) → (node_at p n).head ≡ Var x → slice_get env x ≡ Some v → put (slice_get env) (expr_of (tree_at p n)) ≡ value v
  leaf-variable env x v is found =
      ap (put (slice_get env)) (expr_is ∙ ap (λ h. form_of h (exprs_of (trees_at p (node_at p n).parts))) is) ∙ ap (λ o. put_variable o x) found

  -- the variable's slot has a value
  pub slot-there : (size x : ℕ) → (node_at p n).head ≡ Var x → IsScoped size (tree_at p n) → x < size
  slot-there size x is scoped =
      let here : IsScoped size (tree (Var x) (trees_at p (node_at p n).parts)) = subst (IsScoped size) (tree_is p valid n there ∙ ap (λ h. tree h (trees_at p (node_at p n).parts)) is) scoped in
      here.seen 0 x (omega arith)

  pub fits-start : (size : ℕ) → IsForm (node_at p n).head → IsLeft (node_at p n).head 0 → IsScoped size (tree_at p n) → FormFits p n 0 size
  fits-start size is left scoped = record { there = there; is_form = is; left = left; scoped = subst (IsScoped size) (sym (tree_left-zero p valid n there)) scoped }
