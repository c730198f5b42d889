-- Bodies of functions, from nodes.
use Rattle.std.proofs.Common.{◌≡◌, ℕ, zero, suc, false, List, [], ◌∷◌, map, Option, Some, None, refl, ap}
use Rattle.std.specs.Prelude.{option_map, option_and_then, slice_get}
use Rattle.stab_code.specs.declared.node_id.NodeId.{NodeId}
use Rattle.stab_code.specs.Program.{FunctionParts, ProgramParts, tree_at, tree_among, trees_among}
use Rattle.stab_code.specs.Trees.{Tree}
use Rattle.language.specs.Expression.{Expr, value, variable, failed, form, part, parts_of}
use Rattle.language.specs.Program.{expr_of, exprs_of, body_by}
use Rattle.language.specs.Busy.{busy_at, values_in}
use Rattle.plain_language.specs.Given.{as_value}

-- the expressions of nodes are those of their trees
pub exprs_at : (trees : List Tree) (ns : List NodeId) → parts_of (map (λ n. expr_of (tree_among trees n)) ns) ≡ exprs_of (trees_among trees ns)
exprs_at trees [] = refl
exprs_at trees (n ∷ ns) = ap (part (expr_of (tree_among trees n))) (exprs_at trees ns)

pub body_is : (p : ProgramParts) (o : Option FunctionParts) (n : NodeId) → Some n ≡ option_map (λ f. f.body) o → body_by p o ≡ expr_of (tree_at p n)
body_is p None n h = cc
body_is p (Some f) n h = let same : f.body ≡ n = cc in ap (λ k. expr_of (tree_at p k)) same

mapped_none : (o : Option ℕ) → option_map suc o ≡ None → o ≡ None
mapped_none None h = refl
mapped_none (Some i) h = cc

pub given_values : (es : List Expr) → busy_at false es ≡ None → (x : ℕ) → option_and_then as_value (slice_get es x) ≡ slice_get (values_in es) x
given_values [] h x = refl
given_values (value v ∷ es) h zero = refl
given_values (value v ∷ es) h (suc x) = given_values es (mapped_none (busy_at false es) h) x
given_values (variable y ∷ es) h x = absurd (cc)
given_values (failed k ∷ es) h x = absurd (cc)
given_values (form g ps ∷ es) h x = absurd (cc)
