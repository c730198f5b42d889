use Rattle.std.proofs.Common.{◌≡◌, ◌∙◌, ap, sym, subst, map, IfOk}
use Rattle.std.proofs.lemmas.List.{take_all}
use Rattle.stab_code.specs.Program.{tree_at, trees_of}
use Rattle.language.specs.Expression.{Expr, parts_of}
use Rattle.language.specs.Program.{expr_of, form_of}
use Rattle.plain_language.proofs.Bodies.{exprs_at}
use Rattle.plain_language.proofs.body.+written.Goals as goal

pub returns : goal.returns
returns t c =
    let p = c.args.program.now in
    let node = c.in-Some.node in
    let all : c.loop-part.parts.items ≡ map (λ k. expr_of (tree_at p k)) node.parts =
    c.loop-part.invariant ∙ ap (map (λ k. expr_of (tree_at p k))) (take_all c.loop-part.part-index c.parts-part-items.result.now c.loop-part-test.false ∙ c.parts-part-items.ensures) in
    let is : form_of c.head.result.now (parts_of c.loop-part.parts.items) ≡ expr_of (tree_at p c.args.n) =
    ap (λ h. form_of h (parts_of c.loop-part.parts.items)) c.head.ensures
    ∙ ap (form_of node.head) (ap parts_of all ∙ exprs_at (trees_of p.nodes) node.parts)
    ∙ ap expr_of (sym (c.nodes_are_trees.ensures.tree p c.in-Some.ensures.valid c.args.n node (sym c.in-Some.ensures.value))) in
    subst (λ (x : Expr). IfOk c.form_over.result (λ e. e ≡ x)) is c.form_over.ensures
