use Rattle.std.proofs.Common.{◌≡◌, ℕ, [], ◌∷◌, ◌++◌, ap, ◌∙◌, arith, rules}
use Rattle.std.specs.Ordering.{nat_cmp}
use Rattle.std.specs.FinMap.{FinMap, from_entries, insert}
use Rattle.std.proofs.lemmas.Grind.{common_steps}
use Rattle.language.specs.Expression.{Expr}
use Rattle.language.proofs.Onto.{onto, onto-empty, onto_next}
use Rattle.plain_language.proofs.parts.copied_threads.Goals as goal

pub loop-t-init : goal.loop-t-init
loop-t-init c =
    ap (λ es. onto es (from_entries {R = nat_cmp} c.new-copies.result.entries)) c.iter-left.ensures.rest
    ∙ ap (λ es. onto c.args.threads.now.entries (from_entries {R = nat_cmp} es)) c.new-copies.ensures.empty
    ∙ onto-empty c.args.threads.now.entries

pub loop-t-preserved : goal.loop-t-preserved
loop-t-preserved c =
    let x : ℕ × Expr = (c.in-Some.t.now, c.in-Some.e.now) in
    let m : FinMap nat_cmp Expr = from_entries c.loop-t.copies.entries in
    let left : c.loop-t.left ≡ c.next_back.new.self ++ x ∷ [] = first_of (search rules, cc, grind (arith, common_steps)) in
    onto_next (from_entries c.args.threads.now.entries) c.loop-t.left c.next_back.new.self x m (from_entries c.put.new.map.entries)
    c.loop-t.invariant left
    (c.in_ok-put.ensures ∙ ap (insert m c.in-Some.t.now) c.in_ok-copy.ensures)
