use Rattle.std.proofs.Common.{◌≡◌, ℕ, [], ◌∷◌, ◌++◌, ap, ◌∙◌, arith, rules}
use Rattle.std.specs.Ordering.{nat_cmp}
use Rattle.std.specs.FinMap.{FinMap, from_entries, insert}
use Rattle.std.proofs.lemmas.Grind.{common_steps}
use Rattle.stab_base.specs.Datum.{Datum}
use Rattle.language.proofs.Onto.{onto, onto-empty, onto_next}
use Rattle.plain_language.proofs.parts.copied_references.Goals as goal

pub loop-r-init : goal.loop-r-init
loop-r-init c =
    ap (λ es. onto es (from_entries {R = nat_cmp} c.new-copies.result.entries)) c.iter-left.ensures.rest
    ∙ ap (λ es. onto c.args.references.now.entries (from_entries {R = nat_cmp} es)) c.new-copies.ensures.empty
    ∙ onto-empty c.args.references.now.entries

pub loop-r-preserved : goal.loop-r-preserved
loop-r-preserved c =
    let x : ℕ × Datum = (c.in-Some.r.now, c.in-Some.v.now) in
    let m : FinMap nat_cmp Datum = from_entries c.loop-r.copies.entries in
    let left : c.loop-r.left ≡ c.next_back.new.self ++ x ∷ [] = first_of (search rules, cc, grind (arith, common_steps)) in
    onto_next (from_entries c.args.references.now.entries) c.loop-r.left c.next_back.new.self x m (from_entries c.put.new.map.entries)
    c.loop-r.invariant left
    (c.in_ok-put.ensures ∙ ap (insert m c.in-Some.r.now) c.in_ok-copy.ensures.same)
