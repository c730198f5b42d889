use Rattle.std.proofs.Common.{◌≡◌, ℕ, [], ◌∷◌, ◌++◌, map, ap, ◌∙◌, arith, rules}
use Rattle.std.specs.Ordering.{nat_cmp}
use Rattle.std.specs.FinMap.{from_entries}
use Rattle.std.proofs.lemmas.Grind.{common_steps}
use Rattle.stab_base.specs.declared.numbers.ThreadId.{ThreadId}
use Rattle.language.specs.Expression.{Expr}
use Rattle.language.specs.Parts.{threads_of}
use Rattle.language.proofs.Onto.{onto, onto-empty, onto_next, map_push}
use Rattle.plain_language.proofs.parts.by_thread.Goals as goal

abbrev by_number : ThreadId × Expr → ℕ × Expr
by_number x = (x.0.0, x.1)

pub loop-t-init : goal.loop-t-init
loop-t-init c =
    ap (λ es. onto (map (λ x. (x.0.0, x.1)) c.args.threads.items) (from_entries {R = nat_cmp} es)) c.new-map.ensures.empty
    ∙ onto-empty (map (λ x. (x.0.0, x.1)) c.args.threads.items)

pub loop-t-preserved : goal.loop-t-preserved
loop-t-preserved c =
    let x : ThreadId × Expr = (c.in-Some.t, c.in-Some.e) in
    let items : c.loop-t.threads.items ≡ c.pop.new.self.items ++ x ∷ [] = first_of (search rules, cc, grind (arith, common_steps)) in
    onto_next (threads_of c.args.threads.items) (map by_number c.loop-t.threads.items) (map by_number c.pop.new.self.items) (by_number x)
    (from_entries c.loop-t.map.entries) (from_entries c.put.new.map.entries)
    c.loop-t.invariant
    (ap (map by_number) items ∙ map_push by_number c.pop.new.self.items x)
    c.in_ok-put.ensures
