use Rattle.std.proofs.Common.{◌≡◌, ℕ, [], ◌∷◌, ◌++◌, map, ap, ◌∙◌, arith, rules}
use Rattle.std.specs.Ordering.{nat_cmp}
use Rattle.std.specs.FinMap.{from_entries}
use Rattle.std.proofs.lemmas.Grind.{common_steps}
use Rattle.stab_base.specs.declared.numbers.RefId.{RefId}
use Rattle.stab_base.specs.Datum.{Datum}
use Rattle.language.specs.Parts.{references_of}
use Rattle.language.proofs.Onto.{onto, onto-empty, onto_next, map_push}
use Rattle.plain_language.proofs.parts.by_reference.Goals as goal

abbrev by_number : RefId × Datum → ℕ × Datum
by_number x = (x.0.0, x.1)

pub loop-r-init : goal.loop-r-init
loop-r-init c =
    ap (λ es. onto (map (λ x. (x.0.0, x.1)) c.args.references.items) (from_entries {R = nat_cmp} es)) c.new-map.ensures.empty
    ∙ onto-empty (map (λ x. (x.0.0, x.1)) c.args.references.items)

pub loop-r-preserved : goal.loop-r-preserved
loop-r-preserved c =
    let x : RefId × Datum = (c.in-Some.r, c.in-Some.v) in
    let items : c.loop-r.references.items ≡ c.pop.new.self.items ++ x ∷ [] = first_of (search rules, cc, grind (arith, common_steps)) in
    onto_next (references_of c.args.references.items) (map by_number c.loop-r.references.items) (map by_number c.pop.new.self.items) (by_number x)
    (from_entries c.loop-r.map.entries) (from_entries c.put.new.map.entries)
    c.loop-r.invariant
    (ap (map by_number) items ∙ map_push by_number c.pop.new.self.items x)
    c.in_ok-put.ensures
