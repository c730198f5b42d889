use Rattle.std.proofs.Common.{◌≡◌, ◌++◌, ℕ, sym, ap, subst, ◌∙◌}
use Rattle.ref_log.specs.Log.{Log, writes_of}
use Rattle.ref_log.specs.Layout.{held, settled_at, of_reference, IsLinked}
use Rattle.ref_log.proofs.Views.{writes-held, kept-same, same-references}
use Rattle.ref_log.proofs.Links.{linked-same}
use Rattle.ref_log.proofs.log.RefLog.reserve.Goals as goal

linked : (c : goal.After-make_place) → IsLinked c.make_place.new.references.items c.reserve.new.self.items
linked c =
    let a = c.self.inside in
    subst (λ es. IsLinked c.make_place.new.references.items es) (sym c.reserve.ensures.items) (linked-same a.references.items c.make_place.new.references.items a.recent.items c.make_place.ensures.heads c.self.invariant.linked)

writes : (c : goal.After-make_place) → (s : ℕ) → held c.make_place.new.references.items c.reserve.new.self.items s ≡ held c.self.inside.references.items c.self.inside.recent.items s
writes c s =
    let a = c.self.inside in
    ap (λ ws. ws ++ of_reference s c.reserve.new.self.items) (c.make_place.ensures.settled s) ∙ ap (λ es. settled_at a.references.items s ++ of_reference s es) c.reserve.ensures.items

pub invariant_of-self-2 : goal.invariant_of-self-2
invariant_of-self-2 c =
    let a = c.self.inside in
    kept-same a.last_cut.0 a.references.items c.make_place.new.references.items a.recent c.reserve.new.self c.self.invariant (linked c) (writes c) c.make_place.ensures.settled (rw c.reserve.ensures.items c.self.invariant.few)

pub returns-clause-writes : goal.returns-clause-writes
returns-clause-writes c = λ s.
    let a = c.self.inside in
    writes-held a.last_cut.0 c.make_place.new.references.items c.reserve.new.self s (linked c) ∙ writes c s ∙ sym (writes-held a.last_cut.0 a.references.items a.recent s c.self.invariant.linked) ∙ ap (λ l. writes_of l s) c.self.view_is

pub returns-clause-references : goal.returns-clause-references
returns-clause-references c =
    let a = c.self.inside in
    same-references a.last_cut.0 a.last_cut.0 a.references.items c.make_place.new.references.items a.recent c.reserve.new.self
    (λ s. writes-held a.last_cut.0 c.make_place.new.references.items c.reserve.new.self s (linked c) ∙ writes c s ∙ sym (writes-held a.last_cut.0 a.references.items a.recent s c.self.invariant.linked))
    ∙ ap (λ (l : Log). l.references) c.self.view_is
