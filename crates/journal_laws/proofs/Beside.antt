-- The pass of the law as data: beside each state of the run the state that the kept steps alone reach.
use Rattle.std.proofs.Common.{◌≡◌, ℕ, Bool, true, false, List, [], ◌∷◌, Option, Some, None, refl, sym, ap, subst, ◌∙◌}
use Rattle.std.proofs.lemmas.Bool.{false≢true}
use Rattle.stab_journal.specs.declared.event.Label.{Label}
use Rattle.stab_journal.specs.declared.event.Numbered.{Numbered}
use Rattle.stab_journal.specs.Label.{actors}
use Rattle.language.specs.Steps.{State, Effect, Table, allows, apply, effect_in, plain, after_steps}
use Rattle.stab_journal.specs.Names.{has, read}
use Rattle.stab_journal.specs.Reached.{Lost, lose, keep, after_step, depends, reads_of}
use Rattle.journal_laws.proofs.Without.{IsClosedFrom, IsWithout, IsClosedTable}
use Rattle.journal_laws.proofs.Applying.{or_false}
use Rattle.journal_laws.proofs.Stepping.{has_none, step_of, plain_of, same_effect, allows_too, without_kept, without_lost}
use Rattle.journal_laws.proofs.Surviving.{some_none, no_steps}
use Rattle.std.specs.List.{list_any}

-- an actor of a step that depends on nothing lost isn't lost
pub acts_free : (l : Label) (x : Lost) (t : ℕ) → depends l x ≡ false → has (actors l) t ≡ true → x.threads t ≡ false
acts_free l x t free acts =
    elim (x.threads t) as (λ b. x.threads t ≡ b → b ≡ false) [
      | true ↦ λ is. absurd (false≢true (sym (has_none x.threads (actors l) t (or_false (list_any x.threads (actors l)) (reads_of (read l) x.references) free).0 is) ∙ acts))
      | false ↦ λ is. refl
    ] refl

module _ {E : Type 0} (effect : Table E) (gone : ℕ → Bool) where
  pub data Beside : Lost → State E → State E → List Numbered → Type 0 where
    ends : (x : Lost) (s s' : State E) → IsWithout x s s' → Beside x s s' []
    goes : (x : Lost) (s s' m : State E) (n : Numbered) (ns : List Numbered) → IsWithout x s s' → gone n.seq.0 ≡ true → plain effect s n.seq.0 n.label ≡ Some m → Beside (lose n.label x) m s' ns → Beside x s s' (n ∷ ns)
    stays : (x : Lost) (s s' : State E) (e : Effect E) (n : Numbered) (ns : List Numbered) → IsWithout x s s' → gone n.seq.0 ≡ false → depends n.label x ≡ false → plain effect s n.seq.0 n.label ≡ Some (apply s n.label e) → plain effect s' n.seq.0 n.label ≡ Some (apply s' n.label e) → Beside (keep n.label x) (apply s n.label e) (apply s' n.label e) ns → Beside x s s' (n ∷ ns)

  module _ (IsKnown : State E → Type 0) (closed : IsClosedTable effect IsKnown) where
    abbrev Law : List Numbered → Type 0
    Law ns = (x : Lost) (s s' end : State E) → IsWithout x s s' → IsKnown s' → after_steps effect (Some s) ns ≡ Some end → IsClosedFrom gone x ns → Beside x s s' ns

    one : (n : Numbered) (ns : List Numbered) → Law ns → (x : Lost) (s s' end : State E) → IsWithout x s s' → IsKnown s' → (o : Option (State E)) → plain effect s n.seq.0 n.label ≡ o → after_steps effect o ns ≡ Some end
        → (b : Bool) → gone n.seq.0 ≡ b → (b ≡ false → depends n.label x ≡ false) → IsClosedFrom gone (after_step b n.label x) ns → Beside x s s' (n ∷ ns)
    one n ns law x s s' end w known None step run b is free shut = absurd (some_none (sym run ∙ no_steps effect ns))
    one n ns law x s s' end w known (Some m) step run true is free shut =
        let st = step_of effect s n.seq.0 n.label m step in
        goes x s s' m n ns w is step (law (lose n.label x) m s' end (subst (λ (y : State E). IsWithout (lose n.label x) y s') (sym st.is) (without_lost effect x s s' n.label st.eff w st.allowed)) known run shut)
    one n ns law x s s' end w known (Some m) step run false is free shut =
        let st = step_of effect s n.seq.0 n.label m step in
        let found : effect_in effect s' n.seq.0 n.label ≡ Some st.eff = same_effect effect x s s' n.seq.0 n.label w (free refl) ∙ st.found in
        let ok : allows s' n.label ≡ true = allows_too effect IsKnown closed x s s' n.seq.0 n.label st.eff w known found st.allowed in
        let made : plain effect s' n.seq.0 n.label ≡ Some (apply s' n.label st.eff) = plain_of effect s' n.seq.0 n.label st.eff found ok in
        stays x s s' st.eff n ns w is (free refl) (plain_of effect s n.seq.0 n.label st.eff st.found st.allowed) made
        (law (keep n.label x) (apply s n.label st.eff) (apply s' n.label st.eff) end (without_kept effect x s s' n.label st.eff w st.allowed) (closed.step s' _ n.seq.0 n.label known made) (ap (λ (y : State E). after_steps effect (Some y) ns) (sym st.is) ∙ run) shut)

    pub beside : (ns : List Numbered) → Law ns
    beside [] x s s' end w known run shut = ends x s s' w
    beside (n ∷ ns) x s s' end w known run shut = one n ns (beside ns) x s s' end w known (plain effect s n.seq.0 n.label) refl run (gone n.seq.0) refl shut.0 shut.1
