-- The law of surviving runs, by one pass over the run.
use Rattle.std.proofs.Common.{◌≡◌, ℕ, Bool, true, false, cond, ◌&&◌, ◌||◌, List, [], ◌∷◌, ◌++◌, Option, Some, None, refl, sym, ap, subst, ◌∙◌, append_assoc, append-nil}
use Rattle.std.specs.Ordering.{nat_cmp}
use Rattle.std.specs.FinMap as map
use Rattle.stab_base.specs.Datum.{Datum}
use Rattle.stab_journal.specs.declared.event.Numbered.{Numbered}
use Rattle.stab_journal.specs.Label.{touched, written}
use Rattle.language.specs.Steps.{State, Effect, Table, allows, apply, put_value, effect_in, plain, after_steps}
use Rattle.stab_journal.specs.Names.{has, is_at}
use Rattle.stab_journal.specs.Reached.{Lost, lose, keep, after_step, depends, rest}
use Rattle.journal_laws.proofs.Without.{IsClosedFrom, lost_after, IsWithout, IsClosedTable, IsSurvivor, stood, held}
use Rattle.journal_laws.specs.Surviving.{value_of, printed_of, prints}
use Rattle.language.proofs.Applying.{put_threads-apart, put_value-apart}
use Rattle.journal_laws.proofs.Applying.{put_value-here}
use Rattle.journal_laws.proofs.Stepping.{step_of, plain_of, same_effect, allows_too, apart, without_kept, without_lost, or_right}

pub some_is : {X : Type 0} {a b : X} → Some a ≡ Some b → a ≡ b
some_is h = cc

pub some_none : {X : Type 0} {a : X} → Some a ≡ None → ⊥
some_none h = cc

module _ {E : Type 0} (effect : Table E) where
  pub no_steps : (ns : List Numbered) → after_steps effect None ns ≡ None
  no_steps [] = refl
  no_steps (n ∷ ns) = no_steps ns

  module _ (gone : ℕ → Bool) where
    -- a step that goes is no step of the rest
    went : (n : Numbered) (ns : List Numbered) (x : Lost) (s s' m end end' : State E) → gone n.seq.0 ≡ true → plain effect s n.seq.0 n.label ≡ Some m → IsWithout x s s'
        → IsSurvivor effect gone (lose n.label x) m s' ns end end' → IsSurvivor effect gone x s s' (n ∷ ns) end end'
    went n ns x s s' m end end' goes step w r =
        let rest_is : rest gone (n ∷ ns) ≡ rest gone ns = ap (λ b. cond b (rest gone ns) (n ∷ rest gone ns)) goes in
        let lost_is : lost_after gone x (n ∷ ns) ≡ lost_after gone (lose n.label x) ns = ap (λ b. lost_after gone (after_step b n.label x) ns) goes in
        record {
          run = ap (after_steps effect (Some s')) rest_is ∙ r.run;
          without = subst (λ (y : Lost). IsWithout y end end') (sym lost_is) r.without;
          kept = λ t h. r.kept t (or_right effect _ _ h);
          stands = λ t h.
              (elim (has (touched n.label) t) as (λ b. has (touched n.label) t ≡ b → map.get end'.threads t ≡ cond b (map.get s.threads t) (stood effect gone t (Some m) ns)) [
                | true ↦ λ is. r.kept t (ap (λ b. b || x.threads t) is) ∙ w.same_threads t h
                | false ↦ λ is. r.stands t (ap (λ b. b || x.threads t) is ∙ h)
              ] refl)
              ∙ ap (λ o. cond (has (touched n.label) t) (map.get s.threads t) (stood effect gone t o ns)) (sym step)
              ∙ ap (λ b. cond (b && has (touched n.label) t) (map.get s.threads t) (stood effect gone t (plain effect s n.seq.0 n.label) ns)) (sym goes);
          holds = λ q. r.holds q
              ∙ ap (λ o. held effect gone q (map.get s'.references q) o ns) (sym step)
              ∙ ap (λ b. held effect gone q (cond b (map.get s'.references q) (cond (is_at (written n.label) q) (value_of (plain effect s n.seq.0 n.label) q) (map.get s'.references q))) (plain effect s n.seq.0 n.label) ns) (sym goes);
          output = r.output
              ∙ ap (λ o. s'.output ++ prints effect gone o ns) (sym step)
              ∙ ap (λ b. s'.output ++ (cond b [] (printed_of effect (effect_in effect s n.seq.0 n.label)) ++ prints effect gone (plain effect s n.seq.0 n.label) ns)) (sym goes);
        }

    value_after : (w : Option ℕ) (v : Datum) (m k : map.FinMap nat_cmp Datum) (q : ℕ) → map.get (put_value w v m) q ≡ cond (is_at w q) (map.get (put_value w v k) q) (map.get m q)
    value_after w v m k q =
        elim (is_at w q) as (λ b. is_at w q ≡ b → map.get (put_value w v m) q ≡ cond b (map.get (put_value w v k) q) (map.get m q)) [
          | true ↦ λ is. put_value-here w v m q is ∙ sym (put_value-here w v k q is)
          | false ↦ λ is. put_value-apart w v m q is
        ] refl

    -- a step that stays is made from the state without the lost steps
    stayed : (n : Numbered) (ns : List Numbered) (x : Lost) (s s' end end' : State E) (e : Effect E) → gone n.seq.0 ≡ false → effect_in effect s n.seq.0 n.label ≡ Some e → allows s n.label ≡ true → plain effect s' n.seq.0 n.label ≡ Some (apply s' n.label e) → depends n.label x ≡ false → IsWithout x s s'
        → IsSurvivor effect gone (keep n.label x) (apply s n.label e) (apply s' n.label e) ns end end' → IsSurvivor effect gone x s s' (n ∷ ns) end end'
    stayed n ns x s s' end end' e stays found ok step free w r =
        let rest_is : rest gone (n ∷ ns) ≡ n ∷ rest gone ns = ap (λ b. cond b (rest gone ns) (n ∷ rest gone ns)) stays in
        let lost_is : lost_after gone x (n ∷ ns) ≡ lost_after gone (keep n.label x) ns = ap (λ b. lost_after gone (after_step b n.label x) ns) stays in
        let made : plain effect s n.seq.0 n.label ≡ Some (apply s n.label e) = plain_of effect s n.seq.0 n.label e found ok in
        record {
          run = ap (after_steps effect (Some s')) rest_is ∙ ap (λ o. after_steps effect o (rest gone ns)) step ∙ r.run;
          without = subst (λ (y : Lost). IsWithout y end end') (sym lost_is) r.without;
          kept = λ t h. r.kept t h ∙ put_threads-apart (touched n.label) e.mine e.other s'.threads t (apart effect x s s' n.label w ok free t h);
          stands = λ t h. r.stands t h
              ∙ ap (λ o. stood effect gone t o ns) (sym made)
              ∙ ap (λ b. cond (b && has (touched n.label) t) (map.get s.threads t) (stood effect gone t (plain effect s n.seq.0 n.label) ns)) (sym stays);
          holds = λ q. r.holds q
              ∙ ap (λ v. held effect gone q v (Some (apply s n.label e)) ns) (value_after (written n.label) e.value s'.references s.references q)
              ∙ ap (λ o. held effect gone q (cond (is_at (written n.label) q) (value_of o q) (map.get s'.references q)) o ns) (sym made)
              ∙ ap (λ b. held effect gone q (cond b (map.get s'.references q) (cond (is_at (written n.label) q) (value_of (plain effect s n.seq.0 n.label) q) (map.get s'.references q))) (plain effect s n.seq.0 n.label) ns) (sym stays);
          output = r.output
              ∙ append_assoc s'.output e.printed (prints effect gone (Some (apply s n.label e)) ns)
              ∙ ap (λ o. s'.output ++ (printed_of effect o ++ prints effect gone (Some (apply s n.label e)) ns)) (sym found)
              ∙ ap (λ o. s'.output ++ (printed_of effect (effect_in effect s n.seq.0 n.label) ++ prints effect gone o ns)) (sym made)
              ∙ ap (λ b. s'.output ++ (cond b [] (printed_of effect (effect_in effect s n.seq.0 n.label)) ++ prints effect gone (plain effect s n.seq.0 n.label) ns)) (sym stays);
        }

    module _ (IsKnown : State E → Type 0) (closed : IsClosedTable effect IsKnown) where
      -- the end of what stays
      pub record Survives (x : Lost) (s s' : State E) (steps : List Numbered) (end : State E) : Type 0 where
        pub at : State E
        pub known : IsKnown at
        pub is : IsSurvivor effect gone x s s' steps end at

      -- the law for the steps ns
      abbrev Law : List Numbered → Type 0
      Law ns = (x : Lost) (s s' end : State E) → IsWithout x s s' → IsKnown s' → after_steps effect (Some s) ns ≡ Some end → IsClosedFrom gone x ns → Survives x s s' ns end

      survive_step : (n : Numbered) (ns : List Numbered) → Law ns → (x : Lost) (s s' end : State E) → IsWithout x s s' → IsKnown s' → (o : Option (State E)) → plain effect s n.seq.0 n.label ≡ o → after_steps effect o ns ≡ Some end
          → (b : Bool) → gone n.seq.0 ≡ b → (b ≡ false → depends n.label x ≡ false) → IsClosedFrom gone (after_step b n.label x) ns → Survives x s s' (n ∷ ns) end
      survive_step n ns law x s s' end w known None step run b is free shut = absurd (some_none (sym run ∙ no_steps ns))
      survive_step n ns law x s s' end w known (Some m) step run true is free shut =
          let st = step_of effect s n.seq.0 n.label m step in
          let then = law (lose n.label x) m s' end (subst (λ (y : State E). IsWithout (lose n.label x) y s') (sym st.is) (without_lost effect x s s' n.label st.eff w st.allowed)) known run shut in
          record { at = then.at; known = then.known; is = went n ns x s s' m end then.at is step w then.is }
      survive_step n ns law x s s' end w known (Some m) step run false is free shut =
          let st = step_of effect s n.seq.0 n.label m step in
          let found : effect_in effect s' n.seq.0 n.label ≡ Some st.eff = same_effect effect x s s' n.seq.0 n.label w (free refl) ∙ st.found in
          let ok : allows s' n.label ≡ true = allows_too effect IsKnown closed x s s' n.seq.0 n.label st.eff w known found st.allowed in
          let made : plain effect s' n.seq.0 n.label ≡ Some (apply s' n.label st.eff) = plain_of effect s' n.seq.0 n.label st.eff found ok in
          let then = law (keep n.label x) (apply s n.label st.eff) (apply s' n.label st.eff) end (without_kept effect x s s' n.label st.eff w st.allowed) (closed.step s' _ n.seq.0 n.label known made) (ap (λ (y : State E). after_steps effect (Some y) ns) (sym st.is) ∙ run) shut in
          record { at = then.at; known = then.known; is = stayed n ns x s s' end then.at st.eff is st.found st.allowed made (free refl) w then.is }

      pub survive_from : (ns : List Numbered) → Law ns
      survive_from [] x s s' end w known run shut =
          record {
            at = s';
            known = known;
            is = record { run = refl; without = subst (λ (y : State E). IsWithout x y s') (some_is run) w; kept = λ t h. refl; stands = λ t h. w.same_threads t h; holds = λ r. refl; output = sym (append-nil s'.output) };
          }
      survive_from (n ∷ ns) x s s' end w known run shut =
          survive_step n ns (survive_from ns) x s s' end w known (plain effect s n.seq.0 n.label) refl run (gone n.seq.0) refl shut.0 shut.1
