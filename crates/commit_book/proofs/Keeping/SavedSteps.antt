-- The saved controls after a step.
use Rattle.std.proofs.Common.{◌≡◌, ℕ, suc, ◌<◌, ◌≤◌, true, false, cond, ◌&&◌, nat_eq, List, [], ◌∷◌, ◌++◌, Option, Some, None, refl, sym, ap, subst, ◌∙◌}
use Rattle.std.specs.Prelude.{option_map, nat_lt}
use Rattle.std.specs.FinMap as map
use Rattle.std.specs.FinMap.{FinMap}
use Rattle.std.proofs.lemmas.Bool.{eqb-true}
use Rattle.stab_journal.specs.declared.event.Numbered.{Numbered}
use Rattle.stab_journal.specs.Floor.{is_cut, floor}
use Rattle.stab_journal.specs.Journal.{RiseFrom}
use Rattle.stab_journal.specs.Label.{actors}
use Rattle.stab_journal.specs.Names.{has}
use Rattle.checkpoint_store.specs.Saved.{place_cmp}
use Rattle.language.specs.Steps.{State, Table, after_steps, next}
use Rattle.journal_laws.specs.Surviving.{thread_of}
use Rattle.journal_laws.proofs.Numbers.{rise_front}
use Rattle.commit_book.specs.Run.{saves, stood_at}
use Rattle.commit_book.specs.Saved.{saved_of, AreSaved}
use Rattle.commit_book.proofs.Keeping.Floors.{floor_snoc, less_is, differs_too}

-- the new step is above the floor
over : (E : Type 0) (f k n : ℕ) → f < n → (a b : Option E) → cond (nat_eq k n) a (cond (nat_lt f k) b None) ≡ cond (nat_lt f k) (cond (nat_eq k n) a b) None
over E f k n above a b = elim (nat_eq k n) as (λ c. nat_eq k n ≡ c → cond c a (cond (nat_lt f k) b None) ≡ cond (nat_lt f k) (cond c a b) None) [
  | true ↦ λ is. ap (λ c. cond c a None) (sym (less_is f k (subst (λ (x : ℕ). f < x) (sym (eqb-true k n is)) above)))
  | false ↦ λ is. refl
] refl

module _ {E : Type 0} (effect : Table E) where
  -- where an actor stood, with one more step
  pub stood_snoc : (k t p : ℕ) (o : Option (State E)) (run : List Numbered) (n : Numbered) → RiseFrom p (run ++ n ∷ []) → stood_at effect k t o (run ++ n ∷ []) ≡ cond (nat_eq k n.seq.0) (cond (saves n.label && has (actors n.label) t) (thread_of (after_steps effect o run) t) None) (stood_at effect k t o run)
  stood_snoc k t p o [] n rise = refl
  stood_snoc k t p o (j ∷ run) n rise =
      elim (nat_eq k j.seq.0) as (λ b. nat_eq k j.seq.0 ≡ b → cond b (cond (saves j.label && has (actors j.label) t) (thread_of o t) None) (stood_at effect k t (next effect o j) (run ++ n ∷ []))
      ≡ cond (nat_eq k n.seq.0) (cond (saves n.label && has (actors n.label) t) (thread_of (after_steps effect (next effect o j) run) t) None) (cond b (cond (saves j.label && has (actors j.label) t) (thread_of o t) None) (stood_at effect k t (next effect o j) run))) [
        | true ↦ λ is. ap (λ b. cond b (cond (saves n.label && has (actors n.label) t) (thread_of (after_steps effect (next effect o j) run) t) None) (cond (saves j.label && has (actors j.label) t) (thread_of o t) None))
            (sym (differs_too k n.seq.0 (let h = rise_front (suc j.seq.0) run n [] rise.1 in subst (λ (x : ℕ). suc x ≤ n.seq.0) (sym (eqb-true k j.seq.0 is)) h)))
        | false ↦ λ is. stood_snoc k t (suc j.seq.0) (next effect o j) run n rise.1
      ] refl

module _ {C E : Type 0} (expr : C → E) (effect : Table E) where
  -- a step that is no cut saves where its actors stood, if it is one that saves, and nothing else
  pub saved_step : (start s : State E) (run : List Numbered) (n : Numbered) (p : ℕ) (controls new : FinMap place_cmp C) → RiseFrom p (run ++ n ∷ []) → after_steps effect (Some start) run ≡ Some s → is_cut n.label ≡ false → floor run < n.seq.0
      → ((k t : ℕ) → option_map expr (saved_of new k t) ≡ cond (nat_eq k n.seq.0) (cond (saves n.label && has (actors n.label) t) (map.get s.threads t) None) (option_map expr (saved_of controls k t)))
      → AreSaved expr effect controls start run → AreSaved expr effect new start (run ++ n ∷ [])
  saved_step start s run n p controls new rise runs uncut above saved is k t =
      saved k t
      ∙ ap (cond (nat_eq k n.seq.0) (cond (saves n.label && has (actors n.label) t) (map.get s.threads t) None)) (is k t)
      ∙ over E (floor run) k n.seq.0 above _ _
      ∙ ap (λ o. cond (nat_lt (floor run) k) (cond (nat_eq k n.seq.0) (cond (saves n.label && has (actors n.label) t) (thread_of o t) None) (stood_at effect k t (Some start) run)) None) (sym runs)
      ∙ ap (λ o. cond (nat_lt (floor run) k) o None) (sym (stood_snoc effect k t p (Some start) run n rise))
      ∙ ap (λ f. cond (nat_lt f k) (stood_at effect k t (Some start) (run ++ n ∷ [])) None) (sym (floor_snoc 0 run n uncut))
