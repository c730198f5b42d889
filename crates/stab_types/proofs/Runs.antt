-- In no run of a typed program does a value of the wrong kind stop a thread.
use Rattle.std.proofs.Common.{◌≡◌, ℕ, true, false, cond, nat_eq, List, [], ◌∷◌, slice_get, Option, Some, None, refl, sym, subst, ◌∙◌}
use Rattle.std.specs.Prelude.{IfSome, IsSomeAnd}
use Rattle.std.specs.FinMap as map
use Rattle.std.specs.FinMap.{get-empty}
use Rattle.std.specs.Ordering.{nat_cmp}
use Rattle.std.proofs.Math.Logic.{∥∥₁_elim}
use Rattle.stab_base.specs.declared.fault.Fault.TheVariants.{WrongKind}
use Rattle.stab_code.specs.Program.{FunctionParts, ProgramParts}
use Rattle.stab_code.specs.Valid.{IsValid}
use Rattle.stab_journal.specs.declared.event.Label.{Label}
use Rattle.stab_journal.specs.declared.event.Numbered.{Numbered}
use Rattle.language.specs.Expression.{Expr}
use Rattle.language.specs.Outcome.{called}
use Rattle.language.specs.Program.{body}
use Rattle.language.specs.Plain.{PlainState, effect_of, start, standing, look_in, IsRun}
use Rattle.language.specs.Steps.{State, Table, plain, after_steps}
use Rattle.language.specs.Table.{fault}
use Rattle.language.proofs.Applying.{get_inserted}
use Rattle.stab_types.specs.ExprType.{of, all_of}
use Rattle.stab_types.specs.Typed.{IsTyped}
use Rattle.stab_types.proofs.World.{World, AllFit}
use Rattle.stab_types.proofs.Putting.{some_is}
use Rattle.stab_types.proofs.Redexes.{IsSafe, safe_of, LookFits, look_fits}
use Rattle.stab_types.proofs.Texts.{FormsFit, called_runs}
use Rattle.stab_types.proofs.Steps.{IsTypedState, step_types}

some_none : {X : Type 0} {x : X} → Some x ≡ None → ⊥
some_none h = cc

-- what each step keeps, each run keeps
module _ {E : Type 0} (effect : Table E) (Kept : State E → Type 0) (step : (s n : State E) (q : ℕ) (l : Label) → Kept s → plain effect s q l ≡ Some n → Kept n) where
  no_steps : (ns : List Numbered) → after_steps effect None ns ≡ None
  no_steps [] = refl
  no_steps (n ∷ ns) = no_steps ns

  run_keeps : (ns : List Numbered) (s end : State E) → Kept s → after_steps effect (Some s) ns ≡ Some end → Kept end
  run_keeps [] s end h is = subst Kept (some_is is) h
  run_keeps (n ∷ ns) s end h is =
      elim (plain effect s n.seq.0 n.label) as (λ o. plain effect s n.seq.0 n.label ≡ o → after_steps effect o ns ≡ Some end → Kept end) [
        | None ↦ λ at run. absurd (some_none (sym run ∙ no_steps ns))
        | (Some m) ↦ λ at run. run_keeps ns m end (step s m n.seq.0 n.label h at) run
      ] refl is

module _ (p : ProgramParts) (valid : IsValid p) (fit : FormsFit p) (typed : IsTyped p) where
  abbrev AreTyped : State Expr → Type 0
  AreTyped s = (w : World) × IsTypedState p.functions w s

  step_keeps : (s n : State Expr) (q : ℕ) (l : Label) → AreTyped s → plain (effect_of p) s q l ≡ Some n → AreTyped n
  step_keeps s n q l h is = step_types p.functions (body p) (λ w k f vs found given. called_runs p valid fit typed w k f vs found given) s h.0 h.1 n q l is

  abbrev no_types : World
  no_types = record { channels = λ c. None; references = λ r. None }

  main_safe : (o : Option FunctionParts) → slice_get p.functions p.main.0 ≡ o → IsSomeAnd o (λ f. f.takes ≡ []) → IsSafe p.functions no_types (called (body p) p.main.0 [])
  main_safe None found h = absurd h
  main_safe (Some f) found h =
      let none : AllFit no_types [] (all_of f.takes) = subst (λ as'. AllFit no_types [] (all_of as')) (sym h) tt in
      safe_of p.functions no_types _ (of f.gives) (called_runs p valid fit typed no_types p.main.0 f [] found none)

  start_typed : AreTyped (start p)
  start_typed = (
    no_types,
    record {
      threads = λ t e is. elim (nat_eq t 1) as (λ b. cond b (Some (called (body p) p.main.0 [])) (map.get {R = nat_cmp} map.empty t) ≡ Some e → IsSafe p.functions no_types e) [
        | true ↦ λ is. subst (IsSafe p.functions no_types) (some_is is) (main_safe (slice_get p.functions p.main.0) refl valid.main_there)
        | false ↦ λ is. absurd (some_none (sym is ∙ get-empty nat_cmp t))
      ] (sym (get_inserted map.empty 1 (called (body p) p.main.0 []) t) ∙ is);
      holds = λ r v is. absurd (some_none (sym is ∙ get-empty nat_cmp r));
      channels = λ c a is. absurd (some_none (sym is));
      references = λ r a is. absurd (some_none (sym is));
    },
  )

  run_typed : (run : List Numbered) (s : PlainState) → IsRun p run s → AreTyped s
  run_typed run s r = run_keeps (effect_of p) AreTyped step_keeps run (start p) s start_typed r.ends

  not_wrong : (w : World) (e : Expr) → IsSafe p.functions w e → look_in p e ≡ fault WrongKind → ⊥
  not_wrong w e safe is = subst (LookFits p.functions w e) is (look_fits p.functions w (body p) (called_runs p valid fit typed w) e safe) refl

  wrong_if : (o : Option Expr) (w : World) → ((e : Expr) → o ≡ Some e → IsSafe p.functions w e) → IfSome o (λ e. look_in p e ≡ fault WrongKind → ⊥)
  wrong_if None w safe = tt
  wrong_if (Some e) w safe = not_wrong w e (safe e refl)

  -- no thread of a run has failed for a wrong kind
  pub never_wrong : (run : List Numbered) (s : PlainState) → IsRun p run s → (t : ℕ) → IfSome (standing s t) (λ e. look_in p e ≡ fault WrongKind → ⊥)
  never_wrong run s r t = let h = run_typed run s r in wrong_if (standing s t) h.0 (λ e is. h.1.threads t e is)

-- that the program is typed needs not be known by its types
pub never_wrong_here : (p : ProgramParts) → IsValid p → FormsFit p → ∥ IsTyped p ∥₁ → (run : List Numbered) (s : PlainState) → IsRun p run s → (t : ℕ) → IfSome (standing s t) (λ e. look_in p e ≡ fault WrongKind → ⊥)
never_wrong_here p valid fit typed run s r t =
    elim (standing s t) as (λ o. standing s t ≡ o → IfSome o (λ e. look_in p e ≡ fault WrongKind → ⊥)) [
      | None ↦ λ at. tt
      | (Some e) ↦ λ at is. ∥∥₁_elim {P = ⊥} typed (λ x y. absurd x) (λ h. subst (λ o. IfSome o (λ e. look_in p e ≡ fault WrongKind → ⊥)) at (never_wrong p valid fit h run s r t) is)
    ] refl
