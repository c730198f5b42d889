-- What each run of a program leads to.
use Rattle.std.proofs.Common.{◌≡◌, ℕ, true, false, cond, nat_eq, List, [], Some, sym, subst, ◌∙◌}
use Rattle.std.specs.FinMap as map
use Rattle.std.specs.FinMap.{get-empty}
use Rattle.std.specs.Ordering.{nat_cmp}
use Rattle.stab_code.specs.Program.{ProgramParts}
use Rattle.stab_code.specs.Valid.{IsValid}
use Rattle.stab_journal.specs.declared.event.Numbered.{Numbered}
use Rattle.language.specs.Expression.{Expr}
use Rattle.language.specs.Outcome.{called}
use Rattle.language.specs.Plain.{IsRun, PlainState, effect_of, start}
use Rattle.language.specs.Program.{body}
use Rattle.language.proofs.Applying.{get_inserted}
use Rattle.journal_laws.proofs.Runs.{run_keeps}
use Rattle.journal_laws.proofs.Surviving.{some_is, some_none}
use Rattle.standing_runs.specs.Numbers.{NumbersFit}
use Rattle.standing_runs.specs.Standing.{IsStanding}
use Rattle.standing_runs.proofs.Bodies.{main_new}
use Rattle.standing_runs.proofs.Effects.{IsAllowed, step_allowed}
use Rattle.standing_runs.proofs.Looks.{MayStand, new_stands, stands_thread}

module _ (p : ProgramParts) (valid : IsValid p) (fit : NumbersFit p) where
  abbrev main : Expr
  main = called (body p) p.main.0 []

  first_stands : (t : ℕ) (e : Expr) → map.get (start p).threads t ≡ Some e → MayStand p e
  first_stands t e is =
      elim (nat_eq t 1) as (λ b. cond b (Some main) (map.get {R = nat_cmp} map.empty t) ≡ Some e → MayStand p e) [
        | true ↦ λ is. subst (MayStand p) (some_is is) (new_stands p main (main_new p valid fit))
        | false ↦ λ is. absurd (some_none (sym is ∙ get-empty nat_cmp t))
      ] (sym (get_inserted map.empty 1 main t) ∙ is)

  start_allowed : IsAllowed p valid fit (start p)
  start_allowed = record { threads = first_stands; references = λ r v is. absurd (some_none (sym is ∙ get-empty nat_cmp r)); output = tt }

  pub run_stands : (run : List Numbered) (s : PlainState) → IsRun p run s → IsStanding p s
  run_stands run s is =
      let all = run_keeps (effect_of p) (IsAllowed p valid fit) (step_allowed p valid fit) run (start p) s start_allowed is.ends in
      record { threads = λ t e at. stands_thread p e (all.threads t e at); references = all.references; output = all.output }
