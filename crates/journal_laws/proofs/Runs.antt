-- What holds in the state in which each run ends.
use Rattle.std.proofs.Common.{◌≡◌, ℕ, Bool, true, false, cond, nat_eq, List, [], ◌∷◌, ◌++◌, Option, Some, None, refl, sym, subst, ◌∙◌}
use Rattle.std.specs.Prelude.{IfSome}
use Rattle.std.specs.FinMap as map
use Rattle.std.specs.FinMap.{get-empty}
use Rattle.std.specs.Ordering.{nat_cmp}
use Rattle.stab_journal.specs.declared.event.Numbered.{Numbered}
use Rattle.stab_code.specs.Program.{ProgramParts}
use Rattle.language.specs.Expression.{Expr}
use Rattle.language.specs.Steps.{State, Table, plain, next, after_steps}
use Rattle.language.specs.Plain.{PlainState, effect_of, language_of, start, IsRun}
use Rattle.language.specs.Outcome.{called}
use Rattle.language.specs.Program.{body}
use Rattle.journal_laws.specs.Known.{Known, known_in, sections_alone, IsExprIn, IsKnown}
use Rattle.journal_laws.specs.Surviving.{SurvivesFrom, Survives}
use Rattle.journal_laws.proofs.Without.{IsClosedTable}
use Rattle.journal_laws.specs.Entered.{is_entered_by}
use Rattle.stab_journal.specs.Dependence.{IsUpward}
use Rattle.stab_journal.specs.Journal.{RiseFrom}
use Rattle.language.proofs.Applying.{get_inserted}
use Rattle.journal_laws.proofs.Closed.{closed_table}
use Rattle.journal_laws.proofs.Occurring.{body_in, put_in, got_in, kept}
use Rattle.journal_laws.proofs.Chains.{closed_run}
use Rattle.journal_laws.proofs.Beside.{Beside, beside}
use Rattle.journal_laws.proofs.Lawful.{nothing_without, survive}
use Rattle.stab_journal.specs.Reached.{nothing_lost}
use Rattle.journal_laws.proofs.Marks.{marks_entered}
use Rattle.journal_laws.proofs.Reaching.{rise_rest}
use Rattle.journal_laws.proofs.SpawnLost.{spawn_lost}
use Rattle.journal_laws.proofs.Surviving.{some_is, some_none, no_steps}

-- what each step keeps, each run keeps
module _ {E : Type 0} (effect : Table E) (Kept : State E → Type 0) (step : (s n : State E) (q : ℕ) (l : _) → Kept s → plain effect s q l ≡ Some n → Kept n) where
  pub run_keeps : (ns : List Numbered) (s end : State E) → Kept s → after_steps effect (Some s) ns ≡ Some end → Kept end
  run_keeps [] s end h is = subst Kept (some_is is) h
  run_keeps (n ∷ ns) s end h is =
      elim (plain effect s n.seq.0 n.label) as (λ o. plain effect s n.seq.0 n.label ≡ o → after_steps effect o ns ≡ Some end → Kept end) [
        | None ↦ λ at run. absurd (some_none (sym run ∙ no_steps effect ns))
        | (Some m) ↦ λ at run. run_keeps ns m end (step s m n.seq.0 n.label h at) run
      ] refl is

module _ (p : ProgramParts) where
  first_in : (k : Known) (t : ℕ) (e : Expr) → map.get (start p).threads t ≡ Some e → IsExprIn k e
  first_in k t e is =
      elim (nat_eq t 1) as (λ b. cond b (Some (called (body p) p.main.0 [])) (map.get {R = nat_cmp} map.empty t) ≡ Some e → IsExprIn k e) [
        | true ↦ λ is. subst (IsExprIn k) (some_is is) (put_in k _ (got_in k [] tt) (body p p.main.0) (body_in k p p.main.0))
        | false ↦ λ is. absurd (some_none (sym is ∙ get-empty nat_cmp t))
      ] (sym (get_inserted map.empty 1 (called (body p) p.main.0 []) t) ∙ is)

  pub start_known : IsKnown IsExprIn (start p)
  start_known = record { threads = first_in (known_in (start p)); references = λ r v is. absurd (some_none (sym is ∙ get-empty nat_cmp r)); output = tt }

  pub closed : IsClosedTable (effect_of p) (IsKnown IsExprIn)
  closed = closed_table (language_of p) IsExprIn (kept p)

  pub run_known : (s : PlainState) (run : List Numbered) → IsRun p run s → IsKnown IsExprIn s
  run_known s run r = run_keeps (effect_of p) (IsKnown IsExprIn) closed.step run (start p) s start_known r.ends

-- the steps of two lists, one after the other
pub steps_append : {E : Type 0} (effect : Table E) (as' bs : List Numbered) (o : Option (State E)) → after_steps effect o (as' ++ bs) ≡ after_steps effect (after_steps effect o as') bs
steps_append effect [] bs o = refl
steps_append effect (n ∷ ns) bs o = steps_append effect ns bs (next effect o n)

-- each section that a thread stands in, it entered in the run
pub run_entered : (p : ProgramParts) (s : PlainState) (run : List Numbered) → IsRun p run s → (t : ℕ) (e : Expr) → map.get s.threads t ≡ Some e → IsExprIn (sections_alone (is_entered_by t run)) e
run_entered p s run r = marks_entered (language_of p) IsExprIn (kept p) run (start p) s (λ t e at. first_in p (sections_alone (λ m. false)) t e at) r.ends

-- the law of surviving runs, from any state in which what occurs is
pub survivor_from : (p : ProgramParts) (gone : ℕ → Bool) (s : PlainState) (run : List Numbered) (end : PlainState) → IsKnown IsExprIn s → RiseFrom 1 run → IsUpward (λ (n : Numbered). gone n.seq.0 ≡ true) run → after_steps (effect_of p) (Some s) run ≡ Some end → SurvivesFrom p gone s run end
survivor_from p gone s run end known rise up is =
    let law = survive gone (effect_of p) (IsKnown IsExprIn) (closed p) s end run known is (closed_run gone run up) in
    record { at = law.0; rises = rise_rest gone 1 run rise; known = law.1; lawful = law.2; unspawned = spawn_lost (effect_of p) gone s end law.0 run law.2 is }

pub survivor : (p : ProgramParts) (gone : ℕ → Bool) (run : List Numbered) (s : PlainState) → IsUpward (λ (n : Numbered). gone n.seq.0 ≡ true) run → IsRun p run s → Survives p gone run s
survivor p gone run s up r = survivor_from p gone (start p) run s (start_known p) r.rises up r.ends

-- the pass of the law over a run
pub run_beside : (p : ProgramParts) (gone : ℕ → Bool) (run : List Numbered) (s : PlainState) → IsUpward (λ (n : Numbered). gone n.seq.0 ≡ true) run → IsRun p run s → Beside (effect_of p) gone nothing_lost (start p) (start p) run
run_beside p gone run s up r = beside (effect_of p) gone (IsKnown IsExprIn) (closed p) run nothing_lost (start p) (start p) s (nothing_without gone (effect_of p) (start p)) (start_known p) r.ends (closed_run gone run up)

entered_of : (p : ProgramParts) (s : PlainState) (run : List Numbered) → IsRun p run s → (t : ℕ) (o : Option Expr) → map.get s.threads t ≡ o → IfSome o (λ e. IsExprIn (sections_alone (is_entered_by t run)) e)
entered_of p s run r t None at = tt
entered_of p s run r t (Some e) at = run_entered p s run r t e at

pub sections_entered : (p : ProgramParts) (s : PlainState) (run : List Numbered) → IsRun p run s → (t : ℕ) → IfSome (map.get s.threads t) (λ e. IsExprIn (sections_alone (is_entered_by t run)) e)
sections_entered p s run r t = entered_of p s run r t (map.get s.threads t) refl
