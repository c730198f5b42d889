-- A step keeps what is kept of the run.
use Rattle.std.proofs.Common.{◌≡◌, ℕ, ◌<◌, true, false, List, [], ◌∷◌, ◌++◌, Some, sym, ap, subst, ◌∙◌, arith}
use Rattle.std.specs.FinMap.{get-empty}
use Rattle.std.specs.Ordering.{nat_cmp}
use Rattle.stab_code.specs.JobParts.{JobParts}
use Rattle.stab_journal.specs.declared.event.Label.{Label}
use Rattle.stab_journal.specs.declared.event.Numbered.{Numbered}
use Rattle.stab_journal.specs.declared.event.What.TheVariants.{Step}
use Rattle.stab_journal.specs.declared.event.Event.{Event}
use Rattle.stab_journal.specs.Floor.{is_cut, floor}
use Rattle.language.specs.Expression.{Expr}
use Rattle.language.specs.Plain.{PlainState, effect_of, start}
use Rattle.language.specs.Standing.{StandsFor, MayStep, event, step}
use Rattle.language.specs.Steps.{Effect, allows, apply, effect_in, plain}
use Rattle.step_eval.specs.ControlView.{expr_of}
use Rattle.journal_laws.proofs.Stepping.{plain_of}
use Rattle.journal_laws.proofs.Undone.{stands_run}
use Rattle.commit_book.specs.Book.{BookView, ShowsJournal}
use Rattle.commit_book.specs.References.{AreWrites}
use Rattle.commit_book.specs.Step.{IsStepOf, next_seq}
use Rattle.commit_book.proofs.Keeping.Floors.{floor_below}
use Rattle.commit_book.proofs.Keeping.NodeSteps.{nodes_step}
use Rattle.commit_book.proofs.Keeping.SavedSteps.{saved_step}
use Rattle.commit_book.proofs.Threads.ThreadSteps.{channels_step}
use Rattle.commit_book.proofs.Keeping.WriteSteps.{writes_step, holds_values}

-- the step that comes next
abbrev pub numbered : ℕ → Label → Numbered
numbered q l = record { seq = record { 0 = q }; label = l }

same_job : (old new : BookView) (run : List Numbered) (s : PlainState) → new.job ≡ old.job → ShowsJournal (record new { job = old.job }) run s → ShowsJournal new run s
same_job old new run s is shown = subst (λ (j : JobParts). ShowsJournal (record new { job = j }) run s) (sym is) shown

pub journal_step : (old new : BookView) (run : List Numbered) (s : PlainState) (worker : ℕ) (l : Label) (e : Effect Expr)
    → ShowsJournal old run s → MayStep old.history.events run s l → effect_in (effect_of old.job.program) s (next_seq old) l ≡ Some e → allows s l ≡ true → is_cut l ≡ false
    → IsStepOf old new run s worker l e → ShowsJournal new (run ++ numbered (next_seq old) l ∷ []) (apply s l e)
journal_step old new run s worker l e shown may found ok uncut is =
    let p = old.job.program in
    let q = next_seq old in
    let n = numbered q l in
    let made : plain (effect_of p) s q l ≡ Some (apply s l e) = plain_of (effect_of p) s q l e found ok in
    let stands = step (apply s l e) worker l shown.history.stands may made in
    let before = stands_run p old.history.events run s shown.history.stands in
    let after = stands_run p (old.history.events ++ event worker (Step l) ∷ []) (run ++ n ∷ []) (apply s l e) stands in
    let above : floor run < q = floor_below 0 1 run n (omega arith) after.1.rises in
    let writes = writes_step (effect_of p) (start p) s run n e old.last_cut old.references new.references before.1.ends made uncut above is.writes shown.writes in
    same_job old new (run ++ n ∷ []) (apply s l e) is.job (record {
      history = record {
        stands = subst (λ (es : List Event). StandsFor p es (run ++ n ∷ []) (apply s l e)) (sym is.events) stands;
        left = is.survivors ∙ ap (λ ns. ns ++ n ∷ []) shown.history.left;
      };
      script = is.script;
      channels = channels_step old.offers.lines new.offers.lines s l e shown.channels is.channels;
      writes = subst (λ (k : ℕ). AreWrites (effect_of p) k new.references (start p) (run ++ n ∷ [])) (sym is.last_cut) writes;
      references = holds_values (effect_of p) (start p) (apply s l e) (run ++ n ∷ []) old.last_cut new.references (get-empty nat_cmp) after.1.ends writes;
      printed = is.printed ∙ ap (λ vs. vs ++ e.printed) shown.printed;
      next = is.next;
      few = is.few;
      saved = saved_step (expr_of p) (effect_of p) (start p) s run n 1 old.saved new.saved after.1.rises before.1.ends uncut above is.saved shown.saved;
      saved_fit = is.saved_fit;
      nodes = nodes_step run n old.nodes new.nodes uncut above is.nodes shown.nodes;
    })
