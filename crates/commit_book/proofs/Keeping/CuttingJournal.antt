-- A cut keeps what is kept of the run.
use Rattle.std.proofs.Common.{◌≡◌, ℕ, ◌<◌, Bool, true, false, cond, List, [], ◌∷◌, ◌++◌, Option, Some, None, sym, ap, subst, ◌∙◌, arith}
use Rattle.std.specs.Prelude.{IfSome, filter, nat_le, nat_lt}
use Rattle.std.specs.FinMap as map
use Rattle.std.specs.FinMap.{get-empty}
use Rattle.std.specs.Ordering.{nat_cmp}
use Rattle.stab_base.specs.declared.numbers.ThreadId.{ThreadId}
use Rattle.stab_code.specs.JobParts.{JobParts}
use Rattle.stab_journal.specs.declared.event.Label.TheVariants.{Cut}
use Rattle.stab_journal.specs.declared.event.What.TheVariants.{Step}
use Rattle.stab_journal.specs.declared.event.Event.{Event}
use Rattle.stab_journal.specs.declared.event.Numbered.{Numbered}
use Rattle.stab_journal.specs.Floor.{floor}
use Rattle.stab_journal.specs.Journal.{step_at, survivors}
use Rattle.stab_journal.specs.Script.{FollowsScript}
use Rattle.ref_log.specs.Log.{kept}
use Rattle.comm_graph.specs.Node.{Node}
use Rattle.language.specs.Expression.{Expr}
use Rattle.language.specs.Plain.{PlainState, effect_of, start}
use Rattle.language.specs.Standing.{StandsFor, event, step}
use Rattle.language.specs.Steps.{Effect, allows, apply, effect_in, plain}
use Rattle.step_eval.specs.ControlView.{Fits, expr_of}
use Rattle.journal_laws.proofs.Stepping.{plain_of}
use Rattle.journal_laws.proofs.Undone.{stands_run}
use Rattle.commit_book.specs.Book.{BookView, ShowsJournal}
use Rattle.stab_journal.specs.Numbers.{AreNext, AreFew}
use Rattle.commit_book.specs.References.{writes_at, AreWrites}
use Rattle.commit_book.specs.Saved.{saved_of}
use Rattle.commit_book.specs.Step.{next_seq}
use Rattle.commit_book.proofs.Keeping.Cutting.{cut_at, writes_cut, saved_cut, nodes_cut}
use Rattle.commit_book.proofs.Keeping.Floors.{floor_below}
use Rattle.commit_book.proofs.Threads.ThreadSteps.{channels_step}
use Rattle.commit_book.proofs.Keeping.WriteSteps.{holds_values}

-- of the run that ends in s, a cut by t with this effect is the next event: the writes, the saved controls and the nodes are cut there, and the rest follows
pub record IsCutOf (old new : BookView) (worker : ℕ) (t : ThreadId) (e : Effect Expr) : Type 0 where
  pub job : new.job ≡ old.job
  pub events : new.history.events ≡ old.history.events ++ event worker (Step (Cut t)) ∷ []
  pub survivors : survivors new.history ≡ survivors old.history ++ step_at (next_seq old) (Step (Cut t))
  pub script : FollowsScript old.job.script new.history.events
  pub channels : (c : ℕ) → map.contains_key new.offers.lines c ≡ map.contains_key old.offers.lines c
  pub last_cut : new.last_cut ≡ next_seq old
  pub writes : (r : ℕ) → writes_at new.references r ≡ kept (next_seq old) (writes_at old.references r)
  pub printed : new.printed ≡ old.printed ++ e.printed
  pub next : AreNext new.history.events new.next.thread new.next.chan new.next.ref
  pub few : AreFew new.history.events new.next.thread new.next.chan new.next.ref
  pub saved : (k u : ℕ) → saved_of new.saved k u ≡ cond (nat_lt k (next_seq old)) None (saved_of old.saved k u)
  pub nodes : new.nodes ≡ filter (λ (k : Node). nat_le (next_seq old) k.number) old.nodes

fit_left : {C : Type 0} (P : C → Type 0) (b : Bool) (o : Option C) → IfSome o P → IfSome (cond b None o) P
fit_left P b o is = elim b as (λ b. IfSome (cond b None o) P) [ true ↦ tt | false ↦ is ]

same_job : (old new : BookView) (run : List Numbered) (s : PlainState) → new.job ≡ old.job → ShowsJournal (record new { job = old.job }) run s → ShowsJournal new run s
same_job old new run s is shown = subst (λ (j : JobParts). ShowsJournal (record new { job = j }) run s) (sym is) shown

pub cut_journal : (old new : BookView) (run : List Numbered) (s : PlainState) (worker : ℕ) (t : ThreadId) (e : Effect Expr)
    → ShowsJournal old run s → effect_in (effect_of old.job.program) s (next_seq old) (Cut t) ≡ Some e → allows s (Cut t) ≡ true
    → IsCutOf old new worker t e → ShowsJournal new (run ++ cut_at (next_seq old) t ∷ []) (apply s (Cut t) e)
cut_journal old new run s worker t e shown found ok is =
    let p = old.job.program in
    let q = next_seq old in
    let n = cut_at q t in
    let made : plain (effect_of p) s q (Cut t) ≡ Some (apply s (Cut t) e) = plain_of (effect_of p) s q (Cut t) e found ok in
    let stands = step (apply s (Cut t) e) worker (Cut t) shown.history.stands tt made in
    let after = stands_run p (old.history.events ++ event worker (Step (Cut t)) ∷ []) (run ++ n ∷ []) (apply s (Cut t) e) stands in
    let above : floor run < q = floor_below 0 1 run n (omega arith) after.1.rises in
    let writes = writes_cut (effect_of p) (start p) run q t old.last_cut old.references new.references (omega arith) is.writes shown.writes in
    same_job old new (run ++ n ∷ []) (apply s (Cut t) e) is.job (record {
      history = record {
        stands = subst (λ (es : List Event). StandsFor p es (run ++ n ∷ []) (apply s (Cut t) e)) (sym is.events) stands;
        left = is.survivors ∙ ap (λ ns. ns ++ n ∷ []) shown.history.left;
      };
      script = is.script;
      channels = channels_step old.offers.lines new.offers.lines s (Cut t) e shown.channels is.channels;
      writes = subst (λ (k : ℕ). AreWrites (effect_of p) k new.references (start p) (run ++ n ∷ [])) (sym is.last_cut) writes;
      references = holds_values (effect_of p) (start p) (apply s (Cut t) e) (run ++ n ∷ []) q new.references (get-empty nat_cmp) after.1.ends writes;
      printed = is.printed ∙ ap (λ vs. vs ++ e.printed) shown.printed;
      next = is.next;
      few = is.few;
      saved = saved_cut (expr_of p) (effect_of p) (start p) run q 1 t old.saved new.saved after.1.rises is.saved shown.saved;
      saved_fit = λ k u. subst (λ o. IfSome o (Fits p)) (sym (is.saved k u)) (fit_left (Fits p) (nat_lt k q) (saved_of old.saved k u) (shown.saved_fit k u));
      nodes = nodes_cut run q t old.nodes new.nodes after.1.rises is.nodes shown.nodes;
    })
