-- The trace of a run has the verdict yes.
use Rattle.std.proofs.Common.{◌≡◌, ◌⊎◌, inl, inr, ℕ, ℤ, suc, cond, List, [], ◌∷◌, ◌++◌, Result, Ok, refl, sym, ap, subst, ◌∙◌}
use Rattle.std.specs.Prelude.{map}
use Rattle.std.specs.FinSet.{FinSet, contains}
use Rattle.std.specs.Ordering.{nat_cmp}
use Rattle.stab_code.specs.Program.{ProgramParts}
use Rattle.stab_journal.specs.declared.event.Event.{Event}
use Rattle.stab_journal.specs.declared.event.Numbered.{Numbered}
use Rattle.stab_journal.specs.Journal.{IsValid, Journal, step_at, survivors, survivors_from}
use Rattle.stab_journal.specs.Script.{FollowsScript}
use Rattle.language.specs.Plain.{PlainState}
use Rattle.language.specs.Standing.{Shows, StandsFor}
use Rattle.commit_book.specs.Book.{BookView}
use Rattle.stab_code.specs.JobParts.{JobParts}
use Rattle.stab_text.specs.Text.{IsTextOf}
use Rattle.stab_words.specs.Asked.{asked}
use Rattle.stab_words.specs.declared.request.Request.TheVariants.{Verify}
use Rattle.stab_words.specs.declared.request.VerifyArgs.{VerifyArgs}
use Rattle.trace_text.specs.declared.fault.TraceFault.{TraceFault}
use Rattle.trace_text.specs.declared.line.Entry.{Entry}
use Rattle.trace_text.specs.Reading.{reading}
use Rattle.trace_text.specs.Text.{entries, entries_from, trace}
use Rattle.trace_text.proofs.Once.{few}
use Rattle.trace_text.proofs.Texts.{trace-read}
use Rattle.trace_verify.specs.declared.verdict.Verdict.TheVariants.{Yes}
use Rattle.trace_verify.specs.Verdict.{IsOfRun, passes}
use Rattle.trace_verify.proofs.OneVerdict.{one_verdict}
use Rattle.call_status.specs.declared.role.Role.TheVariants as roles
use Rattle.call_status.specs.declared.status.Status.TheVariants.{Done, NoMemory}
use Rattle.call_report.specs.Call.{Call, CountedFault, status_of}
use Rattle.stab_top.specs.Call.{Says}
use Rattle.stab_top.specs.Complete.{HasVerdict, IsHeld, IsScriptFor, WasJudged}
use Rattle.book_runs.specs.Ending.{IsRunOf}
use Rattle.file_commands.specs.Judging.{verdict_status}
use Rattle.stab_top.proofs.Complete.{trace_is_judged}

-- ---- a journal by its entries

events_are : (struck : FinSet nat_cmp) (q : ℕ) (es : List Event) → map (λ (e : Entry). e.event) (entries_from struck q es) ≡ es
events_are struck q [] = refl
events_are struck q (e ∷ es) = ap (λ xs. e ∷ xs) (events_are struck (suc q) es)

abbrev kept_of : ℕ → List Entry → List Numbered
kept_of q [] = []
kept_of q (e ∷ es) = cond e.struck [] (step_at q e.event.what) ++ kept_of (suc q) es

kept_are : (struck : FinSet nat_cmp) (q : ℕ) (es : List Event) → kept_of q (entries_from struck q es) ≡ survivors_from struck q es
kept_are struck q [] = refl
kept_are struck q (e ∷ es) = ap (λ ns. cond (contains struck q) [] (step_at q e.what) ++ ns) (kept_are struck (suc q) es)

pub same_events : (a b : Journal) → entries a ≡ entries b → a.events ≡ b.events
same_events a b same = sym (events_are a.struck 1 a.events) ∙ ap (map (λ (e : Entry). e.event)) same ∙ events_are b.struck 1 b.events

pub same_run : (p : ProgramParts) (script : List ℤ) (a b : Journal) → entries a ≡ entries b → IsOfRun p script b → IsOfRun p script a
same_run p script a b same x =
    let events = same_events a b same in
    let left : survivors a ≡ survivors b = sym (kept_are a.struck 1 a.events) ∙ ap (kept_of 1) same ∙ kept_are b.struck 1 b.events in
    record {
      run = x.run;
      state = x.state;
      shows = record { stands = subst (λ es. StandsFor p es x.run x.state) (sym events) x.shows.stands; left = left ∙ x.shows.left };
      follows = subst (FollowsScript script) (sym events) x.follows;
    }

pub same_ok : (r : Result (List Entry) TraceFault) (xs ys : List Entry) → r ≡ Ok xs → r ≡ Ok ys → xs ≡ ys
same_ok r xs ys e f = cc

-- ---- a run

-- the history of a run is one of its program and its script
is_of_run : (workers : ℕ) (job : JobParts) (book : BookView) (state : PlainState) → IsRunOf workers job book state → IsOfRun job.program job.script book.history
is_of_run workers job book state r = record {
  run = r.run;
  state = state;
  shows = subst (λ p. Shows p book.history r.run state) (ap (λ (j : JobParts). j.program) r.of_job) r.shown.journal.history;
  follows = r.follows;
}

module _ (c : Call) (program : ProgramParts) (script : List ℤ) (history : Journal) (valid : IsValid history) (run : IsOfRun program script history) where
  yes : HasVerdict c program script (trace history) → status_of c ≡ Done
  yes h =
      let same = same_ok (reading (trace history)) (entries h.history) (entries history) h.is (trace-read history valid (few history valid)) in
      h.status ∙ ap verdict_status (one_verdict program script h.history h.verdict Yes h.given (passes (same_run program script h.history history same run)))

  passed : WasJudged c program script (trace history) ⊎ CountedFault c → ((status_of c ≡ Done) ⊎ (status_of c ≡ NoMemory)) ⊎ CountedFault c
  passed (inl (inl h)) = inl (inl (yes h))
  passed (inl (inr none)) = inl (inr none)
  passed (inr counted) = inr counted

pub trace_of_run_passes : (workers : ℕ) (job : JobParts) (book : BookView) (state : PlainState) (words : List (List ℕ)) (c : Call) (args : VerifyArgs) (text : List ℕ) → IsRunOf workers job book state → IsValid book.history →
    Says words c → asked words ≡ Ok (Verify args) → IsHeld roles.Program c args.file text → IsTextOf text job.program → IsScriptFor c args.probes job.script → IsHeld roles.Trace c args.trace (trace book.history) →
    ((status_of c ≡ Done) ⊎ (status_of c ≡ NoMemory)) ⊎ CountedFault c
trace_of_run_passes workers job book state words c args text run valid says is held of for_script there =
    passed c job.program job.script book.history valid (is_of_run workers job book state run)
    (trace_is_judged words c args text (trace book.history) job.program job.script book.history says is held of for_script there (trace-read book.history valid (few book.history valid)))
