-- An undo keeps what is kept of the run.
use Rattle.std.proofs.Common.{◌≡◌, ℕ, suc, ◌<◌, ◌+◌, Bool, true, false, cond, not, ◌&&◌, ◌||◌, List, [], ◌∷◌, ◌++◌, max, Option, Some, None, refl, sym, ap, subst, ◌∙◌, arith}
use Rattle.std.specs.Prelude.{IfSome}
use Rattle.std.specs.FinMap as map
use Rattle.std.specs.FinMap.{get-empty}
use Rattle.std.specs.FinSet.{FinSet, contains}
use Rattle.std.specs.Ordering.{nat_cmp}
use Rattle.stab_code.specs.JobParts.{JobParts}
use Rattle.stab_journal.specs.declared.event.Numbered.{Numbered}
use Rattle.stab_journal.specs.declared.event.What.TheVariants.{Undo}
use Rattle.stab_journal.specs.declared.event.Event.{Event}
use Rattle.stab_journal.specs.Floor.{floor}
use Rattle.stab_journal.specs.Journal.{step_at, survivors_from}
use Rattle.stab_journal.specs.Label.{spawned}
use Rattle.stab_journal.specs.Names.{has, is_at}
use Rattle.stab_journal.specs.Script.{FollowsScript}
use Rattle.stab_journal.specs.Reached.{nothing_lost, reached, rest, without_reached}
use Rattle.language.specs.Plain.{PlainState, effect_of, start}
use Rattle.language.specs.Standing.{StandsFor, MayUndo, event, undo}
use Rattle.journal_laws.specs.Lost.{is_unmade}
use Rattle.journal_laws.specs.Surviving.{prints, IsLawful}
use Rattle.journal_laws.proofs.Chains.{upward}
use Rattle.journal_laws.proofs.Gone.{survivors-rest}
use Rattle.journal_laws.proofs.Held.{cuts_hold}
use Rattle.journal_laws.proofs.Reaching.{reached_by, upward_closed}
use Rattle.journal_laws.proofs.Runs.{survivor, run_beside}
use Rattle.journal_laws.proofs.Undone.{stands_run}
use Rattle.step_eval.specs.ControlView.{Fits, expr_of}
use Rattle.commit_book.specs.Book.{BookView, Next, ShowsJournal}
use Rattle.stab_journal.specs.Numbers.{threads_by, greatest, AreNext, AreFew}
use Rattle.commit_book.specs.References.{writes_at, AreWrites}
use Rattle.commit_book.specs.Saved.{saved_of}
use Rattle.commit_book.proofs.Keeping.EventSteps.{script_step}
use Rattle.commit_book.proofs.Keeping.Named.{few_more}
use Rattle.stab_journal.proofs.NumberSteps.{greatest_snoc, no_greater_than_one}
use Rattle.commit_book.proofs.Undoing.Undone.{saved_undone, writes_undone}
use Rattle.commit_book.proofs.Undoing.UndoneNodes.{stay, nodes_undone}
use Rattle.commit_book.proofs.Undoing.UndoneParts.{left}
use Rattle.commit_book.proofs.Keeping.WriteSteps.{holds_values}

-- the event of an undo
abbrev pub undo_of : ℕ → ℕ → ℕ → Event
undo_of worker t m = event worker (Undo (record { 0 = t }) (record { 0 = m }))

-- of the run, an undo of the section entered at m is the next event, and all that is kept loses what is reached from m
pub record IsUndoOf (old new : BookView) (run : List Numbered) (worker t m : ℕ) : Type 0 where
  pub job : new.job ≡ old.job
  pub events : new.history.events ≡ old.history.events ++ undo_of worker t m ∷ []
  pub struck : (k : ℕ) → contains new.history.struck k ≡ (contains old.history.struck k || has (reached run m) k)
  pub channels : (c : ℕ) → map.contains_key new.offers.lines c ≡ (map.contains_key old.offers.lines c && not (is_unmade (has (reached run m)) c run))
  pub last_cut : new.last_cut ≡ old.last_cut
  pub writes : (r : ℕ) → writes_at new.references r ≡ left (has (reached run m)) (writes_at old.references r)
  pub printed : new.printed ≡ prints (effect_of old.job.program) (has (reached run m)) (Some (start old.job.program)) run
  pub next : new.next ≡ old.next
  pub thread : t < old.next.thread
  pub saved : (k u : ℕ) → saved_of new.saved k u ≡ cond (has (reached run m) k) None (saved_of old.saved k u)
  pub nodes : new.nodes ≡ stay (has (reached run m)) old.nodes

-- no step comes
pub survivors-undo : (struck : FinSet nat_cmp) (q worker t m : ℕ) (es : List Event) → survivors_from struck q (es ++ undo_of worker t m ∷ []) ≡ survivors_from struck q es
survivors-undo struck q worker t m [] = elim (contains struck q) as (λ b. cond {A = List Numbered} b [] [] ++ [] ≡ []) [ true ↦ refl | false ↦ refl ]
survivors-undo struck q worker t m (e ∷ es) = ap (λ ns. cond (contains struck q) [] (step_at q e.what) ++ ns) (survivors-undo struck (suc q) worker t m es)

-- an undo names a thread that has its number already
next_undone : (events : List Event) (worker t m thread chan ref : ℕ) → t < thread → AreNext events thread chan ref → AreNext (events ++ undo_of worker t m ∷ []) thread chan ref
next_undone events worker t m thread chan ref low next = record {
  thread = next.thread ∙ ap (λ g. g + 1) (sym (ap (max 1) (greatest_snoc threads_by events (undo_of worker t m)) ∙ no_greater_than_one (greatest threads_by events) (t ∷ []) (omega (arith, next.thread), tt)));
  chan = next.chan ∙ ap (λ g. g + 1) (sym (greatest_snoc _ events (undo_of worker t m)));
  ref = next.ref ∙ ap (λ g. g + 1) (sym (greatest_snoc _ events (undo_of worker t m)));
}

fit_left : {C : Type 0} (P : C → Type 0) (b : Bool) (o : Option C) → IfSome o P → IfSome (cond b None o) P
fit_left P true o is = tt
fit_left P false o is = is

-- after an undo: the end of what stays, what the law says of it, and what is kept of the run
pub record Undone (old new : BookView) (run : List Numbered) (s : PlainState) (m : ℕ) : Type 0 where
  pub at : PlainState
  pub lawful : IsLawful (effect_of old.job.program) (has (reached run m)) (start old.job.program) run s at
  pub unspawned : (u : ℕ) (before : List Numbered) (n : Numbered) (after : List Numbered) → run ≡ before ++ n ∷ after → has (reached run m) n.seq.0 ≡ true → is_at (spawned n.label) u ≡ true → map.get at.threads u ≡ None
  pub above : (k : ℕ) → has (reached run m) k ≡ true → floor run < k
  pub shows : ShowsJournal new (without_reached m run) at

same_job : (old new : BookView) (run : List Numbered) (s : PlainState) → new.job ≡ old.job → ShowsJournal (record new { job = old.job }) run s → ShowsJournal new run s
same_job old new run s is shown = subst (λ (j : JobParts). ShowsJournal (record new { job = j }) run s) (sym is) shown

pub undo_journal : (old new : BookView) (run : List Numbered) (s : PlainState) (worker t m : ℕ) → ShowsJournal old run s → MayUndo old.job.program run s t m → IsUndoOf old new run worker t m → Undone old new run s m
undo_journal old new run s worker t m shown may is =
    let p = old.job.program in
    let gone : ℕ → Bool = has (reached run m) in
    let before = stands_run p old.history.events run s shown.history.stands in
    let rise = before.1.rises in
    let up = upward m gone nothing_lost run (reached_by m gone run nothing_lost 1 rise (λ k le. refl)) in
    let law = survivor p gone run s up before.1 in
    let pass = run_beside p gone run s up before.1 in
    let high : (k : ℕ) → gone k ≡ true → floor run < k = λ k h. cuts_hold run m k rise may.revocable h in
    let stands = undo law.at worker t m shown.history.stands may law.lawful.run in
    let writes = writes_undone (expr_of p) (effect_of p) gone (start p) run old.last_cut old.references new.references 1 rise high pass is.writes shown.writes in
    record {
      at = law.at;
      lawful = law.lawful;
      unspawned = law.unspawned;
      above = high;
      shows = same_job old new (without_reached m run) law.at is.job (record {
        history = record {
          stands = subst (λ (es : List Event). StandsFor p es (without_reached m run) law.at) (sym is.events) stands;
          left =
              ap (survivors_from new.history.struck 1) is.events ∙ survivors-undo new.history.struck 1 worker t m old.history.events
              ∙ survivors-rest old.history.struck new.history.struck gone is.struck 1 old.history.events ∙ ap (rest gone) shown.history.left;
        };
        script = subst (FollowsScript old.job.script) (sym is.events) (script_step old.job.script old.history.events (undo_of worker t m) refl shown.script);
        channels = λ c. is.channels c ∙ ap (λ b. b && not (is_unmade gone c run)) (shown.channels c) ∙ sym (law.lawful.channels c);
        writes = subst (λ (k : ℕ). AreWrites (effect_of p) k new.references (start p) (without_reached m run)) (sym is.last_cut) writes;
        references = holds_values (effect_of p) (start p) law.at (without_reached m run) old.last_cut new.references (get-empty nat_cmp) law.lawful.run writes;
        printed = is.printed ∙ sym law.lawful.output;
        next = subst (λ (n : Next). AreNext new.history.events n.thread n.chan n.ref) (sym is.next)
            (subst (λ (es : List Event). AreNext es old.next.thread old.next.chan old.next.ref) (sym is.events) (next_undone old.history.events worker t m old.next.thread old.next.chan old.next.ref is.thread shown.next));
        few = subst (λ (n : Next). AreFew new.history.events n.thread n.chan n.ref) (sym is.next)
            (subst (λ (es : List Event). AreFew es old.next.thread old.next.chan old.next.ref) (sym is.events)
            (few_more old.history.events (undo_of worker t m) old.next.thread old.next.chan old.next.ref old.next.thread old.next.chan old.next.ref shown.few (omega arith) (omega arith) (omega arith)));
        saved = saved_undone (expr_of p) (effect_of p) gone (start p) run old.saved new.saved 1 rise high pass is.saved shown.saved;
        saved_fit = λ k u. subst (λ o. IfSome o (Fits p)) (sym (is.saved k u)) (fit_left (Fits p) (gone k) (saved_of old.saved k u) (shown.saved_fit k u));
        nodes = nodes_undone gone run 1 old.nodes new.nodes rise (upward_closed run m 1 rise) high is.nodes shown.nodes;
      });
    }
