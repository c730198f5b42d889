-- A commit at a cut, from what its calls leave: what it does, and that the book shows it.
use Rattle.std.proofs.Common.{◌≡◌, ℕ, ◌≤◌, ◌+◌, ◌<◌, true, false, cond, nat_eq, [], ◌∷◌, ◌++◌, length, map as each, Some, None, refl, sym, ap, subst, ◌∙◌, length-append, arith}
use Rattle.std.specs.Prelude.{count_by, filter, nat_le, nat_lt, if◌then◌else◌}
use Rattle.std.specs.List.{AllByRecursion}
use Rattle.std.specs.FinMap as map
use Rattle.std.proofs.lemmas.Bool.{false≢true}
use Rattle.linked_lists.specs.Lists.{without}
use Rattle.stab_base.specs.Datum.{Datum, unit}
use Rattle.stab_base.specs.declared.numbers.Seq.{Seq}
use Rattle.stab_base.specs.declared.numbers.ThreadId.{ThreadId}
use Rattle.stab_code.specs.JobParts.{JobParts}
use Rattle.stab_code.specs.Program.{ProgramParts}
use Rattle.stab_journal.specs.declared.event.Label.{Label}
use Rattle.stab_journal.specs.declared.event.Label.TheVariants.{Cut}
use Rattle.stab_journal.specs.declared.event.Numbered.{Numbered}
use Rattle.stab_journal.specs.Due.{final_prints, is_print, released}
use Rattle.stab_journal.specs.Floor.{floor}
use Rattle.stab_journal.specs.Generation.{generation}
use Rattle.stab_journal.specs.Journal.{survivors}
use Rattle.stab_journal.specs.Script.{probed}
use Rattle.thread_slots.specs.Slot.{changed}
use Rattle.rendezvous.specs.Line.{Seen}
use Rattle.checkpoint_store.specs.Saved.{Saved, saved_at}
use Rattle.ref_log.specs.Calls.{IsAfter, cut}
use Rattle.ref_log.specs.Log.{Log, kept, writes_of}
use Rattle.comm_graph.specs.Edge.{NodeList}
use Rattle.comm_graph.specs.Node.{Node}
use Rattle.language.specs.Expression.{Expr}
use Rattle.language.specs.Look.{answered}
use Rattle.language.specs.Plain.{language_of, start}
use Rattle.language.specs.Steps.{Effect, apply}
use Rattle.language.specs.Table.{to}
use Rattle.step_eval.specs.declared.act.Act.TheVariants as own
use Rattle.step_eval.specs.ControlView.{ControlView, expr_of}
use Rattle.step_eval.specs.Progress.{ProgressView}
use Rattle.journal_laws.proofs.Undone.{stands_run}
use Rattle.print_log.specs.Log.{Print, Prints, values}
use Rattle.commit_book.specs.declared.counts.Tallies.{Tallies}
use Rattle.commit_book.specs.declared.parts.Parts.{Parts}
use Rattle.commit_book.specs.declared.rollback.Rollback.{Rollback}
use Rattle.commit_book.specs.Acting.{AreAsBefore, HasAnswered, IsDone, IsLonger, MayAct, StandsAt, fails_now}
use Rattle.commit_book.specs.Book.{ShowsJournal, over}
use Rattle.commit_book.specs.Counts.{faulted_in, is_undo}
use Rattle.commit_book.specs.Doing.{is_failed}
use Rattle.commit_book.specs.Layout.{IsKept, view_of}
use Rattle.commit_book.specs.Leases.{LeaseView}
use Rattle.own_steps.specs.Own.{steps_of}
use Rattle.commit_book.specs.OwnSteps.{IsRead}
use Rattle.commit_book.specs.Printing.{ArePrints, numbers_of, prints_above}
use Rattle.commit_book.specs.Rows.{alone, events_by, local_of, thread}
use Rattle.commit_book.specs.Saved.{saved_of}
use Rattle.commit_book.proofs.Acting.Acted.{answered_so, thread_is}
use Rattle.commit_book.proofs.Threads.Adding.{resting_ended, resting_state, resting_unparked}
use Rattle.commit_book.proofs.Keeping.Cutting.{cut_at}
use Rattle.commit_book.proofs.Keeping.CuttingJournal.{cut_journal}
use Rattle.commit_book.proofs.Acting.Effects.{cut_effect}
use Rattle.commit_book.proofs.Keeping.Floors.{floor_cut}
use Rattle.commit_book.proofs.Threads.Faulted.{faulted_goes}
use Rattle.commit_book.proofs.Threads.Going.{apply_one, get_other, shows_alone, still_put_back}
use Rattle.commit_book.proofs.Keeping.KeptLocal.{IsReady}
use Rattle.commit_book.proofs.Keeping.KeptSteps.{next_same, few_same, script_now}
use Rattle.commit_book.proofs.Keeping.KeptTallies.{probes_now, released_now, undos_now}
use Rattle.commit_book.proofs.Undoing.LostSteps.{survivors_up_to}
use Rattle.commit_book.proofs.Lawful.PrintCounts.{finals_cut, run_printed}
use Rattle.commit_book.proofs.Keeping.Prints.{prints_none}
use Rattle.commit_book.proofs.Threads.Queueing.{queue_one}
use Rattle.commit_book.proofs.Keeping.ReadCut.{read_from_cut}
use Rattle.commit_book.proofs.Keeping.SeenAfter.{journal_after, pushed_of}
use Rattle.commit_book.proofs.Acting.SingleActs.{answers, doing_at, journal_beside, low_at, moved_on, not_listed, ready_at, slot_at}
use Rattle.commit_book.proofs.Acting.SingleCalls.{going_at, lines_same, stood_there, threads_before, unoffered_at}
use Rattle.commit_book.proofs.Threads.Standing.{AreStanding, MayMove, moved, put, standing_of}
use Rattle.commit_book.proofs.Threads.Staying.{unparked}

module _ (job : JobParts) (old : Parts) (lease : LeaseView) (progress : ProgressView) (may : MayAct job old lease progress) (planned begins : Parts) (before : AreAsBefore old planned) (longer : IsLonger planned.history begins.history lease.worker (local_of lease.thread progress.steps)) (rest : begins ≡ record planned { history = begins.history }) where
  abbrev ready : IsReady (view_of job old) (view_of job begins) may.kept.shown.state (thread lease.thread) (expr_of job.program progress.end)
  ready = ready_at job old lease progress may planned begins before longer rest

  abbrev cut_label : Label
  cut_label = Cut (thread lease.thread)

  abbrev eff : Effect Expr
  eff = to (language_of job.program) (answered (expr_of job.program progress.end) unit)

  -- the number of the cut
  abbrev number : ℕ
  number = length begins.history.events + 1

  -- the cut is pushed, and the graph, the saved controls and the writes are cut there; all that was printed is final
  pub record IsCutBy (done : Parts) : Type 0 where
    pub history : IsLonger begins.history done.history lease.worker (Cut (thread lease.thread) ∷ [])
    pub nodes : done.graph.nodes ≡ filter (λ (k : Node). nat_le (length begins.history.events + 1) k.number) begins.graph.nodes
    pub saved : (k u : ℕ) → saved_of done.store.controls k u ≡ cond (nat_lt k (length begins.history.events + 1)) None (saved_of begins.store.controls k u)
    pub last_cut : done.log.last_cut ≡ length begins.history.events + 1
    pub writes : (r : ℕ) → writes_of done.log r ≡ kept (length begins.history.events + 1) (writes_of begins.log r)
    pub finals : done.tallies ≡ record begins.tallies { finals = length (values begins.printed) }
    pub read : done.rollback.read ≡ length begins.history.events + 1
    pub floor : done.rollback.floor.0 ≡ length begins.history.events + 1
    pub own : (t : ℕ) → steps_of done.rollback.own t ≡ []
    pub printed : done.printed.finals ≡ values begins.printed
    pub unprinted : done.printed.recent ≡ []
    pub lost : done.rollback.lost.items ≡ begins.rollback.lost.items
    pub others : done ≡ record begins { history = done.history; graph = done.graph; store = done.store; log = done.log; tallies = done.tallies; rollback = done.rollback; printed = done.printed }

  module _ (done new : Parts) (is : IsCutBy done) (at : StandsAt job.program progress.end own.Cut) (has : HasAnswered job.program done new lease.thread (answered (expr_of job.program progress.end) unit)) where
    low : lease.thread < begins.slots.next
    low = subst (λ (n : ℕ). lease.thread < n) (sym (ap (λ k. k.thread) ready.next)) (low_at job old lease progress may)

    -- what is kept of the run
    journal_cut : ShowsJournal (view_of job done) (ready.run ++ cut_at number (thread lease.thread) ∷ []) (apply ready.state cut_label eff)
    journal_cut =
        let pushed = pushed_of job begins done lease.worker cut_label is.history in
        cut_journal (view_of job begins) (view_of job done) ready.run ready.state lease.worker (thread lease.thread) eff ready.journal
        (cut_effect job.program ready.state number (thread lease.thread) (expr_of job.program progress.end) ready.stands at.look) refl
        (record {
          job = refl;
          events = is.history.events;
          survivors = is.history.survivors;
          script = script_now (view_of job begins) (view_of job done) ready.run ready.state lease.worker ready.journal cut_label pushed refl;
          channels = λ c. ap (λ (k : Parts). map.contains_key k.offers.lines c) is.others;
          last_cut = is.last_cut;
          writes = is.writes;
          printed = ap (λ ps. done.printed.finals ++ each (λ (p : Print). p.value) ps) is.unprinted ∙ ap (λ fs. fs ++ []) is.printed;
          next = next_same (view_of job begins) (view_of job done) ready.run ready.state lease.worker ready.journal cut_label pushed (ap (λ (k : Parts). (view_of job k).next) is.others) (record { threads = (low, tt); chans = tt; refs = tt });
          few = few_same (view_of job begins) (view_of job done) ready.run ready.state lease.worker ready.journal cut_label pushed (ap (λ (k : Parts). (view_of job k).next) is.others);
          saved = is.saved;
          nodes = is.nodes;
        })

    abbrev c : ControlView
    c = has.control

    done_threads : done.slots.threads ≡ old.slots.threads
    done_threads = ap (λ (k : Parts). k.slots.threads) is.others ∙ threads_before job old lease progress may planned begins before longer rest

    threads_now : new.slots.threads ≡ changed old.slots.threads lease.thread (moved c (resting_state (over job.program c)))
    threads_now = has.gone.threads ∙ ap (λ m. changed m lease.thread (moved c (resting_state (over job.program c)))) done_threads

    queue_now : new.slots.queue ≡ without lease.thread old.slots.queue ++ (if over job.program c then [] else lease.thread ∷ [])
    queue_now =
        has.gone.queue
        ∙ ap (λ q. without lease.thread q ++ (if over job.program c then [] else lease.thread ∷ [])) (ap (λ (k : Parts). k.slots.queue) is.others ∙ ap (λ (k : Parts). k.slots.queue) rest ∙ before.queue)

    next_now : new.slots.next ≡ old.slots.next
    next_now = has.gone.next ∙ ap (λ (k : Parts). k.slots.next) is.others ∙ ap (λ (k : Parts). k.slots.next) rest ∙ before.next

    history_now : new.history ≡ done.history
    history_now = ap (λ k. k.history) has.gone.rest

    offers_now : new.offers ≡ old.offers
    offers_now = ap (λ k. k.offers) has.gone.rest ∙ ap (λ k. k.offers) is.others ∙ ap (λ k. k.offers) rest ∙ before.offers

    abbrev more : ℕ
    more = fails_now (is_failed (expr_of job.program has.before)) (is_failed (expr_of job.program has.control))

    tallies_now : new.tallies ≡ record old.tallies { finals = length (values begins.printed); faulted = old.tallies.faulted + more }
    tallies_now =
        has.gone.tallies
        ∙ ap (λ (k : Tallies). record k { faulted = k.faulted + more }) (is.finals ∙ ap (λ (k : Tallies). record k { finals = length (values begins.printed) }) (ap (λ (k : Parts). k.tallies) rest ∙ before.tallies))

    longer_now : IsLonger begins.history new.history lease.worker (cut_label ∷ [])
    longer_now = subst (λ j. IsLonger begins.history j lease.worker (cut_label ∷ [])) (sym history_now) is.history

    may_move : MayMove job.program old.slots.threads lease.thread c (resting_state (over job.program c))
    may_move =
        let here = slot_at job old lease progress may in
        record {
          slot = here.slot;
          found = here.found;
          unparked = unparked job.program here.slot progress.origin progress.steps progress.end (doing_at job old lease progress may) here.control may.made (unoffered_at job old lease progress may own.Cut at refl);
          fits = has.fits;
          ended = resting_ended (over job.program c);
          parked = resting_unparked (over job.program c);
        }

    state_now : (u : ℕ) → map.get (apply ready.state cut_label eff).threads u ≡ put lease.thread (expr_of job.program c) (λ k. map.get may.kept.shown.state.threads k) u
    state_now u =
        apply_one ready.state cut_label eff lease.thread refl u
        ∙ ap (λ x. put lease.thread x (λ k. map.get ready.state.threads k) u) (sym has.stands)
        ∙ (elim (nat_eq u lease.thread) as (λ b. nat_eq u lease.thread ≡ b → cond b (Some (expr_of job.program c)) (map.get ready.state.threads u) ≡ cond b (Some (expr_of job.program c)) (map.get may.kept.shown.state.threads u)) [
          | true ↦ λ here. refl
          | false ↦ λ apart. ready.others u apart
        ] refl)

    pub done_cut : IsDone job old new lease progress (alone (Some (Cut (thread lease.thread))))
    done_cut =
        let here = slot_at job old lease progress may in
        record {
          history = journal_after old.history planned.history begins.history new.history lease.worker (local_of lease.thread progress.steps) (cut_label ∷ []) before.history longer longer_now;
          queue = queue_one old.slots.threads new.slots.threads old.slots.queue new.slots.queue lease.thread c (over job.program c) here.slot here.found threads_now queue_now;
          others = λ u none. ap (λ m. map.get m u) threads_now ∙ get_other old.slots.threads lease.thread u (moved c (resting_state (over job.program c))) (not_listed u lease.thread none);
          lines = lines_same old.offers.lines new.offers.lines (ap (λ (o : Seen). o.lines) offers_now);
          job = refl;
          answered = ap (λ (k : Tallies). answers k) tallies_now;
        }

    beside_now : view_of job new ≡ record (view_of job done) { threads = new.slots.threads; queue = new.slots.queue; answered = (view_of job new).answered }
    beside_now =
        let seen : view_of job new ≡ moved_on (view_of job done) new.slots.threads new.slots.queue (answers new.tallies) new.slots.next = ap (view_of job) has.gone.rest in
        seen ∙ ap (moved_on (view_of job done) new.slots.threads new.slots.queue (answers new.tallies)) has.gone.next

    journal_new : ShowsJournal (view_of job new) (ready.run ++ cut_at number (thread lease.thread) ∷ []) (apply ready.state cut_label eff)
    journal_new = journal_beside (view_of job done) (view_of job new) (ready.run ++ cut_at number (thread lease.thread) ∷ []) (apply ready.state cut_label eff) beside_now journal_cut

    -- all that was printed is final
    finals_new : new.tallies.finals ≡ final_prints (survivors new.history)
    finals_new =
        let runs = stands_run job.program begins.history.events ready.run ready.state ready.journal.history.stands in
        let after = stands_run job.program new.history.events (ready.run ++ cut_at number (thread lease.thread) ∷ []) (apply ready.state cut_label eff) journal_new.history.stands in
        let printed : length ready.state.output ≡ length (start job.program).output + count_by (λ (n : Numbered). is_print n.label) ready.run = run_printed job.program ready.run (start job.program) ready.state runs.1.ends in
        let none : length (start job.program).output ≡ 0 = refl in
        let all : length (values begins.printed) ≡ count_by (λ (n : Numbered). is_print n.label) ready.run = ap length ready.journal.printed ∙ omega (arith, printed, none) in
        ap (λ k. k.finals) tallies_now
        ∙ all
        ∙ sym (finals_cut ready.run number (thread lease.thread) after.1.rises)
        ∙ sym (ap final_prints journal_new.history.left)

    -- no print is above the cut
    prints_cut : ArePrints new.history new.printed
    prints_cut =
        let same : new.printed ≡ done.printed = ap (λ (k : Parts). k.printed) has.gone.rest in
        let long : length new.history.events ≡ number = ap length longer_now.events ∙ length-append begins.history.events (events_by lease.worker (cut_label ∷ [])) in
        let low : AllByRecursion (λ (n : Numbered). n.seq.0 ≤ number) (survivors new.history) = subst (λ k. AllByRecursion (λ (n : Numbered). n.seq.0 ≤ k) (survivors new.history)) long (survivors_up_to new.history) in
        let cut : floor (survivors new.history) ≡ number = ap floor journal_new.history.left ∙ floor_cut 0 ready.run (cut_at number (thread lease.thread)) refl in
        record {
          finals = ap (λ (p : Prints). length p.finals) same ∙ ap length is.printed ∙ sym (ap (λ k. k.finals) tallies_now) ∙ finals_new;
          recent = ap (λ (p : Prints). numbers_of p.recent) same ∙ ap numbers_of is.unprinted ∙ sym (ap (λ f. prints_above f (survivors new.history)) cut ∙ prints_none number (survivors new.history) low);
        }

    pub kept_cut : IsKept job new
    kept_cut =
        let p = job.program in
        let shown = may.kept.shown in
        let here = slot_at job old lease progress may in
        record {
          valid = may.kept.valid;
          shown = record {
            run = ready.run ++ cut_at number (thread lease.thread) ∷ [];
            state = apply ready.state cut_label eff;
            shows = record {
              journal = journal_new;
              threads =
                  shows_alone (view_of job old) (view_of job new) shown.state (apply ready.state cut_label eff) refl shown.shows.threads
                  (λ u. still_put_back begins.history.events new.history.events lease.worker cut_label longer_now.events u ∙ ready.generations u)
                  has.gone.sound.queue lease.thread c (resting_state (over p c)) may_move
                  (subst (λ o. AreStanding p old.slots.threads o (λ k. map.get shown.state.threads k) (λ k. generation k old.history.events)) (sym offers_now) (standing_of (view_of job old) shown.state shown.shows.threads))
                  threads_now state_now;
            };
          };
          tallied = record {
            probes =
                let more_probes : length (probed (new.history.events)) ≡ length (probed begins.history.events) + 0 = ap (λ es. length (probed es)) longer_now.events ∙ probes_now begins.history.events lease.worker cut_label in
                ap (λ k. k.probes) tallies_now ∙ may.kept.tallied.probes ∙ sym ready.probes ∙ omega (arith, more_probes);
            finals = finals_new;
            released = ap (λ k. k.released) tallies_now ∙ may.kept.tallied.released ∙ sym ready.released ∙ sym (released_now begins.history.events lease.worker cut_label) ∙ sym (ap released longer_now.events);
            undos = ap (λ k. k.undos) tallies_now ∙ may.kept.tallied.undos ∙ sym ready.undos ∙ sym (undos_now begins.history.events lease.worker cut_label) ∙ sym (ap (count_by is_undo) longer_now.events);
            faulted =
                ap (λ k. k.faulted) tallies_now
                ∙ ap (λ x. old.tallies.faulted + fails_now (is_failed (expr_of p x)) (is_failed (expr_of p c))) (stood_there (map.get done.slots.threads lease.thread) here.slot has.before (ap (λ m. map.get m lease.thread) done_threads ∙ here.found) has.was)
                ∙ ap (λ n. n + fails_now (is_failed (expr_of p here.slot.control)) (is_failed (expr_of p c))) may.kept.tallied.faulted
                ∙ sym (faulted_goes p old.slots.threads lease.thread old.slots.next (moved c (resting_state (over p c))) here.slot here.found (low_at job old lease progress may) (λ failed. absurd (false≢true (sym (going_at job old lease progress may own.Cut at) ∙ failed))))
                ∙ ap (λ m. faulted_in p m old.slots.next) (sym threads_now)
                ∙ ap (faulted_in p new.slots.threads) (sym next_now);
          };
          read =
              subst (IsRead new.history) (sym (ap (λ (x : Parts). x.rollback) has.gone.rest))
              (read_from_cut new.history done.rollback number is.read is.floor is.own
              (is.lost ∙ ap (λ (x : Parts). x.rollback.lost.items) rest ∙ before.read.lost ∙ may.kept.read.lost)
              (sym (ap length longer_now.events ∙ length-append begins.history.events (events_by lease.worker (cut_label ∷ []))))
              (ap floor journal_new.history.left ∙ floor_cut 0 ready.run (cut_at number (thread lease.thread)) refl));
          prints = prints_cut;
        }

  -- the calls of a cut, in the words of the job, the lease and the progress
  module _ (pushed : Parts) (q : Seq) (q_is : q.0 ≡ length begins.history.events + 1) (u : ThreadId) (u_is : u.0 ≡ lease.thread) (history : IsLonger begins.history pushed.history lease.worker (Cut u ∷ [])) (more : pushed ≡ record begins { history = pushed.history })
      (graph : NodeList) (nodes : graph.nodes ≡ filter (λ (k : Node). nat_le q.0 k.number) pushed.graph.nodes)
      (store : Saved ControlView) (saved : (k : Seq) (v : ThreadId) → saved_at store k v ≡ (if nat_lt k.0 q.0 then None else saved_at pushed.store k v))
      (log : Log) (after : IsAfter (cut q.0) pushed.log log)
      (rollback : Rollback) (read : rollback.read ≡ q.0) (floor_is : rollback.floor ≡ q) (own_is : (t : ℕ) → steps_of rollback.own t ≡ []) (lost_is : rollback.lost ≡ pushed.rollback.lost) (printed : Prints) (all_final : printed.finals ≡ values pushed.printed) (none_recent : printed.recent ≡ []) (n : ℕ) (all : n ≡ length printed.finals) where
    -- what is kept then
    abbrev pub cut_parts : Parts
    cut_parts = record pushed { graph = graph; store = store; log = log; rollback = rollback; printed = printed; tallies = record pushed.tallies { finals = n } }

    is_cut_by : IsCutBy cut_parts
    is_cut_by = record {
      history = subst (λ (y : ThreadId). IsLonger begins.history pushed.history lease.worker (Cut y ∷ [])) (thread_is u lease.thread u_is) history;
      nodes = nodes ∙ ap (λ (j : ℕ). filter (λ (k : Node). nat_le j k.number) pushed.graph.nodes) q_is ∙ ap (λ (x : Parts). filter (λ (k : Node). nat_le (length begins.history.events + 1) k.number) x.graph.nodes) more;
      saved = λ k v. saved (record { 0 = k }) (record { 0 = v }) ∙ ap (λ (j : ℕ). cond (nat_lt k j) None (saved_of pushed.store.controls k v)) q_is ∙ ap (λ (x : Parts). cond (nat_lt k (length begins.history.events + 1)) None (saved_of x.store.controls k v)) more;
      last_cut = after.last_cut ∙ q_is;
      writes = λ r. after.writes r ∙ ap (λ (j : ℕ). kept j (writes_of pushed.log r)) q_is ∙ ap (λ (x : Parts). kept (length begins.history.events + 1) (writes_of x.log r)) more;
      finals = ap (λ (x : Parts). record x.tallies { finals = n }) more ∙ ap (λ (j : ℕ). record begins.tallies { finals = j }) (all ∙ ap length all_final ∙ ap (λ (x : Parts). length (values x.printed)) more);
      read = read ∙ q_is;
      floor = ap (λ (k : Seq). k.0) floor_is ∙ q_is;
      own = own_is;
      printed = all_final ∙ ap (λ (x : Parts). values x.printed) more;
      unprinted = none_recent;
      lost = (let same : rollback.lost.items ≡ pushed.rollback.lost.items = cc in same) ∙ ap (λ (x : Parts). x.rollback.lost.items) more;
      others = ap (λ (x : Parts). record x { history = pushed.history; graph = graph; store = store; log = log; rollback = rollback; printed = printed; tallies = record pushed.tallies { finals = n } }) more;
    }

    pub cut_lasts : (new : Parts) (p : ProgramParts) (x : ThreadId) (c : ControlView) (v : Datum) → p ≡ job.program → x.0 ≡ lease.thread → c ≡ progress.end → v ≡ unit → StandsAt job.program progress.end own.Cut
        → HasAnswered p cut_parts new x.0 (answered (expr_of p c) v)
        → IsDone job old new lease progress (alone (Some (Cut (thread lease.thread)))) × IsKept job new
    cut_lasts new p x c v program x_is end value at has =
        let has_so : HasAnswered job.program cut_parts new lease.thread (answered (expr_of job.program progress.end) unit) = answered_so job lease progress cut_parts new p x c v unit program x_is end value has in
        (done_cut cut_parts new is_cut_by at has_so, kept_cut cut_parts new is_cut_by at has_so)
