-- The step of each act that moves no thread but its own, from what its calls leave.
use Rattle.std.proofs.Common.{◌≡◌, ℕ, ℤ, ◌+◌, ◌<◌, ◌^◌, true, false, not, List, [], ◌∷◌, ◌++◌, length, Some, refl, sym, ap, subst, ◌∙◌, append-nil, arith}
use Rattle.std.specs.Prelude.{pos, option_and_then, if◌then◌else◌}
use Rattle.std.specs.FinMap as map
use Rattle.stab_base.specs.Datum.{Datum, unit, int, reference}
use Rattle.stab_base.specs.declared.fault.Fault.TheVariants.{NoSection}
use Rattle.stab_base.specs.declared.numbers.FnId.{FnId}
use Rattle.stab_base.specs.declared.numbers.RefId.{RefId}
use Rattle.stab_base.specs.declared.numbers.Seq.{Seq}
use Rattle.stab_base.specs.declared.numbers.ThreadId.{ThreadId}
use Rattle.stab_code.specs.JobParts.{JobParts}
use Rattle.stab_journal.specs.declared.event.Event.{Event}
use Rattle.stab_journal.specs.declared.event.Label.TheVariants.{NewRef, Get, Set, Enter, Probe, Refuse, Pin, Attempt}
use Rattle.stab_journal.specs.declared.event.What.TheVariants.{Step}
use Rattle.stab_journal.specs.Floor.{is_mark_revocable}
use Rattle.stab_journal.specs.Generation.{generation}
use Rattle.stab_journal.specs.Script.{FollowsScript, probed, script_at}
use Rattle.checkpoint_store.specs.Saved.{is_place}
use Rattle.comm_graph.specs.declared.node.NodeFor.TheVariants as node
use Rattle.ref_log.specs.Calls.{IsAfter, made, wrote}
use Rattle.language.specs.Expression.{Expr, failed}
use Rattle.language.specs.Look.{answered, entered}
use Rattle.language.specs.Numbers.{fits_word}
use Rattle.language.specs.Plain.{language_of}
use Rattle.language.specs.Program.{body}
use Rattle.language.specs.Redex.{mark}
use Rattle.language.specs.Standing.{event}
use Rattle.language.specs.Table.{act, enters, to}
use Rattle.step_eval.specs.declared.act.Act.TheVariants as own
use Rattle.step_eval.specs.Acts.{act_with, first_of, second_of}
use Rattle.step_eval.specs.Asked.{operands_of}
use Rattle.step_eval.specs.ControlView.{expr_of}
use Rattle.step_eval.specs.Progress.{ProgressView}
use Rattle.print_log.specs.Log.{values}
use Rattle.commit_book.specs.declared.counts.Tallies.{Tallies}
use Rattle.commit_book.specs.declared.parts.Parts.{Parts}
use Rattle.commit_book.specs.Acting.{AreAsBefore, IsLonger, MayAct, StandsAt}
use Rattle.commit_book.specs.Book.{BookView}
use Rattle.commit_book.specs.Layout.{view_of, without_spare}
use Rattle.commit_book.specs.Leases.{LeaseView}
use Rattle.commit_book.specs.Rows.{local_of, thread}
use Rattle.commit_book.specs.Step.{next_seq, wrote_after}
use Rattle.commit_book.proofs.Acting.Effects.{attempt_effect, enter_effect, pin_effect, probe_effect, ref_effect, refuse_effect}
use Rattle.commit_book.proofs.Acting.EffectsHeld.{get_effect, set_effect}
use Rattle.commit_book.proofs.Keeping.EventSteps.{script_probe}
use Rattle.commit_book.proofs.Keeping.JournalSteps.{journal_step}
use Rattle.commit_book.proofs.Keeping.KeptLocal.{IsReady}
use Rattle.commit_book.proofs.Keeping.KeptParts.{writes_made, writes_wrote}
use Rattle.commit_book.proofs.Keeping.KeptSteps.{attempt_plain, probe_plain, refuse_plain, plain_step, pin_step, enter_step, get_step, ref_step, set_step, script_now}
use Rattle.commit_book.proofs.Keeping.Prints.{unprinting}
use Rattle.commit_book.proofs.Keeping.SeenAfter.{pushed_of, unprinted}
use Rattle.commit_book.proofs.Acting.SingleActs.{IsStepped, low_at, ready_at}

pub none_more : (x : Tallies) → x ≡ record x { probes = x.probes + 0 }
none_more x = let same : x.probes ≡ x.probes + 0 = omega arith in ap (λ n. record x { probes = n }) same

abbrev with_cut : BookView → ℕ → BookView
with_cut b k = record b { last_cut = k }

module _ (job : JobParts) (old : Parts) (lease : LeaseView) (progress : ProgressView) (may : MayAct job old lease progress) (planned begins : Parts) (before : AreAsBefore old planned) (longer : IsLonger planned.history begins.history lease.worker (local_of lease.thread progress.steps)) (rest : begins ≡ record planned { history = begins.history }) where
  abbrev ready : IsReady (view_of job old) (view_of job begins) may.kept.shown.state (thread lease.thread) (expr_of job.program progress.end)
  ready = ready_at job old lease progress may planned begins before longer rest

  pub low_now : lease.thread < begins.slots.next
  low_now = subst (λ (n : ℕ). lease.thread < n) (sym (ap (λ k. k.thread) ready.next)) (low_at job old lease progress may)

  module _ (done : Parts) where
    -- ---- a stabilize that is refused
    pub refused : StandsAt job.program progress.end own.Stabilize → is_mark_revocable ready.run (mark (expr_of job.program progress.end)) ≡ false
        → IsLonger begins.history done.history lease.worker (Refuse (thread lease.thread) ∷ []) → done ≡ record begins { history = done.history }
        → IsStepped job old lease progress may planned begins before longer rest done (Refuse (thread lease.thread)) (to (language_of job.program) (failed NoSection))
    refused at held history is =
        let l = Refuse (thread lease.thread) in
        let seen : view_of job done ≡ record (view_of job begins) { history = without_spare done.history } = ap (view_of job) is in
        let pushed = pushed_of job begins done lease.worker l history in
        record {
          one = refl;
          uncut = refl;
          history = history;
          journal = journal_step (view_of job begins) (view_of job done) ready.run ready.state lease.worker l (to (language_of job.program) (failed NoSection)) ready.journal
              (ap (is_mark_revocable ready.run) (ap (option_and_then mark) ready.stands) ∙ held)
              (refuse_effect job.program ready.state (next_seq (view_of job begins)) (thread lease.thread) (expr_of job.program progress.end) ready.stands at.look)
              (refl) refl
              (plain_step (view_of job begins) (view_of job done) ready.run ready.state lease.worker ready.journal l (to (language_of job.program) (failed NoSection)) (refuse_plain (thread lease.thread)) pushed
              (record { threads = (low_now, tt); chans = tt; refs = tt })
              (script_now (view_of job begins) (view_of job done) ready.run ready.state lease.worker ready.journal l pushed refl)
              (ap (λ b. b.printed) seen ∙ sym (append-nil (values begins.printed)))
              (unprinted job begins done seen));
          slots = ap (λ k. k.slots) is;
          rollback = ap (λ k. k.rollback) is;
          prints = unprinting begins.printed done.printed (length begins.history.events + 1) l refl (ap (λ (k : Parts). k.printed) is);
          probes = ap (λ k. k.tallies) is ∙ none_more begins.tallies;
        }

    -- ---- an attempt
    pub attempted : StandsAt job.program progress.end own.Attempt → (g : ℕ) → g ≡ generation lease.thread old.history.events → g < 2 ^ 63
        → IsLonger begins.history done.history lease.worker (Attempt (thread lease.thread) g ∷ []) → done ≡ record begins { history = done.history }
        → IsStepped job old lease progress may planned begins before longer rest done (Attempt (thread lease.thread) g) (to (language_of job.program) (answered (expr_of job.program progress.end) (int (pos g))))
    attempted at g same low history is =
        let l = Attempt (thread lease.thread) g in
        let e = to (language_of job.program) (answered (expr_of job.program progress.end) (int (pos g))) in
        let seen : view_of job done ≡ record (view_of job begins) { history = without_spare done.history } = ap (view_of job) is in
        let pushed = pushed_of job begins done lease.worker l history in
        record {
          one = refl;
          uncut = refl;
          history = history;
          journal = journal_step (view_of job begins) (view_of job done) ready.run ready.state lease.worker l (to (language_of job.program) (answered (expr_of job.program progress.end) (int (pos g)))) ready.journal
              (same ∙ sym (ready.generations lease.thread))
              (attempt_effect job.program ready.state (next_seq (view_of job begins)) (thread lease.thread) (expr_of job.program progress.end) ready.stands g low at.look)
              (refl) refl
              (plain_step (view_of job begins) (view_of job done) ready.run ready.state lease.worker ready.journal l e (attempt_plain (thread lease.thread) g) pushed
              (record { threads = (low_now, tt); chans = tt; refs = tt })
              (script_now (view_of job begins) (view_of job done) ready.run ready.state lease.worker ready.journal l pushed refl)
              (ap (λ b. b.printed) seen ∙ sym (append-nil (values begins.printed)))
              (unprinted job begins done seen));
          slots = ap (λ k. k.slots) is;
          rollback = ap (λ k. k.rollback) is;
          prints = unprinting begins.printed done.printed (length begins.history.events + 1) l refl (ap (λ (k : Parts). k.printed) is);
          probes = ap (λ k. k.tallies) is ∙ none_more begins.tallies;
        }

    -- ---- a probe
    pub probed_next : StandsAt job.program progress.end own.Probe → (i : ℤ) → i ≡ script_at job.script (length (probed begins.history.events)) → fits_word i ≡ true
        → IsLonger begins.history done.history lease.worker (Probe (thread lease.thread) i ∷ []) → done ≡ record begins { history = done.history; tallies = record begins.tallies { probes = begins.tallies.probes + 1 } }
        → IsStepped job old lease progress may planned begins before longer rest done (Probe (thread lease.thread) i) (to (language_of job.program) (answered (expr_of job.program progress.end) (int i)))
    probed_next at i next fits history is =
        let l = Probe (thread lease.thread) i in
        let e = to (language_of job.program) (answered (expr_of job.program progress.end) (int i)) in
        let seen : view_of job done ≡ record (view_of job begins) { history = without_spare done.history } = ap (view_of job) is in
        let pushed = pushed_of job begins done lease.worker l history in
        record {
          one = refl;
          uncut = refl;
          history = history;
          journal = journal_step (view_of job begins) (view_of job done) ready.run ready.state lease.worker l (to (language_of job.program) (answered (expr_of job.program progress.end) (int i))) ready.journal
              (tt)
              (probe_effect job.program ready.state (next_seq (view_of job begins)) (thread lease.thread) (expr_of job.program progress.end) ready.stands i fits at.look)
              (refl) refl
              (plain_step (view_of job begins) (view_of job done) ready.run ready.state lease.worker ready.journal l e (probe_plain (thread lease.thread) i) pushed
              (record { threads = (low_now, tt); chans = tt; refs = tt })
              (subst (λ (es : List Event). FollowsScript job.script es) (sym pushed.events)
              (script_probe job.script begins.history.events (event lease.worker (Step l)) i refl next ready.journal.script))
              (ap (λ b. b.printed) seen ∙ sym (append-nil (values begins.printed)))
              (unprinted job begins done seen));
          slots = ap (λ k. k.slots) is;
          rollback = ap (λ k. k.rollback) is;
          prints = unprinting begins.printed done.printed (length begins.history.events + 1) l refl (ap (λ (k : Parts). k.printed) is);
          probes = ap (λ k. k.tallies) is;
        }

    -- ---- a pin
    pub pinned : StandsAt job.program progress.end own.Pin
        → IsLonger begins.history done.history lease.worker (Pin (thread lease.thread) ∷ [])
        → done.graph.nodes ≡ begins.graph.nodes ++ record { number = length begins.history.events + 1; kind = node.Pin (thread lease.thread) } ∷ []
        → done ≡ record begins { history = done.history; graph = done.graph }
        → IsStepped job old lease progress may planned begins before longer rest done (Pin (thread lease.thread)) (to (language_of job.program) (answered (expr_of job.program progress.end) unit))
    pinned at history nodes is =
        let l = Pin (thread lease.thread) in
        record {
          one = refl;
          uncut = refl;
          history = history;
          journal = journal_step (view_of job begins) (view_of job done) ready.run ready.state lease.worker l (to (language_of job.program) (answered (expr_of job.program progress.end) unit)) ready.journal
              (tt)
              (pin_effect job.program ready.state (next_seq (view_of job begins)) (thread lease.thread) (expr_of job.program progress.end) ready.stands at.look)
              (refl) refl
              (pin_step (view_of job begins) (view_of job done) ready.run ready.state lease.worker ready.journal (thread lease.thread) (to (language_of job.program) (answered (expr_of job.program progress.end) unit))
              (pushed_of job begins done lease.worker l history) low_now refl nodes (ap (view_of job) is));
          slots = ap (λ k. k.slots) is;
          rollback = ap (λ k. k.rollback) is;
          prints = unprinting begins.printed done.printed (length begins.history.events + 1) l refl (ap (λ (k : Parts). k.printed) is);
          probes = ap (λ k. k.tallies) is ∙ none_more begins.tallies;
        }

    -- ---- a section is entered
    pub entered_at : (f : FnId) → StandsAt job.program progress.end (own.Enter f) → (b : Expr) → act (act_with (body job.program) (operands_of progress.end) (own.Enter f)) ≡ act (enters b)
        → IsLonger begins.history done.history lease.worker (Enter (thread lease.thread) ∷ [])
        → ((k : Seq) (u : ThreadId) → map.get done.store.controls (k, u) ≡ (if is_place (record { 0 = length begins.history.events + 1 }) (thread lease.thread) k u then Some progress.end else map.get begins.store.controls (k, u)))
        → done.graph.nodes ≡ begins.graph.nodes ++ record { number = length begins.history.events + 1; kind = node.Enter (thread lease.thread) } ∷ []
        → done ≡ record begins { history = done.history; store = done.store; graph = done.graph }
        → IsStepped job old lease progress may planned begins before longer rest done (Enter (thread lease.thread)) (to (language_of job.program) (entered (expr_of job.program progress.end) (length begins.history.events + 1) b))
    entered_at f at b body_is history saved nodes is =
        let l = Enter (thread lease.thread) in
        record {
          one = refl;
          uncut = refl;
          history = history;
          journal = journal_step (view_of job begins) (view_of job done) ready.run ready.state lease.worker l (to (language_of job.program) (entered (expr_of job.program progress.end) (length begins.history.events + 1) b)) ready.journal
              (tt)
              (enter_effect job.program ready.state (next_seq (view_of job begins)) (thread lease.thread) (expr_of job.program progress.end) ready.stands b (at.look ∙ body_is))
              (refl) refl
              (enter_step (view_of job begins) (view_of job done) ready.run ready.state lease.worker ready.journal (thread lease.thread) (to (language_of job.program) (entered (expr_of job.program progress.end) (length begins.history.events + 1) b)) progress.end
              (pushed_of job begins done lease.worker l history) low_now refl (sym ready.stands) may.made.fits saved nodes (ap (view_of job) is));
          slots = ap (λ k. k.slots) is;
          rollback = ap (λ k. k.rollback) is;
          prints = unprinting begins.printed done.printed (length begins.history.events + 1) l refl (ap (λ (k : Parts). k.printed) is);
          probes = ap (λ k. k.tallies) is ∙ none_more begins.tallies;
        }

    -- ---- a reference is read
    pub got : (r : RefId) → StandsAt job.program progress.end (own.Get r) → (v : Datum) (w : ℕ) → map.get ready.state.references r.0 ≡ Some v → r.0 < begins.next_ref
        → w ≡ wrote_after (λ _. 0) ready.run r.0
        → IsLonger begins.history done.history lease.worker (Get (thread lease.thread) r ∷ [])
        → ((k : Seq) (u : ThreadId) → map.get done.store.controls (k, u) ≡ (if is_place (record { 0 = length begins.history.events + 1 }) (thread lease.thread) k u then Some progress.end else map.get begins.store.controls (k, u)))
        → done.graph.nodes ≡ begins.graph.nodes ++ record { number = length begins.history.events + 1; kind = node.Get (thread lease.thread) (record { 0 = w }) } ∷ []
        → done ≡ record begins { history = done.history; store = done.store; graph = done.graph }
        → IsStepped job old lease progress may planned begins before longer rest done (Get (thread lease.thread) r) (to (language_of job.program) (answered (expr_of job.program progress.end) v))
    got r at v w holds there last history saved nodes is =
        let l = Get (thread lease.thread) r in
        record {
          one = refl;
          uncut = refl;
          history = history;
          journal = journal_step (view_of job begins) (view_of job done) ready.run ready.state lease.worker l (to (language_of job.program) (answered (expr_of job.program progress.end) v)) ready.journal
              (tt)
              (get_effect job.program ready.state (next_seq (view_of job begins)) (thread lease.thread) (expr_of job.program progress.end) ready.stands r v at.look holds)
              (refl) refl
              (get_step (view_of job begins) (view_of job done) ready.run ready.state lease.worker ready.journal (thread lease.thread) r (to (language_of job.program) (answered (expr_of job.program progress.end) v)) progress.end w
              (pushed_of job begins done lease.worker l history) low_now there refl (sym ready.stands) may.made.fits saved last nodes (ap (view_of job) is));
          slots = ap (λ k. k.slots) is;
          rollback = ap (λ k. k.rollback) is;
          prints = unprinting begins.printed done.printed (length begins.history.events + 1) l refl (ap (λ (k : Parts). k.printed) is);
          probes = ap (λ k. k.tallies) is ∙ none_more begins.tallies;
        }

    -- ---- a reference is set
    pub set_to : (r : RefId) → StandsAt job.program progress.end (own.Set r) → map.contains_key ready.state.references r.0 ≡ true → r.0 < begins.next_ref
        → IsLonger begins.history done.history lease.worker (Set (thread lease.thread) r ∷ [])
        → IsAfter (wrote r.0 (length begins.history.events + 1) (second_of (operands_of progress.end))) begins.log done.log
        → done.graph.nodes ≡ begins.graph.nodes ++ record { number = length begins.history.events + 1; kind = node.Set (thread lease.thread) } ∷ []
        → done ≡ record begins { history = done.history; log = done.log; graph = done.graph }
        → IsStepped job old lease progress may planned begins before longer rest done (Set (thread lease.thread) r) (record { mine = answered (expr_of job.program progress.end) unit; other = expr_of job.program progress.end; value = second_of (operands_of progress.end); printed = [] })
    set_to r at there low history after nodes is =
        let l = Set (thread lease.thread) r in
        let v = second_of (operands_of progress.end) in
        let seen : view_of job done ≡ record (view_of job begins) { history = without_spare done.history; last_cut = done.log.last_cut; references = done.log.references; nodes = done.graph.nodes } = ap (view_of job) is in
        let uncut_by : record (view_of job begins) { history = without_spare done.history; last_cut = done.log.last_cut; references = done.log.references; nodes = done.graph.nodes } ≡ record (view_of job begins) { history = without_spare done.history; references = done.log.references; nodes = done.graph.nodes } = ap (with_cut (record (view_of job begins) { history = without_spare done.history; references = done.log.references; nodes = done.graph.nodes })) after.last_cut in
        record {
          one = refl;
          uncut = refl;
          history = history;
          journal = journal_step (view_of job begins) (view_of job done) ready.run ready.state lease.worker l (record { mine = answered (expr_of job.program progress.end) unit; other = expr_of job.program progress.end; value = second_of (operands_of progress.end); printed = [] }) ready.journal
              (tt)
              (set_effect job.program ready.state (next_seq (view_of job begins)) (thread lease.thread) (expr_of job.program progress.end) ready.stands r v at.look)
              (there) refl
              (set_step (view_of job begins) (view_of job done) ready.run ready.state lease.worker ready.journal (thread lease.thread) r (record { mine = answered (expr_of job.program progress.end) unit; other = expr_of job.program progress.end; value = v; printed = [] })
              (pushed_of job begins done lease.worker l history) low_now low refl
              (writes_wrote begins.log done.log r.0 (length begins.history.events + 1) v after) nodes
              (seen ∙ uncut_by));
          slots = ap (λ k. k.slots) is;
          rollback = ap (λ k. k.rollback) is;
          prints = unprinting begins.printed done.printed (length begins.history.events + 1) l refl (ap (λ (k : Parts). k.printed) is);
          probes = ap (λ k. k.tallies) is ∙ none_more begins.tallies;
        }

    -- ---- a reference is made
    pub made_new : StandsAt job.program progress.end own.NewRef → map.contains_key ready.state.references begins.next_ref ≡ false
        → IsLonger begins.history done.history lease.worker (NewRef (thread lease.thread) (record { 0 = begins.next_ref }) ∷ [])
        → IsAfter (made begins.next_ref (length begins.history.events + 1) (first_of (operands_of progress.end))) begins.log done.log
        → done.graph.nodes ≡ begins.graph.nodes ++ record { number = length begins.history.events + 1; kind = node.NewRef (thread lease.thread) } ∷ []
        → done ≡ record begins { history = done.history; log = done.log; graph = done.graph; next_ref = begins.next_ref + 1 }
        → IsStepped job old lease progress may planned begins before longer rest done (NewRef (thread lease.thread) (record { 0 = begins.next_ref }))
        (record { mine = answered (expr_of job.program progress.end) (reference begins.next_ref); other = expr_of job.program progress.end; value = first_of (operands_of progress.end); printed = [] })
    made_new at away history after nodes is =
        let r : RefId = record { 0 = begins.next_ref } in
        let l = NewRef (thread lease.thread) r in
        let v = first_of (operands_of progress.end) in
        let seen : view_of job done ≡ record (view_of job begins) { history = without_spare done.history; last_cut = done.log.last_cut; references = done.log.references; nodes = done.graph.nodes; next = record { thread = begins.slots.next; chan = begins.next_chan; ref = begins.next_ref + 1 } } = ap (view_of job) is in
        let uncut_by : record (view_of job begins) { history = without_spare done.history; last_cut = done.log.last_cut; references = done.log.references; nodes = done.graph.nodes; next = record { thread = begins.slots.next; chan = begins.next_chan; ref = begins.next_ref + 1 } } ≡ record (view_of job begins) { history = without_spare done.history; references = done.log.references; nodes = done.graph.nodes; next = record { thread = begins.slots.next; chan = begins.next_chan; ref = begins.next_ref + 1 } } = ap (with_cut (record (view_of job begins) { history = without_spare done.history; references = done.log.references; nodes = done.graph.nodes; next = record { thread = begins.slots.next; chan = begins.next_chan; ref = begins.next_ref + 1 } })) after.last_cut in
        record {
          one = refl;
          uncut = refl;
          history = history;
          journal = journal_step (view_of job begins) (view_of job done) ready.run ready.state lease.worker l (record { mine = answered (expr_of job.program progress.end) (reference begins.next_ref); other = expr_of job.program progress.end; value = first_of (operands_of progress.end); printed = [] }) ready.journal
              (tt)
              (ref_effect job.program ready.state (next_seq (view_of job begins)) (thread lease.thread) (expr_of job.program progress.end) ready.stands r v at.look)
              (ap not away) refl
              (ref_step (view_of job begins) (view_of job done) ready.run ready.state lease.worker ready.journal (thread lease.thread) r (record { mine = answered (expr_of job.program progress.end) (reference begins.next_ref); other = expr_of job.program progress.end; value = v; printed = [] })
              (pushed_of job begins done lease.worker l history) low_now refl refl
              (writes_made begins.log done.log begins.next_ref (length begins.history.events + 1) v after) nodes
              (seen ∙ uncut_by));
          slots = ap (λ k. k.slots) is;
          rollback = ap (λ k. k.rollback) is;
          prints = unprinting begins.printed done.printed (length begins.history.events + 1) l refl (ap (λ (k : Parts). k.printed) is);
          probes = ap (λ k. k.tallies) is ∙ none_more begins.tallies;
        }
