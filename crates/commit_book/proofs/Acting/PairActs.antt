-- A commit whose act moves a second thread: a child that it starts, or a partner that it meets.
use Rattle.std.proofs.Common.{◌≡◌, ℕ, ◌+◌, ◌<◌, Bool, true, false, cond, not, ◌&&◌, ◌||◌, nat_eq, [], ◌∷◌, ◌++◌, length, Option, Some, None, refl, sym, ap, subst, ◌∙◌, arith}
use Rattle.std.specs.Prelude.{IfSome, count_by, is_some, option_map, if◌then◌else◌}
use Rattle.std.specs.List.{flat_map}
use Rattle.std.specs.Ordering.{nat_cmp}
use Rattle.std.specs.FinMap as map
use Rattle.std.specs.FinMap.{FinMap}
use Rattle.std.proofs.lemmas.Bool.{false≢true}
use Rattle.linked_lists.specs.Lists.{is_listed}
use Rattle.stab_base.specs.Datum.{unit}
use Rattle.stab_base.specs.declared.numbers.FnId.{FnId}
use Rattle.stab_base.specs.declared.numbers.ThreadId.{ThreadId}
use Rattle.stab_code.specs.JobParts.{JobParts}
use Rattle.stab_journal.specs.declared.event.Event.{Event}
use Rattle.stab_journal.specs.declared.event.Label.{Label}
use Rattle.stab_journal.specs.declared.event.Label.TheVariants.{Spawn}
use Rattle.stab_journal.specs.declared.event.What.TheVariants.{Step}
use Rattle.stab_journal.specs.Due.{released}
use Rattle.stab_journal.specs.Floor.{is_cut}
use Rattle.stab_journal.specs.Generation.{generation}
use Rattle.stab_journal.specs.Label.{touched}
use Rattle.stab_journal.specs.Script.{probed, probed_by}
use Rattle.comm_graph.specs.declared.node.NodeFor.TheVariants as node
use Rattle.thread_slots.specs.Slot.{Slot, changed, started}
use Rattle.rendezvous.specs.Line.{Line, Lines}
use Rattle.language.specs.Expression.{Expr}
use Rattle.language.specs.Look.{answered}
use Rattle.language.specs.Outcome.{called}
use Rattle.language.specs.Plain.{effect_of, look_in}
use Rattle.language.specs.Program.{body}
use Rattle.language.specs.Standing.{MayStep}
use Rattle.language.specs.Steps.{Effect, allows, apply, effect_in}
use Rattle.language.specs.Table.{act, spawns}
use Rattle.step_eval.specs.Asked.{operands_of}
use Rattle.step_eval.specs.ControlView.{ControlView, Fits, expr_of}
use Rattle.step_eval.specs.Progress.{ProgressView}
use Rattle.journal_laws.proofs.Surviving.{some_is, some_none}
use Rattle.commit_book.specs.declared.counts.Tallies.{Tallies}
use Rattle.commit_book.specs.declared.parts.Parts.{Parts}
use Rattle.commit_book.specs.Acting.{AreAsBefore, HasAnswered, HasJoined, IsDone, IsLonger, MayAct, fails_now}
use Rattle.commit_book.specs.Book.{ShowsThreads, offered, over}
use Rattle.commit_book.specs.Counts.{faulted_in, is_undo}
use Rattle.commit_book.specs.Doing.{is_failed, offer_at}
use Rattle.commit_book.specs.Layout.{IsKept, view_of, without_spare}
use Rattle.commit_book.specs.Leases.{LeaseView}
use Rattle.stab_journal.specs.Numbers.{threads_by}
use Rattle.commit_book.specs.Rows.{local_of, starts, thread}
use Rattle.commit_book.specs.Step.{IsStepOf, next_seq}
use Rattle.commit_book.proofs.Threads.Adding.{MayAdd, resting_ended, resting_state, resting_unparked}
use Rattle.commit_book.proofs.Acting.Effects.{spawn_effect}
use Rattle.commit_book.proofs.Acting.EffectsAsked.{act_goes_on}
use Rattle.commit_book.proofs.Threads.Faulted.{faulted_added, faulted_goes, one_if}
use Rattle.commit_book.proofs.Keeping.Floors.{differs_too}
use Rattle.commit_book.proofs.Threads.Fresh.{generation_fresh}
use Rattle.commit_book.proofs.Threads.Going.{apply_two, get_besides, get_other, shows_started, still_put_back}
use Rattle.commit_book.proofs.Keeping.JournalSteps.{journal_step, numbered}
use Rattle.commit_book.proofs.Keeping.KeptLocal.{IsReady}
use Rattle.commit_book.proofs.Keeping.KeptSteps.{spawn_step}
use Rattle.commit_book.proofs.Keeping.KeptTallies.{finals_now, probes_now, released_now, undos_now}
use Rattle.commit_book.proofs.Keeping.Prints.{IsPrintedBy, begun_prints, stepped_prints, unprinting}
use Rattle.commit_book.proofs.Threads.Queueing.{queue_started}
use Rattle.commit_book.proofs.Keeping.RoomHere.{thread_away}
use Rattle.commit_book.proofs.Keeping.SeenAfter.{journal_after, pushed_of}
use Rattle.commit_book.proofs.Keeping.SeenRead.{begun_read, stepped_read}
use Rattle.commit_book.proofs.Acting.SingleActs.{IsAt, doing_at, journal_at, low_at, slot_at}
use Rattle.commit_book.proofs.Threads.Standing.{MayMove, moved, put}
use Rattle.commit_book.proofs.Threads.Staying.{unfailed, unparked}
use Rattle.commit_book.proofs.Keeping.Unnamed.{beyond}

-- who is none of these
pub apart_from : (x t u : ℕ) → is_listed x (t ∷ u ∷ t ∷ []) ≡ false → (nat_eq x t ≡ false) × (nat_eq x u ≡ false)
apart_from x t u none = by (nat_eq x t) (nat_eq x u) none
  where
    by : (a b : Bool) → (a || (b || (a || false))) ≡ false → (a ≡ false) × (b ≡ false)
    by true b h = absurd (false≢true (sym h))
    by false true h = absurd (false≢true (sym h))
    by false false h = (refl, refl)

-- each line is itself
lines_stay : (old new : Lines) → new ≡ old → (c : ℕ) → IfSome (map.get old c) (λ (line : Line). map.get new c ≡ Some line)
lines_stay old new same c = subst (λ (m : Lines). IfSome (map.get old c) (λ (line : Line). map.get m c ≡ Some line)) (sym same) (itself (map.get old c))
  where
    itself : (o : Option Line) → IfSome o (λ (line : Line). o ≡ Some line)
    itself None = tt
    itself (Some line) = refl

none_mapped : {A B : Type 0} (f : A → B) (o : Option A) → option_map f o ≡ None → o ≡ None
none_mapped f None is = refl
none_mapped f (Some a) is = absurd (some_none is)

also_false : (b : Bool) → cond {A = ℕ} (b && not false) 1 0 ≡ one_if b
also_false true = refl
also_false false = refl

module _ (job : JobParts) (old : Parts) (lease : LeaseView) (progress : ProgressView) (may : MayAct job old lease progress) (planned begins : Parts) (before : AreAsBefore old planned)
    (longer : IsLonger planned.history begins.history lease.worker (local_of lease.thread progress.steps)) (rest : begins ≡ record planned { history = begins.history })
    (ready : IsReady (view_of job old) (view_of job begins) may.kept.shown.state (thread lease.thread) (expr_of job.program progress.end)) where
  abbrev here : IsAt old.slots.threads lease progress.origin
  here = slot_at job old lease progress may

  -- a step was pushed that is neither a cut nor a probe
  pub record IsStepped (new : Parts) (l : Label) (e : Effect Expr) : Type 0 where
    pub uncut : is_cut l ≡ false
    pub unprobed : probed_by (Step l) ≡ []
    pub may_step : MayStep begins.history.events ready.run ready.state l
    pub effect : effect_in (effect_of job.program) ready.state (next_seq (view_of job begins)) l ≡ Some e
    pub allowed : allows ready.state l ≡ true
    pub history : IsLonger begins.history new.history lease.worker (l ∷ [])
    pub step : IsStepOf (view_of job begins) (view_of job new) ready.run ready.state lease.worker l e
    pub rollback : new.rollback ≡ begins.rollback
    pub prints : IsPrintedBy begins.printed new.printed (length begins.history.events + 1) l

  -- nobody was put back
  pub put_back_by : (new : Parts) (l : Label) (e : Effect Expr) → IsStepped new l e → (u : ℕ) → generation u new.history.events ≡ generation u old.history.events
  put_back_by new l e is u = still_put_back begins.history.events new.history.events lease.worker l is.history.events u ∙ ready.generations u

  -- where threads stand that the act didn't move
  pub others_by : (l : Label) (e : Effect Expr) (u : ℕ) → touched l ≡ lease.thread ∷ u ∷ [] → (x : ℕ) → map.get (apply ready.state l e).threads x ≡ put lease.thread e.mine (put u e.other (λ k. map.get may.kept.shown.state.threads k)) x
  others_by l e u two x =
      apply_two ready.state l e lease.thread u two x
      ∙ (elim (nat_eq x lease.thread) as (λ b. nat_eq x lease.thread ≡ b → cond b (Some e.mine) (cond (nat_eq x u) (Some e.other) (map.get ready.state.threads x)) ≡ cond b (Some e.mine) (cond (nat_eq x u) (Some e.other) (map.get may.kept.shown.state.threads x))) [
        | true ↦ λ at. refl
        | false ↦ λ apart. ap (cond (nat_eq x u) (Some e.other)) (ready.others x apart)
      ] refl)

  -- what is kept, where the threads are shown
  pub kept_by : (new : Parts) (l : Label) (e : Effect Expr) → IsStepped new l e → ShowsThreads (view_of job new) (apply ready.state l e)
      → new.tallies ≡ record old.tallies { faulted = new.tallies.faulted } → new.tallies.faulted ≡ faulted_in job.program new.slots.threads new.slots.next → IsKept job new
  kept_by new l e is threads tallies faulted =
      let p = job.program in
      let none : length (probed_by (Step l)) ≡ 0 = ap length is.unprobed in
      let more : length (probed (begins.history.events ++ _)) ≡ length (probed begins.history.events) + length (probed_by (Step l)) = probes_now begins.history.events lease.worker l in
      record {
        valid = may.kept.valid;
        shown = record {
          run = ready.run ++ numbered (next_seq (view_of job begins)) l ∷ [];
          state = apply ready.state l e;
          shows = record {
            journal = journal_step (view_of job begins) (view_of job new) ready.run ready.state lease.worker l e ready.journal is.may_step is.effect is.allowed is.uncut is.step;
            threads = threads;
          };
        };
        tallied = record {
          probes =
              ap (λ k. k.probes) tallies
              ∙ may.kept.tallied.probes ∙ sym ready.probes
              ∙ (let same : length (probed begins.history.events) ≡ length (probed (begins.history.events ++ _)) = omega (arith, more, none) in same)
              ∙ sym (ap (λ es. length (probed es)) is.history.events);
          finals =
              ap (λ k. k.finals) tallies ∙ may.kept.tallied.finals ∙ sym ready.finals
              ∙ sym (finals_now p (without_spare begins.history) (without_spare new.history) ready.run ready.state l ready.journal.history is.uncut is.history.survivors);
          released = ap (λ k. k.released) tallies ∙ may.kept.tallied.released ∙ sym ready.released ∙ sym (released_now begins.history.events lease.worker l) ∙ sym (ap released is.history.events);
          undos = ap (λ k. k.undos) tallies ∙ may.kept.tallied.undos ∙ sym ready.undos ∙ sym (undos_now begins.history.events lease.worker l) ∙ sym (ap (count_by is_undo) is.history.events);
          faulted = faulted;
        };
        read =
            stepped_read begins new lease.worker l is.history is.uncut is.rollback
            (begun_read old planned begins lease.worker lease.thread progress.steps before longer rest may.kept.read);
        prints =
            stepped_prints begins new lease.worker l is.history is.uncut is.prints
            (begun_prints old planned begins lease.worker lease.thread progress.steps before longer rest may.kept.prints);
      }

  -- ---- a child is started

  -- the step was pushed and its node added, the child joined, and then the thread got its answer
  pub record IsSpawned (noted joined new : Parts) (u : ThreadId) (f : FnId) (child : ControlView) : Type 0 where
    pub looks : look_in job.program (expr_of job.program progress.end) ≡ act (spawns (called (body job.program) f.0 (operands_of progress.end)))
    pub number : u.0 ≡ old.slots.next
    pub stands : expr_of job.program child ≡ called (body job.program) f.0 (operands_of progress.end)
    pub fits : Fits job.program child
    pub history : IsLonger begins.history noted.history lease.worker (Spawn (thread lease.thread) u ∷ [])
    pub nodes : noted.graph.nodes ≡ begins.graph.nodes ++ record { number = next_seq (view_of job begins); kind = node.Spawn (thread lease.thread) u } ∷ []
    pub noted_rest : noted ≡ record begins { history = noted.history; graph = noted.graph }
    pub joins : HasJoined job.program noted joined child
    pub answers : HasAnswered job.program joined new lease.thread (answered (expr_of job.program progress.end) unit)

  module _ (noted joined new : Parts) (u : ThreadId) (f : FnId) (child : ControlView) (is : IsSpawned noted joined new u f child) where
    abbrev c : ControlView
    c = is.answers.control

    abbrev l : Label
    l = Spawn (thread lease.thread) u

    abbrev e : Effect Expr
    e = record { mine = answered (expr_of job.program progress.end) unit; other = called (body job.program) f.0 (operands_of progress.end); value = unit; printed = [] }

    noted_slots : noted.slots ≡ planned.slots
    noted_slots = ap (λ k. k.slots) is.noted_rest ∙ ap (λ k. k.slots) rest

    noted_tallies : noted.tallies ≡ old.tallies
    noted_tallies = ap (λ k. k.tallies) is.noted_rest ∙ ap (λ k. k.tallies) rest ∙ before.tallies

    -- the child has the next number
    noted_next : noted.slots.next ≡ u.0
    noted_next = ap (λ k. k.next) noted_slots ∙ before.next ∙ sym is.number

    below : lease.thread < u.0
    below = let low = low_at job old lease progress may in omega (arith, low, is.number)

    apart : nat_eq lease.thread u.0 ≡ false
    apart = differs_too lease.thread u.0 below

    joined_threads : joined.slots.threads ≡ map.insert old.slots.threads u.0 (started child (over job.program child))
    joined_threads =
        is.joins.threads
        ∙ ap (λ m. map.insert m noted.slots.next (started child (over job.program child))) (ap (λ k. k.threads) noted_slots ∙ before.threads)
        ∙ ap (λ n. map.insert old.slots.threads n (started child (over job.program child))) noted_next

    joined_queue : joined.slots.queue ≡ old.slots.queue ++ (if over job.program child then [] else u.0 ∷ [])
    joined_queue =
        is.joins.queue
        ∙ ap (λ q. q ++ (if over job.program child then [] else noted.slots.next ∷ [])) (ap (λ k. k.queue) noted_slots ∙ before.queue)
        ∙ ap (λ n. old.slots.queue ++ (if over job.program child then [] else n ∷ [])) noted_next

    threads_are : new.slots.threads ≡ changed (map.insert old.slots.threads u.0 (started child (over job.program child))) lease.thread (moved c (resting_state (over job.program c)))
    threads_are = is.answers.gone.threads ∙ ap (λ m. changed m lease.thread (moved c (resting_state (over job.program c)))) joined_threads

    next_is : new.slots.next ≡ u.0 + 1
    next_is = is.answers.gone.next ∙ is.joins.next ∙ ap (λ n. n + 1) noted_next

    whole : new ≡ record begins { history = noted.history; graph = noted.graph; slots = new.slots; tallies = new.tallies }
    whole =
        is.answers.gone.rest
        ∙ ap (λ (k : Parts). record k { slots = new.slots; tallies = new.tallies }) is.joins.rest
        ∙ ap (λ (k : Parts). record k { slots = new.slots; tallies = new.tallies }) is.noted_rest

    history_is : new.history ≡ noted.history
    history_is = ap (λ k. k.history) whole

    offers_are : new.offers ≡ old.offers
    offers_are = ap (λ k. k.offers) whole ∙ ap (λ k. k.offers) rest ∙ before.offers

    pushed_is : IsLonger begins.history new.history lease.worker (l ∷ [])
    pushed_is = subst (λ j. IsLonger begins.history j lease.worker (l ∷ [])) (sym history_is) is.history

    begins_next : (view_of job begins).next.thread ≡ u.0
    begins_next = ap (λ k. k.slots.next) rest ∙ before.next ∙ sym is.number

    view_is : view_of job new ≡ record (view_of job begins) {
      history = (view_of job new).history;
      threads = new.slots.threads;
      queue = new.slots.queue;
      offers = new.offers;
      nodes = new.graph.nodes;
      next = record (view_of job begins).next { thread = (view_of job begins).next.thread + 1 };
      answered = (view_of job new).answered;
    }
    view_is =
        ap (view_of job) whole
        ∙ ap (λ k. record (view_of job begins) {
          history = without_spare k.history;
          threads = new.slots.threads;
          queue = new.slots.queue;
          offers = k.offers;
          nodes = k.graph.nodes;
          next = record { thread = new.slots.next; chan = begins.next_chan; ref = begins.next_ref };
          answered = (view_of job new).answered;
        }) (sym whole)
        ∙ ap (λ n. record (view_of job begins) {
          history = (view_of job new).history;
          threads = new.slots.threads;
          queue = new.slots.queue;
          offers = new.offers;
          nodes = new.graph.nodes;
          next = record { thread = n; chan = begins.next_chan; ref = begins.next_ref };
          answered = (view_of job new).answered;
        }) (next_is ∙ ap (λ n. n + 1) (sym begins_next))

    begins_low : lease.thread < (view_of job begins).next.thread
    begins_low = omega (arith, below, begins_next)

    away : map.get ready.state.threads u.0 ≡ None
    away = ap (map.get ready.state.threads) (sym begins_next) ∙ thread_away (view_of job begins) ready.run ready.state ready.journal

    stepped : IsStepped new l e
    stepped = record {
      uncut = refl;
      rollback = ap (λ (k : Parts). k.rollback) whole;
      prints = unprinting begins.printed new.printed (length begins.history.events + 1) l refl (ap (λ (k : Parts). k.printed) whole);
      unprobed = refl;
      may_step = tt;
      effect = spawn_effect job.program ready.state (next_seq (view_of job begins)) (thread lease.thread) (expr_of job.program progress.end) ready.stands u (called (body job.program) f.0 (operands_of progress.end)) is.looks;
      allowed = ap (λ o. not (is_some o)) away;
      history = pushed_is;
      step = spawn_step (view_of job begins) (view_of job new) ready.run ready.state lease.worker ready.journal (thread lease.thread) u e (pushed_of job begins new lease.worker l pushed_is) begins_low (sym begins_next)
          (λ k. ap (λ b. map.contains_key b.offers.lines k) whole) refl (ap (λ k. k.graph.nodes) whole ∙ is.nodes) view_is;
    }

    free : map.get old.slots.threads u.0 ≡ None
    free =
        none_mapped (λ (k : Slot ControlView). expr_of job.program k.control) (map.get old.slots.threads u.0)
        (may.kept.shown.shows.threads.threads u.0 ∙ ap (map.get may.kept.shown.state.threads) is.number ∙ thread_away (view_of job old) may.kept.shown.run may.kept.shown.state (journal_at job old lease progress may))

    fresh : generation u.0 old.history.events ≡ 0
    fresh =
        let next = (journal_at job old lease progress may).next.thread in
        generation_fresh u.0 old.history.events (beyond (flat_map (λ (k : Event). threads_by k.what) old.history.events) 0 u.0 (omega (arith, next, is.number)))

    unoffered : offered job.program progress.end ≡ None
    unoffered = ap offer_at is.looks

    may_move : MayMove job.program old.slots.threads lease.thread c (resting_state (over job.program c))
    may_move = record {
      slot = here.slot;
      found = here.found;
      unparked = unparked job.program here.slot progress.origin progress.steps progress.end (doing_at job old lease progress may) here.control may.made unoffered;
      fits = is.answers.fits;
      ended = resting_ended (over job.program c);
      parked = resting_unparked (over job.program c);
    }

    may_add : MayAdd job.program old.slots.threads (λ k. generation k old.history.events) u.0 child (over job.program child)
    may_add = record { free = free; fresh = fresh; fits = is.fits; ended = refl }

    threads_shown : ShowsThreads (view_of job new) (apply ready.state l e)
    threads_shown =
        shows_started (view_of job old) (view_of job new) may.kept.shown.state (apply ready.state l e) refl may.kept.shown.shows.threads (put_back_by new l e stepped) is.answers.gone.sound.queue
        lease.thread u.0 c child (resting_state (over job.program c)) (over job.program child) apart may_move may_add offers_are threads_are (λ x.
        others_by l e u.0 refl x
        ∙ ap (λ a. put lease.thread a (put u.0 (called (body job.program) f.0 (operands_of progress.end)) (λ k. map.get may.kept.shown.state.threads k)) x) (sym is.answers.stands)
        ∙ ap (λ b. put lease.thread (expr_of job.program c) (put u.0 b (λ k. map.get may.kept.shown.state.threads k)) x) (sym is.stands))

    joined_here : map.get joined.slots.threads lease.thread ≡ Some here.slot
    joined_here = ap (λ m. map.get m lease.thread) joined_threads ∙ get_besides old.slots.threads u.0 lease.thread (started child (over job.program child)) apart ∙ here.found

    was_here : is.answers.before ≡ here.slot.control
    was_here = some_is (sym is.answers.was ∙ ap (option_map (λ (k : Slot ControlView). k.control)) joined_here)

    sound_before : is_failed (expr_of job.program here.slot.control) ≡ false
    sound_before =
        unfailed job.program here.slot progress.origin progress.steps progress.end (doing_at job old lease progress may) here.control may.made
        (act_goes_on job.program (expr_of job.program progress.end) (spawns (called (body job.program) f.0 (operands_of progress.end))) is.looks)

    tallies_are : new.tallies ≡ record old.tallies { faulted = old.tallies.faulted + fails_now false (is_failed (expr_of job.program child)) + fails_now (is_failed (expr_of job.program is.answers.before)) (is_failed (expr_of job.program c)) }
    tallies_are =
        is.answers.gone.tallies
        ∙ ap (λ (k : Tallies). record k { faulted = k.faulted + fails_now (is_failed (expr_of job.program is.answers.before)) (is_failed (expr_of job.program c)) })
        (is.joins.tallies ∙ ap (λ (k : Tallies). record k { faulted = k.faulted + fails_now false (is_failed (expr_of job.program child)) }) noted_tallies)

    faulted_is : new.tallies.faulted ≡ faulted_in job.program new.slots.threads new.slots.next
    faulted_is =
        let p = job.program in
        let m : FinMap nat_cmp (Slot ControlView) = map.insert old.slots.threads u.0 (started child (over p child)) in
        let there : map.get m lease.thread ≡ Some here.slot = get_besides old.slots.threads u.0 lease.thread (started child (over p child)) apart ∙ here.found in
        let goes = faulted_goes p m lease.thread (u.0 + 1) (moved c (resting_state (over p c))) here.slot there (omega (arith, below)) (λ failed. absurd (false≢true (sym sound_before ∙ failed))) in
        let adds = faulted_added p old.slots.threads u.0 (started child (over p child)) in
        let count = ap (λ k. k.faulted) tallies_are in
        let one = also_false (is_failed (expr_of p child)) in
        let two = ap (λ k. fails_now (is_failed (expr_of p k)) (is_failed (expr_of p c))) was_here in
        let base : old.tallies.faulted ≡ faulted_in p old.slots.threads u.0 = may.kept.tallied.faulted ∙ ap (faulted_in p old.slots.threads) (sym is.number) in
        let all : new.tallies.faulted ≡ faulted_in p (changed m lease.thread (moved c (resting_state (over p c)))) (u.0 + 1) = sum_of new.tallies.faulted old.tallies.faulted _ _ _ _ _ _ _ count base one two adds goes in
        all ∙ ap (λ k. faulted_in p k (u.0 + 1)) (sym threads_are) ∙ ap (faulted_in p new.slots.threads) (sym next_is)
      where
        sum_of : (n o a b a2 b2 f0 f1 f2 : ℕ) → n ≡ o + a + b → o ≡ f0 → a ≡ a2 → b ≡ b2 → f1 ≡ f0 + a2 → f2 ≡ f1 + b2 → n ≡ f2
        sum_of n o a b a2 b2 f0 f1 f2 h i j k x y = omega (arith, h, i, j, k, x, y)

    pub kept_spawned : IsKept job new
    kept_spawned = kept_by new l e stepped threads_shown (tallies_are ∙ ap (λ n. record old.tallies { faulted = n }) (sym (ap (λ k. k.faulted) tallies_are))) faulted_is

    pub done_spawned : IsDone job old new lease progress (starts old.slots.next)
    done_spawned = subst (λ n. IsDone job old new lease progress (starts n)) is.number (record {
      history = journal_after old.history planned.history begins.history new.history lease.worker (local_of lease.thread progress.steps) (l ∷ []) before.history longer pushed_is;
      queue = queue_started old.slots.threads new.slots.threads old.slots.queue joined.slots.queue new.slots.queue lease.thread u.0 c child (over job.program c) (over job.program child) here.slot apart here.found threads_are joined_queue is.answers.gone.queue;
      others = λ x none.
          let away = apart_from x lease.thread u.0 none in
          ap (λ m. map.get m x) threads_are
          ∙ get_other (map.insert old.slots.threads u.0 (started child (over job.program child))) lease.thread x (moved c (resting_state (over job.program c))) away.0
          ∙ get_besides old.slots.threads u.0 x (started child (over job.program child)) away.1;
      lines = lines_stay old.offers.lines new.offers.lines (ap (λ o. o.lines) offers_are);
      job = refl;
      answered = ap (λ k. record { commits = k.commits; stale = k.stale }) tallies_are;
    })
