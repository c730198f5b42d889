-- A commit after which two threads have met.
use Rattle.std.proofs.Common.{◌≡◌, ℕ, ◌+◌, ◌<◌, true, false, nat_eq, [], ◌∷◌, ◌++◌, Option, Some, None, refl, sym, ap, subst, ◌∙◌, arith}
use Rattle.std.specs.Prelude.{IfSome, is_some, option_map, if◌then◌else◌}
use Rattle.std.specs.Ordering.{nat_cmp}
use Rattle.std.specs.FinMap as map
use Rattle.std.specs.FinMap.{FinMap}
use Rattle.std.proofs.lemmas.Bool.{false≢true}
use Rattle.linked_lists.specs.Lists.{without}
use Rattle.stab_code.specs.JobParts.{JobParts}
use Rattle.stab_journal.specs.declared.event.Label.{Label}
use Rattle.thread_slots.specs.declared.state.State.TheVariants.{Parked}
use Rattle.thread_slots.specs.Ready.{IsQueueOf}
use Rattle.thread_slots.specs.Slot.{Seen, Slot, changed, is_ready_at, same_state}
use Rattle.rendezvous.specs.Line.{Line, left}
use Rattle.language.specs.Expression.{Expr}
use Rattle.language.specs.Steps.{Effect, apply}
use Rattle.step_eval.specs.ControlView.{ControlView, Fits, expr_of}
use Rattle.step_eval.specs.Progress.{ProgressView}
use Rattle.commit_book.specs.declared.counts.Tallies.{Tallies}
use Rattle.commit_book.specs.declared.parts.Parts.{Parts}
use Rattle.commit_book.specs.Acting.{AreAsBefore, HasGoneOn, IsDone, IsLonger, MayAct, fails_now}
use Rattle.commit_book.specs.Book.{ShowsThreads, offered, over}
use Rattle.commit_book.specs.Counts.{faulted_in}
use Rattle.commit_book.specs.Doing.{IsDoing, is_failed, is_over}
use Rattle.commit_book.specs.Layout.{IsKept, view_of, without_spare}
use Rattle.commit_book.specs.Leases.{LeaseView}
use Rattle.commit_book.specs.Rows.{local_of, meets, thread}
use Rattle.commit_book.proofs.Threads.Adding.{resting_ended, resting_state, resting_unparked}
use Rattle.commit_book.proofs.Acting.EffectsAsked.{not_failed}
use Rattle.commit_book.proofs.Threads.Faulted.{faulted_goes}
use Rattle.commit_book.proofs.Threads.Going.{get_other, shows_met}
use Rattle.commit_book.proofs.Keeping.KeptLocal.{IsReady}
use Rattle.commit_book.proofs.Keeping.KeptParts.{lines_left}
use Rattle.commit_book.proofs.Acting.PairActs.{IsStepped, apart_from, kept_by, put_back_by}
use Rattle.commit_book.proofs.Threads.Parking.{MayLeave}
use Rattle.commit_book.proofs.Threads.Partners.{parked_not_ended, parked_unqueued}
use Rattle.commit_book.proofs.Threads.Queueing.{queue_met}
use Rattle.commit_book.proofs.Keeping.RoomHere.{thread_below}
use Rattle.commit_book.proofs.Keeping.SeenAfter.{journal_after}
use Rattle.commit_book.proofs.Acting.SingleActs.{IsAt, doing_at, journal_at, low_at, slot_at}
use Rattle.commit_book.proofs.Threads.Staying.{unfailed}
use Rattle.commit_book.proofs.Threads.Standing.{MayMove, moved, of_some, put}

line_leaves : (f : Line → Line) (o n : Option Line) → n ≡ option_map f o → IfSome o (λ (line : Line). n ≡ Some (f line))
line_leaves f None n is = tt
line_leaves f (Some line) n is = is

over_failed : (e : Expr) → is_over e ≡ false → is_failed e ≡ false
over_failed e going = not_failed e going

module _ (job : JobParts) (old : Parts) (lease : LeaseView) (progress : ProgressView) (may : MayAct job old lease progress) (planned begins : Parts) (before : AreAsBefore old planned)
    (longer : IsLonger planned.history begins.history lease.worker (local_of lease.thread progress.steps)) (rest : begins ≡ record planned { history = begins.history })
    (ready : IsReady (view_of job old) (view_of job begins) may.kept.shown.state (thread lease.thread) (expr_of job.program progress.end)) where
  abbrev here : IsAt old.slots.threads lease progress.origin
  here = slot_at job old lease progress may

  -- the step was pushed, the partner's offer withdrawn, and then the partner went on and the thread
  pub record HaveMoved (noted withdrawn first second new : Parts) (u : ℕ) (mate : Slot ControlView) (l : Label) (mine other was_other was_mine : ControlView) : Type 0 where
    pub unparked : same_state Parked here.slot.state ≡ false
    pub found : map.get old.slots.threads u ≡ Some mate
    pub parked : same_state Parked mate.state ≡ true
    pub apart : nat_eq lease.thread u ≡ false
    pub going : over job.program progress.end ≡ false
    pub mine_fits : Fits job.program mine
    pub other_fits : Fits job.program other
    pub history : IsLonger begins.history noted.history lease.worker (l ∷ [])
    pub noted_rest : noted ≡ record begins { history = noted.history; graph = noted.graph }
    pub lines : (c : ℕ) → map.get withdrawn.offers.lines c ≡ option_map (left u) (map.get noted.offers.lines c)
    pub offers : withdrawn.offers.offers ≡ map.remove noted.offers.offers u
    pub withdrawn_rest : withdrawn ≡ record noted { offers = withdrawn.offers }
    pub first_goes : HasGoneOn job.program withdrawn first u was_other other
    pub was_other_is : IfSome (map.get withdrawn.slots.threads u) (λ slot. slot.control ≡ was_other)
    pub second_goes : HasGoneOn job.program first second lease.thread was_mine mine
    pub was_mine_is : IfSome (map.get first.slots.threads lease.thread) (λ slot. slot.control ≡ was_mine)
    pub saved_rest : new ≡ record second { store = new.store }

  module _ (noted withdrawn first second new : Parts) (u : ℕ) (mate : Slot ControlView) (l : Label) (mine other was_other was_mine : ControlView) (is : HaveMoved noted withdrawn first second new u mate l mine other was_other was_mine) where
    withdrawn_slots : withdrawn.slots ≡ planned.slots
    withdrawn_slots = ap (λ k. k.slots) is.withdrawn_rest ∙ ap (λ k. k.slots) is.noted_rest ∙ ap (λ k. k.slots) rest

    withdrawn_threads : withdrawn.slots.threads ≡ old.slots.threads
    withdrawn_threads = ap (λ k. k.threads) withdrawn_slots ∙ before.threads

    withdrawn_tallies : withdrawn.tallies ≡ old.tallies
    withdrawn_tallies = ap (λ k. k.tallies) is.withdrawn_rest ∙ ap (λ k. k.tallies) is.noted_rest ∙ ap (λ k. k.tallies) rest ∙ before.tallies

    noted_offers : noted.offers ≡ old.offers
    noted_offers = ap (λ k. k.offers) is.noted_rest ∙ ap (λ k. k.offers) rest ∙ before.offers

    abbrev half : FinMap nat_cmp (Slot ControlView)
    half = changed old.slots.threads u (moved other (resting_state (over job.program other)))

    first_threads : first.slots.threads ≡ half
    first_threads = is.first_goes.threads ∙ ap (λ m. changed m u (moved other (resting_state (over job.program other)))) withdrawn_threads

    new_slots : new.slots ≡ second.slots
    new_slots = ap (λ k. k.slots) is.saved_rest

    threads_are : new.slots.threads ≡ changed half lease.thread (moved mine (resting_state (over job.program mine)))
    threads_are =
        ap (λ k. k.threads) new_slots ∙ is.second_goes.threads
        ∙ ap (λ m. changed m lease.thread (moved mine (resting_state (over job.program mine)))) first_threads

    first_queue : first.slots.queue ≡ without u old.slots.queue ++ (if over job.program other then [] else u ∷ [])
    first_queue =
        is.first_goes.queue
        ∙ ap (λ q. without u q ++ (if over job.program other then [] else u ∷ [])) (ap (λ k. k.queue) withdrawn_slots ∙ before.queue)

    new_queue : new.slots.queue ≡ without lease.thread first.slots.queue ++ (if over job.program mine then [] else lease.thread ∷ [])
    new_queue = ap (λ k. k.queue) new_slots ∙ is.second_goes.queue

    next_is : new.slots.next ≡ old.slots.next
    next_is = ap (λ k. k.next) new_slots ∙ is.second_goes.next ∙ is.first_goes.next ∙ ap (λ k. k.next) withdrawn_slots ∙ before.next

    until : second ≡ record begins { history = noted.history; graph = noted.graph; offers = withdrawn.offers; slots = second.slots; tallies = second.tallies }
    until =
        is.second_goes.rest
        ∙ ap (λ (k : Parts). record k { slots = second.slots; tallies = second.tallies }) is.first_goes.rest
        ∙ ap (λ (k : Parts). record k { slots = second.slots; tallies = second.tallies }) is.withdrawn_rest
        ∙ ap (λ (k : Parts). record k { offers = withdrawn.offers; slots = second.slots; tallies = second.tallies }) is.noted_rest

    whole : new ≡ record begins { history = noted.history; graph = noted.graph; offers = withdrawn.offers; slots = new.slots; tallies = new.tallies; store = new.store }
    whole =
        is.saved_rest
        ∙ ap (λ (k : Parts). record k { store = new.store }) until
        ∙ ap (λ x. record begins { history = noted.history; graph = noted.graph; offers = withdrawn.offers; slots = x; tallies = second.tallies; store = new.store }) (sym new_slots)
        ∙ ap (λ x. record begins { history = noted.history; graph = noted.graph; offers = withdrawn.offers; slots = new.slots; tallies = x; store = new.store }) (sym (ap (λ k. k.tallies) is.saved_rest))

    history_is : new.history ≡ noted.history
    history_is = ap (λ k. k.history) whole

    pub rollback_met : new.rollback ≡ begins.rollback
    rollback_met = ap (λ (k : Parts). k.rollback) whole

    pub printed_met : new.printed ≡ begins.printed
    printed_met = ap (λ (k : Parts). k.printed) whole

    offers_are : new.offers ≡ withdrawn.offers
    offers_are = ap (λ k. k.offers) whole

    pub pushed_met : IsLonger begins.history new.history lease.worker (l ∷ [])
    pushed_met = subst (λ j. IsLonger begins.history j lease.worker (l ∷ [])) (sym history_is) is.history

    lines_are : (c : ℕ) → map.get new.offers.lines c ≡ option_map (left u) (map.get old.offers.lines c)
    lines_are c = ap (λ o. map.get o.lines c) offers_are ∙ is.lines c ∙ ap (λ o. option_map (left u) (map.get o.lines c)) noted_offers

    pub channels_met : (c : ℕ) → map.contains_key new.offers.lines c ≡ map.contains_key begins.offers.lines c
    channels_met c =
        lines_left old.offers.lines new.offers.lines u lines_are c
        ∙ ap (λ o. map.contains_key o.lines c) (sym (ap (λ k. k.offers) rest ∙ before.offers))

    pub view_met : view_of job new ≡ record (view_of job begins) {
      history = (view_of job new).history;
      threads = new.slots.threads;
      queue = new.slots.queue;
      offers = new.offers;
      saved = new.store.controls;
      nodes = new.graph.nodes;
      answered = (view_of job new).answered;
    }
    view_met =
        ap (view_of job) whole
        ∙ ap (λ k. record (view_of job begins) {
          history = without_spare k.history;
          threads = new.slots.threads;
          queue = new.slots.queue;
          offers = k.offers;
          saved = new.store.controls;
          nodes = k.graph.nodes;
          next = record { thread = new.slots.next; chan = begins.next_chan; ref = begins.next_ref };
          answered = (view_of job new).answered;
        }) (sym whole)
        ∙ ap (λ n. record (view_of job begins) {
          history = (view_of job new).history;
          threads = new.slots.threads;
          queue = new.slots.queue;
          offers = new.offers;
          saved = new.store.controls;
          nodes = new.graph.nodes;
          next = record { thread = n; chan = begins.next_chan; ref = begins.next_ref };
          answered = (view_of job new).answered;
        }) (next_is ∙ sym (ap (λ k. k.slots.next) rest ∙ before.next))

    pub nodes_met : new.graph.nodes ≡ noted.graph.nodes
    nodes_met = ap (λ k. k.graph.nodes) whole

    may_move : MayMove job.program old.slots.threads lease.thread mine (resting_state (over job.program mine))
    may_move = record {
      slot = here.slot;
      found = here.found;
      unparked = is.unparked;
      fits = is.mine_fits;
      ended = resting_ended (over job.program mine);
      parked = resting_unparked (over job.program mine);
    }

    may_leave : MayLeave job.program old.slots.threads u other (resting_state (over job.program other))
    may_leave = record {
      slot = mate;
      found = is.found;
      fits = is.other_fits;
      ended = resting_ended (over job.program other);
      parked = resting_unparked (over job.program other);
    }

    -- the threads, where the state has both where they then stand
    pub threads_met : (e : Effect Expr) → IsStepped job old lease progress may planned begins before longer rest ready new l e
        → ((k : ℕ) → map.get (apply ready.state l e).threads k ≡ put lease.thread (expr_of job.program mine) (put u (expr_of job.program other) (λ x. map.get may.kept.shown.state.threads x)) k)
        → ShowsThreads (view_of job new) (apply ready.state l e)
    threads_met e stepped state =
        shows_met (view_of job old) (view_of job new) may.kept.shown.state (apply ready.state l e) refl may.kept.shown.shows.threads
        (put_back_by job old lease progress may planned begins before longer rest ready new l e stepped)
        (subst (λ (s : Seen ControlView). IsQueueOf (is_ready_at s.threads) s.queue) (sym new_slots) is.second_goes.sound.queue)
        lease.thread u mine other (resting_state (over job.program mine)) (resting_state (over job.program other)) is.apart may_move may_leave lines_are
        (ap (λ o. o.offers) offers_are ∙ is.offers ∙ ap (λ o. map.remove o.offers u) noted_offers) threads_are state

    here_before : is_failed (expr_of job.program here.slot.control) ≡ false
    here_before =
        unfailed job.program here.slot progress.origin progress.steps progress.end (doing_at job old lease progress may) here.control may.made is.going

    mate_before : is_failed (expr_of job.program mate.control) ≡ false
    mate_before =
        let doing = of_some (map.get old.slots.threads u) mate (IsDoing (over job.program) (offered job.program)) is.found (may.kept.shown.shows.threads.doing u) in
        over_failed (expr_of job.program mate.control) (sym doing.ended ∙ parked_not_ended mate.state is.parked)

    was_other_here : was_other ≡ mate.control
    was_other_here = sym (of_some (map.get withdrawn.slots.threads u) mate (λ slot. slot.control ≡ was_other) (ap (λ m. map.get m u) withdrawn_threads ∙ is.found) is.was_other_is)

    first_here : map.get first.slots.threads lease.thread ≡ Some here.slot
    first_here = ap (λ m. map.get m lease.thread) first_threads ∙ get_other old.slots.threads u lease.thread (moved other (resting_state (over job.program other))) is.apart ∙ here.found

    was_mine_here : was_mine ≡ here.slot.control
    was_mine_here = sym (of_some (map.get first.slots.threads lease.thread) here.slot (λ slot. slot.control ≡ was_mine) first_here is.was_mine_is)

    tallies_are : new.tallies ≡ record old.tallies { faulted = old.tallies.faulted + fails_now (is_failed (expr_of job.program was_other)) (is_failed (expr_of job.program other)) + fails_now (is_failed (expr_of job.program was_mine)) (is_failed (expr_of job.program mine)) }
    tallies_are =
        ap (λ k. k.tallies) is.saved_rest
        ∙ is.second_goes.tallies
        ∙ ap (λ (k : Tallies). record k { faulted = k.faulted + fails_now (is_failed (expr_of job.program was_mine)) (is_failed (expr_of job.program mine)) })
        (is.first_goes.tallies ∙ ap (λ (k : Tallies). record k { faulted = k.faulted + fails_now (is_failed (expr_of job.program was_other)) (is_failed (expr_of job.program other)) }) withdrawn_tallies)

    mate_below : u < old.slots.next
    mate_below =
        thread_below (view_of job old) may.kept.shown.run may.kept.shown.state (journal_at job old lease progress may) u
        (ap is_some (sym (may.kept.shown.shows.threads.threads u) ∙ ap (option_map (λ (k : Slot ControlView). expr_of job.program k.control)) is.found))

    faulted_is : new.tallies.faulted ≡ faulted_in job.program new.slots.threads new.slots.next
    faulted_is =
        let p = job.program in
        let n = old.slots.next in
        let one = faulted_goes p old.slots.threads u n (moved other (resting_state (over p other))) mate is.found mate_below (λ failed. absurd (false≢true (sym mate_before ∙ failed))) in
        let two = faulted_goes p half lease.thread n (moved mine (resting_state (over p mine))) here.slot
        (get_other old.slots.threads u lease.thread (moved other (resting_state (over p other))) is.apart ∙ here.found) (low_at job old lease progress may) (λ failed. absurd (false≢true (sym here_before ∙ failed))) in
        let count = ap (λ k. k.faulted) tallies_are in
        let a = ap (λ k. fails_now (is_failed (expr_of p k)) (is_failed (expr_of p other))) was_other_here in
        let b = ap (λ k. fails_now (is_failed (expr_of p k)) (is_failed (expr_of p mine))) was_mine_here in
        sum_of new.tallies.faulted old.tallies.faulted _ _ _ _ _ _ _ count may.kept.tallied.faulted a b one two
        ∙ ap (λ m. faulted_in p m n) (sym threads_are) ∙ ap (faulted_in p new.slots.threads) (sym next_is)
      where
        sum_of : (n o a b a2 b2 f0 f1 f2 : ℕ) → n ≡ o + a + b → o ≡ f0 → a ≡ a2 → b ≡ b2 → f1 ≡ f0 + a2 → f2 ≡ f1 + b2 → n ≡ f2
        sum_of n o a b a2 b2 f0 f1 f2 h i j k x y = omega (arith, h, i, j, k, x, y)

    pub kept_met : (e : Effect Expr) → IsStepped job old lease progress may planned begins before longer rest ready new l e
        → ((k : ℕ) → map.get (apply ready.state l e).threads k ≡ put lease.thread (expr_of job.program mine) (put u (expr_of job.program other) (λ x. map.get may.kept.shown.state.threads x)) k) → IsKept job new
    kept_met e stepped state =
        kept_by job old lease progress may planned begins before longer rest ready new l e stepped (threads_met e stepped state)
        (tallies_are ∙ ap (λ n. record old.tallies { faulted = n }) (sym (ap (λ k. k.faulted) tallies_are))) faulted_is

    pub done_met : IsDone job old new lease progress (meets u l)
    done_met = record {
      history = journal_after old.history planned.history begins.history new.history lease.worker (local_of lease.thread progress.steps) (l ∷ []) before.history longer pushed_met;
      queue = queue_met old.slots.threads new.slots.threads old.slots.queue first.slots.queue new.slots.queue lease.thread u mine other (over job.program mine) (over job.program other) here.slot mate is.apart here.found is.found
          (parked_unqueued (offered job.program) old.slots.threads old.slots.queue u mate may.kept.shown.shows.threads.queue is.found is.parked) threads_are first_queue new_queue;
      others = λ x none.
          let away = apart_from x lease.thread u none in
          ap (λ m. map.get m x) threads_are
          ∙ get_other half lease.thread x (moved mine (resting_state (over job.program mine))) away.0
          ∙ get_other old.slots.threads u x (moved other (resting_state (over job.program other))) away.1;
      lines = λ c. line_leaves (left u) (map.get old.offers.lines c) (map.get new.offers.lines c) (lines_are c);
      job = refl;
      answered = ap (λ k. record { commits = k.commits; stale = k.stale }) tallies_are;
    }
