-- A commit after which a thread waits.
use Rattle.std.proofs.Common.{◌≡◌, ℕ, ◌+◌, Bool, true, false, cond, ◌||◌, nat_eq, List, [], ◌∷◌, ◌++◌, length, Option, Some, None, refl, sym, ap, subst, ◌∙◌, append-nil, arith}
use Rattle.std.specs.Prelude.{IfSome, IsSome, count_by, is_some, option_map}
use Rattle.std.specs.FinMap as map
use Rattle.std.proofs.lemmas.Bool.{false≢true, eqb-true}
use Rattle.linked_lists.specs.Lists.{is_listed, without}
use Rattle.linked_lists.proofs.Leaving.{without-absent}
use Rattle.stab_code.specs.JobParts.{JobParts}
use Rattle.stab_journal.specs.declared.event.Numbered.{Numbered}
use Rattle.stab_journal.specs.Due.{final_prints, released}
use Rattle.stab_journal.specs.Generation.{generation}
use Rattle.stab_journal.specs.Journal.{Journal, survivors}
use Rattle.stab_journal.specs.Script.{probed}
use Rattle.thread_slots.specs.declared.state.State.TheVariants.{Parked}
use Rattle.thread_slots.specs.Slot.{IsSound, changed, same_state}
use Rattle.rendezvous.specs.declared.offer.Offer.{Offer}
use Rattle.rendezvous.specs.Line.{AreThere, Line, joined}
use Rattle.language.specs.Plain.{PlainState}
use Rattle.step_eval.specs.ControlView.{expr_of}
use Rattle.step_eval.specs.Progress.{ProgressView}
use Rattle.commit_book.specs.declared.parts.Parts.{Parts}
use Rattle.commit_book.specs.Acting.{AreAsBefore, IsDone, IsLonger, MayAct}
use Rattle.commit_book.specs.Book.{BookView, ShowsJournal, ShowsThreads, offered, over}
use Rattle.commit_book.specs.Counts.{faulted_in, is_undo}
use Rattle.commit_book.specs.Doing.{is_failed}
use Rattle.commit_book.specs.Layout.{IsKept, view_of}
use Rattle.commit_book.specs.Leases.{LeaseView}
use Rattle.commit_book.specs.Rows.{local_of, stays, stays_or_waits, thread, waits, events_by}
use Rattle.commit_book.proofs.Acting.EffectsAsked.{not_failed}
use Rattle.commit_book.proofs.Threads.Faulted.{faulted_same}
use Rattle.commit_book.proofs.Threads.Going.{get_other, shows_parked}
use Rattle.commit_book.proofs.Keeping.KeptLocal.{IsReady}
use Rattle.commit_book.proofs.Threads.Parking.{MayPark}
use Rattle.commit_book.proofs.Threads.Partners.{IsUnmet, no_offer, parked_unqueued, some_offer}
use Rattle.commit_book.proofs.Keeping.Prints.{begun_prints, still_prints}
use Rattle.commit_book.proofs.Keeping.SeenAfter.{journal_after}
use Rattle.commit_book.proofs.Keeping.SeenRead.{begun_read, still_read}
use Rattle.commit_book.proofs.Acting.SingleActs.{IsAt, doing_at, low_at, slot_at}
use Rattle.commit_book.proofs.Threads.Standing.{moved, put}
use Rattle.commit_book.proofs.Threads.Staying.{offering, parked_still, unfailed}

-- nothing but threads, queue, offers and answers has changed, and the channels are the same: what is kept of the run is shown as before
pub journal_beside : (old new : BookView) (run : List Numbered) (s : PlainState) → new ≡ record old { threads = new.threads; queue = new.queue; offers = new.offers; answered = new.answered }
    → ((c : ℕ) → map.contains_key new.offers.lines c ≡ map.contains_key old.offers.lines c) → ShowsJournal old run s → ShowsJournal new run s
journal_beside old new run s same there shown = subst (λ (b : BookView). ShowsJournal b run s) (sym same) (record {
  history = shown.history;
  script = shown.script;
  channels = λ c. there c ∙ shown.channels c;
  writes = shown.writes;
  references = shown.references;
  printed = shown.printed;
  next = shown.next;
  few = shown.few;
  saved = shown.saved;
  saved_fit = shown.saved_fit;
  nodes = shown.nodes;
})

same_there : (f : Line → Line) (o n : Option Line) → n ≡ option_map f o → is_some n ≡ is_some o
same_there f None n is = ap is_some is
same_there f (Some line) n is = ap is_some is

line_joins : (f : Line → Line) (o n : Option Line) → n ≡ option_map f o → IfSome o (λ (line : Line). n ≡ Some (f line))
line_joins f None n is = tt
line_joins f (Some line) n is = is

pub line_itself : (o : Option Line) → IfSome o (λ (line : Line). o ≡ Some line)
line_itself None = tt
line_itself (Some line) = refl

-- who is another one
not_him : (x t : ℕ) → is_listed x (t ∷ []) ≡ false → nat_eq x t ≡ false
not_him x t none = by (nat_eq x t) none
  where
    by : (a : Bool) → (a || false) ≡ false → a ≡ false
    by true h = absurd (false≢true (sym h))
    by false h = refl

-- nothing more was pushed
pub none_more : (j : Journal) (worker : ℕ) → IsLonger j j worker []
none_more j worker = record { events = sym (append-nil j.events); struck = refl; survivors = sym (append-nil (survivors j)); spare = spare_is j.spare }
  where
    spare_is : (n : ℕ) → n + 0 ≡ n
    spare_is n = omega arith

module _ (job : JobParts) (old : Parts) (lease : LeaseView) (progress : ProgressView) (may : MayAct job old lease progress) (offer : Offer) (offering_now : offered job.program progress.end ≡ Some offer) where
  abbrev here : IsAt old.slots.threads lease progress.origin
  here = slot_at job old lease progress may

  -- who offers isn't over
  pub going_on : over job.program progress.end ≡ false
  going_on =
      offering job.program here.slot progress.origin progress.steps progress.end (doing_at job old lease progress may) here.control may.made (subst (λ (o : Option Offer). IsSome o) (sym offering_now) refl)

  unfailed_before : is_failed (expr_of job.program here.slot.control) ≡ false
  unfailed_before = unfailed job.program here.slot progress.origin progress.steps progress.end (doing_at job old lease progress may) here.control may.made going_on

  -- ---- it waits already

  module _ (o : Offer) (already : map.get old.offers.offers lease.thread ≡ Some o) where
    parked_already : same_state Parked here.slot.state ≡ true
    parked_already = some_offer (offered job.program) old.slots.threads old.offers may.kept.shown.shows.threads.offers lease.thread here.slot here.found o already

    no_steps : progress.steps ≡ 0
    no_steps = (parked_still job.program here.slot progress.origin progress.steps progress.end (doing_at job old lease progress may) here.control may.made parked_already).none

    unqueued : is_listed lease.thread old.slots.queue ≡ false
    unqueued = parked_unqueued (offered job.program) old.slots.threads old.slots.queue lease.thread here.slot may.kept.shown.shows.threads.queue here.found parked_already

    nothing_pushed : (view_of job old).history ≡ record (view_of job old).history { events = old.history.events ++ [] }
    nothing_pushed = ap (λ es. record (view_of job old).history { events = es }) (sym (append-nil old.history.events))

    pub done_stays : IsDone job old old lease progress stays
    done_stays = record {
      history = subst (λ n. (view_of job old).history ≡ record (view_of job old).history { events = old.history.events ++ events_by lease.worker (local_of lease.thread n ++ []) }) (sym no_steps) nothing_pushed;
      queue = sym (append-nil (without lease.thread old.slots.queue) ∙ without-absent lease.thread old.slots.queue unqueued);
      others = λ x none. refl;
      lines = λ c. line_itself (map.get old.offers.lines c);
      job = refl;
      answered = refl;
    }

  -- it keeps its place where it has an offer
  pub done_already : is_some (map.get old.offers.offers lease.thread) ≡ true → IsDone job old old lease progress (stays_or_waits (view_of job old) lease.thread offer)
  done_already some = by (map.get old.offers.offers lease.thread) refl some
    where
      by : (o : Option Offer) → map.get old.offers.offers lease.thread ≡ o → is_some o ≡ true → IsDone job old old lease progress (stays_or_waits (view_of job old) lease.thread offer)
      by None is h = absurd (false≢true h)
      by (Some o) is h = subst (λ (b : Bool). IsDone job old old lease progress (cond b stays (waits offer))) (sym (ap is_some is)) (done_stays o is)

  -- ---- it begins to wait

  -- room was made and the offer parked, the pure steps were pushed, and then the thread was put aside
  pub record IsParked (planned begins new : Parts) : Type 0 where
    pub free : map.get old.offers.offers lease.thread ≡ None
    pub there : AreThere old.offers.lines offer
    pub unmet : IsUnmet old.offers.lines offer
    pub before : AreAsBefore old (record planned { offers = old.offers })
    pub lines : (c : ℕ) → map.get planned.offers.lines c ≡ option_map (joined lease.thread offer c) (map.get old.offers.lines c)
    pub offers : planned.offers.offers ≡ map.insert old.offers.offers lease.thread offer
    pub longer : IsLonger planned.history begins.history lease.worker (local_of lease.thread progress.steps)
    pub rest : begins ≡ record planned { history = begins.history }
    pub threads : new.slots.threads ≡ changed begins.slots.threads lease.thread (moved progress.end Parked)
    pub queue : new.slots.queue ≡ without lease.thread begins.slots.queue
    pub next : new.slots.next ≡ begins.slots.next
    pub sound : IsSound new.slots
    pub slots_alone : new ≡ record begins { slots = new.slots }

  module _ (planned begins new : Parts) (is : IsParked planned begins new) (ready : IsReady (view_of job old) (view_of job (record begins { offers = old.offers })) may.kept.shown.state (thread lease.thread) (expr_of job.program progress.end)) where
    begins_slots : begins.slots ≡ planned.slots
    begins_slots = ap (λ k. k.slots) is.rest

    threads_are : new.slots.threads ≡ changed old.slots.threads lease.thread (moved progress.end Parked)
    threads_are = is.threads ∙ ap (λ m. changed m lease.thread (moved progress.end Parked)) (ap (λ k. k.threads) begins_slots ∙ is.before.threads)

    queue_is : new.slots.queue ≡ without lease.thread old.slots.queue
    queue_is = is.queue ∙ ap (without lease.thread) (ap (λ k. k.queue) begins_slots ∙ is.before.queue)

    next_is : new.slots.next ≡ old.slots.next
    next_is = is.next ∙ ap (λ k. k.next) begins_slots ∙ is.before.next

    history_is : new.history ≡ begins.history
    history_is = ap (λ k. k.history) is.slots_alone

    tallies_are : new.tallies ≡ old.tallies
    tallies_are = ap (λ k. k.tallies) is.slots_alone ∙ ap (λ k. k.tallies) is.rest ∙ is.before.tallies

    offers_are : new.offers ≡ planned.offers
    offers_are = ap (λ k. k.offers) is.slots_alone ∙ ap (λ k. k.offers) is.rest

    lines_are : (c : ℕ) → map.get new.offers.lines c ≡ option_map (joined lease.thread offer c) (map.get old.offers.lines c)
    lines_are c = ap (λ o. map.get o.lines c) offers_are ∙ is.lines c

    view_is : view_of job new ≡ record (view_of job (record begins { offers = old.offers })) { threads = new.slots.threads; queue = new.slots.queue; offers = new.offers; answered = (view_of job new).answered }
    view_is =
        ap (view_of job) is.slots_alone
        ∙ ap (λ k. record (view_of job (record begins { offers = old.offers })) { threads = new.slots.threads; queue = new.slots.queue; offers = k.offers; next = record { thread = new.slots.next; chan = begins.next_chan; ref = begins.next_ref }; answered = (view_of job k).answered }) (sym is.slots_alone)
        ∙ ap (λ n. record (view_of job (record begins { offers = old.offers })) { threads = new.slots.threads; queue = new.slots.queue; offers = new.offers; next = record { thread = n; chan = begins.next_chan; ref = begins.next_ref }; answered = (view_of job new).answered }) is.next

    may_park : MayPark job.program old.slots.threads old.offers lease.thread progress.end offer
    may_park = record {
      slot = here.slot;
      found = here.found;
      unparked = no_offer (offered job.program) old.slots.threads old.offers may.kept.shown.shows.threads.offers lease.thread here.slot here.found (doing_at job old lease progress may) is.free;
      fits = may.made.fits;
      redex = may.made.found;
      offers = offering_now;
      there = is.there;
      nobody_receives = is.unmet.receives;
      nobody_sends = is.unmet.sends;
    }

    state_is : (u : ℕ) → map.get ready.state.threads u ≡ put lease.thread (expr_of job.program progress.end) (λ k. map.get may.kept.shown.state.threads k) u
    state_is u =
        elim (nat_eq u lease.thread) as (λ b. nat_eq u lease.thread ≡ b → map.get ready.state.threads u ≡ cond b (Some (expr_of job.program progress.end)) (map.get may.kept.shown.state.threads u)) [
          | true ↦ λ at. ap (map.get ready.state.threads) (eqb-true u lease.thread at) ∙ ready.stands
          | false ↦ λ apart. ready.others u apart
        ] refl

    threads_shown : ShowsThreads (view_of job new) ready.state
    threads_shown =
        shows_parked (view_of job old) (view_of job new) may.kept.shown.state ready.state refl may.kept.shown.shows.threads
        (λ u. ap (λ j. generation u j.events) history_is ∙ ready.generations u) is.sound.queue
        lease.thread progress.end offer may_park lines_are (ap (λ o. o.offers) offers_are ∙ is.offers) threads_are state_is

    pub kept_parked : IsKept job new
    kept_parked =
        let p = job.program in
        record {
          valid = may.kept.valid;
          shown = record {
            run = ready.run;
            state = ready.state;
            shows = record {
              journal = journal_beside (view_of job (record begins { offers = old.offers })) (view_of job new) ready.run ready.state view_is
                  (λ c. same_there (joined lease.thread offer c) (map.get old.offers.lines c) (map.get new.offers.lines c) (lines_are c)) ready.journal;
              threads = threads_shown;
            };
          };
          tallied = record {
            probes = ap (λ k. k.probes) tallies_are ∙ may.kept.tallied.probes ∙ sym ready.probes ∙ sym (ap (λ j. length (probed j.events)) history_is);
            finals = ap (λ k. k.finals) tallies_are ∙ may.kept.tallied.finals ∙ sym ready.finals ∙ sym (ap (λ j. final_prints (survivors j)) history_is);
            released = ap (λ k. k.released) tallies_are ∙ may.kept.tallied.released ∙ sym ready.released ∙ sym (ap (λ j. released j.events) history_is);
            undos = ap (λ k. k.undos) tallies_are ∙ may.kept.tallied.undos ∙ sym ready.undos ∙ sym (ap (λ j. count_by is_undo j.events) history_is);
            faulted =
                ap (λ k. k.faulted) tallies_are
                ∙ may.kept.tallied.faulted
                ∙ sym (faulted_same p old.slots.threads lease.thread old.slots.next (moved progress.end Parked) here.slot here.found (low_at job old lease progress may) (not_failed (expr_of p progress.end) going_on ∙ sym unfailed_before))
                ∙ ap (λ m. faulted_in p m old.slots.next) (sym threads_are)
                ∙ ap (faulted_in p new.slots.threads) (sym next_is);
          };
          read =
              still_read begins new history_is (ap (λ (k : Parts). k.rollback) is.slots_alone)
              (begun_read old (record planned { offers = old.offers }) (record begins { offers = old.offers }) lease.worker lease.thread progress.steps is.before is.longer (ap (λ (k : Parts). record k { offers = old.offers }) is.rest) may.kept.read);
          prints =
              still_prints begins new history_is (ap (λ (k : Parts). k.printed) is.slots_alone)
              (begun_prints old (record planned { offers = old.offers }) (record begins { offers = old.offers }) lease.worker lease.thread progress.steps is.before is.longer (ap (λ (k : Parts). record k { offers = old.offers }) is.rest) may.kept.prints);
        }

    pub done_parked : IsDone job old new lease progress (waits offer)
    done_parked = record {
      history = journal_after old.history planned.history begins.history new.history lease.worker (local_of lease.thread progress.steps) [] is.before.history is.longer
          (subst (λ j. IsLonger begins.history j lease.worker []) (sym history_is) (none_more begins.history lease.worker));
      queue = queue_is ∙ sym (append-nil (without lease.thread old.slots.queue));
      others = λ x none. ap (λ m. map.get m x) threads_are ∙ get_other old.slots.threads lease.thread x (moved progress.end Parked) (not_him x lease.thread none);
      lines = λ c. line_joins (joined lease.thread offer c) (map.get old.offers.lines c) (map.get new.offers.lines c) (lines_are c);
      job = refl;
      answered = ap (λ k. record { commits = k.commits; stale = k.stale }) tallies_are;
    }

    pub done_now : IsDone job old new lease progress (stays_or_waits (view_of job old) lease.thread offer)
    done_now = subst (λ (k : Option Offer). IsDone job old new lease progress (cond (is_some k) stays (waits offer))) (sym is.free) done_parked
