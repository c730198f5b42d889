-- A commit of a thread that offers nothing and makes no step of an act: it goes on, or has ended.
use Rattle.std.proofs.Common.{◌≡◌, ℕ, ◌+◌, true, false, cond, nat_eq, [], ◌∷◌, ◌++◌, length, Some, None, refl, sym, ap, subst, ◌∙◌}
use Rattle.std.specs.Prelude.{IfSome, count_by, if◌then◌else◌}
use Rattle.std.specs.FinMap as map
use Rattle.std.proofs.lemmas.Bool.{false≢true, eqb-true}
use Rattle.linked_lists.specs.Lists.{without}
use Rattle.stab_base.specs.declared.numbers.ThreadId.{ThreadId}
use Rattle.stab_code.specs.JobParts.{JobParts}
use Rattle.stab_code.specs.Program.{ProgramParts}
use Rattle.stab_code.specs.Valid.{IsValid}
use Rattle.stab_journal.specs.Due.{final_prints, released}
use Rattle.stab_journal.specs.Generation.{generation}
use Rattle.stab_journal.specs.Journal.{survivors}
use Rattle.stab_journal.specs.Script.{probed}
use Rattle.thread_slots.specs.Slot.{Slot, changed}
use Rattle.rendezvous.specs.Line.{Line, Seen}
use Rattle.language.specs.Expression.{Expr}
use Rattle.language.specs.Plain.{look_in}
use Rattle.language.specs.Table.{Look, act, done, fault, pure}
use Rattle.step_eval.specs.ControlView.{ControlView, Fits, expr_of}
use Rattle.step_eval.specs.Progress.{ProgressView}
use Rattle.commit_book.specs.declared.counts.Tallies.{Tallies}
use Rattle.commit_book.specs.declared.parts.Parts.{Parts}
use Rattle.commit_book.specs.Acting.{AreAsBefore, HasGoneOn, IsDone, IsLonger, MayAct, fails_now, stands_at_none}
use Rattle.commit_book.specs.Book.{ShowsThreads, over}
use Rattle.commit_book.specs.Counts.{faulted_in, is_undo}
use Rattle.commit_book.specs.Doing.{is_failed, offer_at}
use Rattle.commit_book.specs.Layout.{IsKept, view_of}
use Rattle.commit_book.specs.Leases.{LeaseView}
use Rattle.commit_book.specs.Rows.{alone, local_of, thread}
use Rattle.commit_book.proofs.Threads.Adding.{resting_ended, resting_state, resting_unparked}
use Rattle.commit_book.proofs.Threads.Faulted.{faulted_goes}
use Rattle.commit_book.proofs.Threads.Going.{get_other, shows_one}
use Rattle.commit_book.proofs.Keeping.KeptLocal.{IsReady}
use Rattle.commit_book.proofs.Keeping.Prints.{begun_prints, still_prints}
use Rattle.commit_book.proofs.Threads.Queueing.{queue_one}
use Rattle.commit_book.proofs.Keeping.SeenAfter.{journal_after}
use Rattle.commit_book.proofs.Keeping.SeenRead.{begun_read, still_read}
use Rattle.commit_book.proofs.Acting.SingleActs.{IsAt, answers, doing_at, journal_beside, low_at, moved_on, not_listed, ready_at, slot_at}
use Rattle.commit_book.proofs.Acting.SingleCalls.{stood_so}
use Rattle.commit_book.proofs.Threads.Standing.{MayMove, moved, of_some, put}
use Rattle.commit_book.proofs.Threads.Staying.{ended_still, failed_over, unparked}
use Rattle.commit_book.proofs.Acting.WaitActs.{line_itself, none_more}

-- who stands at no act offers nothing
pub unoffering : (k : Look Expr) → stands_at_none k ≡ true → offer_at k ≡ None
unoffering (done v) h = refl
unoffering (fault f) h = refl
unoffering (pure e) h = refl
unoffering (act a) h = absurd (false≢true h)

module _ (job : JobParts) (old : Parts) (lease : LeaseView) (progress : ProgressView) (may : MayAct job old lease progress) (quiet : offer_at (look_in job.program (expr_of job.program progress.end)) ≡ None)
    (planned begins : Parts) (before : AreAsBefore old planned) (longer : IsLonger planned.history begins.history lease.worker (local_of lease.thread progress.steps)) (rest : begins ≡ record planned { history = begins.history }) where
  abbrev here : IsAt old.slots.threads lease progress.origin
  here = slot_at job old lease progress may

  abbrev ready : IsReady (view_of job old) (view_of job begins) may.kept.shown.state (thread lease.thread) (expr_of job.program progress.end)
  ready = ready_at job old lease progress may planned begins before longer rest

  -- who had failed has failed still
  failed_still : is_failed (expr_of job.program here.slot.control) ≡ true → is_failed (expr_of job.program progress.end) ≡ true
  failed_still failed =
      ap is_failed (ended_still job.program here.slot progress.origin progress.steps progress.end (doing_at job old lease progress may) here.control may.made (failed_over (expr_of job.program here.slot.control) failed)).same
      ∙ failed

  may_move : MayMove job.program old.slots.threads lease.thread progress.end (resting_state (over job.program progress.end))
  may_move = record {
    slot = here.slot;
    found = here.found;
    unparked =
        unparked job.program here.slot progress.origin progress.steps progress.end (doing_at job old lease progress may) here.control may.made quiet;
    fits = may.made.fits;
    ended = resting_ended (over job.program progress.end);
    parked = resting_unparked (over job.program progress.end);
  }

  state_is : (u : ℕ) → map.get ready.state.threads u ≡ put lease.thread (expr_of job.program progress.end) (λ k. map.get may.kept.shown.state.threads k) u
  state_is u =
      elim (nat_eq u lease.thread) as (λ b. nat_eq u lease.thread ≡ b → map.get ready.state.threads u ≡ cond b (Some (expr_of job.program progress.end)) (map.get may.kept.shown.state.threads u)) [
        | true ↦ λ at. ap (map.get ready.state.threads) (eqb-true u lease.thread at) ∙ ready.stands
        | false ↦ λ apart. ready.others u apart
      ] refl

  module _ (new : Parts) (was : ControlView) (stood : was ≡ here.slot.control) (gone : HasGoneOn job.program begins new lease.thread was progress.end) where
    begins_slots : begins.slots ≡ planned.slots
    begins_slots = ap (λ k. k.slots) rest

    threads_are : new.slots.threads ≡ changed old.slots.threads lease.thread (moved progress.end (resting_state (over job.program progress.end)))
    threads_are = gone.threads ∙ ap (λ m. changed m lease.thread (moved progress.end (resting_state (over job.program progress.end)))) (ap (λ k. k.threads) begins_slots ∙ before.threads)

    queue_is : new.slots.queue ≡ without lease.thread old.slots.queue ++ (if over job.program progress.end then [] else lease.thread ∷ [])
    queue_is = gone.queue ∙ ap (λ q. without lease.thread q ++ (if over job.program progress.end then [] else lease.thread ∷ [])) (ap (λ k. k.queue) begins_slots ∙ before.queue)

    next_is : new.slots.next ≡ old.slots.next
    next_is = gone.next ∙ ap (λ k. k.next) begins_slots ∙ before.next

    history_is : new.history ≡ begins.history
    history_is = ap (λ k. k.history) gone.rest

    offers_are : new.offers ≡ old.offers
    offers_are = ap (λ k. k.offers) gone.rest ∙ ap (λ k. k.offers) rest ∙ before.offers

    tallies_are : new.tallies ≡ record old.tallies { faulted = old.tallies.faulted + fails_now (is_failed (expr_of job.program was)) (is_failed (expr_of job.program progress.end)) }
    tallies_are =
        gone.tallies
        ∙ ap (λ (k : Tallies). record k { faulted = k.faulted + fails_now (is_failed (expr_of job.program was)) (is_failed (expr_of job.program progress.end)) }) (ap (λ k. k.tallies) rest ∙ before.tallies)

    view_is : view_of job new ≡ record (view_of job begins) { threads = new.slots.threads; queue = new.slots.queue; answered = (view_of job new).answered }
    view_is =
        let seen : view_of job new ≡ moved_on (view_of job begins) new.slots.threads new.slots.queue (answers new.tallies) new.slots.next = ap (view_of job) gone.rest in
        seen ∙ ap (moved_on (view_of job begins) new.slots.threads new.slots.queue (answers new.tallies)) gone.next

    threads_shown : ShowsThreads (view_of job new) ready.state
    threads_shown =
        shows_one (view_of job old) (view_of job new) may.kept.shown.state ready.state refl may.kept.shown.shows.threads
        (λ u. ap (λ j. generation u j.events) history_is ∙ ready.generations u) gone.sound.queue
        lease.thread progress.end (resting_state (over job.program progress.end)) may_move offers_are threads_are state_is

    pub kept_resting : IsKept job new
    kept_resting =
        let p = job.program in
        record {
          valid = may.kept.valid;
          shown = record {
            run = ready.run;
            state = ready.state;
            shows = record { journal = journal_beside (view_of job begins) (view_of job new) ready.run ready.state view_is ready.journal; threads = threads_shown };
          };
          tallied = record {
            probes = ap (λ k. k.probes) tallies_are ∙ may.kept.tallied.probes ∙ sym ready.probes ∙ sym (ap (λ j. length (probed j.events)) history_is);
            finals = ap (λ k. k.finals) tallies_are ∙ may.kept.tallied.finals ∙ sym ready.finals ∙ sym (ap (λ j. final_prints (survivors j)) history_is);
            released = ap (λ k. k.released) tallies_are ∙ may.kept.tallied.released ∙ sym ready.released ∙ sym (ap (λ j. released j.events) history_is);
            undos = ap (λ k. k.undos) tallies_are ∙ may.kept.tallied.undos ∙ sym ready.undos ∙ sym (ap (λ j. count_by is_undo j.events) history_is);
            faulted =
                ap (λ k. k.faulted) tallies_are
                ∙ ap (λ x. old.tallies.faulted + fails_now (is_failed (expr_of p x)) (is_failed (expr_of p progress.end))) stood
                ∙ ap (λ n. n + fails_now (is_failed (expr_of p here.slot.control)) (is_failed (expr_of p progress.end))) may.kept.tallied.faulted
                ∙ sym (faulted_goes p old.slots.threads lease.thread old.slots.next (moved progress.end (resting_state (over p progress.end))) here.slot here.found (low_at job old lease progress may) failed_still)
                ∙ ap (λ m. faulted_in p m old.slots.next) (sym threads_are)
                ∙ ap (faulted_in p new.slots.threads) (sym next_is);
          };
          read = still_read begins new history_is (ap (λ (k : Parts). k.rollback) gone.rest) (begun_read old planned begins lease.worker lease.thread progress.steps before longer rest may.kept.read);
          prints = still_prints begins new history_is (ap (λ (k : Parts). k.printed) gone.rest) (begun_prints old planned begins lease.worker lease.thread progress.steps before longer rest may.kept.prints);
        }

    pub done_resting : IsDone job old new lease progress (alone None)
    done_resting = record {
      history = journal_after old.history planned.history begins.history new.history lease.worker (local_of lease.thread progress.steps) [] before.history longer
          (subst (λ j. IsLonger begins.history j lease.worker []) (sym history_is) (none_more begins.history lease.worker));
      queue = queue_one old.slots.threads new.slots.threads old.slots.queue new.slots.queue lease.thread progress.end (over job.program progress.end) here.slot here.found threads_are queue_is;
      others = λ u no. ap (λ m. map.get m u) threads_are ∙ get_other old.slots.threads lease.thread u (moved progress.end (resting_state (over job.program progress.end))) (not_listed u lease.thread no);
      lines = λ k. subst (λ (o : Seen). IfSome (map.get old.offers.lines k) (λ (line : Line). map.get o.lines k ≡ Some line)) (sym offers_are) (line_itself (map.get old.offers.lines k));
      job = refl;
      answered = ap (λ (k : Tallies). answers k) tallies_are;
    }

  -- what the call that puts the thread there leaves, in the words of the lease and the progress
  pub gone_here : (new : Parts) (u : ThreadId) (was c : ControlView) → u.0 ≡ lease.thread → c ≡ progress.end → IfSome (map.get begins.slots.threads u.0) (λ (k : Slot ControlView). k.control ≡ was)
      → ((p : ProgramParts) → IsValid p → Fits p c → Fits p was → HasGoneOn p begins new u.0 was c)
      → (was ≡ here.slot.control) × HasGoneOn job.program begins new lease.thread was progress.end
  gone_here new u was c number end stood gone =
      let at : IfSome (map.get begins.slots.threads lease.thread) (λ (k : Slot ControlView). k.control ≡ was) = subst (λ (t : ℕ). IfSome (map.get begins.slots.threads t) (λ (k : Slot ControlView). k.control ≡ was)) number stood in
      let found : map.get begins.slots.threads lease.thread ≡ Some here.slot = ap (λ (k : Parts). map.get k.slots.threads lease.thread) rest ∙ ap (λ m. map.get m lease.thread) before.threads ∙ here.found in
      let same : was ≡ here.slot.control = stood_so (map.get begins.slots.threads lease.thread) here.slot was found at in
      let fitted : Fits job.program here.slot.control = of_some (map.get old.slots.threads lease.thread) here.slot (λ (k : Slot ControlView). Fits job.program k.control) here.found (may.kept.shown.shows.threads.fit lease.thread) in (
        same,
        subst (λ (x : ControlView). HasGoneOn job.program begins new lease.thread was x) end
            (subst (λ (t : ℕ). HasGoneOn job.program begins new t was c) number
            (gone job.program may.kept.valid (subst (Fits job.program) (sym end) may.made.fits) (subst (Fits job.program) (sym same) fitted))),
      )

  -- the thread is put where its progress ended
  pub rest_lasts : (new : Parts) (u : ThreadId) (was c : ControlView) → u.0 ≡ lease.thread → c ≡ progress.end → IfSome (map.get begins.slots.threads u.0) (λ (k : Slot ControlView). k.control ≡ was)
      → ((p : ProgramParts) → IsValid p → Fits p c → Fits p was → HasGoneOn p begins new u.0 was c)
      → IsDone job old new lease progress (alone None) × IsKept job new
  rest_lasts new u was c number end stood gone =
      let so = gone_here new u was c number end stood gone in
      (done_resting new was so.0 so.1, kept_resting new was so.0 so.1)
