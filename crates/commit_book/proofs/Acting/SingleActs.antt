-- A commit whose act moves no thread but its own.
use Rattle.std.proofs.Common.{◌≡◌, ℕ, ◌+◌, ◌<◌, ◌≤◌, Bool, true, false, cond, ◌||◌, nat_eq, List, [], ◌∷◌, ◌++◌, length, Some, None, refl, sym, ap, subst, ◌∙◌, arith}
use Rattle.std.specs.Prelude.{IfSome, IsSomeAnd, count_by, is_some, option_map, if◌then◌else◌}
use Rattle.std.specs.Ordering.{nat_cmp}
use Rattle.std.specs.FinMap as map
use Rattle.std.specs.FinMap.{FinMap}
use Rattle.std.proofs.lemmas.Bool.{false≢true}
use Rattle.linked_lists.specs.Lists.{is_listed, without}
use Rattle.stab_code.specs.JobParts.{JobParts}
use Rattle.stab_journal.specs.declared.event.Label.{Label}
use Rattle.stab_journal.specs.declared.event.Numbered.{Numbered}
use Rattle.stab_journal.specs.declared.event.What.TheVariants.{Step}
use Rattle.stab_journal.specs.Due.{released}
use Rattle.stab_journal.specs.Event.{IsName, weight_of}
use Rattle.stab_journal.specs.Floor.{is_cut}
use Rattle.stab_journal.specs.Generation.{generation}
use Rattle.stab_journal.specs.Label.{touched}
use Rattle.stab_journal.specs.Script.{probed, probed_by}
use Rattle.thread_slots.specs.Slot.{Slot, changed}
use Rattle.rendezvous.specs.Line.{Line}
use Rattle.language.specs.Expression.{Expr}
use Rattle.language.specs.Plain.{PlainState, standing}
use Rattle.language.specs.Steps.{Effect, apply}
use Rattle.step_eval.specs.ControlView.{ControlView, Fits, expr_of}
use Rattle.step_eval.specs.Progress.{ProgressView}
use Rattle.print_log.specs.Log.{Prints}
use Rattle.commit_book.specs.declared.counts.Tallies.{Tallies}
use Rattle.commit_book.specs.declared.parts.Parts.{Parts}
use Rattle.commit_book.specs.Acting.{AreAsBefore, HasGoneOn, IsDone, IsLonger, MayAct, MayBegin, fails_now}
use Rattle.commit_book.specs.Book.{Answered, BookView, ShowsJournal, offered, over}
use Rattle.commit_book.specs.Commits.{IsCurrent}
use Rattle.commit_book.specs.Counts.{faulted_in, is_undo}
use Rattle.commit_book.specs.Doing.{IsDoing, is_failed}
use Rattle.commit_book.specs.Layout.{IsKept, view_of, without_spare}
use Rattle.commit_book.specs.Leases.{LeaseView}
use Rattle.commit_book.specs.Rows.{alone, local_of, thread}
use Rattle.commit_book.specs.Step.{next_seq}
use Rattle.commit_book.proofs.Threads.Adding.{resting_ended, resting_state, resting_unparked}
use Rattle.commit_book.proofs.Keeping.SeenAfter.{begun_of, journal_after}
use Rattle.commit_book.proofs.Keeping.Prints.{IsPrintedBy, begun_prints, stepped_prints}
use Rattle.commit_book.proofs.Keeping.SeenRead.{begun_read, stepped_read}
use Rattle.commit_book.proofs.Threads.Faulted.{faulted_goes}
use Rattle.commit_book.proofs.Threads.Going.{apply_one, get_other, shows_alone, still_put_back}
use Rattle.commit_book.proofs.Keeping.JournalSteps.{numbered}
use Rattle.commit_book.proofs.Keeping.KeptLocal.{IsReady, begun}
use Rattle.commit_book.proofs.Keeping.KeptTallies.{finals_now, probes_now, released_now, undos_now}
use Rattle.commit_book.proofs.Threads.Queueing.{queue_one}
use Rattle.commit_book.proofs.Keeping.Room.{HasRoom, events_within, room_for_two, thread_name}
use Rattle.commit_book.proofs.Keeping.RoomHere.{thread_below}
use Rattle.commit_book.proofs.Keeping.RoomNames.{thread_from}
use Rattle.commit_book.proofs.Threads.Standing.{AreStanding, MayMove, moved, of_some, put}
use Rattle.commit_book.proofs.Threads.Staying.{unparked}

-- the slot of a thread whose lease is current
pub record IsAt (threads : FinMap nat_cmp (Slot ControlView)) (lease : LeaseView) (origin : ControlView) : Type 0 where
  pub slot : Slot ControlView
  pub found : map.get threads lease.thread ≡ Some slot
  pub generation : slot.generation ≡ lease.generation
  pub control : slot.control ≡ origin

pub current_at : (threads : FinMap nat_cmp (Slot ControlView)) (lease : LeaseView) (origin : ControlView) → IsCurrent threads lease origin → IsAt threads lease origin
current_at threads lease origin current =
    elim (map.get threads lease.thread) as (λ o. map.get threads lease.thread ≡ o → IsSomeAnd o (λ slot. (slot.generation ≡ lease.generation) × (slot.control ≡ origin)) → IsAt threads lease origin) [
      | None ↦ λ is h. absurd h
      | (Some slot) ↦ λ is h. record { slot = slot; found = is; generation = h.0; control = h.1 }
    ] refl current

-- threads, queue and answers aren't of what is kept of a run
pub journal_beside : (b other : BookView) (run : List Numbered) (s : PlainState) → other ≡ record b { threads = other.threads; queue = other.queue; answered = other.answered } → ShowsJournal b run s → ShowsJournal other run s
journal_beside b other run s same shown = subst (λ (k : BookView). ShowsJournal k run s) (sym same) (record {
  history = shown.history;
  script = shown.script;
  channels = shown.channels;
  writes = shown.writes;
  references = shown.references;
  printed = shown.printed;
  next = shown.next;
  few = shown.few;
  saved = shown.saved;
  saved_fit = shown.saved_fit;
  nodes = shown.nodes;
})

pub not_listed : (u t : ℕ) → is_listed u (t ∷ t ∷ []) ≡ false → nat_eq u t ≡ false
not_listed u t none = by (nat_eq u t) none
  where
    by : (b : Bool) → (b || (b || false)) ≡ false → b ≡ false
    by true h = absurd (false≢true (sym h))
    by false h = refl

abbrev pub answers : Tallies → Answered
answers k = record { commits = k.commits; stale = k.stale }

-- other threads, queue and answers, and another number for the next thread
abbrev pub moved_on : BookView → FinMap nat_cmp (Slot ControlView) → List ℕ → Answered → ℕ → BookView
moved_on b threads queue answered n = record b { threads = threads; queue = queue; answered = answered; next = record b.next { thread = n } }

module _ (job : JobParts) (old : Parts) (lease : LeaseView) (progress : ProgressView) (may : MayAct job old lease progress) where
  pub slot_at : IsAt old.slots.threads lease progress.origin
  slot_at = current_at old.slots.threads lease progress.origin may.current

  pub doing_at : IsDoing (over job.program) (offered job.program) slot_at.slot
  doing_at = of_some (map.get old.slots.threads lease.thread) slot_at.slot (IsDoing (over job.program) (offered job.program)) slot_at.found (may.kept.shown.shows.threads.doing lease.thread)

  pub journal_at : ShowsJournal (view_of job old) may.kept.shown.run may.kept.shown.state
  journal_at = may.kept.shown.shows.journal

  -- the thread stands where its progress began
  pub stands_there : standing may.kept.shown.state lease.thread ≡ Some (expr_of job.program progress.origin)
  stands_there =
      sym (may.kept.shown.shows.threads.threads lease.thread)
      ∙ ap (option_map (λ (k : Slot ControlView). expr_of job.program k.control)) slot_at.found
      ∙ ap (λ c. Some (expr_of job.program c)) slot_at.control

  pub room_at : HasRoom 2 old.history.events
  room_at = room_for_two old.history.events may.few (omega (arith, may.light, may.limits.fuel_within))

  pub low_at : lease.thread < old.slots.next
  low_at = thread_below (view_of job old) may.kept.shown.run may.kept.shown.state journal_at lease.thread (ap is_some stands_there)

  pub named_at : IsName lease.thread
  named_at =
      thread_name 1 old.history.events room_at old.slots.next old.next_chan old.next_ref journal_at.few lease.thread
      (thread_from job.program old.history.events may.kept.shown.run may.kept.shown.state journal_at.history.stands may.ranges lease.thread (ap is_some stands_there))
      (omega (arith, low_at))

  -- there can be room
  pub few_at : length old.history.events + 2 ≤ 4294967294
  few_at = omega (arith, events_within 1 old.history.events room_at)

  -- the pure steps can be pushed once there is room
  pub may_begin : (planned : Parts) → AreAsBefore old planned → 2 ≤ planned.history.spare → MayBegin planned.history lease.thread progress.steps
  may_begin planned before spare =
      let same : weight_of planned.history.events ≡ weight_of old.history.events = ap (λ j. weight_of j.events) before.history in
      record { name = named_at; steps = may.steps; spare = spare; weight = omega (arith, same, room_at.weight) }

  module _ (planned begins : Parts) (before : AreAsBefore old planned) (longer : IsLonger planned.history begins.history lease.worker (local_of lease.thread progress.steps)) (rest : begins ≡ record planned { history = begins.history }) where
    -- the book with the pure steps shows that the thread stands at the end of its progress
    pub ready_at : IsReady (view_of job old) (view_of job begins) may.kept.shown.state (thread lease.thread) (expr_of job.program progress.end)
    ready_at =
        begun (view_of job old) (view_of job begins) may.kept.shown.run may.kept.shown.state lease.worker (thread lease.thread) journal_at low_at room_at progress.steps progress.origin progress.end stands_there may.made
        (λ some. (named_at, (omega (arith, some), may.steps)))
        (begun_of job old planned begins lease.worker lease.thread progress.steps before longer rest)

    -- the step of the act was made by its calls, which leave the threads
    pub record IsStepped (done : Parts) (l : Label) (e : Effect Expr) : Type 0 where
      pub one : touched l ≡ lease.thread ∷ []
      pub uncut : is_cut l ≡ false
      pub history : IsLonger begins.history done.history lease.worker (l ∷ [])
      pub journal : ShowsJournal (view_of job done) (ready_at.run ++ numbered (next_seq (view_of job begins)) l ∷ []) (apply ready_at.state l e)
      pub slots : done.slots ≡ begins.slots
      pub rollback : done.rollback ≡ begins.rollback
      pub prints : IsPrintedBy begins.printed done.printed (length begins.history.events + 1) l
      pub probes : done.tallies ≡ record begins.tallies { probes = begins.tallies.probes + length (probed_by (Step l)) }

    -- so it was, and the thread, which stood at no offer and wasn't over, stands at the control c
    pub record IsActed (done new : Parts) (l : Label) (e : Effect Expr) (was c : ControlView) : Type 0 where
      pub stepped : IsStepped done l e
      pub unoffered : offered job.program progress.end ≡ None
      pub going : is_failed (expr_of job.program slot_at.slot.control) ≡ false
      pub lines : (k : ℕ) → IfSome (map.get old.offers.lines k) (λ (line : Line). map.get done.offers.lines k ≡ Some line)
      pub waiting : AreStanding job.program old.slots.threads done.offers (λ k. map.get may.kept.shown.state.threads k) (λ k. generation k old.history.events)
      pub mine : e.mine ≡ expr_of job.program c
      pub fits : Fits job.program c
      pub stood : was ≡ slot_at.slot.control
      pub gone : HasGoneOn job.program done new lease.thread was c

    module _ (done new : Parts) (l : Label) (e : Effect Expr) (was c : ControlView) (is : IsActed done new l e was c) where
      ended : Bool
      ended = over job.program c

      begins_slots : begins.slots ≡ planned.slots
      begins_slots = ap (λ k. k.slots) rest

      threads_now : new.slots.threads ≡ changed old.slots.threads lease.thread (moved c (resting_state (over job.program c)))
      threads_now =
          is.gone.threads
          ∙ ap (λ m. changed m lease.thread (moved c (resting_state (over job.program c)))) (ap (λ k. k.threads) is.stepped.slots ∙ ap (λ k. k.threads) begins_slots ∙ before.threads)

      queue_now : new.slots.queue ≡ without lease.thread old.slots.queue ++ (if over job.program c then [] else lease.thread ∷ [])
      queue_now =
          is.gone.queue
          ∙ ap (λ q. without lease.thread q ++ (if over job.program c then [] else lease.thread ∷ [])) (ap (λ k. k.queue) is.stepped.slots ∙ ap (λ k. k.queue) begins_slots ∙ before.queue)

      next_now : new.slots.next ≡ old.slots.next
      next_now = is.gone.next ∙ ap (λ k. k.next) is.stepped.slots ∙ ap (λ k. k.next) begins_slots ∙ before.next

      history_now : new.history ≡ done.history
      history_now = ap (λ k. k.history) is.gone.rest

      offers_now : new.offers ≡ done.offers
      offers_now = ap (λ k. k.offers) is.gone.rest

      tallies_now : new.tallies ≡ record old.tallies { probes = old.tallies.probes + length (probed_by (Step l)); faulted = old.tallies.faulted + fails_now (is_failed (expr_of job.program was)) (is_failed (expr_of job.program c)) }
      tallies_now =
          is.gone.tallies
          ∙ ap (λ (k : Tallies). record k { faulted = k.faulted + fails_now (is_failed (expr_of job.program was)) (is_failed (expr_of job.program c)) })
          (is.stepped.probes ∙ ap (λ (k : Tallies). record k { probes = k.probes + length (probed_by (Step l)) }) (ap (λ k. k.tallies) rest ∙ before.tallies))

      may_move : MayMove job.program old.slots.threads lease.thread c (resting_state (over job.program c))
      may_move = record {
        slot = slot_at.slot;
        found = slot_at.found;
        unparked =
            unparked job.program slot_at.slot progress.origin progress.steps progress.end doing_at slot_at.control may.made is.unoffered;
        fits = is.fits;
        ended = resting_ended (over job.program c);
        parked = resting_unparked (over job.program c);
      }

      longer_now : IsLonger begins.history new.history lease.worker (l ∷ [])
      longer_now = subst (λ j. IsLonger begins.history j lease.worker (l ∷ [])) (sym history_now) is.stepped.history

      state_now : (u : ℕ) → map.get (apply ready_at.state l e).threads u ≡ put lease.thread (expr_of job.program c) (λ k. map.get may.kept.shown.state.threads k) u
      state_now u =
          apply_one ready_at.state l e lease.thread is.stepped.one u
          ∙ ap (λ x. put lease.thread x (λ k. map.get ready_at.state.threads k) u) is.mine
          ∙ (elim (nat_eq u lease.thread) as (λ b. nat_eq u lease.thread ≡ b → cond b (Some (expr_of job.program c)) (map.get ready_at.state.threads u) ≡ cond b (Some (expr_of job.program c)) (map.get may.kept.shown.state.threads u)) [
            | true ↦ λ here. refl
            | false ↦ λ apart. ready_at.others u apart
          ] refl)

      pub done_alone : IsDone job old new lease progress (alone (Some l))
      done_alone = record {
        history = journal_after old.history planned.history begins.history new.history lease.worker (local_of lease.thread progress.steps) (l ∷ []) before.history longer longer_now;
        queue = queue_one old.slots.threads new.slots.threads old.slots.queue new.slots.queue lease.thread c (over job.program c) slot_at.slot slot_at.found threads_now queue_now;
        others = λ u none. ap (λ m. map.get m u) threads_now ∙ get_other old.slots.threads lease.thread u (moved c (resting_state (over job.program c))) (not_listed u lease.thread none);
        lines = λ k. subst (λ o. IfSome (map.get old.offers.lines k) (λ (line : Line). map.get o.lines k ≡ Some line)) (sym offers_now) (is.lines k);
        job = refl;
        answered = ap (λ (k : Tallies). answers k) tallies_now;
      }

      beside_now : view_of job new ≡ record (view_of job done) { threads = new.slots.threads; queue = new.slots.queue; answered = (view_of job new).answered }
      beside_now =
          let seen : view_of job new ≡ moved_on (view_of job done) new.slots.threads new.slots.queue (answers new.tallies) new.slots.next = ap (view_of job) is.gone.rest in
          seen ∙ ap (moved_on (view_of job done) new.slots.threads new.slots.queue (answers new.tallies)) is.gone.next

      pub kept_alone : IsKept job new
      kept_alone =
          let p = job.program in
          let shown = may.kept.shown in
          let after = apply ready_at.state l e in
          record {
            valid = may.kept.valid;
            shown = record {
              run = ready_at.run ++ numbered (next_seq (view_of job begins)) l ∷ [];
              state = after;
              shows = record {
                journal = journal_beside (view_of job done) (view_of job new) (ready_at.run ++ numbered (next_seq (view_of job begins)) l ∷ []) after beside_now is.stepped.journal;
                threads =
                    shows_alone (view_of job old) (view_of job new) shown.state after refl shown.shows.threads
                    (λ u. still_put_back begins.history.events new.history.events lease.worker l longer_now.events u ∙ ready_at.generations u)
                    is.gone.sound.queue lease.thread c (resting_state (over p c)) may_move
                    (subst (λ o. AreStanding p old.slots.threads o (λ k. map.get shown.state.threads k) (λ k. generation k old.history.events)) (sym offers_now) is.waiting)
                    threads_now state_now;
              };
            };
            tallied = record {
              probes =
                  ap (λ k. k.probes) tallies_now
                  ∙ ap (λ n. n + length (probed_by (Step l))) (may.kept.tallied.probes ∙ sym ready_at.probes)
                  ∙ sym (probes_now begins.history.events lease.worker l) ∙ sym (ap (λ es. length (probed es)) longer_now.events);
              finals =
                  ap (λ k. k.finals) tallies_now ∙ may.kept.tallied.finals ∙ sym ready_at.finals
                  ∙ sym (finals_now p (without_spare begins.history) (without_spare new.history) ready_at.run ready_at.state l ready_at.journal.history is.stepped.uncut longer_now.survivors);
              released = ap (λ k. k.released) tallies_now ∙ may.kept.tallied.released ∙ sym ready_at.released ∙ sym (released_now begins.history.events lease.worker l) ∙ sym (ap released longer_now.events);
              undos = ap (λ k. k.undos) tallies_now ∙ may.kept.tallied.undos ∙ sym ready_at.undos ∙ sym (undos_now begins.history.events lease.worker l) ∙ sym (ap (count_by is_undo) longer_now.events);
              faulted =
                  ap (λ k. k.faulted) tallies_now
                  ∙ ap (λ x. old.tallies.faulted + fails_now (is_failed (expr_of p x)) (is_failed (expr_of p c))) is.stood
                  ∙ ap (λ n. n + fails_now (is_failed (expr_of p slot_at.slot.control)) (is_failed (expr_of p c))) may.kept.tallied.faulted
                  ∙ sym (faulted_goes p old.slots.threads lease.thread old.slots.next (moved c (resting_state (over p c))) slot_at.slot slot_at.found low_at (λ failed. absurd (false≢true (sym is.going ∙ failed))))
                  ∙ ap (λ m. faulted_in p m old.slots.next) (sym threads_now)
                  ∙ ap (faulted_in p new.slots.threads) (sym next_now);
            };
            read =
                stepped_read begins new lease.worker l longer_now is.stepped.uncut (ap (λ (k : Parts). k.rollback) is.gone.rest ∙ is.stepped.rollback)
                (begun_read old planned begins lease.worker lease.thread progress.steps before longer rest may.kept.read);
            prints =
                stepped_prints begins new lease.worker l longer_now is.stepped.uncut
                (subst (λ (k : Prints). IsPrintedBy begins.printed k (length begins.history.events + 1) l) (sym (ap (λ (k : Parts). k.printed) is.gone.rest)) is.stepped.prints)
                (begun_prints old planned begins lease.worker lease.thread progress.steps before longer rest may.kept.prints);
          }
