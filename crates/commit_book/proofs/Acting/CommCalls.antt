-- What the calls leave by which two threads meet.
use Rattle.std.proofs.Common.{◌≡◌, ◌≢◌, ◌⊎◌, inl, inr, ℕ, ◌+◌, ◌<◌, Bool, true, false, nat_eq, [], ◌∷◌, ◌++◌, length, Some, sym, ap, subst, ◌∙◌}
use Rattle.std.specs.Prelude.{IfSome, IsSome, is_some, option_map}
use Rattle.std.specs.Cmp.{nat_eq_equiv}
use Rattle.std.specs.FinMap as map
use Rattle.std.proofs.lemmas.Bool.{false≢true}
use Rattle.stab_base.specs.declared.numbers.Seq.{Seq}
use Rattle.stab_base.specs.declared.numbers.ThreadId.{ThreadId}
use Rattle.stab_code.specs.JobParts.{JobParts}
use Rattle.stab_code.specs.Program.{ProgramParts}
use Rattle.stab_code.specs.Valid.{IsValid}
use Rattle.stab_journal.specs.declared.event.Label.TheVariants.{Comm}
use Rattle.checkpoint_store.specs.Saved.{Saved, saved_at}
use Rattle.comm_graph.specs.declared.node.NodeFor.TheVariants as node
use Rattle.thread_slots.specs.Slot.{changed}
use Rattle.rendezvous.specs.declared.offer.Offer.{Offer}
use Rattle.rendezvous.specs.Line.{left}
use Rattle.step_eval.specs.ControlView.{ControlView, Fits, expr_of}
use Rattle.step_eval.specs.Progress.{ProgressView}
use Rattle.commit_book.specs.declared.exchange.Meeting.{Meeting}
use Rattle.commit_book.specs.declared.parts.Parts.{Parts}
use Rattle.commit_book.specs.Acting.{AreAsBefore, HasGoneOn, IsDone, IsLonger, MayAct, fails_now}
use Rattle.commit_book.specs.Book.{offered, over}
use Rattle.commit_book.specs.Doing.{is_failed}
use Rattle.commit_book.specs.Layout.{IsKept, view_of}
use Rattle.commit_book.specs.Leases.{LeaseView}
use Rattle.commit_book.specs.Meetings.{AreBothSaved, HaveMet, HaveMetAs, meeting_of, partner_in, row_for}
use Rattle.commit_book.specs.Rows.{local_of, thread}
use Rattle.commit_book.specs.Step.{next_seq}
use Rattle.commit_book.proofs.Threads.Adding.{resting_state}
use Rattle.commit_book.proofs.Threads.Going.{get_other}
use Rattle.commit_book.proofs.Keeping.KeptLocal.{IsReady}
use Rattle.commit_book.proofs.Acting.MeetActs.{HaveMoved}
use Rattle.commit_book.proofs.Acting.MeetCalls.{HaveCalled, done_called, kept_called}
use Rattle.commit_book.proofs.Acting.MeetNeeds.{MayMeet, may_meet}
use Rattle.commit_book.proofs.Acting.PairNeeds.{chan_low, few_now, few_then}
use Rattle.commit_book.proofs.Keeping.RoomKept.{saved_before}
use Rattle.commit_book.proofs.Acting.SingleActs.{doing_at, ready_at, slot_at}
use Rattle.commit_book.proofs.Threads.Standing.{moved, of_some}
use Rattle.commit_book.proofs.Threads.Staying.{offering}

abbrev seq : ℕ → Seq
seq q = record { 0 = q }

-- both of a meeting fit
own_fits : (b : Bool) (p : ProgramParts) (c : ℕ) (mine other my_next other_next : ControlView) → HaveMetAs b p c mine other my_next other_next → Fits p my_next
own_fits true p c mine other my_next other_next is = is.sender_fits
own_fits false p c mine other my_next other_next is = is.receiver_fits

mate_fits : (b : Bool) (p : ProgramParts) (c : ℕ) (mine other my_next other_next : ControlView) → HaveMetAs b p c mine other my_next other_next → Fits p other_next
mate_fits true p c mine other my_next other_next is = is.receiver_fits
mate_fits false p c mine other my_next other_next is = is.sender_fits

-- whose numbers differ are different threads
pub apart_numbers : (t u : ℕ) → nat_eq t u ≡ false → t ≢ u
apart_numbers t u apart same = false≢true (sym apart ∙ ap (nat_eq t) (sym same) ∙ nat_eq_equiv.refl t)

module _ (job : JobParts) (old : Parts) (lease : LeaseView) (progress : ProgressView) (may : MayAct job old lease progress) (offer : Offer) (offering_now : offered job.program progress.end ≡ Some offer) (m : Meeting) (meets : meeting_of old.offers.lines lease.thread offer ≡ Some m)
    (planned begins noted withdrawn : Parts) (before : AreAsBefore old planned) (longer : IsLonger planned.history begins.history lease.worker (local_of lease.thread progress.steps)) (rest : begins ≡ record planned { history = begins.history })
    (noted_rest : noted ≡ record begins { history = noted.history; graph = noted.graph }) (withdrawn_rest : withdrawn ≡ record noted { offers = withdrawn.offers }) where
  abbrev two : MayMeet job old lease progress may offer offering_now m meets
  two = may_meet job old lease progress may offer offering_now m meets

  ready : IsReady (view_of job old) (view_of job begins) may.kept.shown.state (thread lease.thread) (expr_of job.program progress.end)
  ready = ready_at job old lease progress may planned begins before longer rest

  withdrawn_threads : withdrawn.slots.threads ≡ old.slots.threads
  withdrawn_threads = ap (λ (k : Parts). k.slots.threads) withdrawn_rest ∙ ap (λ (k : Parts). k.slots.threads) noted_rest ∙ ap (λ (k : Parts). k.slots.threads) rest ∙ before.threads

  withdrawn_count : withdrawn.tallies.faulted ≡ old.tallies.faulted
  withdrawn_count = ap (λ (k : Parts). k.tallies.faulted) withdrawn_rest ∙ ap (λ (k : Parts). k.tallies.faulted) noted_rest ∙ ap (λ (k : Parts). k.tallies.faulted) rest ∙ ap (λ k. k.faulted) before.tallies

  -- the partner is there
  pub mate_there : (u : ℕ) → u ≡ partner_in lease.thread m → IsSome (map.get withdrawn.slots.threads u)
  mate_there u at = ap is_some (ap (map.get withdrawn.slots.threads) at ∙ ap (λ k. map.get k (partner_in lease.thread m)) withdrawn_threads ∙ two.found)

  pub few_first : withdrawn.tallies.faulted < 4294967296
  few_first = few_now job old lease progress may withdrawn.tallies.faulted withdrawn_count

  module _ (mine other was_other : ControlView) (t u : ℕ) (p : ProgramParts) (given : ControlView) (p_is : p ≡ job.program) (t_is : t ≡ lease.thread) (u_is : u ≡ partner_in t m) (given_is : given ≡ progress.end)
      (met : IfSome (map.get old.slots.threads (partner_in t m)) (λ slot. HaveMet p t m given slot.control mine other))
      (first : Parts) (was_other_is : IfSome (map.get withdrawn.slots.threads u) (λ slot. slot.control ≡ was_other)) (first_goes : (k : ProgramParts) → IsValid k → Fits k other → Fits k was_other → HasGoneOn k withdrawn first u was_other other) where
    mate_is : u ≡ partner_in lease.thread m
    mate_is = u_is ∙ ap (λ (k : ℕ). partner_in k m) t_is

    met_here : HaveMet job.program lease.thread m progress.end two.slot.control mine other
    met_here =
        of_some (map.get old.slots.threads (partner_in lease.thread m)) two.slot (λ slot. HaveMet job.program lease.thread m progress.end slot.control mine other) two.found
        (subst (λ (k : ControlView). IfSome (map.get old.slots.threads (partner_in lease.thread m)) (λ slot. HaveMet job.program lease.thread m k slot.control mine other)) given_is
        (subst (λ (k : ProgramParts). IfSome (map.get old.slots.threads (partner_in lease.thread m)) (λ slot. HaveMet k lease.thread m given slot.control mine other)) p_is
        (subst (λ (k : ℕ). IfSome (map.get old.slots.threads (partner_in k m)) (λ slot. HaveMet p k m given slot.control mine other)) t_is met)))

    mine_fits : Fits job.program mine
    mine_fits = own_fits (nat_eq m.sender.0 lease.thread) job.program m.chan.0 progress.end two.slot.control mine other met_here

    other_fits : Fits job.program other
    other_fits = mate_fits (nat_eq m.sender.0 lease.thread) job.program m.chan.0 progress.end two.slot.control mine other met_here

    was_other_here : IfSome (map.get withdrawn.slots.threads (partner_in lease.thread m)) (λ slot. slot.control ≡ was_other)
    was_other_here = subst (λ (k : ℕ). IfSome (map.get withdrawn.slots.threads k) (λ slot. slot.control ≡ was_other)) mate_is was_other_is

    was_other_at : was_other ≡ two.slot.control
    was_other_at =
        sym (of_some (map.get withdrawn.slots.threads (partner_in lease.thread m)) two.slot (λ slot. slot.control ≡ was_other) (ap (λ k. map.get k (partner_in lease.thread m)) withdrawn_threads ∙ two.found) was_other_here)

    was_other_fits : Fits job.program was_other
    was_other_fits =
        subst (Fits job.program) (sym was_other_at) (of_some (map.get old.slots.threads (partner_in lease.thread m)) two.slot (λ s. Fits job.program s.control) two.found (may.kept.shown.shows.threads.fit (partner_in lease.thread m)))

    goes : HasGoneOn job.program withdrawn first (partner_in lease.thread m) was_other other
    goes = subst (λ (k : ℕ). HasGoneOn job.program withdrawn first k was_other other) mate_is (first_goes job.program may.kept.valid other_fits was_other_fits)

    first_found : map.get first.slots.threads lease.thread ≡ Some (slot_at job old lease progress may).slot
    first_found =
        ap (λ k. map.get k lease.thread) (goes.threads ∙ ap (λ k. changed k (partner_in lease.thread m) (moved other (resting_state (over job.program other)))) withdrawn_threads)
        ∙ get_other old.slots.threads (partner_in lease.thread m) lease.thread (moved other (resting_state (over job.program other))) two.apart
        ∙ (slot_at job old lease progress may).found

    -- the thread is still there once its partner has gone on
    pub own_there : IsSome (map.get first.slots.threads t)
    own_there = ap is_some (ap (map.get first.slots.threads) t_is ∙ first_found)

    pub few_second : first.tallies.faulted < 4294967296
    few_second =
        few_then job old lease progress may first.tallies.faulted (is_failed (expr_of job.program was_other)) (is_failed (expr_of job.program other))
        (ap (λ k. k.faulted) goes.tallies ∙ ap (λ (n : ℕ). n + fails_now (is_failed (expr_of job.program was_other)) (is_failed (expr_of job.program other))) withdrawn_count)

    pub two_apart : t ≢ u
    two_apart same = apart_numbers lease.thread (partner_in lease.thread m) two.apart (sym t_is ∙ same ∙ mate_is)

    module _ (second : Parts) (was_mine : ControlView) (was_mine_is : IfSome (map.get first.slots.threads t) (λ slot. slot.control ≡ was_mine)) (second_goes : (k : ProgramParts) → IsValid k → Fits k mine → Fits k was_mine → HasGoneOn k first second t was_mine mine)
        (q : Seq) (q_is : q.0 ≡ length begins.history.events + 1) where
      was_mine_here : IfSome (map.get first.slots.threads lease.thread) (λ slot. slot.control ≡ was_mine)
      was_mine_here = subst (λ (k : ℕ). IfSome (map.get first.slots.threads k) (λ slot. slot.control ≡ was_mine)) t_is was_mine_is

      was_mine_fits : Fits job.program was_mine
      was_mine_fits =
          subst (Fits job.program) (of_some (map.get first.slots.threads lease.thread) (slot_at job old lease progress may).slot (λ slot. slot.control ≡ was_mine) first_found was_mine_here)
          (of_some (map.get old.slots.threads lease.thread) (slot_at job old lease progress may).slot (λ s. Fits job.program s.control) (slot_at job old lease progress may).found (may.kept.shown.shows.threads.fit lease.thread))

      goes_then : HasGoneOn job.program first second lease.thread was_mine mine
      goes_then = subst (λ (k : ℕ). HasGoneOn job.program first second k was_mine mine) t_is (second_goes job.program may.kept.valid mine_fits was_mine_fits)

      pub store_still : second.store ≡ begins.store
      store_still =
          ap (λ (k : Parts). k.store) goes_then.rest ∙ ap (λ (k : Parts). k.store) goes.rest
          ∙ ap (λ (k : Parts). k.store) withdrawn_rest ∙ ap (λ (k : Parts). k.store) noted_rest

      -- what was saved is of earlier events
      pub saved_low : (r : Seq) (x : ThreadId) → IsSome (saved_at second.store r x) → r.0 < q.0
      saved_low r x there =
          subst (λ (n : ℕ). r.0 < n) (sym q_is)
          (saved_before (view_of job begins) ready.run ready.state ready.journal r.0 x.0 (subst (λ (st : Saved ControlView). IsSome (saved_at st r x)) store_still there))

      module _ (end : ControlView) (end_is : end ≡ progress.end) (me him : ThreadId) (me_is : me.0 ≡ t) (him_is : him.0 ≡ u)
          (pushed : IsLonger begins.history noted.history lease.worker (Comm m.sender m.receiver m.chan ∷ [])) (nodes : noted.graph.nodes ≡ begins.graph.nodes ++ record { number = q.0; kind = node.Comm m.sender m.receiver } ∷ [])
          (lines : (c : ℕ) → map.get withdrawn.offers.lines c ≡ option_map (left u) (map.get noted.offers.lines c)) (offers : withdrawn.offers.offers ≡ map.remove noted.offers.offers u)
          (new : Parts) (saved_rest : new ≡ record second { store = new.store })
          (saved : AreBothSaved second.store new.store q (me, end) (him, was_other) ⊎ AreBothSaved second.store new.store q (him, was_other) (me, end)) where
        low : m.chan.0 < begins.next_chan
        low = subst (λ (n : ℕ). m.chan.0 < n) (sym (ap (λ (k : Parts). k.next_chan) rest ∙ before.chan)) (chan_low job old lease progress may offer offering_now m meets)

        abbrev number : Seq
        number = seq (next_seq (view_of job begins))

        number_is : q ≡ number
        number_is = ap seq q_is

        mine_is : me ≡ thread lease.thread
        mine_is = ap thread (me_is ∙ t_is)

        his_is : him ≡ thread (partner_in lease.thread m)
        his_is = ap thread (him_is ∙ mate_is)

        one_way : AreBothSaved second.store new.store q (me, end) (him, was_other) → AreBothSaved begins.store new.store number (thread lease.thread, progress.end) (thread (partner_in lease.thread m), was_other)
        one_way is =
            subst (λ (k : ThreadId). AreBothSaved begins.store new.store number (thread lease.thread, progress.end) (k, was_other)) his_is
            (subst (λ (k : ThreadId). AreBothSaved begins.store new.store number (k, progress.end) (him, was_other)) mine_is
            (subst (λ (k : ControlView). AreBothSaved begins.store new.store number (me, k) (him, was_other)) end_is
            (subst (λ (k : Seq). AreBothSaved begins.store new.store k (me, end) (him, was_other)) number_is
            (subst (λ (k : Saved ControlView). AreBothSaved k new.store q (me, end) (him, was_other)) store_still is))))

        other_way : AreBothSaved second.store new.store q (him, was_other) (me, end) → AreBothSaved begins.store new.store number (thread (partner_in lease.thread m), was_other) (thread lease.thread, progress.end)
        other_way is =
            subst (λ (k : ThreadId). AreBothSaved begins.store new.store number (k, was_other) (thread lease.thread, progress.end)) his_is
            (subst (λ (k : ThreadId). AreBothSaved begins.store new.store number (him, was_other) (k, progress.end)) mine_is
            (subst (λ (k : ControlView). AreBothSaved begins.store new.store number (him, was_other) (me, k)) end_is
            (subst (λ (k : Seq). AreBothSaved begins.store new.store k (him, was_other) (me, end)) number_is
            (subst (λ (k : Saved ControlView). AreBothSaved k new.store q (him, was_other) (me, end)) store_still is))))

        both_saved : AreBothSaved begins.store new.store number (thread lease.thread, progress.end) (thread (partner_in lease.thread m), was_other) ⊎ AreBothSaved begins.store new.store number (thread (partner_in lease.thread m), was_other) (thread lease.thread, progress.end)
        both_saved = elim saved [
          | (inl s) ↦ inl (one_way s)
          | (inr s) ↦ inr (other_way s)
        ]

        have_moved : HaveMoved job old lease progress may planned begins before longer rest ready noted withdrawn first second new (partner_in lease.thread m) two.slot (Comm m.sender m.receiver m.chan) mine other was_other was_mine
        have_moved = record {
          unparked = two.unparked;
          found = two.found;
          parked = two.parked;
          apart = two.apart;
          going = offering job.program (slot_at job old lease progress may).slot progress.origin progress.steps progress.end (doing_at job old lease progress may) (slot_at job old lease progress may).control may.made (ap is_some offering_now);
          mine_fits = mine_fits;
          other_fits = other_fits;
          history = pushed;
          noted_rest = noted_rest;
          lines = λ c. lines c ∙ ap (λ (k : ℕ). option_map (left k) (map.get noted.offers.lines c)) mate_is;
          offers = offers ∙ ap (λ (k : ℕ). map.remove noted.offers.offers k) mate_is;
          withdrawn_rest = withdrawn_rest;
          first_goes = goes;
          was_other_is = was_other_here;
          second_goes = goes_then;
          was_mine_is = was_mine_here;
          saved_rest = saved_rest;
        }

        have_called : HaveCalled job old lease progress may planned begins before longer rest ready m low noted withdrawn first second new two.slot mine other was_other was_mine
        have_called = record {
          moves = have_moved;
          met = met_here;
          nodes = nodes ∙ ap (λ (k : ℕ). begins.graph.nodes ++ record { number = k; kind = node.Comm m.sender m.receiver } ∷ []) q_is;
          store = store_still;
          was = was_other_at;
          saved = both_saved;
        }

        pub exchange_lasts : IsDone job old new lease progress (row_for lease.thread m) × IsKept job new
        exchange_lasts = (
          done_called job old lease progress may planned begins before longer rest ready m low noted withdrawn first second new two.slot mine other was_other was_mine have_called offer offering_now meets,
          kept_called job old lease progress may planned begins before longer rest ready m low noted withdrawn first second new two.slot mine other was_other was_mine have_called offer offering_now meets,
        )
