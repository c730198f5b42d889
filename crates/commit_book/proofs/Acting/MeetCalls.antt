-- What the calls of a meeting leave, put together.
use Rattle.std.proofs.Common.{◌≡◌, ◌⊎◌, inl, inr, ℕ, ◌+◌, ◌<◌, Bool, true, false, cond, nat_eq, [], ◌∷◌, ◌++◌, length, Some, refl, sym, ap, subst, ◌∙◌}
use Rattle.std.specs.Prelude.{is_some, option_map}
use Rattle.std.specs.Cmp.{nat_eq_equiv}
use Rattle.std.specs.FinMap as map
use Rattle.stab_base.specs.Datum.{unit}
use Rattle.stab_base.specs.declared.numbers.Seq.{Seq}
use Rattle.stab_code.specs.JobParts.{JobParts}
use Rattle.stab_journal.specs.declared.event.Label.{Label}
use Rattle.stab_journal.specs.declared.event.Label.TheVariants.{Comm}
use Rattle.stab_journal.specs.Names.{has}
use Rattle.comm_graph.specs.declared.node.NodeFor.TheVariants as node
use Rattle.thread_slots.specs.Slot.{Slot}
use Rattle.rendezvous.specs.declared.offer.Offer.{Offer}
use Rattle.language.specs.Expression.{Expr}
use Rattle.language.specs.Look.{answered}
use Rattle.language.specs.Plain.{standing}
use Rattle.language.specs.Steps.{Effect, apply}
use Rattle.step_eval.specs.Acts.{second_of}
use Rattle.step_eval.specs.Asked.{operands_of}
use Rattle.step_eval.specs.ControlView.{ControlView, Fits, expr_of}
use Rattle.step_eval.specs.Progress.{ProgressView}
use Rattle.commit_book.specs.declared.exchange.Meeting.{Meeting}
use Rattle.commit_book.specs.declared.parts.Parts.{Parts}
use Rattle.commit_book.specs.Acting.{AreAsBefore, IsDone, IsLonger, MayAct}
use Rattle.commit_book.specs.Book.{offered}
use Rattle.commit_book.specs.Layout.{IsKept, view_of}
use Rattle.commit_book.specs.Leases.{LeaseView}
use Rattle.commit_book.specs.Meetings.{AreBothSaved, HaveExchanged, HaveMet, HaveMetAs, meeting_of, partner_in, row_for}
use Rattle.commit_book.specs.Rows.{local_of, thread}
use Rattle.commit_book.specs.Step.{IsStepOf, next_seq}
use Rattle.commit_book.proofs.Acting.EffectsMeeting.{comm_effect}
use Rattle.commit_book.proofs.Threads.Going.{apply_two, put_turned}
use Rattle.commit_book.proofs.Keeping.KeptLocal.{IsReady}
use Rattle.commit_book.proofs.Keeping.KeptSteps.{AreBoth, both_turned, comm_step}
use Rattle.commit_book.proofs.Acting.Matched.{Receives, Sends, partner_receives, partner_sends, receives_from, roles}
use Rattle.commit_book.proofs.Acting.MeetActs.{HaveMoved, channels_met, done_met, kept_met, nodes_met, printed_met, pushed_met, rollback_met, view_met}
use Rattle.commit_book.proofs.Acting.PairActs.{IsStepped, others_by}
use Rattle.commit_book.proofs.Keeping.Prints.{unprinting}
use Rattle.commit_book.proofs.Keeping.RoomHere.{thread_below}
use Rattle.commit_book.proofs.Keeping.SeenAfter.{pushed_of}
use Rattle.commit_book.proofs.Threads.Standing.{of_some, put}
use Rattle.commit_book.proofs.Threads.Waiting.{flipped}

module _ (job : JobParts) (old : Parts) (lease : LeaseView) (progress : ProgressView) (may : MayAct job old lease progress) (planned begins : Parts) (before : AreAsBefore old planned)
    (longer : IsLonger planned.history begins.history lease.worker (local_of lease.thread progress.steps)) (rest : begins ≡ record planned { history = begins.history })
    (ready : IsReady (view_of job old) (view_of job begins) may.kept.shown.state (thread lease.thread) (expr_of job.program progress.end))
    (m : Meeting) (chan_low : m.chan.0 < begins.next_chan) where
  abbrev u : ℕ
  u = partner_in lease.thread m

  abbrev l : Label
  l = Comm m.sender m.receiver m.chan

  abbrev q : Seq
  q = record { 0 = next_seq (view_of job begins) }

  -- the calls
  pub record HaveCalled (noted withdrawn first second new : Parts) (mate : Slot ControlView) (mine other was_other was_mine : ControlView) : Type 0 where
    pub moves : HaveMoved job old lease progress may planned begins before longer rest ready noted withdrawn first second new u mate l mine other was_other was_mine
    pub met : HaveMet job.program lease.thread m progress.end mate.control mine other
    pub nodes : noted.graph.nodes ≡ begins.graph.nodes ++ record { number = next_seq (view_of job begins); kind = node.Comm m.sender m.receiver } ∷ []
    pub store : second.store ≡ begins.store
    pub was : was_other ≡ mate.control
    pub saved : AreBothSaved begins.store new.store q (thread lease.thread, progress.end) (thread u, was_other) ⊎ AreBothSaved begins.store new.store q (thread u, was_other) (thread lease.thread, progress.end)

  module _ (noted withdrawn first second new : Parts) (mate : Slot ControlView) (mine other was_other was_mine : ControlView) (is : HaveCalled noted withdrawn first second new mate mine other was_other was_mine) where
    mate_stands : standing ready.state u ≡ Some (expr_of job.program mate.control)
    mate_stands =
        ready.others u (flipped u lease.thread ∙ is.moves.apart)
        ∙ sym (may.kept.shown.shows.threads.threads u) ∙ ap (option_map (λ (k : Slot ControlView). expr_of job.program k.control)) is.moves.found

    mate_fits : Fits job.program mate.control
    mate_fits = of_some (map.get old.slots.threads u) mate (λ s. Fits job.program s.control) is.moves.found (may.kept.shown.shows.threads.fit u)

    thread_low : (k : ℕ) → map.contains_key ready.state.threads k ≡ true → k < (view_of job begins).next.thread
    thread_low k there = thread_below (view_of job begins) ready.run ready.state ready.journal k there

    mine_low : lease.thread < (view_of job begins).next.thread
    mine_low = thread_low lease.thread (ap is_some ready.stands)

    mate_low : u < (view_of job begins).next.thread
    mate_low = thread_low u (ap is_some mate_stands)

    -- the step, whoever of the two sends
    step_of : (e : Effect Expr) → AreBoth (thread lease.thread) (thread u) m.sender m.receiver → AreBoth (thread u) (thread lease.thread) m.sender m.receiver → e.printed ≡ []
        → m.sender.0 < (view_of job begins).next.thread → m.receiver.0 < (view_of job begins).next.thread → IsStepOf (view_of job begins) (view_of job new) ready.run ready.state lease.worker l e
    step_of e so turned silent a b =
        let pushed = pushed_of job begins new lease.worker l (pushed_met job old lease progress may planned begins before longer rest ready noted withdrawn first second new u mate l mine other was_other was_mine is.moves) in
        let channels = channels_met job old lease progress may planned begins before longer rest ready noted withdrawn first second new u mate l mine other was_other was_mine is.moves in
        let nodes = nodes_met job old lease progress may planned begins before longer rest ready noted withdrawn first second new u mate l mine other was_other was_mine is.moves ∙ is.nodes in
        let view = view_met job old lease progress may planned begins before longer rest ready noted withdrawn first second new u mate l mine other was_other was_mine is.moves in
        let mate_at : Some (expr_of job.program was_other) ≡ map.get ready.state.threads u = ap (λ c. Some (expr_of job.program c)) is.was ∙ sym mate_stands in
        let other_fits : Fits job.program was_other = subst (Fits job.program) (sym is.was) mate_fits in
        elim is.saved [
          | (inl s) ↦ comm_step (view_of job begins) (view_of job new) ready.run ready.state lease.worker ready.journal m.sender m.receiver m.chan e (thread lease.thread) (thread u) progress.end was_other s.between.controls pushed a b chan_low channels silent so
              (sym ready.stands) may.made.fits mate_at other_fits s.first s.second nodes view
          | (inr s) ↦ comm_step (view_of job begins) (view_of job new) ready.run ready.state lease.worker ready.journal m.sender m.receiver m.chan e (thread u) (thread lease.thread) was_other progress.end s.between.controls pushed a b chan_low channels silent turned
              mate_at other_fits (sym ready.stands) may.made.fits s.first s.second nodes view
        ]

    -- the thread sends
    module _ (a : m.sender.0 ≡ lease.thread) (b : m.receiver.0 ≡ u) (x : HaveExchanged job.program m.chan.0 progress.end mate.control mine other) where
      abbrev e_sends : Effect Expr
      e_sends = record { mine = answered (expr_of job.program progress.end) unit; other = expr_of job.program other; value = unit; printed = [] }

      both_so : AreBoth (thread lease.thread) (thread u) m.sender m.receiver
      both_so k = ap (λ n. has (n ∷ u ∷ []) k) (sym a) ∙ ap (λ n. has (m.sender.0 ∷ n ∷ []) k) (sym b)

      stepped_sends : IsStepped job old lease progress may planned begins before longer rest ready new l e_sends
      stepped_sends = record {
        uncut = refl;
        rollback = rollback_met job old lease progress may planned begins before longer rest ready noted withdrawn first second new u mate l mine other was_other was_mine is.moves;
        prints = unprinting begins.printed new.printed (length begins.history.events + 1) l refl (printed_met job old lease progress may planned begins before longer rest ready noted withdrawn first second new u mate l mine other was_other was_mine is.moves);
        unprobed = refl;
        may_step = tt;
        effect = comm_effect job.program ready.state (next_seq (view_of job begins)) m.sender m.receiver m.chan (expr_of job.program progress.end) (expr_of job.program mate.control) (expr_of job.program other) (second_of (operands_of progress.end))
            (ap (standing ready.state) a ∙ ready.stands) (ap (standing ready.state) b ∙ mate_stands) x.looks x.gets;
        allowed = refl;
        history = pushed_met job old lease progress may planned begins before longer rest ready noted withdrawn first second new u mate l mine other was_other was_mine is.moves;
        step = step_of e_sends both_so (λ k. both_turned (thread u) (thread lease.thread) k ∙ both_so k) refl (subst (λ n. n < (view_of job begins).next.thread) (sym a) mine_low) (subst (λ n. n < (view_of job begins).next.thread) (sym b) mate_low);
      }

      pub kept_sends : IsKept job new
      kept_sends =
          kept_met job old lease progress may planned begins before longer rest ready noted withdrawn first second new u mate l mine other was_other was_mine is.moves e_sends stepped_sends (λ k.
          others_by job old lease progress may planned begins before longer rest ready l e_sends u (ap (λ n. n ∷ m.receiver.0 ∷ []) a ∙ ap (λ n. lease.thread ∷ n ∷ []) b) k
          ∙ ap (λ y. put lease.thread y (put u (expr_of job.program other) (λ z. map.get may.kept.shown.state.threads z)) k) (sym x.sends))

    -- the thread receives
    module _ (a : m.sender.0 ≡ u) (b : m.receiver.0 ≡ lease.thread) (x : HaveExchanged job.program m.chan.0 mate.control progress.end other mine) where
      abbrev e_gets : Effect Expr
      e_gets = record { mine = answered (expr_of job.program mate.control) unit; other = expr_of job.program mine; value = unit; printed = [] }

      both_too : AreBoth (thread u) (thread lease.thread) m.sender m.receiver
      both_too k = ap (λ n. has (n ∷ lease.thread ∷ []) k) (sym a) ∙ ap (λ n. has (m.sender.0 ∷ n ∷ []) k) (sym b)

      stepped_gets : IsStepped job old lease progress may planned begins before longer rest ready new l e_gets
      stepped_gets = record {
        uncut = refl;
        rollback = rollback_met job old lease progress may planned begins before longer rest ready noted withdrawn first second new u mate l mine other was_other was_mine is.moves;
        prints = unprinting begins.printed new.printed (length begins.history.events + 1) l refl (printed_met job old lease progress may planned begins before longer rest ready noted withdrawn first second new u mate l mine other was_other was_mine is.moves);
        unprobed = refl;
        may_step = tt;
        effect = comm_effect job.program ready.state (next_seq (view_of job begins)) m.sender m.receiver m.chan (expr_of job.program mate.control) (expr_of job.program progress.end) (expr_of job.program mine) (second_of (operands_of mate.control))
            (ap (standing ready.state) a ∙ mate_stands) (ap (standing ready.state) b ∙ ready.stands) x.looks x.gets;
        allowed = refl;
        history = pushed_met job old lease progress may planned begins before longer rest ready noted withdrawn first second new u mate l mine other was_other was_mine is.moves;
        step = step_of e_gets (λ k. both_turned (thread lease.thread) (thread u) k ∙ both_too k) both_too refl (subst (λ n. n < (view_of job begins).next.thread) (sym a) mate_low) (subst (λ n. n < (view_of job begins).next.thread) (sym b) mine_low);
      }

      -- where the two then stand
      stand_gets : (k : ℕ) → map.get (apply ready.state l e_gets).threads k ≡ put lease.thread (expr_of job.program mine) (put u (expr_of job.program other) (λ z. map.get may.kept.shown.state.threads z)) k
      stand_gets k =
          apply_two ready.state l e_gets u lease.thread (ap (λ n. n ∷ m.receiver.0 ∷ []) a ∙ ap (λ n. u ∷ n ∷ []) b) k
          ∙ ap (λ y. put u y (put lease.thread (expr_of job.program mine) (λ z. map.get ready.state.threads z)) k) (sym x.sends)
          ∙ sym (put_turned lease.thread u (expr_of job.program mine) (expr_of job.program other) (λ z. map.get ready.state.threads z) k is.moves.apart)
          ∙ (elim (nat_eq k lease.thread) as (λ i. nat_eq k lease.thread ≡ i → cond i (Some (expr_of job.program mine)) (put u (expr_of job.program other) (λ z. map.get ready.state.threads z) k) ≡ cond i (Some (expr_of job.program mine)) (put u (expr_of job.program other) (λ z. map.get may.kept.shown.state.threads z) k)) [
            | true ↦ λ at. refl
            | false ↦ λ apart. ap (cond (nat_eq k u) (Some (expr_of job.program other))) (ready.others k apart)
          ] refl)

      pub kept_gets : IsKept job new
      kept_gets = kept_met job old lease progress may planned begins before longer rest ready noted withdrawn first second new u mate l mine other was_other was_mine is.moves e_gets stepped_gets stand_gets

    module _ (offer : Offer) (offering_now : offered job.program progress.end ≡ Some offer) (meets : meeting_of old.offers.lines lease.thread offer ≡ Some m) where
      by_roles : Sends old.offers.lines lease.thread offer m ⊎ Receives old.offers.lines lease.thread offer m → IsKept job new
      by_roles (inl r) =
          let a : m.sender.0 ≡ lease.thread = ap (λ (k : Meeting). k.sender.0) r.is in
          let first_one : nat_eq m.sender.0 lease.thread ≡ true = ap (λ n. nat_eq n lease.thread) a ∙ nat_eq_equiv.refl lease.thread in
          kept_sends a (ap (λ (k : Meeting). k.receiver.0) r.is ∙ sym (partner_sends old.offers.lines lease.thread offer m r))
          (subst (λ (i : Bool). HaveMetAs i job.program m.chan.0 progress.end mate.control mine other) first_one is.met)
      by_roles (inr r) =
          let v_is : m.sender.0 ≡ r.v = ap (λ (k : Meeting). k.sender.0) r.is in
          let apart : nat_eq r.v lease.thread ≡ false = flipped r.v lease.thread ∙ (receives_from job old lease progress may offer offering_now m r).apart in
          kept_gets (v_is ∙ sym (partner_receives old.offers.lines lease.thread offer m r apart)) (ap (λ (k : Meeting). k.receiver.0) r.is)
          (subst (λ (i : Bool). HaveMetAs i job.program m.chan.0 progress.end mate.control mine other) (ap (λ n. nat_eq n lease.thread) v_is ∙ apart) is.met)

      -- what is kept after a meeting, and what was done
      pub kept_called : IsKept job new
      kept_called = by_roles (roles old.offers.lines lease.thread m offer meets)

      pub done_called : IsDone job old new lease progress (row_for lease.thread m)
      done_called = done_met job old lease progress may planned begins before longer rest ready noted withdrawn first second new u mate l mine other was_other was_mine is.moves
