-- What a meeting needs: both threads can meet so.
use Rattle.std.proofs.Common.{◌≡◌, ◌⊎◌, inl, inr, ℕ, Bool, true, false, not, nat_eq, Option, Some, sym, ap, subst, ◌∙◌}
use Rattle.std.specs.Prelude.{IsSomeAnd}
use Rattle.std.specs.Cmp.{nat_eq_equiv}
use Rattle.std.specs.FinMap as map
use Rattle.stab_code.specs.JobParts.{JobParts}
use Rattle.thread_slots.specs.declared.state.State.TheVariants.{Parked}
use Rattle.thread_slots.specs.Slot.{Slot, same_state}
use Rattle.rendezvous.specs.declared.offer.Offer.{Offer}
use Rattle.rendezvous.specs.Offer.{receives_on, sends_on}
use Rattle.step_eval.specs.ControlView.{ControlView, Fits, RedexIsFound}
use Rattle.step_eval.specs.Progress.{ProgressView}
use Rattle.commit_book.specs.declared.exchange.Meeting.{Meeting}
use Rattle.commit_book.specs.declared.parts.Parts.{Parts}
use Rattle.commit_book.specs.Acting.{MayAct}
use Rattle.commit_book.specs.Book.{offered}
use Rattle.commit_book.specs.Leases.{LeaseView}
use Rattle.commit_book.specs.Meetings.{CanMeet, CanMeetAs, OffersOn, meeting_of, partner_in}
use Rattle.commit_book.proofs.Acting.Matched.{Receives, Sends, partner_receives, partner_sends, receives_from, roles, sends_to}
use Rattle.commit_book.proofs.Acting.Meeting.{IsMet}
use Rattle.commit_book.proofs.Acting.SingleActs.{slot_at}
use Rattle.commit_book.proofs.Threads.Standing.{of_some}
use Rattle.commit_book.proofs.Threads.Waiting.{flipped}

some_and : {X : Type 0} (o : Option X) (x : X) (P : X → Type 0) → o ≡ Some x → P x → IsSomeAnd o P
some_and o x P is h = subst (λ (k : Option _). IsSomeAnd k P) (sym is) h

module _ (job : JobParts) (old : Parts) (lease : LeaseView) (progress : ProgressView) (may : MayAct job old lease progress) (offer : Offer) (offering_now : offered job.program progress.end ≡ Some offer) (m : Meeting) (meets : meeting_of old.offers.lines lease.thread offer ≡ Some m) where
  own_can : CanMeet job.program progress.end
  own_can = record { fits = may.made.fits; found = may.made.found }

  own_offers : (test : Offer → Bool) → test offer ≡ true → OffersOn job.program test progress.end
  own_offers test on = some_and (offered job.program progress.end) offer (λ o. test o ≡ true) offering_now on

  mate_can : (v : ℕ) (test : Offer → Bool) (met : IsMet (offered job.program) test old.slots.threads v) → CanMeet job.program met.slot.control
  mate_can v test met = record {
    fits = of_some (map.get old.slots.threads v) met.slot (λ s. Fits job.program s.control) met.found (may.kept.shown.shows.threads.fit v);
    found = of_some (map.get old.slots.threads v) met.slot (λ s. same_state Parked s.state ≡ true → RedexIsFound s.control) met.found (may.kept.shown.shows.threads.found v) met.parked;
  }

  mate_offers : (v : ℕ) (test : Offer → Bool) (met : IsMet (offered job.program) test old.slots.threads v) → OffersOn job.program test met.slot.control
  mate_offers v test met = some_and (offered job.program met.slot.control) met.offer (λ o. test o ≡ true) met.is met.passes

  -- what plan_meeting asks of both
  pub record MayMeet : Type 0 where
    pub own : CanMeetAs (nat_eq m.sender.0 lease.thread) job.program m.chan.0 progress.end
    pub slot : Slot ControlView
    pub found : map.get old.slots.threads (partner_in lease.thread m) ≡ Some slot
    pub partner : CanMeetAs (not (nat_eq m.sender.0 lease.thread)) job.program m.chan.0 slot.control
    pub unparked : same_state Parked (slot_at job old lease progress may).slot.state ≡ false
    pub parked : same_state Parked slot.state ≡ true
    pub apart : nat_eq lease.thread (partner_in lease.thread m) ≡ false

  as_sender : Sends old.offers.lines lease.thread offer m → MayMeet
  as_sender r =
      let both = sends_to job old lease progress may offer offering_now m r in
      let a : m.sender.0 ≡ lease.thread = ap (λ (k : Meeting). k.sender.0) r.is in
      let one : nat_eq m.sender.0 lease.thread ≡ true = ap (λ n. nat_eq n lease.thread) a ∙ nat_eq_equiv.refl lease.thread in
      let v_is : partner_in lease.thread m ≡ r.v = partner_sends old.offers.lines lease.thread offer m r in
      record {
        own = subst (λ (i : Bool). CanMeetAs i job.program m.chan.0 progress.end) (sym one) (own_can, own_offers (sends_on m.chan.0) r.on);
        slot = both.met.slot;
        found = ap (map.get old.slots.threads) v_is ∙ both.met.found;
        partner = subst (λ (i : Bool). CanMeetAs (not i) job.program m.chan.0 both.met.slot.control) (sym one) (mate_can r.v (receives_on m.chan.0) both.met, mate_offers r.v (receives_on m.chan.0) both.met);
        unparked = both.unparked;
        parked = both.met.parked;
        apart = ap (nat_eq lease.thread) v_is ∙ both.apart;
      }

  as_receiver : Receives old.offers.lines lease.thread offer m → MayMeet
  as_receiver r =
      let both = receives_from job old lease progress may offer offering_now m r in
      let a : m.sender.0 ≡ r.v = ap (λ (k : Meeting). k.sender.0) r.is in
      let apart : nat_eq r.v lease.thread ≡ false = flipped r.v lease.thread ∙ both.apart in
      let two : nat_eq m.sender.0 lease.thread ≡ false = ap (λ n. nat_eq n lease.thread) a ∙ apart in
      let v_is : partner_in lease.thread m ≡ r.v = partner_receives old.offers.lines lease.thread offer m r apart in
      record {
        own = subst (λ (i : Bool). CanMeetAs i job.program m.chan.0 progress.end) (sym two) (own_can, own_offers (receives_on m.chan.0) r.on);
        slot = both.met.slot;
        found = ap (map.get old.slots.threads) v_is ∙ both.met.found;
        partner = subst (λ (i : Bool). CanMeetAs (not i) job.program m.chan.0 both.met.slot.control) (sym two) (mate_can r.v (sends_on m.chan.0) both.met, mate_offers r.v (sends_on m.chan.0) both.met);
        unparked = both.unparked;
        parked = both.met.parked;
        apart = ap (nat_eq lease.thread) v_is ∙ both.apart;
      }

  pub may_meet : MayMeet
  may_meet = by (roles old.offers.lines lease.thread m offer meets)
    where
      by : Sends old.offers.lines lease.thread offer m ⊎ Receives old.offers.lines lease.thread offer m → MayMeet
      by (inl r) = as_sender r
      by (inr r) = as_receiver r

  -- as plan_meeting says it
  pub partner_may : IsSomeAnd (map.get old.slots.threads (partner_in lease.thread m)) (λ slot. CanMeetAs (not (nat_eq m.sender.0 lease.thread)) job.program m.chan.0 slot.control)
  partner_may = some_and (map.get old.slots.threads (partner_in lease.thread m)) may_meet.slot (λ slot. CanMeetAs (not (nat_eq m.sender.0 lease.thread)) job.program m.chan.0 slot.control) may_meet.found may_meet.partner
