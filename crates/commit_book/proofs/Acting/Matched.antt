-- Who is met by a thread with an offer, and that the channels of the offer are there.
use Rattle.std.proofs.Common.{◌≡◌, ◌⊎◌, inl, inr, ℕ, Bool, true, false, ◌||◌, nat_eq, Option, Some, None, refl, sym, ap, subst, ◌∙◌}
use Rattle.std.specs.Prelude.{option_map, slice_get, unwrap_or, if◌then◌else◌}
use Rattle.std.specs.Cmp.{nat_eq_equiv}
use Rattle.std.specs.Ordering.{nat_cmp}
use Rattle.std.specs.FinMap as map
use Rattle.std.specs.FinMap.{FinMap}
use Rattle.stab_base.specs.declared.numbers.ChanId.{ChanId}
use Rattle.stab_code.specs.JobParts.{JobParts}
use Rattle.thread_slots.specs.declared.state.State.TheVariants.{Parked}
use Rattle.thread_slots.specs.Slot.{Slot, same_state}
use Rattle.rendezvous.specs.declared.offer.Offer.{Offer}
use Rattle.rendezvous.specs.declared.offer.Offer.TheVariants as offers
use Rattle.rendezvous.specs.Line.{AreThere, Line, Lines, Seen, nobody}
use Rattle.rendezvous.specs.Offer.{receives_on, sends_on}
use Rattle.language.specs.Expression.{Expr}
use Rattle.language.specs.Plain.{look_in}
use Rattle.language.specs.Table.{Look, act, sends, receives, picks}
use Rattle.journal_laws.proofs.Surviving.{some_is, some_none}
use Rattle.step_eval.specs.ControlView.{expr_of}
use Rattle.step_eval.specs.Progress.{ProgressView}
use Rattle.commit_book.specs.declared.exchange.Meeting.{Meeting}
use Rattle.commit_book.specs.declared.parts.Parts.{Parts}
use Rattle.commit_book.specs.Acting.{MayAct}
use Rattle.commit_book.specs.Book.{offered}
use Rattle.commit_book.specs.Doing.{offer_at}
use Rattle.commit_book.specs.Layout.{view_of}
use Rattle.commit_book.specs.Leases.{LeaseView}
use Rattle.commit_book.specs.Meetings.{first_or, meeting, meeting_of, partner_in, sender_of}
use Rattle.commit_book.specs.Offers.{AreOffers, receives_at, sends_at}
use Rattle.commit_book.specs.Rows.{longest, thread}
use Rattle.commit_book.proofs.Acting.EffectsHeld.{known_at}
use Rattle.commit_book.proofs.Acting.EffectsLocal.{act_there}
use Rattle.commit_book.proofs.Acting.Meeting.{IsMet, first_listed, met_receiver, met_sender}
use Rattle.commit_book.proofs.Threads.Partners.{IsUnmet, parked_apart, receiver_unparked, sender_unparked, unmet_pick, unmet_recv, unmet_send}
use Rattle.commit_book.proofs.Keeping.RoomHere.{pick_there, receive_there, send_there}
use Rattle.commit_book.proofs.Acting.SingleActs.{IsAt, doing_at, journal_at, slot_at, stands_there}
use Rattle.commit_book.proofs.Threads.Staying.{parked_still}

-- ---- which of the two the thread is

-- it sends, and v waits longest to receive
pub record Sends (lines : Lines) (t : ℕ) (offer : Offer) (m : Meeting) : Type 0 where
  pub v : ℕ
  pub is : m ≡ meeting (thread t) (thread v) m.chan
  pub on : sends_on m.chan.0 offer ≡ true
  pub first : slice_get (receives_at lines m.chan.0) 0 ≡ Some v

-- it receives, and v waits longest to send
pub record Receives (lines : Lines) (t : ℕ) (offer : Offer) (m : Meeting) : Type 0 where
  pub v : ℕ
  pub is : m ≡ meeting (thread v) (thread t) m.chan
  pub on : receives_on m.chan.0 offer ≡ true
  pub first : slice_get (sends_at lines m.chan.0) 0 ≡ Some v

module _ (lines : Lines) (t : ℕ) (m : Meeting) where
  sends_case : (offer : Offer) (c : ChanId) (o : Option ℕ) → sends_on c.0 offer ≡ true → longest (receives_at lines c.0) ≡ o → option_map (λ u. meeting (thread t) (thread u) c) o ≡ Some m → Sends lines t offer m
  sends_case offer c None on front is = absurd (some_none (sym is))
  sends_case offer c (Some v) on front is =
      let at : meeting (thread t) (thread v) c ≡ m = some_is is in
      record {
        v = v;
        is = sym at ∙ ap (λ (k : Meeting). meeting (thread t) (thread v) k.chan) at;
        on = ap (λ (k : Meeting). sends_on k.chan.0 offer) (sym at) ∙ on;
        first = ap (λ (k : Meeting). slice_get (receives_at lines k.chan.0) 0) (sym at) ∙ front;
      }

  receives_case : (offer : Offer) (c : ChanId) (o : Option ℕ) → receives_on c.0 offer ≡ true → longest (sends_at lines c.0) ≡ o → option_map (λ u. meeting (thread u) (thread t) c) o ≡ Some m → Receives lines t offer m
  receives_case offer c None on front is = absurd (some_none (sym is))
  receives_case offer c (Some v) on front is =
      let at : meeting (thread v) (thread t) c ≡ m = some_is is in
      record {
        v = v;
        is = sym at ∙ ap (λ (k : Meeting). meeting (thread v) (thread t) k.chan) at;
        on = ap (λ (k : Meeting). receives_on k.chan.0 offer) (sym at) ∙ on;
        first = ap (λ (k : Meeting). slice_get (sends_at lines k.chan.0) 0) (sym at) ∙ front;
      }

  first_here : (c d : ChanId) → receives_on c.0 (offers.Pick c d) ≡ true
  first_here c d = ap (λ b. b || nat_eq c.0 d.0) (nat_eq_equiv.refl c.0)

  second_here : (c d : ChanId) → receives_on d.0 (offers.Pick c d) ≡ true
  second_here c d = ap (λ b. nat_eq d.0 c.0 || b) (nat_eq_equiv.refl d.0) ∙ or_true (nat_eq d.0 c.0)
    where
      or_true : (b : Bool) → (b || true) ≡ true
      or_true true = refl
      or_true false = refl

  pick_case : (c d : ChanId) (a : Option Meeting) → sender_of lines t c ≡ a → first_or a (sender_of lines t d) ≡ Some m → Receives lines t (offers.Pick c d) m
  pick_case c d (Some x) front is = receives_case (offers.Pick c d) c (longest (sends_at lines c.0)) (first_here c d) refl (front ∙ is)
  pick_case c d None front is = receives_case (offers.Pick c d) d (longest (sends_at lines d.0)) (second_here c d) refl is

  pub roles : (offer : Offer) → meeting_of lines t offer ≡ Some m → Sends lines t offer m ⊎ Receives lines t offer m
  roles (offers.Send c) is = inl (sends_case (offers.Send c) c (longest (receives_at lines c.0)) (nat_eq_equiv.refl c.0) refl is)
  roles (offers.Recv c) is = inr (receives_case (offers.Recv c) c (longest (sends_at lines c.0)) (nat_eq_equiv.refl c.0) refl is)
  roles (offers.Pick c d) is = inr (pick_case c d (sender_of lines t c) refl is)

-- ---- nobody is met

not_met : {A B : Type 0} (f : A → B) (o : Option A) → option_map f o ≡ None → o ≡ None
not_met f None is = refl
not_met f (Some a) is = absurd (some_none is)

unmet_first : (a b : Option Meeting) → first_or a b ≡ None → (a ≡ None) × (b ≡ None)
unmet_first None b is = (refl, is)
unmet_first (Some x) b is = absurd (some_none is)

pub unmet_of : (lines : Lines) (t : ℕ) (offer : Offer) → meeting_of lines t offer ≡ None → IsUnmet lines offer
unmet_of lines t (offers.Send c) is = unmet_send lines c (not_met (λ u. meeting (thread t) (thread u) c) (longest (receives_at lines c.0)) is)
unmet_of lines t (offers.Recv c) is = unmet_recv lines c (not_met (λ u. meeting (thread u) (thread t) c) (longest (sends_at lines c.0)) is)
unmet_of lines t (offers.Pick c d) is =
    let none = unmet_first (sender_of lines t c) (sender_of lines t d) is in
    unmet_pick lines c d (not_met (λ u. meeting (thread u) (thread t) c) (longest (sends_at lines c.0)) none.0) (not_met (λ u. meeting (thread u) (thread t) d) (longest (sends_at lines d.0)) none.1)

-- ---- who is met waits

module _ {C : Type 0} (offer_of : C → Option Offer) (threads : FinMap nat_cmp (Slot C)) (seen : Seen) (shown : AreOffers offer_of threads seen) where
  receiver_in : (c v : ℕ) (l : Option Line) → map.get seen.lines c ≡ l → slice_get (unwrap_or l nobody).receives 0 ≡ Some v → IsMet offer_of (receives_on c) threads v
  receiver_in c v None at first = absurd (some_none (sym first))
  receiver_in c v (Some line) at first = met_receiver offer_of threads seen c v line shown at (first_listed v line.receives first)

  sender_in : (c v : ℕ) (l : Option Line) → map.get seen.lines c ≡ l → slice_get (unwrap_or l nobody).sends 0 ≡ Some v → IsMet offer_of (sends_on c) threads v
  sender_in c v None at first = absurd (some_none (sym first))
  sender_in c v (Some line) at first = met_sender offer_of threads seen c v line shown at (first_listed v line.sends first)

  pub front_receiver : (c v : ℕ) → slice_get (receives_at seen.lines c) 0 ≡ Some v → IsMet offer_of (receives_on c) threads v
  front_receiver c v first = receiver_in c v (map.get seen.lines c) refl first

  pub front_sender : (c v : ℕ) → slice_get (sends_at seen.lines c) 0 ≡ Some v → IsMet offer_of (sends_on c) threads v
  front_sender c v first = sender_in c v (map.get seen.lines c) refl first

-- ---- of a lease

module _ (job : JobParts) (old : Parts) (lease : LeaseView) (progress : ProgressView) (may : MayAct job old lease progress) (offer : Offer) (offering_now : offered job.program progress.end ≡ Some offer) where
  abbrev here : IsAt old.slots.threads lease progress.origin
  here = slot_at job old lease progress may

  there_by : (k : Look Expr) → look_in job.program (expr_of job.program progress.end) ≡ k → offer_at k ≡ Some offer → AreThere old.offers.lines offer
  there_by (act (sends c v)) looks is =
      subst (AreThere old.offers.lines) (some_is is)
      (send_there (view_of job old) may.kept.shown.run may.kept.shown.state (journal_at job old lease progress may) (record { 0 = c })
      (act_there job.program may.kept.shown.state 0 (thread lease.thread) progress.steps progress.origin progress.end (stands_there job old lease progress may) may.made
      (known_at job.program old.history.events may.kept.shown.run may.kept.shown.state (journal_at job old lease progress may).history.stands) (sends c v) looks).0)
  there_by (act (receives c)) looks is =
      subst (AreThere old.offers.lines) (some_is is)
      (receive_there (view_of job old) may.kept.shown.run may.kept.shown.state (journal_at job old lease progress may) (record { 0 = c })
      (act_there job.program may.kept.shown.state 0 (thread lease.thread) progress.steps progress.origin progress.end (stands_there job old lease progress may) may.made
      (known_at job.program old.history.events may.kept.shown.run may.kept.shown.state (journal_at job old lease progress may).history.stands) (receives c) looks))
  there_by (act (picks c d)) looks is =
      let both = act_there job.program may.kept.shown.state 0 (thread lease.thread) progress.steps progress.origin progress.end (stands_there job old lease progress may) may.made
      (known_at job.program old.history.events may.kept.shown.run may.kept.shown.state (journal_at job old lease progress may).history.stands) (picks c d) looks in
      subst (AreThere old.offers.lines) (some_is is)
      (pick_there (view_of job old) may.kept.shown.run may.kept.shown.state (journal_at job old lease progress may) (record { 0 = c }) (record { 0 = d }) both.0 both.1)
  there_by _ looks is = absurd (some_none (sym is))

  -- the channels of an offer are there
  pub offer_there : AreThere old.offers.lines offer
  offer_there = there_by (look_in job.program (expr_of job.program progress.end)) refl offering_now

  still_offers : same_state Parked here.slot.state ≡ true → offered job.program here.slot.control ≡ Some offer
  still_offers parked =
      sym (ap (λ e. offer_at (look_in job.program e)) (parked_still job.program here.slot progress.origin progress.steps progress.end (doing_at job old lease progress may) here.control may.made parked).same) ∙ offering_now

  -- the thread with the lease, and its partner v
  pub record ArePartners (m : Meeting) (p : Offer → Bool) (v : ℕ) : Type 0 where
    pub unparked : same_state Parked here.slot.state ≡ false
    pub met : IsMet (offered job.program) p old.slots.threads v
    pub apart : nat_eq lease.thread v ≡ false

  pub sends_to : (m : Meeting) (is : Sends old.offers.lines lease.thread offer m) → ArePartners m (receives_on m.chan.0) is.v
  sends_to m is =
      let shown = may.kept.shown.shows.threads.offers in
      let un = sender_unparked (offered job.program) old.slots.threads old.offers shown lease.thread here.slot here.found m.chan.0 is.v offer still_offers is.on is.first in
      let met = front_receiver (offered job.program) old.slots.threads old.offers shown m.chan.0 is.v is.first in
      record { unparked = un; met = met; apart = parked_apart (offered job.program) old.slots.threads lease.thread is.v here.slot met.slot here.found met.found un met.parked }

  pub receives_from : (m : Meeting) (is : Receives old.offers.lines lease.thread offer m) → ArePartners m (sends_on m.chan.0) is.v
  receives_from m is =
      let shown = may.kept.shown.shows.threads.offers in
      let un = receiver_unparked (offered job.program) old.slots.threads old.offers shown lease.thread here.slot here.found m.chan.0 is.v offer still_offers is.on is.first in
      let met = front_sender (offered job.program) old.slots.threads old.offers shown m.chan.0 is.v is.first in
      record { unparked = un; met = met; apart = parked_apart (offered job.program) old.slots.threads lease.thread is.v here.slot met.slot here.found met.found un met.parked }

-- the partner of one who sends, and of one who receives
pub partner_sends : (lines : Lines) (t : ℕ) (offer : Offer) (m : Meeting) (is : Sends lines t offer m) → partner_in t m ≡ is.v
partner_sends lines t offer m is =
    ap (partner_in t) is.is ∙ ap (λ b. if b then is.v else t) (nat_eq_equiv.refl t)

pub partner_receives : (lines : Lines) (t : ℕ) (offer : Offer) (m : Meeting) (is : Receives lines t offer m) → nat_eq is.v t ≡ false → partner_in t m ≡ is.v
partner_receives lines t offer m is apart = ap (partner_in t) is.is ∙ ap (λ b. if b then t else is.v) apart
