-- What the calls need of an act that starts a child, or in which two threads meet.
use Rattle.std.proofs.Common.{◌≡◌, ◌⊎◌, inl, inr, ℕ, ◌+◌, ◌<◌, ◌≤◌, Bool, true, false, ◌||◌, length, Some, refl, sym, ap, subst, ◌∙◌, arith}
use Rattle.std.specs.Prelude.{IsSome, is_some, option_map}
use Rattle.std.specs.List.{All}
use Rattle.std.specs.FinMap as map
use Rattle.std.specs.FinSet as set
use Rattle.stab_base.specs.declared.numbers.Seq.{Seq}
use Rattle.stab_base.specs.declared.numbers.ThreadId.{ThreadId}
use Rattle.stab_code.specs.JobParts.{JobParts}
use Rattle.stab_journal.specs.declared.event.Label.TheVariants.{Comm, Spawn}
use Rattle.stab_journal.specs.Event.{IsLabel, IsName}
use Rattle.comm_graph.specs.Node.{Node}
use Rattle.thread_slots.specs.Slot.{Slot}
use Rattle.rendezvous.specs.declared.offer.Offer.{Offer}
use Rattle.rendezvous.specs.Offer.{receives_on, sends_on}
use Rattle.step_eval.specs.ControlView.{ControlView, expr_of}
use Rattle.step_eval.specs.Progress.{ProgressView}
use Rattle.commit_book.specs.declared.exchange.Meeting.{Meeting}
use Rattle.commit_book.specs.declared.parts.Parts.{Parts}
use Rattle.commit_book.specs.Acting.{AreAsBefore, IsLonger, MayAct, fails_now}
use Rattle.commit_book.specs.Book.{offered}
use Rattle.commit_book.specs.Layout.{view_of}
use Rattle.commit_book.specs.Leases.{LeaseView}
use Rattle.commit_book.specs.Meetings.{meeting_of}
use Rattle.commit_book.specs.Rows.{local_of, thread}
use Rattle.commit_book.proofs.Threads.Faulted.{faulted_few}
use Rattle.commit_book.proofs.Acting.Matched.{Receives, Sends, offer_there, receives_from, roles, sends_to}
use Rattle.commit_book.proofs.Keeping.Room.{chan_name, thread_begins, thread_name, thread_within}
use Rattle.commit_book.proofs.Keeping.RoomHere.{channel_below, thread_below}
use Rattle.commit_book.proofs.Keeping.RoomKept.{nodes_before}
use Rattle.commit_book.proofs.Keeping.RoomNames.{chan_from, thread_from}
use Rattle.commit_book.proofs.Acting.SingleActs.{journal_at, named_at, ready_at, room_at}

-- one thread more can fail at a step
at_most_one : (before now : Bool) → fails_now before now ≤ 1
at_most_one true true = omega arith
at_most_one true false = omega arith
at_most_one false true = omega arith
at_most_one false false = omega arith

or_true : (b : Bool) → (b || true) ≡ true
or_true true = refl
or_true false = refl

module _ (job : JobParts) (old : Parts) (lease : LeaseView) (progress : ProgressView) (may : MayAct job old lease progress) where
  next_within : old.slots.next ≤ 4294967293
  next_within = thread_within 1 old.history.events (room_at job old lease progress may) old.slots.next old.next_chan old.next_ref (journal_at job old lease progress may).few

  pub numbers_within : (n : ℕ) → n ≡ old.slots.next → n ≤ 4294967294
  numbers_within n same = omega (arith, same, next_within)

  failed_few : old.tallies.faulted ≤ old.slots.next
  failed_few = subst (λ (n : ℕ). n ≤ old.slots.next) (sym may.kept.tallied.faulted) (faulted_few job.program old.slots.threads old.slots.next)

  pub few_now : (n : ℕ) → n ≡ old.tallies.faulted → n < 4294967296
  few_now n same = omega (arith, same, next_within, failed_few)

  -- once one of the two has moved
  pub few_then : (n : ℕ) (before now : Bool) → n ≡ old.tallies.faulted + fails_now before now → n < 4294967296
  few_then n before now same = omega (arith, same, next_within, failed_few, at_most_one before now)

  -- a child has the next number
  pub child_label : (u : ThreadId) (n : ℕ) → u.0 ≡ n → n ≡ old.slots.next → IsLabel (Spawn (thread lease.thread) u)
  child_label u n is same = (
    named_at job old lease progress may,
    subst IsName (sym (is ∙ same))
        (thread_name 1 old.history.events (room_at job old lease progress may) old.slots.next old.next_chan old.next_ref (journal_at job old lease progress may).few old.slots.next
        (thread_begins old.history.events old.slots.next old.next_chan old.next_ref (journal_at job old lease progress may).next) (omega arith)),
  )

  named_there : (k : ℕ) (slot : Slot ControlView) → map.get old.slots.threads k ≡ Some slot → IsName k
  named_there k slot found =
      let there : map.contains_key may.kept.shown.state.threads k ≡ true = ap is_some (sym (may.kept.shown.shows.threads.threads k) ∙ ap (option_map (λ (s : Slot ControlView). expr_of job.program s.control)) found) in
      let shown = journal_at job old lease progress may in
      let below = thread_below (view_of job old) may.kept.shown.run may.kept.shown.state shown k there in
      thread_name 1 old.history.events (room_at job old lease progress may) old.slots.next old.next_chan old.next_ref shown.few k
      (thread_from job.program old.history.events may.kept.shown.run may.kept.shown.state shown.history.stands may.ranges k there) (omega (arith, below))

  -- the graph has earlier events alone
  module _ (planned begins : Parts) (before : AreAsBefore old planned) (longer : IsLonger planned.history begins.history lease.worker (local_of lease.thread progress.steps)) (rest : begins ≡ record planned { history = begins.history }) where
    pub nodes_low : (q : Seq) → q.0 ≡ length begins.history.events + 1 → All (λ (n : Node). n.number < q.0) begins.graph.nodes
    nodes_low q is =
        let ready = ready_at job old lease progress may planned begins before longer rest in
        subst (λ (k : ℕ). All (λ (n : Node). n.number < k) begins.graph.nodes) (sym is) (nodes_before (view_of job begins) ready.run ready.state ready.journal)

  module _ (offer : Offer) (offering_now : offered job.program progress.end ≡ Some offer) (m : Meeting) (meets : meeting_of old.offers.lines lease.thread offer ≡ Some m) where
    chan_there : IsSome (map.get old.offers.lines m.chan.0)
    chan_there = by (roles old.offers.lines lease.thread m offer meets)
      where
        by : Sends old.offers.lines lease.thread offer m ⊎ Receives old.offers.lines lease.thread offer m → IsSome (map.get old.offers.lines m.chan.0)
        by (inl r) = offer_there job old lease progress may offer offering_now m.chan.0 (ap (λ b. b || receives_on m.chan.0 offer) r.on)
        by (inr r) = offer_there job old lease progress may offer offering_now m.chan.0 (ap (λ b. sends_on m.chan.0 offer || b) r.on ∙ or_true (sends_on m.chan.0 offer))

    chan_known : set.contains may.kept.shown.state.channels m.chan.0 ≡ true
    chan_known = sym ((journal_at job old lease progress may).channels m.chan.0) ∙ chan_there

    pub chan_low : m.chan.0 < old.next_chan
    chan_low = channel_below (view_of job old) may.kept.shown.run may.kept.shown.state (journal_at job old lease progress may) m.chan.0 chan_known

    chan_named : IsName m.chan.0
    chan_named =
        chan_name 1 old.history.events (room_at job old lease progress may) old.slots.next old.next_chan old.next_ref (journal_at job old lease progress may).few m.chan.0
        (chan_from job.program old.history.events may.kept.shown.run may.kept.shown.state (journal_at job old lease progress may).history.stands may.ranges m.chan.0 chan_known) (omega (arith, chan_low))

    pub meeting_label : IsLabel (Comm m.sender m.receiver m.chan)
    meeting_label = by (roles old.offers.lines lease.thread m offer meets)
      where
        by : Sends old.offers.lines lease.thread offer m ⊎ Receives old.offers.lines lease.thread offer m → IsLabel (Comm m.sender m.receiver m.chan)
        by (inl r) =
            let met = (sends_to job old lease progress may offer offering_now m r).met in (
              subst IsName (sym (ap (λ (k : Meeting). k.sender.0) r.is)) (named_at job old lease progress may),
              subst IsName (sym (ap (λ (k : Meeting). k.receiver.0) r.is)) (named_there r.v met.slot met.found),
              chan_named,
            )
        by (inr r) =
            let met = (receives_from job old lease progress may offer offering_now m r).met in (
              subst IsName (sym (ap (λ (k : Meeting). k.sender.0) r.is)) (named_there r.v met.slot met.found),
              subst IsName (sym (ap (λ (k : Meeting). k.receiver.0) r.is)) (named_at job old lease progress may),
              chan_named,
            )
