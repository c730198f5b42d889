-- Two books in which nobody has a lease have one desk where their jobs, events, queues and lines are the same.
use Rattle.std.proofs.Common.{◌≡◌, ℕ, ◌+◌, max, false, cond, Option, Some, None, refl, sym, ap, ◌∙◌}
use Rattle.std.specs.Prelude.{IfSome, option_and_then, option_map}
use Rattle.std.specs.Cmp.{nat_cmp_total}
use Rattle.std.specs.Option.{option_map_or}
use Rattle.std.specs.FinMap as map
use Rattle.std.specs.FinMap.{same_map, nat_cmp-IsAntisymmetric}
use Rattle.std.proofs.lemmas.Bool.{false≢true}
use Rattle.linked_lists.specs.Lists.{is_listed}
use Rattle.stab_code.specs.Program.{ProgramParts}
use Rattle.stab_journal.specs.Generation.{generation}
use Rattle.stab_journal.specs.Surviving.{run_of}
use Rattle.thread_slots.specs.declared.state.State.{State}
use Rattle.thread_slots.specs.declared.state.State.TheVariants.{Ready, Leased, Parked, Ended}
use Rattle.thread_slots.specs.Slot.{Slot, same_state, is_in}
use Rattle.rendezvous.specs.declared.offer.Offer.{Offer}
use Rattle.language.specs.Plain.{PlainState, end_of, look_in}
use Rattle.journal_laws.proofs.Surviving.{some_is, some_none}
use Rattle.journal_laws.proofs.Undone.{stands_run}
use Rattle.step_eval.specs.ControlView.{ControlView, expr_of}
use Rattle.commit_book.specs.Book.{BookView, IsShown, offered, over}
use Rattle.commit_book.specs.Doing.{IsDoing, is_over, offer_at, waits_with}
use Rattle.stab_journal.specs.Numbers.{greatest, threads_by, named_by, chans_in, refs_in}
use Rattle.commit_book.specs.Threads.{stands}
use Rattle.commit_book.proofs.Threads.Holding.{nobody_in}
use Rattle.lone_worker.specs.Desk.{Seat, IsUnlent, desk_of, seat_of}

-- who has ended, is ready and isn't leased has one state
one_state : (s r : State) → same_state Ended s ≡ same_state Ended r → same_state Ready s ≡ same_state Ready r → same_state Leased s ≡ false → same_state Leased r ≡ false → s ≡ r
one_state Ready Ready ended ready s r = refl
one_state Ready Parked ended ready s r = absurd (false≢true (sym ready))
one_state Ready Ended ended ready s r = absurd (false≢true ended)
one_state Parked Ready ended ready s r = absurd (false≢true ready)
one_state Parked Parked ended ready s r = refl
one_state Parked Ended ended ready s r = absurd (false≢true ended)
one_state Ended Ready ended ready s r = absurd (false≢true (sym ended))
one_state Ended Parked ended ready s r = absurd (false≢true (sym ended))
one_state Ended Ended ended ready s r = refl
one_state Leased r ended ready s_leased r_leased = absurd (false≢true (sym s_leased))
one_state s Leased ended ready s_leased r_leased = absurd (false≢true (sym r_leased))

-- what a thread waits with, by its seat
abbrev offer_in : ProgramParts → Option Seat → Option Offer
offer_in p o = option_and_then (λ (s : Seat). cond (same_state Parked s.state) (offer_at (look_in p s.stands)) None) o

-- of one book
module _ (b : BookView) (shown : IsShown b) where
  abbrev p : ProgramParts
  p = b.job.program

  pub ends : end_of p (run_of b.history.events) ≡ Some shown.state
  ends = let run = stands_run p b.history.events shown.run shown.state shown.shows.journal.history.stands in ap (end_of p) (sym run.0) ∙ run.1.ends

  pub ended_by : (u : ℕ) → is_in Ended b.threads u ≡ option_map_or is_over (stands (expr_of p) b.threads u) false
  ended_by u = by (map.get b.threads u) (shown.shows.threads.doing u)
    where
      by : (o : Option (Slot ControlView)) → IfSome o (IsDoing (over p) (offered p))
          → option_map_or (λ (slot : Slot ControlView). same_state Ended slot.state) o false ≡ option_map_or is_over (option_map (λ (slot : Slot ControlView). expr_of p slot.control) o) false
      by None doing = refl
      by (Some slot) doing = doing.ended

  pub offer_by : (u : ℕ) → map.get b.offers.offers u ≡ offer_in p (option_map (seat_of p) (map.get b.threads u))
  offer_by u = shown.shows.threads.offers.each u ∙ by (map.get b.threads u)
    where
      by : (o : Option (Slot ControlView)) → option_and_then (waits_with (offered p)) o ≡ offer_in p (option_map (seat_of p) o)
      by None = refl
      by (Some slot) = refl

module _ (a b : BookView) (shown_a : IsShown a) (shown_b : IsShown b) (job : a.job ≡ b.job) (events : a.history.events ≡ b.history.events) where
  -- they show one state
  pub one_end : shown_a.state ≡ shown_b.state
  one_end = some_is (sym (ends a shown_a) ∙ (λ i. end_of (job i).program (run_of (events i))) ∙ ends b shown_b)

  pub one_stand : (u : ℕ) → stands (expr_of a.job.program) a.threads u ≡ stands (expr_of b.job.program) b.threads u
  one_stand u = shown_a.shows.threads.threads u ∙ ap (λ (s : PlainState). map.get s.threads u) one_end ∙ sym (shown_b.shows.threads.threads u)

  pub one_ended : (u : ℕ) → is_in Ended a.threads u ≡ is_in Ended b.threads u
  one_ended u = ended_by a shown_a u ∙ ap (λ o. option_map_or is_over o false) (one_stand u) ∙ sym (ended_by b shown_b u)

  pub one_next : a.next ≡ b.next
  one_next =
      let m = shown_a.shows.journal.next in
      let n = shown_b.shows.journal.next in
      let thread = m.thread ∙ ap (λ es. max 1 (greatest threads_by es) + 1) events ∙ sym n.thread in
      let chan = m.chan ∙ ap (λ es. greatest (named_by chans_in) es + 1) events ∙ sym n.chan in
      let ref = m.ref ∙ ap (λ es. greatest (named_by refs_in) es + 1) events ∙ sym n.ref in
      λ i. record { thread = thread i; chan = chan i; ref = ref i }

  seat_by : (u : ℕ) (o r : Option (Slot ControlView))
      → option_map (λ (s : Slot ControlView). expr_of a.job.program s.control) o ≡ option_map (λ (s : Slot ControlView). expr_of b.job.program s.control) r
      → IfSome o (λ (s : Slot ControlView). s.generation ≡ generation u a.history.events) → IfSome r (λ (s : Slot ControlView). s.generation ≡ generation u b.history.events)
      → option_map_or (λ (s : Slot ControlView). same_state Ended s.state) o false ≡ option_map_or (λ (s : Slot ControlView). same_state Ended s.state) r false
      → option_map_or (λ (s : Slot ControlView). same_state Ready s.state) o false ≡ option_map_or (λ (s : Slot ControlView). same_state Ready s.state) r false
      → option_map_or (λ (s : Slot ControlView). same_state Leased s.state) o false ≡ false → option_map_or (λ (s : Slot ControlView). same_state Leased s.state) r false ≡ false
      → option_map (seat_of a.job.program) o ≡ option_map (seat_of b.job.program) r
  seat_by u None None stand g h ended ready l m = refl
  seat_by u None (Some y) stand g h ended ready l m = absurd (some_none (sym stand))
  seat_by u (Some x) None stand g h ended ready l m = absurd (some_none stand)
  seat_by u (Some x) (Some y) stand g h ended ready l m =
      let e = some_is stand in
      let n = g ∙ ap (generation u) events ∙ sym h in
      let s = one_state x.state y.state ended ready l m in
      λ i. Some (record { stands = e i; generation = n i; state = s i })

  module _ (queue : a.queue ≡ b.queue) (free_a : (u : ℕ) → is_in Leased a.threads u ≡ false) (free_b : (u : ℕ) → is_in Leased b.threads u ≡ false) where
    one_ready : (u : ℕ) → is_in Ready a.threads u ≡ is_in Ready b.threads u
    one_ready u = sym (shown_a.shows.threads.queue.ready u) ∙ ap (is_listed u) queue ∙ shown_b.shows.threads.queue.ready u

    pub one_seat : (u : ℕ) → option_map (seat_of a.job.program) (map.get a.threads u) ≡ option_map (seat_of b.job.program) (map.get b.threads u)
    one_seat u =
        seat_by u (map.get a.threads u) (map.get b.threads u) (one_stand u) (shown_a.shows.threads.generations u) (shown_b.shows.threads.generations u)
        (one_ended u) (one_ready u) (free_a u) (free_b u)

    pub one_offer : (u : ℕ) → map.get a.offers.offers u ≡ map.get b.offers.offers u
    one_offer u = offer_by a shown_a u ∙ (λ i. offer_in (job i).program (one_seat u i)) ∙ sym (offer_by b shown_b u)

    pub one_desk : a.offers.lines ≡ b.offers.lines → desk_of a ≡ desk_of b
    one_desk lines =
        let offers = same_map nat_cmp_total nat_cmp-IsAntisymmetric a.offers.offers b.offers.offers one_offer in
        λ i. record { job = job i; events = events i; threads = λ u. one_seat u i; queue = queue i; offers = record { lines = lines i; offers = offers i }; next = one_next i }

-- nobody is leased where nobody has a lease
pub each_free : (b : BookView) → IsUnlent b → (u : ℕ) → is_in Leased b.threads u ≡ false
each_free b is u = nobody_in b is.shown Leased is.free u
