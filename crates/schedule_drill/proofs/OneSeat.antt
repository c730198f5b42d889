-- Books have one desk where their jobs, events, queues and lines are the same, and the same threads are leased.
use Rattle.std.proofs.Common.{◌≡◌, ℕ, false, cond, Option, Some, None, refl, sym, ap, ◌∙◌}
use Rattle.std.specs.Prelude.{IfSome, option_and_then, option_map}
use Rattle.std.specs.Cmp.{nat_cmp_total}
use Rattle.std.specs.Option.{option_map_or}
use Rattle.std.specs.FinMap as map
use Rattle.std.specs.FinMap.{same_map, nat_cmp-IsAntisymmetric}
use Rattle.std.proofs.lemmas.Bool.{false≢true}
use Rattle.linked_lists.specs.Lists.{is_listed}
use Rattle.stab_code.specs.Program.{ProgramParts}
use Rattle.stab_journal.specs.Generation.{generation}
use Rattle.thread_slots.specs.declared.state.State.{State}
use Rattle.thread_slots.specs.declared.state.State.TheVariants.{Ready, Leased, Parked, Ended}
use Rattle.thread_slots.specs.Slot.{Slot, same_state, is_in}
use Rattle.rendezvous.specs.declared.offer.Offer.{Offer}
use Rattle.language.specs.Plain.{look_in}
use Rattle.journal_laws.proofs.Surviving.{some_is, some_none}
use Rattle.step_eval.specs.ControlView.{ControlView, expr_of}
use Rattle.commit_book.specs.Book.{BookView, IsShown}
use Rattle.commit_book.specs.Doing.{offer_at}
use Rattle.lone_worker.specs.Desk.{Seat, desk_of, seat_of}
use Rattle.lone_worker.proofs.OneDesk.{offer_by, one_ended, one_next, one_stand}

one_state : (s r : State) → same_state Ended s ≡ same_state Ended r → same_state Ready s ≡ same_state Ready r → same_state Leased s ≡ same_state Leased r → s ≡ r
one_state Ready Ready ended ready leased = refl
one_state Ready Leased ended ready leased = absurd (false≢true (sym ready))
one_state Ready Parked ended ready leased = absurd (false≢true (sym ready))
one_state Ready Ended ended ready leased = absurd (false≢true (sym ready))
one_state Leased Ready ended ready leased = absurd (false≢true ready)
one_state Leased Leased ended ready leased = refl
one_state Leased Parked ended ready leased = absurd (false≢true (sym leased))
one_state Leased Ended ended ready leased = absurd (false≢true (sym leased))
one_state Parked Ready ended ready leased = absurd (false≢true ready)
one_state Parked Leased ended ready leased = absurd (false≢true leased)
one_state Parked Parked ended ready leased = refl
one_state Parked Ended ended ready leased = absurd (false≢true ended)
one_state Ended Ready ended ready leased = absurd (false≢true ready)
one_state Ended Leased ended ready leased = absurd (false≢true leased)
one_state Ended Parked ended ready leased = absurd (false≢true (sym ended))
one_state Ended Ended ended ready leased = refl

-- what a thread waits with, by its seat
abbrev offer_in : ProgramParts → Option Seat → Option Offer
offer_in p o = option_and_then (λ (s : Seat). cond (same_state Parked s.state) (offer_at (look_in p s.stands)) None) o

module _ (a b : BookView) (shown_a : IsShown a) (shown_b : IsShown b) (job : a.job ≡ b.job) (events : a.history.events ≡ b.history.events) (queue : a.queue ≡ b.queue) (leased : (u : ℕ) → is_in Leased a.threads u ≡ is_in Leased b.threads u) where
  seat_by : (u : ℕ) (o r : Option (Slot ControlView))
      → option_map (λ (s : Slot ControlView). expr_of a.job.program s.control) o ≡ option_map (λ (s : Slot ControlView). expr_of b.job.program s.control) r
      → IfSome o (λ (s : Slot ControlView). s.generation ≡ generation u a.history.events) → IfSome r (λ (s : Slot ControlView). s.generation ≡ generation u b.history.events)
      → option_map_or (λ (s : Slot ControlView). same_state Ended s.state) o false ≡ option_map_or (λ (s : Slot ControlView). same_state Ended s.state) r false
      → option_map_or (λ (s : Slot ControlView). same_state Ready s.state) o false ≡ option_map_or (λ (s : Slot ControlView). same_state Ready s.state) r false
      → option_map_or (λ (s : Slot ControlView). same_state Leased s.state) o false ≡ option_map_or (λ (s : Slot ControlView). same_state Leased s.state) r false
      → option_map (seat_of a.job.program) o ≡ option_map (seat_of b.job.program) r
  seat_by u None None stand g h ended ready lent = refl
  seat_by u None (Some y) stand g h ended ready lent = absurd (some_none (sym stand))
  seat_by u (Some x) None stand g h ended ready lent = absurd (some_none stand)
  seat_by u (Some x) (Some y) stand g h ended ready lent =
      let e = some_is stand in
      let n = g ∙ ap (generation u) events ∙ sym h in
      let s = one_state x.state y.state ended ready lent in
      λ i. Some (record { stands = e i; generation = n i; state = s i })

  one_ready : (u : ℕ) → is_in Ready a.threads u ≡ is_in Ready b.threads u
  one_ready u = sym (shown_a.shows.threads.queue.ready u) ∙ ap (is_listed u) queue ∙ shown_b.shows.threads.queue.ready u

  pub one_seat : (u : ℕ) → option_map (seat_of a.job.program) (map.get a.threads u) ≡ option_map (seat_of b.job.program) (map.get b.threads u)
  one_seat u =
      seat_by u (map.get a.threads u) (map.get b.threads u) (one_stand a b shown_a shown_b job events u) (shown_a.shows.threads.generations u) (shown_b.shows.threads.generations u)
      (one_ended a b shown_a shown_b job events u) (one_ready u) (leased u)

  pub one_offer : (u : ℕ) → map.get a.offers.offers u ≡ map.get b.offers.offers u
  one_offer u = offer_by a shown_a u ∙ (λ i. offer_in (job i).program (one_seat u i)) ∙ sym (offer_by b shown_b u)

  pub one_desk : a.offers.lines ≡ b.offers.lines → desk_of a ≡ desk_of b
  one_desk lines =
      let offers = same_map nat_cmp_total nat_cmp-IsAntisymmetric a.offers.offers b.offers.offers one_offer in
      let next = one_next a b shown_a shown_b job events in
      λ i. record { job = job i; events = events i; threads = λ u. one_seat u i; queue = queue i; offers = record { lines = lines i; offers = offers i }; next = next i }
