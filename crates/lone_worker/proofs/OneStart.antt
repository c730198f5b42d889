-- Two books before their first event have one desk where they have one job.
use Rattle.std.proofs.Common.{◌≡◌, ℕ, Bool, true, false, cond, not, nat_eq, [], Option, Some, None, refl, sym, ap, ◌∙◌}
use Rattle.std.specs.Prelude.{is_some, option_map}
use Rattle.std.specs.Cmp.{nat_cmp_total}
use Rattle.std.specs.Ordering.{nat_cmp}
use Rattle.std.specs.Option.{option_map_or}
use Rattle.std.specs.FinMap as map
use Rattle.std.specs.FinMap.{get-empty, same_map, nat_cmp-IsAntisymmetric}
use Rattle.std.specs.FinSet as set
use Rattle.std.proofs.lemmas.Bool.{false≢true, eqb-true}
use Rattle.thread_slots.specs.declared.state.State.{State}
use Rattle.thread_slots.specs.declared.state.State.TheVariants.{Ready, Leased, Ended}
use Rattle.thread_slots.specs.Slot.{Slot, started, same_state, is_in}
use Rattle.rendezvous.specs.Line.{Line}
use Rattle.language.specs.Outcome.{called}
use Rattle.language.specs.Plain.{start}
use Rattle.language.specs.Program.{body}
use Rattle.language.proofs.Applying.{get_inserted}
use Rattle.journal_laws.proofs.Surviving.{some_none}
use Rattle.step_eval.specs.ControlView.{ControlView, expr_of}
use Rattle.commit_book.specs.Book.{BookView, IsAtStart, IsShown, over}
use Rattle.commit_book.proofs.Threads.Holding.{none_counted}
use Rattle.commit_book.proofs.Threads.Partners.{IsThere, there_of}
use Rattle.lone_worker.specs.Desk.{IsUnlent, desk_of}
use Rattle.lone_worker.proofs.OneAtMost.{HasOnly, one_list}
use Rattle.lone_worker.proofs.OneDesk.{each_free, one_desk, one_ended}

module _ (b : BookView) (at : IsAtStart b) where
  pub start_shown : IsShown b
  start_shown = record { run = []; state = start b.job.program; shows = at.shows }

  main : IsThere (map.get b.threads 1) (λ slot. slot ≡ started slot.control (over b.job.program slot.control))
  main = there_of (map.get b.threads 1) (λ slot. slot ≡ started slot.control (over b.job.program slot.control)) at.main

  main_state : main.value.state ≡ cond (over b.job.program main.value.control) Ended Ready
  main_state = ap (λ (slot : Slot ControlView). slot.state) main.is

  none_there : (o : Option (Slot ControlView)) → option_map (λ (slot : Slot ControlView). expr_of b.job.program slot.control) o ≡ None → o ≡ None
  none_there None is = refl
  none_there (Some slot) is = absurd (some_none is)

  -- there is thread 1 alone
  nobody_else : (u : ℕ) → nat_eq u 1 ≡ false → map.get b.threads u ≡ None
  nobody_else u other =
      none_there (map.get b.threads u)
      (at.shows.threads.threads u ∙ get_inserted map.empty 1 (called (body b.job.program) b.job.program.main.0 []) u
      ∙ ap (λ k. cond k (Some (called (body b.job.program) b.job.program.main.0 [])) (map.get {R = nat_cmp} map.empty u)) other ∙ get-empty nat_cmp u)

  in_none : (state : State) (u : ℕ) → nat_eq u 1 ≡ false → is_in state b.threads u ≡ false
  in_none state u other = ap (λ o. option_map_or (λ (slot : Slot ControlView). same_state state slot.state) o false) (nobody_else u other)

  in_main : (state : State) → is_in state b.threads 1 ≡ same_state state (cond (over b.job.program main.value.control) Ended Ready)
  in_main state = ap (λ o. option_map_or (λ (slot : Slot ControlView). same_state state slot.state) o false) main.found ∙ ap (same_state state) main_state

  unleased : (u : ℕ) → is_in Leased b.threads u ≡ false
  unleased u = by (nat_eq u 1) refl
    where
      not_so : (k : Bool) → same_state Leased (cond k Ended Ready) ≡ false
      not_so true = refl
      not_so false = refl

      by : (k : Bool) → nat_eq u 1 ≡ k → is_in Leased b.threads u ≡ false
      by true is = ap (is_in Leased b.threads) (eqb-true u 1 is) ∙ in_main Leased ∙ not_so (over b.job.program main.value.control)
      by false other = in_none Leased u other

  pub start_unlent : IsUnlent b
  start_unlent = record { shown = start_shown; free = none_counted (is_in Leased b.threads) b.next.thread unleased }

  -- it is ready, or has ended
  pub ready_or_ended : is_in Ready b.threads 1 ≡ not (is_in Ended b.threads 1)
  ready_or_ended = in_main Ready ∙ one_of (over b.job.program main.value.control) ∙ sym (ap not (in_main Ended))
    where
      one_of : (k : Bool) → same_state Ready (cond k Ended Ready) ≡ not (same_state Ended (cond k Ended Ready))
      one_of true = refl
      one_of false = refl

  pub start_queue : HasOnly 1 b.queue
  start_queue = record { once = at.shows.threads.queue.once; others = λ u other. at.shows.threads.queue.ready u ∙ in_none Ready u other }

  -- there is no channel
  pub start_lines : (c : ℕ) → map.get b.offers.lines c ≡ None
  start_lines c = by (map.get b.offers.lines c) (at.shows.journal.channels c ∙ set.contains-empty nat_cmp c)
    where
      by : (o : Option Line) → is_some o ≡ false → o ≡ None
      by None is = refl
      by (Some l) is = absurd (false≢true (sym is))

pub one_start : (a b : BookView) → IsAtStart a → IsAtStart b → a.job ≡ b.job → desk_of a ≡ desk_of b
one_start a b at_a at_b job =
    let events = at_a.events ∙ sym at_b.events in
    let ended = one_ended a b (start_shown a at_a) (start_shown b at_b) job events 1 in
    let ready : is_in Ready a.threads 1 ≡ is_in Ready b.threads 1 = ready_or_ended a at_a ∙ ap not ended ∙ sym (ready_or_ended b at_b) in
    let queue = one_list 1 a.queue b.queue (start_queue a at_a) (start_queue b at_b) (at_a.shows.threads.queue.ready 1 ∙ ready ∙ sym (at_b.shows.threads.queue.ready 1)) in
    one_desk a b (start_shown a at_a) (start_shown b at_b) job events queue (each_free a (start_unlent a at_a)) (each_free b (start_unlent b at_b))
    (same_map nat_cmp_total nat_cmp-IsAntisymmetric a.offers.lines b.offers.lines (λ c. start_lines a at_a c ∙ sym (start_lines b at_b c)))
