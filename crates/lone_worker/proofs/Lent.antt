-- A thread that was lent where nobody had a lease.
use Rattle.std.proofs.Common.{◌≡◌, ℕ, ◌<◌, ◌≤◌, Bool, true, false, cond, not, nat_eq, List, [], ◌∷◌, length, Some, refl, sym, ap, subst, ◌∙◌, arith}
use Rattle.std.specs.Prelude.{IfSome, IsSomeAnd, option_map, slice_get}
use Rattle.std.specs.Option.{option_map_or}
use Rattle.std.specs.Cmp.{nat_eq_equiv}
use Rattle.std.specs.FinMap as map
use Rattle.std.proofs.lemmas.Bool.{eqb-true}
use Rattle.linked_lists.specs.Lists.{without}
use Rattle.thread_slots.specs.declared.state.State.TheVariants.{Ready, Leased}
use Rattle.thread_slots.specs.Slot.{Slot, same_state, is_in, changed}
use Rattle.step_eval.specs.ControlView.{ControlView}
use Rattle.journal_laws.proofs.Surviving.{some_is, some_none}
use Rattle.commit_book.specs.declared.turn.Turn.TheVariants.{Work}
use Rattle.commit_book.specs.Book.{BookView, IsShown, over, offered}
use Rattle.commit_book.specs.Counts.{in_state}
use Rattle.commit_book.specs.Doing.{IsDoing}
use Rattle.commit_book.specs.Leases.{LeaseView}
use Rattle.commit_book.specs.Turns.{IsLeaseOf, IsTurn}
use Rattle.commit_book.proofs.Threads.Choosing.{chosen_front}
use Rattle.commit_book.proofs.Threads.Chosen.{chosen_light}
use Rattle.commit_book.proofs.Threads.Lending.{get-changed}
use Rattle.commit_book.proofs.Acting.Meeting.{first_listed}
use Rattle.commit_book.proofs.Threads.Partners.{IsThere, there_of}
use Rattle.lone_worker.specs.Turn.{IsHeldAs, IsLentAlone, left_to_do, worker}
use Rattle.commit_book.proofs.Threads.Holding.{nobody_in, ready_not_ended}

pub no_longer : (t : ℕ) (xs : List ℕ) → length (without t xs) ≤ length xs
no_longer t [] = omega arith
no_longer t (x ∷ xs) = by (nat_eq t x) (no_longer t xs)
  where
    by : (b : Bool) → length (without t xs) ≤ length xs → length (cond {A = List ℕ} (not b) (x ∷ without t xs) (without t xs)) ≤ length (x ∷ xs)
    by true few = omega (arith, few)
    by false few = omega (arith, few)

-- who leaves from the front leaves fewer
pub fewer_left : (t : ℕ) (xs : List ℕ) → slice_get xs 0 ≡ Some t → length (without t xs) < length xs
fewer_left t [] is = absurd (some_none (sym is))
fewer_left t (x ∷ xs) is =
    let at : nat_eq t x ≡ true = ap (nat_eq t) (some_is is) ∙ nat_eq_equiv.refl t in
    let e : length (without t (x ∷ xs)) ≡ length (without t xs) = ap (λ b. length (cond {A = List ℕ} (not b) (x ∷ without t xs) (without t xs))) at in
    let k = no_longer t xs in
    omega arith

module _ (old lent : BookView) (lease : LeaseView) (control : ControlView) (shown : IsShown old) (free : in_state Leased old ≡ 0) (turn : IsTurn old lent worker (Work lease control)) where
  abbrev t : ℕ
  t = lease.thread

  abbrev to_leased : Slot ControlView → Slot ControlView
  to_leased slot = record slot { state = Leased }

  here : IsThere (map.get old.threads t) (IsLeaseOf old worker lease control)
  here = there_of (map.get old.threads t) (IsLeaseOf old worker lease control) turn.1

  front : slice_get old.queue 0 ≡ Some t
  front = chosen_front old (record { 0 = t }) turn.0

  ready : same_state Ready here.value.state ≡ true
  ready =
      ap (λ o. option_map_or (λ (slot : Slot ControlView). same_state Ready slot.state) o false) (sym here.found)
      ∙ sym (shown.shows.threads.queue.ready t)
      ∙ first_listed t old.queue front

  going : over old.job.program control ≡ false
  going =
      let doing : IsDoing (over old.job.program) (offered old.job.program) here.value = subst (λ o. IfSome o (IsDoing (over old.job.program) (offered old.job.program))) here.found (shown.shows.threads.doing t) in
      ap (over old.job.program) here.is.control ∙ sym doing.ended ∙ ready_not_ended here.value.state ready

  leased_here : map.get (changed old.threads t to_leased) t ≡ Some (to_leased here.value)
  leased_here = get-changed old.threads t t to_leased ∙ ap (λ b. cond b (option_map to_leased (map.get old.threads t)) (map.get old.threads t)) (nat_eq_equiv.refl t) ∙ ap (option_map to_leased) here.found

  alone_at : (u : ℕ) (b : Bool) → nat_eq u t ≡ b → is_in Leased (changed old.threads t to_leased) u ≡ b
  alone_at u true at = ap (is_in Leased (changed old.threads t to_leased)) (eqb-true u t at) ∙ ap (λ o. option_map_or (λ (slot : Slot ControlView). same_state Leased slot.state) o false) leased_here
  alone_at u false at =
      ap (λ o. option_map_or (λ (slot : Slot ControlView). same_state Leased slot.state) o false) (get-changed old.threads t u to_leased ∙ ap (λ b. cond b (option_map to_leased (map.get old.threads t)) (map.get old.threads u)) at)
      ∙ nobody_in old shown Leased free u

  -- so its thread alone is lent
  pub lent_alone : IsLentAlone lent lease control
  lent_alone = subst (λ (b : BookView). IsLentAlone b lease control) (sym turn.2) (record {
    by_one = here.is.worker;
    alone = λ u. alone_at u (nat_eq u t) refl;
    held = subst (λ o. IsSomeAnd o (IsHeldAs lease control)) (sym leased_here) (record { generation = sym here.is.generation; control = sym here.is.control; state = refl });
    fits = here.is.fits;
    going = going;
    light = chosen_light old (record { 0 = t }) turn.0;
  })

  -- and its queue is shorter
  pub lent_nearer : left_to_do lent < left_to_do old
  lent_nearer =
      let less = fewer_left t old.queue front in
      subst (λ (b : BookView). left_to_do b < left_to_do old) (sym turn.2) (omega (arith, less))

  pub lent_job : lent.job ≡ old.job
  lent_job = ap (λ (b : BookView). b.job) turn.2

  pub lent_history : lent.history ≡ old.history
  lent_history = ap (λ (b : BookView). b.history) turn.2
