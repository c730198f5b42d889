-- The line of a channel that wasn't there before a commit that moved threads: the thread that was committed stands there alone, if anybody.
use Rattle.std.proofs.Common.{◌≡◌, ℕ, Bool, true, false, cond, not, ◌||◌, nat_eq, Option, Some, None, refl, sym, ap, subst, ◌∙◌}
use Rattle.std.specs.Prelude.{IfSome, option_and_then}
use Rattle.std.specs.List.{IsDistinct}
use Rattle.std.specs.Option.{option_map_or}
use Rattle.std.specs.FinMap as map
use Rattle.std.proofs.lemmas.Bool.{false≢true}
use Rattle.linked_lists.specs.Lists.{is_listed, without}
use Rattle.stab_code.specs.Program.{ProgramParts}
use Rattle.thread_slots.specs.declared.state.State.TheVariants.{Ready, Parked, Ended}
use Rattle.thread_slots.specs.Slot.{Slot, same_state, is_in}
use Rattle.rendezvous.specs.declared.offer.Offer.{Offer}
use Rattle.rendezvous.specs.Line.{Line, LineBacked, offered as passes}
use Rattle.rendezvous.specs.Offer.{receives_on, sends_on}
use Rattle.step_eval.specs.ControlView.{ControlView}
use Rattle.commit_book.specs.Book.{BookView, IsShown, offered}
use Rattle.commit_book.specs.Commits.{IsMoved}
use Rattle.commit_book.specs.Doing.{waits_with}
use Rattle.commit_book.specs.Rows.{Row, movers}
use Rattle.commit_book.proofs.Threads.Choosing.{found_in}
use Rattle.commit_book.proofs.Threads.Holding.{isnt_changed}
use Rattle.commit_book.proofs.Threads.Partners.{parked_not_ended, parked_not_ready}
use Rattle.lone_worker.proofs.Freed.{comes_last}
use Rattle.lone_worker.proofs.OneAtMost.{HasOnly, one_list}

-- who isn't parked waits with nothing
unparked : {C : Type 0} (offer_of : C → Option Offer) (o : Option (Slot C)) → (option_map_or (λ (slot : Slot C). same_state Parked slot.state) o false ≡ true → ⊥) → option_and_then (waits_with offer_of) o ≡ None
unparked offer_of None not_so = refl
unparked {C} offer_of (Some slot) not_so = by (same_state Parked slot.state) refl
  where
    by : (b : Bool) → same_state Parked slot.state ≡ b → cond b (offer_of slot.control) None ≡ None
    by true at = absurd (not_so at)
    by false at = refl

-- such a line
pub record IsNewLine (x : BookView) (t c : ℕ) (l : Line) : Type 0 where
  pub sends : HasOnly t l.sends
  pub receives : HasOnly t l.receives
  pub sender : is_listed t l.sends ≡ passes (sends_on c) (map.get x.offers.offers t)
  pub receiver : is_listed t l.receives ≡ passes (receives_on c) (map.get x.offers.offers t)

-- two of them are one, where the thread offers the same
pub one_new : (x y : BookView) (t c : ℕ) (l m : Line) → map.get x.offers.offers t ≡ map.get y.offers.offers t → IsNewLine x t c l → IsNewLine y t c m → l ≡ m
one_new x y t c l m offer one two =
    let sends = one_list t l.sends m.sends one.sends two.sends (one.sender ∙ ap (passes (sends_on c)) offer ∙ sym two.sender) in
    let receives = one_list t l.receives m.receives one.receives two.receives (one.receiver ∙ ap (passes (receives_on c)) offer ∙ sym two.receiver) in
    λ i. record { sends = sends i; receives = receives i }

module _ (a x : BookView) (w t n : ℕ) (row : Row) (moved : IsMoved a (record x { answered = a.answered }) w t n row) (after : IsShown x)
    (each : (u : ℕ) → nat_eq u t ≡ false → map.get a.offers.offers u ≡ option_and_then (waits_with (offered a.job.program)) (map.get a.threads u))
    (stood : (c u : ℕ) → LineBacked c u (map.get a.offers.offers u) (map.get a.offers.lines c)) where
  -- who moves doesn't wait
  not_parked : (u : ℕ) → is_listed u (movers t row) ≡ true → is_in Parked x.threads u ≡ true → ⊥
  not_parked u mover parked =
      let f = found_in x.threads u Parked parked in
      let alive : is_in Ended x.threads u ≡ false = ap (λ o. option_map_or (λ (slot : Slot ControlView). same_state Ended slot.state) o false) f.found ∙ parked_not_ended f.slot.state f.is in
      let ready : is_in Ready x.threads u ≡ true =
      sym (after.shows.threads.queue.ready u) ∙ ap (is_listed u) moved.queue
      ∙ comes_last (without t a.queue) (λ k. not (is_in Ended x.threads k)) (movers t row) u mover (ap not alive)
      in
      let unready : is_in Ready x.threads u ≡ false = ap (λ o. option_map_or (λ (slot : Slot ControlView). same_state Ready slot.state) o false) f.found ∙ parked_not_ready f.slot.state f.is in
      false≢true (sym unready ∙ ready)

  no_offer : (u : ℕ) → is_listed u (movers t row) ≡ true → map.get x.offers.offers u ≡ None
  no_offer u mover = after.shows.threads.offers.each u ∙ unparked (offered x.job.program) (map.get x.threads u) (not_parked u mover)

  -- who doesn't move offers what it did
  same_offer : (u : ℕ) → nat_eq u t ≡ false → is_listed u (movers t row) ≡ false → map.get x.offers.offers u ≡ map.get a.offers.offers u
  same_offer u apart unlisted =
      let waiting = λ (q : ProgramParts) (o : Option (Slot ControlView)). option_and_then (waits_with (offered q)) o in
      after.shows.threads.offers.each u
      ∙ ap (waiting x.job.program) (moved.others u (isnt_changed t u row (ap (λ b. b || is_listed u (movers t row)) apart ∙ unlisted)))
      ∙ ap (λ j. waiting j.program (map.get a.threads u)) moved.job
      ∙ sym (each u apart)

  -- so another thread than t offers nothing on such a channel
  record OffersNothing (c u : ℕ) : Type 0 where
    sends : passes (sends_on c) (map.get x.offers.offers u) ≡ false
    receives : passes (receives_on c) (map.get x.offers.offers u) ≡ false

  unoffered : (c u : ℕ) → map.get a.offers.lines c ≡ None → nat_eq u t ≡ false → OffersNothing c u
  unoffered c u none apart = by (is_listed u (movers t row)) refl
    where
      by : (b : Bool) → is_listed u (movers t row) ≡ b → OffersNothing c u
      by true mover = record { sends = ap (passes (sends_on c)) (no_offer u mover); receives = ap (passes (receives_on c)) (no_offer u mover) }
      by false unlisted =
          let backed : LineBacked c u (map.get a.offers.offers u) None = subst (LineBacked c u (map.get a.offers.offers u)) none (stood c u) in
          record { sends = ap (passes (sends_on c)) (same_offer u apart unlisted) ∙ backed.0; receives = ap (passes (receives_on c)) (same_offer u apart unlisted) ∙ backed.1 }

  pub joins : (c : ℕ) (l : Line) → map.get a.offers.lines c ≡ None → map.get x.offers.lines c ≡ Some l → IsNewLine x t c l
  joins c l none found =
      let once : IsDistinct nat_eq l.sends × IsDistinct nat_eq l.receives = subst (λ (o : Option Line). IfSome o (λ (k : Line). IsDistinct nat_eq k.sends × IsDistinct nat_eq k.receives)) found (after.shows.threads.offers.lines.once c) in
      record {
        sends = record { once = once.0; others = λ u apart. (backed u).0 ∙ (unoffered c u none apart).sends };
        receives = record { once = once.1; others = λ u apart. (backed u).1 ∙ (unoffered c u none apart).receives };
        sender = (backed t).0;
        receiver = (backed t).1;
      }
    where
      backed : (u : ℕ) → LineBacked c u (map.get x.offers.offers u) (Some l)
      backed u = subst (LineBacked c u (map.get x.offers.offers u)) found (after.shows.threads.offers.lines.backed c u)
