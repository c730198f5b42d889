-- A recall leaves nobody a lease.
use Rattle.std.proofs.Common.{◌≡◌, Bool, true, false, refl, ap, ◌∙◌}
use Rattle.std.specs.Prelude.{Option, Some, None, if◌then◌else◌, option_map}
use Rattle.std.specs.Option.{option_map_or}
use Rattle.std.specs.FinMap as map
use Rattle.thread_slots.specs.declared.state.State.TheVariants.{Leased, Ready}
use Rattle.thread_slots.specs.Slot.{Slot, is_in, recalled, same_state}
use Rattle.step_eval.specs.ControlView.{ControlView}
use Rattle.commit_book.specs.Book.{BookView}
use Rattle.commit_book.specs.Counts.{in_state}
use Rattle.commit_book.specs.Turns.{IsRecalled}
use Rattle.commit_book.proofs.Threads.Holding.{none_counted}

slot_free : (slot : Slot ControlView) (b : Bool) → same_state Leased slot.state ≡ b → same_state Leased (if b then record slot { state = Ready } else slot).state ≡ false
slot_free slot true h = refl
slot_free slot false h = h

recalled_at : (o : Option (Slot ControlView)) → option_map_or (λ (slot : Slot ControlView). same_state Leased slot.state) (option_map recalled o) false ≡ false
recalled_at None = refl
recalled_at (Some slot) = slot_free slot (same_state Leased slot.state) refl

pub recalled_free : (old new : BookView) → IsRecalled old new → in_state Leased new ≡ 0
recalled_free old new is =
    none_counted (is_in Leased new.threads) new.next.thread
    (λ u. ap (λ o. option_map_or (λ (slot : Slot ControlView). same_state Leased slot.state) o false) (is.threads u) ∙ recalled_at (map.get old.threads u))
