-- How many threads a book can have.
use Rattle.std.proofs.Common.{◌≡◌, ℕ, ◌+◌, ◌<◌, ◌≤◌, ◌^◌, arith}
use Rattle.thread_slots.specs.declared.state.State.TheVariants.{Ready, Leased, Parked}
use Rattle.thread_slots.specs.Slot.{is_in}
use Rattle.thread_slots.proofs.Counted.{numbers-few}
use Rattle.commit_book.specs.declared.counts.Counts.{Counts}
use Rattle.commit_book.specs.Book.{BookView}
use Rattle.commit_book.specs.Counts.{AreCounts, in_state}

-- those that wait are fewer than numbers of 64 bits can tell
pub waiting_few : (b : BookView) (c : Counts) → AreCounts b c → (last : ℕ) → last + 1 ≡ b.next.thread → last < 2 ^ 32 → c.parked + c.ready + c.leased < 2 ^ 64
waiting_few b c are last next few =
    let parked : in_state Parked b ≤ b.next.thread = numbers-few (is_in Parked b.threads) b.next.thread in
    let ready : in_state Ready b ≤ b.next.thread = numbers-few (is_in Ready b.threads) b.next.thread in
    let leased : in_state Leased b ≤ b.next.thread = numbers-few (is_in Leased b.threads) b.next.thread in
    let p : c.parked ≡ in_state Parked b = are.parked in
    let r : c.ready ≡ in_state Ready b = are.ready in
    let l : c.leased ≡ in_state Leased b = are.leased in
    omega arith
