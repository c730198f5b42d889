-- Who waits, while the book changes.
use Rattle.std.proofs.Common.{◌≡◌, Bool, false, IsTrue, ℕ, List, [], ◌∷◌, ◌++◌, Result, Ok, Err, refl, sym, ap, subst, ◌∙◌, arith}
use Rattle.std.specs.Prelude.{OnErr, OnOk, ℤ}
use Rattle.std.specs.List.{AllByRecursion}
use Rattle.std.proofs.lemmas.Bool.{false≢true}
use Rattle.stab_base.specs.declared.numbers.NoMemory.{NoMemory}
use Rattle.stab_base.specs.declared.numbers.Seq.{Seq}
use Rattle.stab_journal.specs.declared.event.Event.{Event}
use Rattle.stab_journal.specs.declared.event.What.TheVariants.{Release}
use Rattle.language.specs.Standing.{event}
use Rattle.commit_book.specs.Book.{BookView}
use Rattle.commit_book.specs.Probing.{fed}
use Rattle.commit_book.specs.Releases.{IsReleased, finals}
use Rattle.commit_book.proofs.Numbers.Handing.{fed_within, releases_none, still_within}
use Rattle.worker_lease.specs.Releases.{AreByOne}
use Rattle.live_desk.specs.declared.waiting.Waiting.{Waiting}
use Rattle.live_desk.specs.Live.{Asks, IsLive, live_of}

-- the program stays
pub asks_same : (old new : BookView) (ws : List Waiting) → new.job ≡ old.job → AllByRecursion (Asks old) ws → AllByRecursion (Asks new) ws
asks_same old new [] same all = tt
asks_same old new (w ∷ ws) same all = ((all.0.0 ∙ sym (ap (λ j. j.program) same), all.0.1), asks_same old new ws same all.1)

-- one more waits
pub asks_more : (b : BookView) (ws : List Waiting) (w : Waiting) → AllByRecursion (Asks b) ws → Asks b w → AllByRecursion (Asks b) (ws ++ w ∷ [])
asks_more b [] w all one = (one, tt)
asks_more b (x ∷ ws) w all one = (all.0, asks_more b ws w all.1 one)

-- numbers came
pub fed_live : (old new : BookView) (ws : List Waiting) (numbers : List ℤ) (r : Result (Unit {0}) NoMemory) → OnOk r (new ≡ fed old numbers) → OnErr r (new ≡ old)
    → IsLive (live_of old ws) → IsLive (live_of new ws)
fed_live old new ws numbers (Ok u) is left live =
    subst (λ (b : BookView). IsLive (live_of b ws)) (sym is) (record { by_one = live.by_one; within = fed_within old numbers live.within; asks = live.asks })
fed_live old new ws numbers (Err e) is left live = subst (λ (b : BookView). IsLive (live_of b ws)) (sym left) live

-- a release of worker 1
one_more : (es : List Event) (k : ℕ) → AreByOne es → AreByOne (es ++ event 1 (Release k) ∷ [])
one_more [] k by_one = (λ is. refl, tt)
one_more (e ∷ es) k by_one = (by_one.0, one_more es k by_one.1)

pub released_live : (old new : BookView) (ws : List Waiting) (r : Result Seq NoMemory) → OnOk r (IsReleased old new 1) → OnErr r (new ≡ old) → IsLive (live_of old ws) → IsLive (live_of new ws)
released_live old new ws (Ok q) is left live =
    let job : new.job ≡ old.job = ap (λ (b : BookView). b.job) is in
    record {
      by_one = subst AreByOne (sym (ap (λ (b : BookView). b.history.events) is)) (one_more old.history.events (finals old) live.by_one);
      within = still_within old new 0 (releases_none old new 1 is) (omega arith) live.within;
      asks = asks_same old new ws job live.asks;
    }
released_live old new ws (Err e) is left live = subst (λ (b : BookView). IsLive (live_of b ws)) (sym left) live

-- of what holds after a failure the first part
pub first_left : (A B : Type 0) (r : Result Seq NoMemory) → OnErr r (A × B) → OnErr r A
first_left A B (Ok q) left = tt
first_left A B (Err e) left = left.0

pub never : {P : Type 0} (b : Bool) → b ≡ false → (P → IsTrue b) → P → ⊥
never b is so p = false≢true (sym is ∙ so p)
