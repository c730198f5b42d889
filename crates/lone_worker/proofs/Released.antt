-- What a release by the one worker leaves.
use Rattle.std.proofs.Common.{◌≡◌, [], ◌∷◌, ◌++◌, refl, sym, ap, ◌∙◌}
use Rattle.stab_journal.specs.declared.event.What.TheVariants.{Release}
use Rattle.stab_journal.specs.Due.{final_prints}
use Rattle.stab_journal.specs.Surviving.{run_of}
use Rattle.thread_slots.specs.declared.state.State.TheVariants.{Leased}
use Rattle.language.specs.Standing.{event}
use Rattle.commit_book.specs.Book.{BookView, IsShown}
use Rattle.commit_book.specs.Counts.{in_state}
use Rattle.commit_book.specs.Releases.{IsReleased, finals}
use Rattle.lone_worker.specs.Desk.{IsUnlent, desk_of}
use Rattle.lone_worker.specs.Running.{IsLater}
use Rattle.lone_worker.specs.Turn.{worker}

-- nobody gets a lease by it
pub released_unlent : (old new : BookView) → in_state Leased old ≡ 0 → IsReleased old new worker → IsShown new → IsUnlent new
released_unlent old new free released shown = record { shown = shown; free = ap (in_state Leased) released ∙ free }

-- it is the next event
pub released_events : (old new : BookView) → IsReleased old new worker → new.history.events ≡ old.history.events ++ event worker (Release (finals old)) ∷ []
released_events old new released = ap (λ (b : BookView). b.history.events) released

pub released_later : (old new : BookView) → IsReleased old new worker → IsLater old new
released_later old new released = record {
  job = ap (λ (b : BookView). b.job) released;
  added = event worker (Release (finals old)) ∷ [];
  events = released_events old new released;
  by_one = (refl, tt);
}

-- from one desk it leaves one desk
pub one_release : (a b x y : BookView) → desk_of a ≡ desk_of b → IsReleased a x worker → IsReleased b y worker → desk_of x ≡ desk_of y
one_release a b x y same left right =
    ap desk_of left
    ∙ (λ i. record (same i) { events = (same i).events ++ event worker (Release (final_prints (run_of (same i).events))) ∷ [] })
    ∙ sym (ap desk_of right)
