-- Commits and leases of those that wait.
use Rattle.std.proofs.Common.{◌≡◌, ℕ, suc, ◌+◌, ◌<◌, Bool, true, false, List, [], ◌∷◌, ◌++◌, length, Result, Ok, refl, sym, ap, subst, ◌∙◌, append_assoc, append-nil, arith}
use Rattle.std.specs.Prelude.{if◌then◌else◌, OnOk}
use Rattle.std.specs.List.{AllByRecursion}
use Rattle.stab_base.specs.declared.numbers.NoMemory.{NoMemory}
use Rattle.stab_journal.specs.declared.event.Event.{Event}
use Rattle.stab_journal.specs.Script.{probed}
use Rattle.commit_book.specs.declared.done.Done.{Done}
use Rattle.commit_book.specs.Book.{BookView, IsShown}
use Rattle.commit_book.specs.Commits.{IsCommitted}
use Rattle.commit_book.specs.Leases.{LeaseView}
use Rattle.commit_book.specs.Probing.{IsWithinScript}
use Rattle.commit_book.specs.Turns.{given_back, is_held}
use Rattle.commit_book.proofs.Numbers.Handing.{commits_within}
use Rattle.turn_floor.specs.Served.{recorded}
use Rattle.turn_floor.proofs.Histories.{told_new}
use Rattle.worker_lease.specs.Asks.{under}
use Rattle.worker_lease.specs.Releases.{AreByOne, HasNoRelease, is_release}
use Rattle.worker_lease.specs.Telling.{told_done}
use Rattle.worker_lease.proofs.Adding.{still_by_one}
use Rattle.worker_lease.proofs.Committing.{committed}
use Rattle.live_desk.specs.declared.waiting.Waiting.{Waiting}
use Rattle.live_desk.specs.Going.{CommitsAll, CommitsFirst, GoesOn, IsEnded, IsFirstCommitted, all_given_back}
use Rattle.live_desk.specs.Live.{Asks, IsLive, LiveView, live_of}
use Rattle.live_desk.proofs.Living.{asks_same}

-- ---- the history goes on

pub goes_same : (b : BookView) → GoesOn b b
goes_same b = record { job = refl; added = []; is = sym (append-nil b.history.events); by_one = tt; plain = tt }

both : (P : Event → Type 0) (xs ys : List Event) → AllByRecursion P xs → AllByRecursion P ys → AllByRecursion P (xs ++ ys)
both P [] ys h k = k
both P (x ∷ xs) ys h k = (h.0, both P xs ys h.1 k)

pub goes_more : (a b c : BookView) → GoesOn a b → GoesOn b c → GoesOn a c
goes_more a b c g h = record {
  job = h.job ∙ g.job;
  added = g.added ++ h.added;
  is = h.is ∙ ap (λ es. es ++ h.added) g.is ∙ append_assoc a.history.events g.added h.added;
  by_one = both (λ (e : Event). e.worker ≡ 1) g.added h.added g.by_one h.by_one;
  plain = both (λ (e : Event). is_release e.what ≡ false) g.added h.added g.plain h.plain;
}

pub goes_by_one : (a b : BookView) → GoesOn a b → AreByOne a.history.events → AreByOne b.history.events
goes_by_one a b g by_one = subst AreByOne (sym g.is) (still_by_one a.history.events g.added g.plain by_one)

-- ---- a commit

none_in : (q : ℕ) (es : List Event) → HasNoRelease (recorded q es) → AllByRecursion (λ (e : Event). is_release e.what ≡ false) es
none_in q [] none = tt
none_in q (e ∷ es) none = (none.0, none_in (suc q) es none.1)

pub commit_goes : (old new : BookView) (w : Waiting) (done : Done) → IsShown new → AreByOne old.history.events → IsCommitted old new (under 1 w.lease) w.progress done → GoesOn old new
commit_goes old new w done shown by_one is =
    let s = committed old new 1 w.lease w.progress shown by_one (Ok done) is tt tt tt in
    let told = told_new (told_done done) old.history.events s.adds.0 new.history.events s.adds.1 s.tells in
    record {
      job = s.job;
      added = s.adds.0;
      is = s.adds.1;
      by_one = s.adds.2;
      plain = none_in (1 + length old.history.events) s.adds.0 (subst HasNoRelease told s.fits.1);
    }

-- ---- one after another

commits_more : (old mid new : BookView) (front : List Waiting) (w : Waiting) (done : Done) → CommitsAll old front mid → IsCommitted mid new (under 1 w.lease) w.progress done → CommitsAll old (front ++ w ∷ []) new
commits_more old mid new [] w done all is = (new, done, subst (λ (b : BookView). IsCommitted b new (under 1 w.lease) w.progress done) all is, refl)
commits_more old mid new (x ∷ xs) w done all is = (all.0, all.1, all.2, commits_more all.0 mid new xs w done all.3 is)

pub first_none : (v : LiveView) → CommitsFirst v v
first_none v = record { front = []; is = refl; committed = refl }

pub first_more : (old mid new : LiveView) → CommitsFirst old mid → IsFirstCommitted mid new → CommitsFirst old new
first_more old mid new f c = record {
  front = f.front ++ c.first ∷ [];
  is = f.is ∙ ap (λ ws. f.front ++ ws) c.is ∙ sym (append_assoc f.front (c.first ∷ []) new.waiting);
  committed = commits_more old.book mid.book new.book f.front c.first c.done f.committed c.committed;
}

-- what holds of all that wait holds of the others once the first is gone
asks_rest : (b : BookView) (ws rest : List Waiting) (w : Waiting) → ws ≡ w ∷ rest → AllByRecursion (Asks b) ws → Asks b w × AllByRecursion (Asks b) rest
asks_rest b ws rest w is all = let h = subst (AllByRecursion (Asks b)) is all in (h.0, h.1)

-- ---- the loop that commits them

-- how far it is
pub record Passed (old now : LiveView) : Type 0 where
  pub first : CommitsFirst old now
  pub goes_on : GoesOn old.book now.book
  pub by_one : AreByOne now.book.history.events
  pub asks : AllByRecursion (Asks now.book) now.waiting

pub passed_none : (v : LiveView) → AreByOne v.book.history.events → AllByRecursion (Asks v.book) v.waiting → Passed v v
passed_none v by_one asks = record { first = first_none v; goes_on = goes_same v.book; by_one = by_one; asks = asks }

pub passed_more : (old mid new : LiveView) → Passed old mid → IsShown new.book → IsFirstCommitted mid new → Passed old new
passed_more old mid new p shown c =
    let g = commit_goes mid.book new.book c.first c.done shown p.by_one c.committed in
    record {
      first = first_more old mid new p.first c;
      goes_on = goes_more old.book mid.book new.book p.goes_on g;
      by_one = goes_by_one mid.book new.book g p.by_one;
      asks = asks_same mid.book new.book new.waiting g.job (asks_rest mid.book mid.waiting new.waiting c.first c.is p.asks).1;
    }

-- a commit for which there is no memory leaves all as it is
pub passed_left : (old mid new : LiveView) → new.book ≡ mid.book → new.waiting ≡ mid.waiting → Passed old mid → Passed old new
passed_left old mid new book waiting p = subst (λ (b : BookView). Passed old (live_of b new.waiting)) (sym book) (subst (λ (ws : List Waiting). Passed old (live_of mid.book ws)) (sym waiting) p)

pub passed_live : (old now : LiveView) → Passed old now → IsWithinScript now.book → IsLive now
passed_live old now p within = record { by_one = p.by_one; within = within; asks = p.asks }

-- while a number is left, none goes past the script's end
pub passed_within : (mid new : LiveView) → AllByRecursion (Asks mid.book) mid.waiting → IsFirstCommitted mid new → (length (probed mid.book.history.events) < length mid.book.job.script)
    → IsWithinScript mid.book → IsWithinScript new.book
passed_within mid new asks c some within =
    commits_within mid.book new.book (under 1 c.first.lease) c.first.progress (asks_rest mid.book mid.waiting new.waiting c.first c.is asks).0.0 c.done c.committed (λ asks. omega (arith, some)) within

-- ---- leases that are given back

given_same : (b : BookView) (lease : LeaseView) → ((given_back b lease).job ≡ b.job) × ((given_back b lease).history ≡ b.history)
given_same b lease = by (is_held b lease) _ (refl, refl)
  where
    by : (so : Bool) (there : BookView) → (there.job ≡ b.job) × (there.history ≡ b.history) → ((if so then there else b).job ≡ b.job) × ((if so then there else b).history ≡ b.history)
    by true there is = is
    by false there is = (refl, refl)

pub all_given_same : (b : BookView) (ws : List Waiting) → ((all_given_back b ws).job ≡ b.job) × ((all_given_back b ws).history ≡ b.history)
all_given_same b [] = (refl, refl)
all_given_same b (w ∷ ws) =
    let first = given_same b w.lease in
    let rest = all_given_same (given_back b w.lease) ws in
    (rest.0 ∙ first.0, rest.1 ∙ first.1)

pub given_goes : (a b c : BookView) → GoesOn a b → (c.job ≡ b.job) × (c.history ≡ b.history) → GoesOn a c
given_goes a b c g same = record { job = same.0 ∙ g.job; added = g.added; is = ap (λ j. j.events) same.1 ∙ g.is; by_one = g.by_one; plain = g.plain }

pub ended : (old : LiveView) (mid new : BookView) (rest : List Waiting) (made : Result (Unit {0}) NoMemory) → CommitsFirst old (live_of mid rest) → OnOk made (rest ≡ [])
    → new ≡ all_given_back mid rest → IsEnded old made new
ended old mid new rest made f all left = record { front = f.front; rest = rest; book = mid; is = f.is; committed = f.committed; left = left; all = all }

-- nobody waits any more
pub none_back : (b start : BookView) (ws ws0 : List Waiting) → length ws ≡ 0 → all_given_back b ws ≡ all_given_back start ws0 → b ≡ all_given_back start ws0
none_back b start [] ws0 none is = is
none_back b start (w ∷ ws) ws0 none is = absurd (omega (arith, none))
