-- Which calls hand numbers out, and how many.
use Rattle.std.proofs.Common.{◌≡◌, ℕ, ◌+◌, ◌<◌, ◌≤◌, ℤ, Bool, true, false, cond, nat_eq, List, [], ◌∷◌, ◌++◌, length, Option, Some, None, refl, sym, ap, subst, ◌∙◌, append-nil, append_assoc, length-append, arith}
use Rattle.std.specs.Prelude.{◌-◌, if◌then◌else◌, is_some}
use Rattle.std.specs.FinMap as map
use Rattle.std.proofs.lemmas.Bool.{false≢true}
use Rattle.stab_code.specs.JobParts.{JobParts}
use Rattle.stab_code.specs.Program.{ProgramParts}
use Rattle.stab_journal.specs.declared.event.Event.{Event}
use Rattle.stab_journal.specs.declared.event.Label.{Label}
use Rattle.stab_journal.specs.declared.event.Label.TheVariants.{Local, Refuse}
use Rattle.stab_journal.specs.declared.event.Numbered.{Numbered}
use Rattle.stab_journal.specs.declared.event.What.TheVariants.{Step, Release}
use Rattle.stab_journal.specs.Floor.{is_revocable}
use Rattle.stab_journal.specs.Journal.{Journal, survivors}
use Rattle.stab_journal.specs.Script.{probed, probed_by}
use Rattle.rendezvous.specs.declared.offer.Offer.{Offer}
use Rattle.language.specs.Expression.{Expr}
use Rattle.language.specs.Plain.{look_in}
use Rattle.language.specs.Redex.{mark}
use Rattle.language.specs.Standing.{event}
use Rattle.language.specs.Table.{Look, act, done, fault, pure, spawns, makes_chan, makes_ref, gets, sets, sends, receives, picks, enters, stabilizes, cuts, pins, prints, probes, attempts}
use Rattle.step_eval.specs.ControlView.{expr_of}
use Rattle.step_eval.specs.Progress.{ProgressView}
use Rattle.commit_book.specs.declared.done.Done.{Done}
use Rattle.commit_book.specs.declared.done.Done.TheVariants.{Taken, Parked, Undone, Stale, Over}
use Rattle.commit_book.specs.declared.turn.Turn.{Turn}
use Rattle.commit_book.specs.declared.turn.Turn.TheVariants as turn
use Rattle.commit_book.specs.Book.{BookView}
use Rattle.commit_book.specs.Commits.{IsCommitted, IsLeftBy, IsMade, IsMoved, row_at}
use Rattle.commit_book.specs.Leases.{LeaseView}
use Rattle.commit_book.specs.Offers.{receives_at, sends_at}
use Rattle.commit_book.specs.Probing.{IsWithinScript, asks_probe, fed, is_probe}
use Rattle.commit_book.specs.Releases.{IsReleased, finals}
use Rattle.commit_book.specs.Rows.{Row, alone, starts, meets, waits, stays, undoes, events_by, local_of, longest, receives_from, row_of, section_row, sends_to, stays_or_waits, steps_of, thread}
use Rattle.commit_book.specs.Turns.{IsRecalled, IsTurn, given_back, is_held}
use Rattle.commit_book.specs.Undoing.{undo_by}
use Rattle.commit_book.proofs.Keeping.EventSteps.{probed_snoc}

-- the job stays, and probes got so many numbers more
pub record HandsOut (old new : BookView) (n : ℕ) : Type 0 where
  pub job : new.job ≡ old.job
  pub probes : length (probed new.history.events) ≡ length (probed old.history.events) + n

-- how many numbers a commit of a progress hands out: one where it was made and the progress asks for one
abbrev pub handed : Bool → Done → ℕ
handed asks (Taken first count) = cond asks 1 0
handed asks answer = 0

-- ---- what was handed out stays within the script, and a longer script has more

pub still_within : (old new : BookView) (n : ℕ) → HandsOut old new n → n ≤ length old.job.script - length (probed old.history.events) → IsWithinScript old → IsWithinScript new
still_within old new n hands enough within =
    let few : length (probed old.history.events) ≤ length old.job.script = within in
    let script : length new.job.script ≡ length old.job.script = ap (λ (j : JobParts). length j.script) hands.job in
    let got : length (probed new.history.events) ≡ length (probed old.history.events) + n = hands.probes in
    omega (arith, enough, few, script, got)

pub fed_within : (b : BookView) (numbers : List ℤ) → IsWithinScript b → IsWithinScript (fed b numbers)
fed_within b numbers within =
    let few : length (probed b.history.events) ≤ length b.job.script = within in
    let all : length (b.job.script ++ numbers) ≡ length b.job.script + length numbers = length-append b.job.script numbers in
    omega (arith, few, all)

-- ---- calls that hand none out

keeps : (old new : BookView) → new.job ≡ old.job → new.history.events ≡ old.history.events → HandsOut old new 0
keeps old new job events = record {
  job = job;
  probes = let same : length (probed new.history.events) ≡ length (probed old.history.events) = ap (λ (es : List Event). length (probed es)) events in omega (arith, same);
}

kept_if : (b : Bool) (old there : BookView) → HandsOut old there 0 → HandsOut old (if b then there else old) 0
kept_if true old there is = is
kept_if false old there is = keeps old old refl refl

-- a lease that is given back
pub gives_none : (old new : BookView) (lease : LeaseView) → new ≡ given_back old lease → HandsOut old new 0
gives_none old new lease is = subst (λ (b : BookView). HandsOut old b 0) (sym is) (kept_if (is_held old lease) old _ (keeps old _ refl refl))

same_keeps : (old new : BookView) → new ≡ old → HandsOut old new 0
same_keeps old new is = keeps old new (ap (λ (b : BookView). b.job) is) (ap (λ (b : BookView). b.history.events) is)

-- a lease
pub lends_none : (old new : BookView) (worker : ℕ) (t : Turn) → IsTurn old new worker t → HandsOut old new 0
lends_none old new worker (turn.Work lease control) is = keeps old new (ap (λ (b : BookView). b.job) is.2) (ap (λ (b : BookView). b.history.events) is.2)
lends_none old new worker turn.Idle is = same_keeps old new is.1
lends_none old new worker turn.Quiet is = same_keeps old new is.1
lends_none old new worker turn.Spent is = same_keeps old new is.1
lends_none old new worker turn.Release is = same_keeps old new is.1

-- a release
pub releases_none : (old new : BookView) (worker : ℕ) → IsReleased old new worker → HandsOut old new 0
releases_none old new worker is =
    let more = probed_snoc old.history.events (event worker (Release (finals old))) ∙ append-nil (probed old.history.events) in
    let all : length (probed new.history.events) ≡ length (probed old.history.events) = ap (λ (b : BookView). length (probed b.history.events)) is ∙ ap length more in
    record { job = ap (λ (b : BookView). b.job) is; probes = omega (arith, all) }

-- a recall
pub recalls_none : (old new : BookView) → IsRecalled old new → HandsOut old new 0
recalls_none old new is = keeps old new (ap (λ (b : BookView). b.job) is.rest) (ap (λ (b : BookView). b.history.events) is.rest)

-- ---- the numbers of the steps of a commit

probed_append : (front back : List Event) → probed (front ++ back) ≡ probed front ++ probed back
probed_append [] back = refl
probed_append (e ∷ front) back = ap (λ is. probed_by e.what ++ is) (probed_append front back) ∙ sym (append_assoc (probed_by e.what) (probed front) (probed back))

-- how many numbers these steps of a worker got
abbrev got_by : ℕ → List Label → ℕ
got_by worker labels = length (probed (events_by worker labels))

got_append : (worker : ℕ) (front back : List Label) → got_by worker (front ++ back) ≡ got_by worker front + got_by worker back
got_append worker [] back = omega arith
got_append worker (l ∷ front) back =
    let more : got_by worker (front ++ back) ≡ got_by worker front + got_by worker back = got_append worker front back in
    let all : got_by worker (l ∷ front ++ back) ≡ length (probed_by (Step l)) + got_by worker (front ++ back) = length-append (probed_by (Step l)) (probed (events_by worker (front ++ back))) in
    let here : got_by worker (l ∷ front) ≡ length (probed_by (Step l)) + got_by worker front = length-append (probed_by (Step l)) (probed (events_by worker front)) in
    omega (arith, more, all, here)

local_none : (worker t n : ℕ) → got_by worker (local_of t n) ≡ 0
local_none worker t n = by (nat_eq n 0)
  where
    by : (b : Bool) → got_by worker (cond b [] (Local (thread t) n ∷ [])) ≡ 0
    by true = refl
    by false = refl

-- a row's step gets a number where it is a probe's
abbrev got_in : ℕ → ℕ → Row → ℕ
got_in worker t row = got_by worker (steps_of t row)

module _ (b : BookView) (worker t : ℕ) where
  stays_none : (o : Offer) → got_in worker t (stays_or_waits b t o) ≡ 0
  stays_none o = by (is_some (map.get b.offers.offers t))
    where
      by : (k : Bool) → got_in worker t (cond k stays (waits o)) ≡ 0
      by true = refl
      by false = refl

  sends_none : (c : ℕ) (u : Option ℕ) → got_in worker t (sends_to b t c u) ≡ 0
  sends_none c (Some u) = refl
  sends_none c None = stays_none _

  receives_none : (c : ℕ) (u : Option ℕ) (row : Row) → got_in worker t row ≡ 0 → got_in worker t (receives_from b t c u row) ≡ 0
  receives_none c (Some u) row none = refl
  receives_none c None row none = none

  section_none : (run : List Numbered) (m : Option ℕ) → got_in worker t (section_row run t m) ≡ 0
  section_none run None = refl
  section_none run (Some m) = by (is_revocable run m)
    where
      by : (k : Bool) → got_in worker t (cond k (undoes m) (alone (Some (Refuse (thread t))))) ≡ 0
      by true = refl
      by false = refl

  row_none : (e : Expr) (k : Look Expr) → is_probe k ≡ false → got_in worker t (row_of b t e k) ≡ 0
  row_none e (act (spawns body)) none = refl
  row_none e (act makes_chan) none = refl
  row_none e (act (makes_ref v)) none = refl
  row_none e (act (gets r)) none = refl
  row_none e (act (sets r v)) none = refl
  row_none e (act (sends c v)) none = sends_none c (longest (receives_at b.offers.lines c))
  row_none e (act (receives c)) none = receives_none c (longest (sends_at b.offers.lines c)) _ (stays_none _)
  row_none e (act (picks c d)) none =
      receives_none c (longest (sends_at b.offers.lines c)) _ (receives_none d (longest (sends_at b.offers.lines d)) _ (stays_none _))
  row_none e (act (enters body)) none = refl
  row_none e (act stabilizes) none = section_none (survivors b.history) (mark e)
  row_none e (act cuts) none = refl
  row_none e (act pins) none = refl
  row_none e (act (prints v)) none = refl
  row_none e (act probes) none = absurd (false≢true (sym none))
  row_none e (act attempts) none = refl
  row_none e (done v) none = refl
  row_none e (fault f) none = refl
  row_none e (pure d) none = refl

-- ---- a commit

module _ (old new : BookView) (lease : LeaseView) (progress : ProgressView) where
  moved : (row : Row) → IsMoved old (record new { answered = old.answered }) lease.worker lease.thread progress.steps row → HandsOut old new (got_in lease.worker lease.thread row)
  moved row is = record {
    job = is.job;
    probes =
        let w = lease.worker in
        let ls = local_of lease.thread progress.steps ++ steps_of lease.thread row in
        let events : length (probed new.history.events) ≡ length (probed (old.history.events ++ events_by w ls)) = ap (λ (j : Journal). length (probed j.events)) is.history in
        let parts : length (probed (old.history.events ++ events_by w ls)) ≡ length (probed old.history.events) + got_by w ls =
        ap length (probed_append old.history.events (events_by w ls)) ∙ length-append (probed old.history.events) (probed (events_by w ls))
        in
        let both : got_by w ls ≡ got_by w (local_of lease.thread progress.steps) + got_in w lease.thread row = got_append w (local_of lease.thread progress.steps) (steps_of lease.thread row) in
        let local : got_by w (local_of lease.thread progress.steps) ≡ 0 = local_none w lease.thread progress.steps in
        omega (arith, events, parts, both, local);
  }

  took_back : (m : ℕ) → IsLeftBy old new lease progress (undoes m) → HandsOut old new 0
  took_back m left = record {
    job = left.0.job;
    probes =
        let w = lease.worker in
        let ls = local_of lease.thread progress.steps in
        let last = undo_by w lease.thread m ∷ [] in
        let events : length (probed new.history.events) ≡ length (probed ((old.history.events ++ events_by w ls) ++ last)) = ap (λ (es : List Event). length (probed es)) left.0.events in
        let undo : length (probed ((old.history.events ++ events_by w ls) ++ last)) ≡ length (probed (old.history.events ++ events_by w ls)) =
        ap length (probed_snoc (old.history.events ++ events_by w ls) (undo_by w lease.thread m) ∙ append-nil (probed (old.history.events ++ events_by w ls)))
        in
        let parts : length (probed (old.history.events ++ events_by w ls)) ≡ length (probed old.history.events) + got_by w ls =
        ap length (probed_append old.history.events (events_by w ls)) ∙ length-append (probed old.history.events) (probed (events_by w ls))
        in
        let local : got_by w ls ≡ 0 = local_none w lease.thread progress.steps in
        omega (arith, events, undo, parts, local);
  }

  left_by : (row : Row) → IsLeftBy old new lease progress row → HandsOut old new (got_in lease.worker lease.thread row)
  left_by (undoes m) left = took_back m left
  left_by (alone l) left = moved (alone l) left.0
  left_by (starts u) left = moved (starts u) left.0
  left_by (meets u l) left = moved (meets u l) left.0
  left_by (waits o) left = moved (waits o) left.0
  left_by stays left = moved stays left.0

  unasked : (answer : Done) → handed false answer ≡ 0
  unasked (Taken first count) = refl
  unasked _ = refl

  no_number : (e : Expr) (k : Look Expr) (answer : Done) → is_probe k ≡ false → IsMade old new lease progress (row_of old lease.thread e k) answer → HandsOut old new (handed (is_probe k) answer)
  no_number e k answer none is =
      let n : got_in lease.worker lease.thread (row_of old lease.thread e k) ≡ handed (is_probe k) answer = row_none old lease.worker lease.thread e k none ∙ sym (ap (λ b. handed b answer) none ∙ unasked answer) in
      subst (λ (n : ℕ). HandsOut old new n) n (left_by (row_of old lease.thread e k) is.left)

  a_number : (e : Expr) (answer : Done) → IsMade old new lease progress (row_of old lease.thread e (act probes)) answer → HandsOut old new (handed true answer)
  a_number e answer is = subst (λ (d : Done). HandsOut old new (handed true d)) (sym is.answer) (moved _ is.left.0)

  made : (e : Expr) (k : Look Expr) (answer : Done) → IsMade old new lease progress (row_of old lease.thread e k) answer → HandsOut old new (handed (is_probe k) answer)
  made e (act probes) answer is = a_number e answer is
  made e (act (spawns body)) answer is = no_number e (act (spawns body)) answer refl is
  made e (act makes_chan) answer is = no_number e (act makes_chan) answer refl is
  made e (act (makes_ref v)) answer is = no_number e (act (makes_ref v)) answer refl is
  made e (act (gets r)) answer is = no_number e (act (gets r)) answer refl is
  made e (act (sets r v)) answer is = no_number e (act (sets r v)) answer refl is
  made e (act (sends c v)) answer is = no_number e (act (sends c v)) answer refl is
  made e (act (receives c)) answer is = no_number e (act (receives c)) answer refl is
  made e (act (picks c d)) answer is = no_number e (act (picks c d)) answer refl is
  made e (act (enters body)) answer is = no_number e (act (enters body)) answer refl is
  made e (act stabilizes) answer is = no_number e (act stabilizes) answer refl is
  made e (act cuts) answer is = no_number e (act cuts) answer refl is
  made e (act pins) answer is = no_number e (act pins) answer refl is
  made e (act (prints v)) answer is = no_number e (act (prints v)) answer refl is
  made e (act attempts) answer is = no_number e (act attempts) answer refl is
  made e (done v) answer is = no_number e (done v) answer refl is
  made e (fault f) answer is = no_number e (fault f) answer refl is
  made e (pure d) answer is = no_number e (pure d) answer refl is

  module _ (program : progress.program ≡ old.job.program) where
    abbrev asks_in : ProgramParts → Bool
    asks_in p = is_probe (look_in p (expr_of p progress.end))

    making : (answer : Done) → IsMade old new lease progress (row_at old lease progress) answer → HandsOut old new (handed (asks_probe progress) answer)
    making answer is =
        let e = expr_of old.job.program progress.end in
        subst (λ (b : Bool). HandsOut old new (handed b answer)) (sym (ap asks_in program)) (made e (look_in old.job.program e) answer is)

    pub commits_hand : (answer : Done) → IsCommitted old new lease progress answer → HandsOut old new (handed (asks_probe progress) answer)
    commits_hand (Taken first count) is = making (Taken first count) is.2
    commits_hand (Parked first count) is = making (Parked first count) is.2
    commits_hand (Undone first count at removed marks) is = making (Undone first count at removed marks) is.2
    commits_hand (Stale lent now) is = keeps old new (ap (λ (b : BookView). b.job) is.1.counted_once) (ap (λ (b : BookView). b.history.events) is.1.counted_once)
    commits_hand (Over weight) is = gives_none old new lease is.3

    -- a commit stays within the script, if the script has a number where one is asked for
    pub commits_within : (answer : Done) → IsCommitted old new lease progress answer → (asks_probe progress ≡ true → 0 < length old.job.script - length (probed old.history.events)) → IsWithinScript old → IsWithinScript new
    commits_within answer is enough within = still_within old new (handed (asks_probe progress) answer) (commits_hand answer is) (few (asks_probe progress) answer enough) within
      where
        few : (b : Bool) (d : Done) → (b ≡ true → 0 < length old.job.script - length (probed old.history.events)) → handed b d ≤ length old.job.script - length (probed old.history.events)
        few true (Taken first count) some = let one = some refl in omega (arith, one)
        few false (Taken first count) some = omega arith
        few b _ some = omega arith
