-- What a commit answers and leaves, once it was performed and is counted.
use Rattle.std.proofs.Common.{◌≡◌, ℕ, ◌+◌, ◌-◌, ◌≤◌, ◌<◌, Bool, true, false, cond, nat_eq, List, [], ◌∷◌, ◌++◌, length, Some, None, sym, ap, subst, ◌∙◌, append-nil, length-append, arith}
use Rattle.std.specs.Prelude.{◌↔◌, IsTrue, nat_lt}
use Rattle.std.specs.Ordering.{nat_cmp}
use Rattle.std.specs.FinMap.{FinMap}
use Rattle.std.proofs.lemmas.Bool.{false≢true}
use Rattle.std.proofs.lemmas.List.{length-map}
use Rattle.stab_base.specs.declared.numbers.Seq.{Seq}
use Rattle.stab_code.specs.JobParts.{JobParts, IsWithinLimits}
use Rattle.stab_journal.specs.declared.event.Event.{Event}
use Rattle.stab_journal.specs.declared.event.Label.{Label}
use Rattle.stab_journal.specs.declared.event.Label.TheVariants.{Local}
use Rattle.stab_journal.specs.declared.event.What.TheVariants.{Step}
use Rattle.stab_journal.specs.Event.{weight_of}
use Rattle.stab_journal.specs.Journal.{IsValid, Journal}
use Rattle.language.specs.Standing.{event}
use Rattle.step_eval.specs.ControlView.{ControlView}
use Rattle.step_eval.specs.Progress.{Advances, ProgressView}
use Rattle.thread_slots.specs.Slot.{Slot}
use Rattle.commit_book.specs.declared.counts.Tallies.{Tallies}
use Rattle.commit_book.specs.declared.done.Done.{Done}
use Rattle.commit_book.specs.declared.done.Done.TheVariants.{Taken, Parked, Undone, Stale, Over}
use Rattle.commit_book.specs.declared.done.Outcome.{Outcome}
use Rattle.commit_book.specs.declared.done.Outcome.TheVariants as outcome
use Rattle.commit_book.specs.declared.parts.Parts.{Parts}
use Rattle.commit_book.specs.Acting.{AreAsBefore, IsDoneBy, IsLateAnswer, IsOutcomeOf, IsPerformed, MayAct, answer_to, ended_by}
use Rattle.commit_book.specs.Book.{Answered, BookView}
use Rattle.commit_book.specs.Commits.{IsAnsweredBy, IsCommitted, IsCurrent, IsLeftBy, IsMade, IsMoved, IsOver, commit_counted, counted, pushed, row_at}
use Rattle.commit_book.specs.Layout.{IsBook, IsKept, owed, view_of}
use Rattle.commit_book.specs.Leases.{LeaseView}
use Rattle.commit_book.specs.Limits.{commit_reserve, most_events}
use Rattle.commit_book.specs.Rows.{Row, alone, starts, meets, waits, stays, undoes, local_of, steps_of, thread, events_by}
use Rattle.commit_book.specs.Step.{next_seq}
use Rattle.commit_book.specs.Undoing.{IsTakenBack, begun, undo_by}

-- what the test says of the lease
pub current_by : (r : Bool) (threads : FinMap nat_cmp (Slot ControlView)) (lease : LeaseView) (given origin : ControlView) → IsTrue r ↔ IsCurrent threads lease given → given ≡ origin → r ≡ true → IsCurrent threads lease origin
current_by r threads lease given origin tests same holds = subst (IsCurrent threads lease) same (tests.0 holds)

pub late_by : (r : Bool) (threads : FinMap nat_cmp (Slot ControlView)) (lease : LeaseView) (given origin : ControlView) → IsTrue r ↔ IsCurrent threads lease given → given ≡ origin → r ≡ false → ¬ IsCurrent threads lease origin
late_by r threads lease given origin tests same fails now = false≢true (sym fails ∙ tests.1 (subst (IsCurrent threads lease) (sym same) now))

-- a lease that isn't current
pub committed_late : (old new : BookView) (lease : LeaseView) (progress : ProgressView) (done : Done) → (¬ IsCurrent old.threads lease progress.origin) → IsLateAnswer old new lease done → IsCommitted old new lease progress done
committed_late old new lease progress (Stale lent now) away late = (away, late)
committed_late old new lease progress (Taken first count) away late = absurd late
committed_late old new lease progress (Parked first count) away late = absurd late
committed_late old new lease progress (Over weight) away late = absurd late
committed_late old new lease progress (Undone first count mark removed marks) away late = absurd late

-- ---- how many events there are then

one_or_none : (b : Bool) (l : Label) → length (cond b [] (l ∷ [])) ≤ 1
one_or_none true l = omega arith
one_or_none false l = omega arith

one_step : (t : ℕ) (row : Row) → length (steps_of t row) ≤ 1
one_step t (alone None) = omega arith
one_step t (alone (Some l)) = omega arith
one_step t (starts u) = omega arith
one_step t (meets u l) = omega arith
one_step t (waits o) = omega arith
one_step t stays = omega arith
one_step t (undoes m) = omega arith

-- at most two are pushed
pushed_few : (lease : LeaseView) (progress : ProgressView) (row : Row) → pushed lease progress row ≤ 2
pushed_few lease progress row =
    let both = length-append (local_of lease.thread progress.steps) (steps_of lease.thread row) in
    let local = one_or_none (nat_eq progress.steps 0) (Local (thread lease.thread) progress.steps) in
    let step = one_step lease.thread row in
    omega (arith, both, local, step)

length_events : (worker : ℕ) (ls : List Label) → length (events_by worker ls) ≡ length ls
length_events worker ls = length-map ls (λ l. event worker (Step l))

module _ (old mid : BookView) (lease : LeaseView) (progress : ProgressView) where
  -- so many events more
  moved_count : (row : Row) → IsMoved old mid lease.worker lease.thread progress.steps row → length mid.history.events ≡ length old.history.events + pushed lease progress row
  moved_count row moved =
      let ls = local_of lease.thread progress.steps ++ steps_of lease.thread row in
      ap (λ j. length j.events) moved.history ∙ length-append old.history.events (events_by lease.worker ls) ∙ ap (λ n. length old.history.events + n) (length_events lease.worker ls)

  undone_count : (m : ℕ) → IsTakenBack old mid lease.worker lease.thread progress.steps m (begun old lease.thread progress.steps) → length mid.history.events ≡ length old.history.events + length (local_of lease.thread progress.steps) + 1
  undone_count m is =
      let ls = local_of lease.thread progress.steps in
      ap length is.events
      ∙ length-append (old.history.events ++ events_by lease.worker ls) (undo_by lease.worker lease.thread m ∷ [])
      ∙ ap (λ n. n + 1) (length-append old.history.events (events_by lease.worker ls) ∙ ap (λ n. length old.history.events + n) (length_events lease.worker ls))

  grown_by : (row : Row) → IsDoneBy old mid lease progress row → (length old.history.events ≤ length mid.history.events) × (length mid.history.events ≤ length old.history.events + 2)
  grown_by (undoes m) done = let n = undone_count m done in let few = one_or_none (nat_eq progress.steps 0) (Local (thread lease.thread) progress.steps) in (omega (arith, n), omega (arith, n, few))
  grown_by (alone l) done = let n = moved_count (alone l) done in let few = pushed_few lease progress (alone l) in (omega (arith, n), omega (arith, n, few))
  grown_by (starts u) done = let n = moved_count (starts u) done in let few = pushed_few lease progress (starts u) in (omega (arith, n), omega (arith, n, few))
  grown_by (meets u l) done = let n = moved_count (meets u l) done in let few = pushed_few lease progress (meets u l) in (omega (arith, n), omega (arith, n, few))
  grown_by (waits o) done = let n = moved_count (waits o) done in let few = pushed_few lease progress (waits o) in (omega (arith, n), omega (arith, n, few))
  grown_by stays done = let n = moved_count stays done in let few = pushed_few lease progress stays in (omega (arith, n), omega (arith, n, few))

  -- ---- what is left and answered

  module _ (new : BookView) where
    -- the commit is counted
    left_moved : (row : Row) → IsMoved old mid lease.worker lease.thread progress.steps row → new ≡ record mid { answered = commit_counted mid }
        → IsMoved old (record new { answered = old.answered }) lease.worker lease.thread progress.steps row × (new.answered ≡ commit_counted old)
    left_moved row moved is =
        let back : mid ≡ record new { answered = old.answered } = ap (λ (a : Answered). record mid { answered = a }) moved.answered ∙ ap (λ (b : BookView). record b { answered = old.answered }) (sym is) in (
          subst (λ (b : BookView). IsMoved old b lease.worker lease.thread progress.steps row) back moved,
          ap (λ (b : BookView). b.answered) is ∙ ap (λ (a : Answered). record a { commits = counted a.commits }) moved.answered,
        )

    left_undone : (m : ℕ) → IsTakenBack old mid lease.worker lease.thread progress.steps m (begun old lease.thread progress.steps) → new ≡ record mid { answered = commit_counted mid }
        → IsTakenBack old (record new { answered = old.answered }) lease.worker lease.thread progress.steps m (begun old lease.thread progress.steps) × (new.answered ≡ commit_counted old)
    left_undone m taken is =
        let back : mid ≡ record new { answered = old.answered } = ap (λ (a : Answered). record mid { answered = a }) taken.answered ∙ ap (λ (b : BookView). record b { answered = old.answered }) (sym is) in (
          subst (λ (b : BookView). IsTakenBack old b lease.worker lease.thread progress.steps m (begun old lease.thread progress.steps)) back taken,
          ap (λ (b : BookView). b.answered) is ∙ ap (λ (a : Answered). record a { commits = counted a.commits }) taken.answered,
        )

    left_by : (row : Row) → IsDoneBy old mid lease progress row → new ≡ ended_by mid → IsLeftBy old new lease progress row
    left_by (undoes m) done is = left_undone m done is
    left_by (alone l) done is = left_moved (alone l) done is
    left_by (starts u) done is = left_moved (starts u) done is
    left_by (meets u l) done is = left_moved (meets u l) done is
    left_by (waits w) done is = left_moved (waits w) done is
    left_by stays done is = left_moved stays done is

    -- the answer tells the events
    number_is : (a : Seq) → a.0 ≡ next_seq old → a ≡ record { 0 = next_seq old }
    number_is a is = ap (λ (n : ℕ). record { 0 = n }) is

    count_is : (row : Row) (a : Seq) (n : ℕ) → IsMoved old mid lease.worker lease.thread progress.steps row → a.0 ≡ next_seq old → n ≡ length mid.history.events + 1 - a.0 → n ≡ pushed lease progress row
    count_is row a n moved at is = let more = moved_count row moved in omega (arith, more, at, is)

    taken_is : (row : Row) (a : Seq) (n : ℕ) (done : Done) → IsMoved old mid lease.worker lease.thread progress.steps row → a.0 ≡ next_seq old → n ≡ length mid.history.events + 1 - a.0 → done ≡ Taken a n
        → done ≡ Taken (record { 0 = next_seq old }) (pushed lease progress row)
    taken_is row a n done moved at is answers = answers ∙ ap (λ (k : Seq). Taken k n) (number_is a at) ∙ ap (Taken (record { 0 = next_seq old })) (count_is row a n moved at is)

    parked_is : (row : Row) (a : Seq) (n : ℕ) (done : Done) → IsMoved old mid lease.worker lease.thread progress.steps row → a.0 ≡ next_seq old → n ≡ length mid.history.events + 1 - a.0 → done ≡ Parked a n
        → done ≡ Parked (record { 0 = next_seq old }) (pushed lease progress row)
    parked_is row a n done moved at is answers = answers ∙ ap (λ (k : Seq). Parked k n) (number_is a at) ∙ ap (Parked (record { 0 = next_seq old })) (count_is row a n moved at is)

    undone_is : (m : ℕ) (o : Outcome) (a : Seq) (n : ℕ) → IsOutcomeOf (begun old lease.thread progress.steps) (undoes m) o → IsTakenBack old mid lease.worker lease.thread progress.steps m (begun old lease.thread progress.steps) → a.0 ≡ next_seq old → n ≡ length mid.history.events + 1 - a.0
        → IsAnsweredBy old lease progress (undoes m) (answer_to o a n)
    undone_is m (outcome.Undone u) a n told taken at is =
        let more = undone_count m taken in
        let none : length (local_of lease.thread progress.steps ++ []) ≡ length (local_of lease.thread progress.steps) = ap length (append-nil (local_of lease.thread progress.steps)) in
        (at, omega (arith, more, at, is, none), told)
    undone_is m outcome.Taken a n told taken at is = absurd told
    undone_is m outcome.Parked a n told taken at is = absurd told

    answer_is : (row : Row) (o : Outcome) (a : Seq) (n : ℕ) → IsOutcomeOf (begun old lease.thread progress.steps) row o → IsDoneBy old mid lease progress row → a.0 ≡ next_seq old → n ≡ length mid.history.events + 1 - a.0
        → IsAnsweredBy old lease progress row (answer_to o a n)
    answer_is (undoes m) o a n becomes did at is = undone_is m o a n becomes did at is
    answer_is (alone l) o a n becomes did at is = taken_is (alone l) a n (answer_to o a n) did at is (ap (λ k. answer_to k a n) becomes)
    answer_is (starts u) o a n becomes did at is = taken_is (starts u) a n (answer_to o a n) did at is (ap (λ k. answer_to k a n) becomes)
    answer_is (meets u l) o a n becomes did at is = taken_is (meets u l) a n (answer_to o a n) did at is (ap (λ k. answer_to k a n) becomes)
    answer_is (waits w) o a n becomes did at is = parked_is (waits w) a n (answer_to o a n) did at is (ap (λ k. answer_to k a n) becomes)
    answer_is stays o a n becomes did at is = parked_is stays a n (answer_to o a n) did at is (ap (λ k. answer_to k a n) becomes)

    -- no outcome is answered Stale or Over
    on_time_by : (o : Outcome) (a : Seq) (n : ℕ) → IsMade old new lease progress (row_at old lease progress) (answer_to o a n) → IsCurrent old.threads lease progress.origin → (¬ IsOver old) → IsCommitted old new lease progress (answer_to o a n)
    on_time_by outcome.Taken a n made current light = (current, light, made)
    on_time_by outcome.Parked a n made current light = (current, light, made)
    on_time_by (outcome.Undone u) a n made current light = (current, light, made)

-- ---- of a book

owed_few : (p : Parts) → owed p ≤ 1
owed_few p = by (nat_lt p.tallies.released p.tallies.finals)
  where
    by : (b : Bool) → cond {A = ℕ} b 1 0 ≤ 1
    by true = omega arith
    by false = omega arith

-- a book that is as before has as much room
pub book_as_before : (job : JobParts) (old new : Parts) → AreAsBefore old new → IsKept job new → IsBook job old → IsBook job new
book_as_before job old new same kept book = record {
  kept = kept;
  short =
      subst (λ (es : List Event). length es + owed new ≤ most_events) (sym (ap (λ (j : Journal). j.events) same.history))
      (subst (λ (t : Tallies). length old.history.events + cond (nat_lt t.released t.finals) 1 0 ≤ most_events) (sym same.tallies) book.short);
}

module _ (job : JobParts) (old mid : Parts) (lease : LeaseView) (progress : ProgressView) (o : Outcome) (performed : IsPerformed job old mid lease progress o) where
  -- the history is no shorter, and not too long
  pub grown : (length old.history.events ≤ length mid.history.events) × (length mid.history.events ≤ length old.history.events + 2)
  grown = grown_by (view_of job old) (view_of job mid) lease progress (row_at (view_of job old) lease progress) performed.done

  -- and a release that is due has room then
  pub book_after : length old.history.events < 17000000 → IsKept job mid → IsBook job mid
  book_after few kept = let more = grown.1 in let one = owed_few mid in record { kept = kept; short = omega (arith, more, one, few) }

  pub committed_on_time : (new : BookView) (first : Seq) (count : ℕ) (done : Done) → IsCurrent old.slots.threads lease progress.origin → (¬ IsOver (view_of job old)) → first.0 ≡ length old.history.events + 1
      → count ≡ length mid.history.events + 1 - first.0 → done ≡ answer_to o first count → new ≡ ended_by (view_of job mid) → IsCommitted (view_of job old) new lease progress done
  committed_on_time new first count done current light at is answers left =
      let row = row_at (view_of job old) lease progress in
      let answer = answer_is (view_of job old) (view_of job mid) lease progress new row o first count performed.becomes performed.done at is in
      subst (λ (d : Done). IsCommitted (view_of job old) new lease progress d) (sym answers)
      (on_time_by (view_of job old) (view_of job mid) lease progress new o first count
      (record { answer = answer; left = left_by (view_of job old) (view_of job mid) lease progress new row performed.done left }) current light)

-- what a commit needs once it is on time
pub may_commit : (job : JobParts) (parts : Parts) (lease : LeaseView) (progress : ProgressView) → IsKept job parts → IsWithinLimits job → Advances job.program progress.origin progress.steps progress.end → progress.steps ≤ 4294967295
    → IsCurrent parts.slots.threads lease progress.origin → (¬ IsOver (view_of job parts)) → IsValid parts.history → MayAct job parts lease progress
may_commit job parts lease progress kept limits made steps current light valid = record {
  kept = kept;
  limits = limits;
  made = made;
  steps = steps;
  current = current;
  light = below (weight_of parts.history.events) (job.fuel + commit_reserve) light;
  few = valid.few;
  ranges = valid.in_range;
}
  where
    below : (w m : ℕ) → (m ≤ w → ⊥) → w < m
    below w m not = omega (arith, not)

-- a current lease of a book that isn't over
pub record IsOnTime (job : JobParts) (parts : Parts) (lease : LeaseView) (progress : ProgressView) : Type 0 where
  pub current : IsCurrent parts.slots.threads lease progress.origin
  pub light : ¬ IsOver (view_of job parts)
  pub limits : IsWithinLimits job

pub on_time : (job : JobParts) (parts : Parts) (lease : LeaseView) (progress : ProgressView) (b : BookView) → view_of job parts ≡ b → IsCurrent b.threads lease progress.origin → (¬ IsOver b) → IsWithinLimits job → IsOnTime job parts lease progress
on_time job parts lease progress b view current light within = record {
  current = subst (λ (k : BookView). IsCurrent k.threads lease progress.origin) (sym view) current;
  light = λ heavy. light (subst IsOver view heavy);
  limits = within;
}

-- its history is short
pub short : (job : JobParts) (parts : Parts) (lease : LeaseView) (progress : ProgressView) → IsOnTime job parts lease progress → IsValid parts.history → length parts.history.events < 17000000
short job parts lease progress time valid =
    let light : weight_of parts.history.events < job.fuel + commit_reserve = lighter (weight_of parts.history.events) (job.fuel + commit_reserve) time.light in
    let fuel = time.limits.fuel_within in
    let few = valid.few in
    omega (arith, light, fuel, few)
  where
    lighter : (w m : ℕ) → (m ≤ w → ⊥) → w < m
    lighter w m not = omega (arith, not)
