-- What a round leaves: a run up to where values are due, and their release.
use Rattle.std.proofs.Common.{◌≡◌, ◌⊎◌, inl, inr, ℕ, zero, suc, ◌+◌, ◌-◌, ◌<◌, ◌≤◌, true, List, [], ◌∷◌, ◌++◌, take, drop, refl, sym, ap, subst, ◌∙◌, append-nil, append_assoc, arith}
use Rattle.std.specs.List.{AllByRecursion}
use Rattle.std.proofs.lemmas.Bool.{false≢true}
use Rattle.std.proofs.lemmas.Grind.{flat_map-append}
use Rattle.std.proofs.lemmas.List.{take-append-drop}
use Rattle.std.proofs.lemmas.List.Sums.{sum_by-append}
use Rattle.stab_base.specs.Datum.{Datum}
use Rattle.stab_base.specs.Printed.{printed}
use Rattle.stab_code.specs.JobParts.{JobParts}
use Rattle.stab_code.specs.Program.{ProgramParts}
use Rattle.stab_journal.specs.declared.event.Event.{Event}
use Rattle.stab_journal.specs.declared.event.Label.{Label}
use Rattle.stab_journal.specs.declared.event.Numbered.{Numbered}
use Rattle.stab_journal.specs.declared.event.What.TheVariants.{Release}
use Rattle.stab_journal.specs.Due.{due, final_prints, released, released_by, released_from}
use Rattle.stab_journal.specs.Event.{weigh, weight_of}
use Rattle.stab_journal.specs.Surviving.{after_event, after_events, run_of}
use Rattle.language.specs.Shown.{line, value_lines}
use Rattle.language.specs.Standing.{StandsFor, event}
use Rattle.journal_laws.proofs.Undone.{stands_run}
use Rattle.commit_book.specs.declared.done.Done.{Done}
use Rattle.commit_book.specs.declared.done.Done.TheVariants.{Taken, Parked, Undone, Stale, Over}
use Rattle.commit_book.specs.Book.{BookView, IsShown}
use Rattle.commit_book.specs.Commits.{IsCommitted, IsLeftBy, row_at}
use Rattle.commit_book.specs.Leases.{LeaseView}
use Rattle.commit_book.specs.Releases.{IsReleased, due_lines, finals}
use Rattle.commit_book.specs.Rows.{Row, alone, starts, meets, waits, stays, undoes, events_by, local_of, steps_of}
use Rattle.commit_book.specs.Undoing.{undo_by}
use Rattle.commit_book.proofs.Threads.Chosen.{chosen_light}
use Rattle.commit_book.proofs.Keeping.EventSteps.{released_snoc}
use Rattle.commit_book.proofs.Lawful.Firm.{IsFirm, firm, released_final}
use Rattle.book_text.specs.Written.{released_lines}
use Rattle.step_eval.specs.Progress.{ProgressView}
use Rattle.lone_worker.specs.declared.worker.RunEnd.{RunEnd}
use Rattle.lone_worker.specs.declared.worker.RunEnd.TheVariants as ends
use Rattle.lone_worker.specs.Running.{AreTurns, none, one_more, IsLater, IsRun}
use Rattle.lone_worker.specs.Turn.{IsTurnOf, is_made, worker}
use Rattle.book_runs.specs.Rounds.{one_if_any, rounds_left}

-- ---- of what is released

released_append : (k : ℕ) (es fs : List Event) → released_from k (es ++ fs) ≡ released_from (released_from k es) fs
released_append k [] fs = refl
released_append k (e ∷ es) fs = released_append (released_by e.what k) es fs

-- steps release nothing
by_steps : (k w : ℕ) (ls : List Label) → released_from k (events_by w ls) ≡ k
by_steps k w [] = refl
by_steps k w (l ∷ ls) = by_steps k w ls

after_steps_same : (w : ℕ) (es : List Event) (ls : List Label) → released (es ++ events_by w ls) ≡ released es
after_steps_same w es ls = released_append 0 es (events_by w ls) ∙ by_steps (released es) w ls

after_undo_same : (w t m : ℕ) (es : List Event) (ls : List Label) → released (es ++ events_by w ls ++ undo_by w t m ∷ []) ≡ released es
after_undo_same w t m es ls = released_append 0 (es ++ events_by w ls) (undo_by w t m ∷ []) ∙ after_steps_same w es ls

-- ---- of turns

module _ (lent new : BookView) (lease : LeaseView) (progress : ProgressView) where
  left_same : (row : Row) → IsLeftBy lent new lease progress row → released new.history.events ≡ released lent.history.events
  left_same (undoes m) left = ap released left.0.events ∙ after_undo_same lease.worker lease.thread m lent.history.events (local_of lease.thread progress.steps)
  left_same (alone l) left = ap (λ j. released j.events) left.0.history ∙ after_steps_same lease.worker lent.history.events (local_of lease.thread progress.steps ++ steps_of lease.thread (alone l))
  left_same (starts u) left = ap (λ j. released j.events) left.0.history ∙ after_steps_same lease.worker lent.history.events (local_of lease.thread progress.steps ++ steps_of lease.thread (starts u))
  left_same (meets u l) left = ap (λ j. released j.events) left.0.history ∙ after_steps_same lease.worker lent.history.events (local_of lease.thread progress.steps ++ steps_of lease.thread (meets u l))
  left_same (waits o) left = ap (λ j. released j.events) left.0.history ∙ after_steps_same lease.worker lent.history.events (local_of lease.thread progress.steps ++ steps_of lease.thread (waits o))
  left_same stays left = ap (λ j. released j.events) left.0.history ∙ after_steps_same lease.worker lent.history.events (local_of lease.thread progress.steps ++ steps_of lease.thread stays)

  committed_same : (done : Done) → is_made done ≡ true → IsCommitted lent new lease progress done → released new.history.events ≡ released lent.history.events
  committed_same (Taken first count) made is = left_same (row_at lent lease progress) is.2.left
  committed_same (Parked first count) made is = left_same (row_at lent lease progress) is.2.left
  committed_same (Undone first count mark removed marks) made is = left_same (row_at lent lease progress) is.2.left
  committed_same (Stale g now) made is = absurd (false≢true made)
  committed_same (Over w) made is = absurd (false≢true made)

turn_same : (old new : BookView) → IsTurnOf old new → released new.history.events ≡ released old.history.events
turn_same old new turn =
    committed_same turn.lent new turn.lease turn.works.progress turn.works.done turn.works.made turn.works.commits
    ∙ ap (λ (b : BookView). released b.history.events) turn.leases.2

-- turns release nothing
pub turns_same : (a b : BookView) → AreTurns a b → released b.history.events ≡ released a.history.events
turns_same a _ none = refl
turns_same a b (one_more {between = mid} turns turn unlent) = turn_same mid b turn ∙ turns_same a mid turns

run_history : (end : RunEnd) (a b : BookView) (r : IsRun end a b) → b.history.events ≡ r.last.history.events
run_history ends.Quiet a b r = ap (λ (x : BookView). x.history.events) r.ends.1
run_history ends.Spent a b r = ap (λ (x : BookView). x.history.events) r.ends.1
run_history ends.Due a b r = ap (λ (x : BookView). x.history.events) r.ends.1
run_history ends.NoMemory a b r = ap (λ j. j.events) r.ends

pub run_same : (end : RunEnd) (a b : BookView) → IsRun end a b → released b.history.events ≡ released a.history.events
run_same end a b r = ap released (run_history end a b r) ∙ turns_same a r.last r.turns

-- ---- of the fuel

first_light : (a b : BookView) → AreTurns a b → (a ≡ b) ⊎ (weight_of a.history.events < a.job.fuel)
first_light a _ none = inl refl
first_light a b (one_more {between = mid} turns turn unlent) = by (first_light a mid turns)
  where
    by : (a ≡ mid) ⊎ (weight_of a.history.events < a.job.fuel) → (a ≡ b) ⊎ (weight_of a.history.events < a.job.fuel)
    by (inr light) = inr light
    by (inl same) = inr (subst (λ (x : BookView). weight_of x.history.events < x.job.fuel) (sym same) (chosen_light mid (record { 0 = turn.lease.thread }) turn.leases.0))

-- a run that ends with values due, where none were due before, had fuel left at its start
pub due_light : (a b : BookView) → IsRun ends.Due a b → due a.history.events ≡ 0 → 0 < due b.history.events → weight_of a.history.events < a.job.fuel
due_light a b r undue some = by (first_light a r.last r.turns)
  where
    by : (a ≡ r.last) ⊎ (weight_of a.history.events < a.job.fuel) → weight_of a.history.events < a.job.fuel
    by (inr light) = light
    by (inl same) = let is : due b.history.events ≡ due a.history.events = ap (λ (x : BookView). due x.history.events) (r.ends.1 ∙ sym same) in absurd (omega (arith, is, undue, some))

-- ---- of a release

after_release : (q : ℕ) (run : List Numbered) (es : List Event) (w k : ℕ) → after_events q run (es ++ event w (Release k) ∷ []) ≡ after_events q run es
after_release q run [] w k = append-nil run
after_release q run (e ∷ es) w k = after_release (suc q) (after_event q e.what run) es w k

take_twice : {X : Type 0} (m n : ℕ) (xs : List X) → m ≤ n → take m (take n xs) ≡ take m xs
take_twice zero n xs le = refl
take_twice (suc m) zero xs le = absurd (omega (arith, le))
take_twice (suc m) (suc n) [] le = refl
take_twice (suc m) (suc n) (x ∷ xs) le = ap (λ l. x ∷ l) (take_twice m n xs (omega (arith, le)))

pub two_parts : (p : ProgramParts) (m n : ℕ) (xs : List Datum) → m ≤ n → value_lines p (take n xs) ≡ value_lines p (take m xs) ++ value_lines p (drop m (take n xs))
two_parts p m n xs le =
    ap (value_lines p) (sym (take-append-drop m (take n xs)))
    ∙ flat_map-append (λ v. line (printed p.texts v)) (take m (take n xs)) (drop m (take n xs))
    ∙ ap (λ l. value_lines p l ++ value_lines p (drop m (take n xs))) (take_twice m n xs le)

module _ (last new : BookView) (w : ℕ) (is : IsReleased last new w) where
  pub released_now : released new.history.events ≡ finals last
  released_now = ap (λ (x : BookView). released x.history.events) is ∙ released_snoc 0 last.history.events (event w (Release (finals last)))

  -- nothing is due any more
  pub none_due : due new.history.events ≡ 0
  none_due =
      let final : final_prints (run_of new.history.events) ≡ finals last =
      ap (λ (x : BookView). final_prints (run_of x.history.events)) is ∙ ap final_prints (after_release 1 [] last.history.events w (finals last))
      in
      let out : released new.history.events ≡ finals last = released_now in
      omega (arith, final, out)

  pub release_lines : IsShown last → released_lines new ≡ released_lines last ++ due_lines last
  release_lines shown =
      let stands = shown.shows.journal.history.stands in
      let few : released last.history.events ≤ final_prints shown.run = released_final last.job.program last.history.events shown.run shown.state stands in
      let same : shown.run ≡ run_of last.history.events = (stands_run last.job.program last.history.events shown.run shown.state stands).0 in
      let le : released last.history.events ≤ finals last = subst (λ ns. released last.history.events ≤ final_prints ns) same few in
      ap (λ n. value_lines new.job.program (take n new.printed)) released_now
      ∙ ap (λ (x : BookView). value_lines x.job.program (take (finals last) x.printed)) is
      ∙ two_parts last.job.program (released last.history.events) (finals last) last.printed le

  release_weight : weight_of new.history.events ≡ weight_of last.history.events + 1
  release_weight =
      ap (λ (x : BookView). weight_of x.history.events) is
      ∙ sum_by-append (λ (e : Event). weigh e.what) last.history.events (event w (Release (finals last)) ∷ [])

  -- it is the next event
  pub release_later : w ≡ worker → IsLater last new
  release_later by = record {
    job = ap (λ (x : BookView). x.job) is;
    added = event w (Release (finals last)) ∷ [];
    events = ap (λ (x : BookView). x.history.events) is;
    by_one = (by, tt);
  }

-- ---- of what was printed

all_append : (P : Event → Type 0) (xs ys : List Event) → AllByRecursion P xs → AllByRecursion P ys → AllByRecursion P (xs ++ ys)
all_append P [] ys a b = b
all_append P (x ∷ xs) ys a b = (a.0, all_append P xs ys a.1 b)

pub later_again : (a b c : BookView) → IsLater a b → IsLater b c → IsLater a c
later_again a b c x y = record {
  job = y.job ∙ x.job;
  added = x.added ++ y.added;
  events = y.events ∙ ap (λ (es : List Event). es ++ y.added) x.events ∙ append_assoc a.history.events x.added y.added;
  by_one = all_append (λ (e : Event). e.worker ≡ worker) x.added y.added x.by_one y.by_one;
}

module _ (a b : BookView) (shown : IsShown a) (behind : IsShown b) (later : IsLater a b) where
  same_program : b.job.program ≡ a.job.program
  same_program = ap (λ (j : JobParts). j.program) later.job

  -- what was released stays, and stays final
  stay : IsFirm a.job.program (released a.history.events) shown.state behind.run behind.state
  stay =
      let stands = shown.shows.journal.history.stands in
      firm a.job.program a.history.events shown.run shown.state stands (released a.history.events)
      (released_final a.job.program a.history.events shown.run shown.state stands)
      b.history.events behind.run behind.state (subst (λ p. StandsFor p b.history.events behind.run behind.state) same_program behind.shows.journal.history.stands) later.added later.events

  pub values_stay : take (released a.history.events) b.printed ≡ take (released a.history.events) a.printed
  values_stay = ap (take (released a.history.events)) behind.shows.journal.printed ∙ stay.same ∙ sym (ap (take (released a.history.events)) shown.shows.journal.printed)

  pub lines_stay : value_lines b.job.program (take (released a.history.events) b.printed) ≡ released_lines a
  lines_stay = ap (λ p. value_lines p (take (released a.history.events) b.printed)) same_program ∙ ap (value_lines a.job.program) values_stay

  -- a run releases nothing
  pub run_lines : (end : RunEnd) → IsRun end a b → released_lines b ≡ released_lines a
  run_lines end r = ap (λ n. value_lines b.job.program (take n b.printed)) (run_same end a b r) ∙ lines_stay

-- ---- of a round

-- a release leaves nothing due, so one round fewer is left: if nothing was due before, the turns of the round used fuel
pub nearer : (old last new : BookView) → IsLater old last → IsRun ends.Due old last → 0 < due last.history.events → IsReleased last new worker → rounds_left new < rounds_left old
nearer old last new later run some is = by (due old.history.events) refl
  where
    more : weight_of new.history.events ≡ weight_of last.history.events + 1
    more = release_weight last new worker is

    sum : weight_of last.history.events ≡ weight_of old.history.events + weight_of later.added
    sum = ap weight_of later.events ∙ sum_by-append (λ (e : Event). weigh e.what) old.history.events later.added

    fuel : new.job.fuel ≡ old.job.fuel
    fuel = ap (λ (x : BookView). x.job.fuel) is ∙ ap (λ (j : JobParts). j.fuel) later.job

    now : rounds_left new ≡ (new.job.fuel - weight_of new.history.events) + 0
    now = ap (λ (n : ℕ). (new.job.fuel - weight_of new.history.events) + one_if_any n) (none_due last new worker is)

    by : (n : ℕ) → due old.history.events ≡ n → rounds_left new < rounds_left old
    by zero undue =
        let light : weight_of old.history.events < old.job.fuel = due_light old last run undue some in
        let before : rounds_left old ≡ (old.job.fuel - weight_of old.history.events) + 0 = ap (λ (n : ℕ). (old.job.fuel - weight_of old.history.events) + one_if_any n) undue in
        let m = more in let s = sum in let f = fuel in let n = now in omega (arith, light, before, m, s, f, n)
    by (suc k) owed =
        let before : rounds_left old ≡ (old.job.fuel - weight_of old.history.events) + 1 = ap (λ (n : ℕ). (old.job.fuel - weight_of old.history.events) + one_if_any n) owed in
        let m = more in let s = sum in let f = fuel in let n = now in omega (arith, before, m, s, f, n)
