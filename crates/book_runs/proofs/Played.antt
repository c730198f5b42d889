-- How far a run came, from the book before its first event.
use Rattle.std.proofs.Common.{◌≡◌, ◌≢◌, ◌++◌, ℕ, ◌+◌, ◌≤◌, nat_eq, List, [], ◌∷◌, take, drop, Some, None, refl, sym, ap, subst, ◌∙◌, append-nil, append_assoc, arith}
use Rattle.std.specs.Prelude.{if◌then◌else◌}
use Rattle.std.specs.List.{AllByRecursion}
use Rattle.stab_base.specs.Datum.{Datum}
use Rattle.stab_code.specs.JobParts.{JobParts}
use Rattle.stab_code.specs.Valid.{IsValid}
use Rattle.stab_files.specs.Count.{Rose}
use Rattle.stab_files.proofs.Puts.{appends_trans}
use Rattle.stab_journal.specs.declared.event.Event.{Event}
use Rattle.stab_journal.specs.declared.event.What.TheVariants.{Release}
use Rattle.stab_journal.specs.Due.{released}
use Rattle.stab_journal.specs.Script.{FollowsScript}
use Rattle.language.specs.Shown.{value_lines}
use Rattle.language.specs.Standing.{event}
use Rattle.thread_slots.specs.declared.state.State.TheVariants.{Parked}
use Rattle.commit_book.specs.Book.{BookView, IsAtStart, IsShown}
use Rattle.commit_book.specs.Counts.{faulted_in, in_state}
use Rattle.commit_book.specs.Releases.{finals}
use Rattle.commit_book.proofs.Lawful.Firm.{front_of, released_more, snoc_of}
use Rattle.book_text.specs.Written.{released_lines}
use Rattle.lone_worker.specs.declared.worker.RunEnd.{RunEnd}
use Rattle.lone_worker.specs.declared.worker.RunEnd.TheVariants as ends
use Rattle.lone_worker.specs.Desk.{IsUnlent}
use Rattle.lone_worker.specs.Rounds.{AreRounds, IsPlayed, one_more}
use Rattle.lone_worker.specs.Running.{AreTurns, EndSays, IsLater, IsRun}
use Rattle.lone_worker.specs.Running as turns
use Rattle.lone_worker.specs.Solo.{IsSolo}
use Rattle.lone_worker.specs.Turn.{worker}
use Rattle.turn_floor.specs.Served.{AreOf}
use Rattle.worker_rounds.specs.declared.rounds.Stop.{Stop}
use Rattle.worker_rounds.specs.declared.rounds.Stop.TheVariants as stops
use Rattle.worker_rounds.specs.Releases.{HasReleases, StopSays, first_lines}
use Rattle.worker_rounds.specs.Shared.{IsSharedOf}
use Rattle.call_status.specs.declared.status.Status.{Status}
use Rattle.call_status.specs.declared.status.Status.TheVariants.{Done, Held, Spent}
use Rattle.sink_lines.specs.Device.{Device, Gains}
use Rattle.sink_lines.proofs.Gained.{gains_nothing, gains_on}
use Rattle.book_runs.specs.Ending.{IsRunOf, IsSoloPart}
use Rattle.book_runs.specs.Playing.{BreakSays, GainsSince, HasRun, HasStopped, IsBroken, IsPlayedOut}
use Rattle.book_runs.specs.Rounds.{IsRound}
use Rattle.book_runs.proofs.Resting.{rest_by_counts}
use Rattle.book_runs.proofs.Rounding.{lines_stay, run_lines, run_same, two_parts}

-- ---- the lines of what was released

-- the lines of the first n values begin with the lines of what was released by fewer events
module _ (b : BookView) (shown : IsShown b) where
  pub front_lines : (n : ℕ) (first : List Event) (piece more : List ℕ) → released first ≤ n → piece ≡ value_lines b.job.program (take n b.printed) ++ more
      → (rest : List ℕ) × (piece ≡ first_lines b.job.program shown.state first ++ rest)
  front_lines n first piece more le is =
      let p = b.job.program in
      let others = value_lines p (drop (released first) (take n b.printed)) in
      let split : value_lines p (take n b.printed) ≡ first_lines p shown.state first ++ others =
      two_parts p (released first) n b.printed le ∙ ap (λ (vs : List Datum). value_lines p (take (released first) vs) ++ others) shown.shows.journal.printed
      in
      (others ++ more, is ∙ ap (λ l. l ++ more) split ∙ append_assoc (first_lines p shown.state first) others more)

  -- they begin with the lines of everything that was released
  pub has_all : (piece more : List ℕ) → piece ≡ released_lines b ++ more → HasReleases b shown.state piece
  has_all piece more is first after e split by =
      front_lines (released b.history.events) first piece more
      (released_more b.job.program b.history.events shown.run shown.state shown.shows.journal.history.stands first (e ∷ after) split) is

-- the lines of everything that was released before the last round
round_has : (old new : BookView) (shown : IsShown old) (behind : IsShown new) (later : IsLater old new) (round : IsRound old new) (piece more : List ℕ) → piece ≡ released_lines old ++ more → HasReleases new behind.state piece
round_has old new shown behind later round piece more is first after e split by =
    let last = round.last in
    let before = round.unlent.shown in
    let events : new.history.events ≡ last.history.events ++ event worker (Release (finals last)) ∷ [] = ap (λ (x : BookView). x.history.events) round.released in
    let within : last.history.events ≡ first ++ (snoc_of e after).front = front_of last.history.events first (event worker (Release (finals last))) e after (sym events ∙ split) in
    let up = released_more last.job.program last.history.events before.run before.state before.shows.journal.history.stands first (snoc_of e after).front within in
    front_lines new behind (released old.history.events) first piece more
    (subst (λ n. released first ≤ n) (run_same ends.Due old last round.run) up)
    (is ∙ ap (λ l. l ++ more) (sym (lines_stay old new shown behind later)))

-- ---- the lines written since a book

pub gains_none : (b : BookView) (sink : Device (List ℕ)) → GainsSince b b sink sink
gains_none b sink = record { lines = []; more = sym (append-nil (released_lines b)); gains = gains_nothing sink }

pub later_none : (b : BookView) → IsLater b b
later_none b = record { job = refl; added = []; events = sym (append-nil b.history.events); by_one = tt }

-- what was released in a round was written
pub gains_more : (start old new : BookView) (sink between after : Device (List ℕ)) → GainsSince start old sink between → (lines : List ℕ) → released_lines new ≡ released_lines old ++ lines → Gains between after lines → GainsSince start new sink after
gains_more start old new sink between after so_far lines is gains = record {
  lines = so_far.lines ++ lines;
  more = is ∙ ap (λ l. l ++ lines) so_far.more ∙ append_assoc (released_lines start) so_far.lines lines;
  gains = gains_on sink between after so_far.lines lines so_far.gains gains;
}

-- a run releases nothing
pub run_gains : (start old new : BookView) (unlent : IsUnlent old) (behind : IsUnlent new) (later : IsLater old new) (end : RunEnd) → IsRun end old new → (sink after : Device (List ℕ)) → GainsSince start old sink after → GainsSince start new sink after
run_gains start old new unlent behind later end run sink after so_far = record {
  lines = so_far.lines;
  more = run_lines old new unlent.shown behind.shown later end run ∙ so_far.more;
  gains = so_far.gains;
}

-- the lines released up to the old book were written, and then those released since: so all of them were
pub gains_all : (old new : BookView) (sink between after : Device (List ℕ)) → Gains sink between (released_lines old) → GainsSince old new between after → Gains sink after (released_lines new)
gains_all old new sink between after so_far since =
    subst (Gains sink after) (sym since.more) (gains_on sink between after (released_lines old) since.lines so_far since.gains)

-- ---- what is played on

-- one more round
pub rounds_on : (start old new : BookView) → AreRounds start old → IsRound old new → IsUnlent new → AreRounds start new
rounds_on start old new rounds round behind = one_more rounds round.run round.unlent round.released behind

-- the play stops after a round
pub stopped_behind : (start b : BookView) → AreRounds start b → IsPlayed ends.NoMemory start b
stopped_behind start b rounds = record { last = b; rounds = rounds; run = record { last = b; turns = turns.none; ends = refl } }

pub quiet_out : (start b : BookView) (unlent : IsUnlent b) (status : Status) → IsPlayed ends.Quiet start b → EndSays ends.Quiet b → IsValid b.job.program
    → status ≡ (if nat_eq (faulted_in b.job.program b.threads b.next.thread + in_state Parked b) 0 then Done else Held) → IsPlayedOut status start b
quiet_out start b unlent status played says valid is =
    record { end = ends.Quiet; whole = tt; played = played; rest = λ shown. rest_by_counts b valid shown says.0 says.1 unlent.free status is }

pub spent_out : (start b : BookView) → IsPlayed ends.Spent start b → EndSays ends.Spent b → IsPlayedOut Spent start b
spent_out start b played says = record { end = ends.Spent; whole = tt; played = played; rest = λ shown. record { used = says.0; ready = says.1 } }

-- the play was stopped, and what was released before it had been written
module _ (old b : BookView) (shown : IsShown b) (sink between after : Device (List ℕ)) (so_far : Gains sink between (released_lines old)) where
  pub broken_says : (stop : Stop) → BreakSays stop old b between after → StopSays stop b shown.state sink after
  broken_says stops.NoMemory since = gains_all old b sink between after so_far since
  broken_says stops.SinkFault cut =
      let part = cut.cut.0 in
      let last = gains_all old cut.last sink between cut.between so_far cut.so_far in (
        record {
          front = released_lines cut.last ++ part.front;
          back = part.back;
          split = append_assoc (released_lines cut.last) part.front part.back ∙ ap (λ l. released_lines cut.last ++ l) part.split ∙ sym cut.more;
          fact = (
            appends_trans sink.told cut.between.told after.told (released_lines cut.last) part.front last.0 part.fact,
            round_has cut.last b cut.shown shown cut.later cut.round (released_lines cut.last ++ part.front) part.front refl,
          );
        },
        subst (λ n. Rose n after.faults) last.1 cut.cut.1,
      )

-- ---- a run

-- an event of worker 1 is one of the workers'
module _ (workers : ℕ) (some : 1 ≤ workers) where
  of_one : (es : List Event) → AllByRecursion (λ (e : Event). e.worker ≡ worker) es → AreOf workers es
  of_one [] one = tt
  of_one (e ∷ es) one = ((let is = one.0 in (omega (arith, is), omega (arith, is, some))), of_one es one.1)

  of_both : (xs ys : List Event) → AreOf workers xs → AreOf workers ys → AreOf workers (xs ++ ys)
  of_both [] ys a b = b
  of_both (x ∷ xs) ys a b = (a.0, of_both xs ys a.1 b)

  pub later_named : (old b : BookView) → IsLater old b → AreOf workers old.history.events → AreOf workers b.history.events
  later_named old b later named = subst (AreOf workers) (sym later.events) (of_both old.history.events later.added named (of_one later.added later.by_one))

-- the run of a book of the job, from what its events are
pub run_of_book : (workers : ℕ) (job : JobParts) (b : BookView) (shown : IsShown b) → b.job ≡ job → AreOf workers b.history.events → (workers ≡ 1 → IsSoloPart job b.history.events) → IsRunOf workers job b shown.state
run_of_book workers job b shown of_job named solo = record {
  of_job = of_job;
  run = shown.run;
  shown = shown.shows;
  follows = subst (λ numbers. FollowsScript numbers b.history.events) (ap (λ (j : JobParts). j.script) of_job) shown.shows.journal.script;
  named = named;
  solo = solo;
}

-- ---- one worker alone

module _ (start b : BookView) (begins : IsAtStart start) (later : IsLater start b) (unlent : IsUnlent b) (workers : ℕ) (some : 1 ≤ workers) where
  alone_solo : (end : RunEnd) → IsPlayed end start b → IsSolo start.job end b.history.events
  alone_solo end played = record { old = start; new = b; start = begins; of_job = refl; run = played; left = refl }

  alone_run : (end : RunEnd) → IsPlayed end start b → IsRunOf workers start.job b unlent.shown.state
  alone_run end played =
      run_of_book workers start.job b unlent.shown later.job
      (later_named workers some start b later (subst (AreOf workers) (sym begins.events) tt)) (λ one. (end, alone_solo end played))

  pub alone_over : (status : Status) → IsPlayedOut status start b → HasRun workers status start.job b
  alone_over status out = record {
    state = unlent.shown.state;
    run = alone_run out.end out.played;
    whole = λ one. record { end = out.end; whole = out.whole; solo = subst (λ j. IsSolo j out.end b.history.events) (sym later.job) (alone_solo out.end out.played) };
    rest = out.rest unlent.shown;
  }

  -- nothing was released before the start
  start_lines : released_lines start ≡ []
  start_lines = ap (λ es. value_lines start.job.program (take (released es) start.printed)) begins.events

  start_gains : (sink : Device (List ℕ)) → Gains sink sink (released_lines start)
  start_gains sink = subst (Gains sink sink) (sym start_lines) (gains_nothing sink)

  pub alone_gains : (sink after : Device (List ℕ)) → GainsSince start b sink after → Gains sink after (released_lines b)
  alone_gains sink after since = gains_all start b sink sink after (start_gains sink) since

  pub alone_stopped : (stop : Stop) (sink after : Device (List ℕ)) → IsBroken stop start b sink after → HasStopped workers stop start.job b sink after
  alone_stopped stop sink after broken = record {
    state = unlent.shown.state;
    run = alone_run broken.end broken.played;
    says = broken_says start b unlent.shown sink sink after (start_gains sink) stop broken.says;
  }

-- ---- several workers

module _ (workers : ℕ) (job : JobParts) (several : workers ≢ 1) (mid : BookView) (sink between : Device (List ℕ)) where
  no_solo : {A : Type 0} → workers ≡ 1 → A
  no_solo one = absurd (several one)

  -- the workers were stopped
  pub several_stopped : (stop : Stop) → IsSharedOf workers job mid (Some stop) sink between → HasStopped workers stop job mid sink between
  several_stopped stop shared = record { state = shared.shown.state; run = run_of_book workers job mid shared.shown shared.of_job shared.named no_solo; says = shared.says }

  -- worker 1 played the workers' book on
  module _ (shared : IsSharedOf workers job mid None sink between) (some : 1 ≤ workers) (b : BookView) (later : IsLater mid b) (unlent : IsUnlent b) where
    several_run : IsRunOf workers job b unlent.shown.state
    several_run = run_of_book workers job b unlent.shown (later.job ∙ shared.of_job) (later_named workers some mid b later shared.named) no_solo

    pub several_over : (status : Status) → IsPlayedOut status mid b → HasRun workers status job b
    several_over status out = record { state = unlent.shown.state; run = several_run; whole = no_solo; rest = out.rest unlent.shown }

    pub several_gains : (after : Device (List ℕ)) → GainsSince mid b between after → Gains sink after (released_lines b)
    several_gains after since = gains_all mid b sink between after shared.says.0 since

    pub several_broken : (stop : Stop) (after : Device (List ℕ)) → IsBroken stop mid b between after → HasStopped workers stop job b sink after
    several_broken stop after broken = record { state = unlent.shown.state; run = several_run; says = broken_says mid b unlent.shown sink between after shared.says.0 stop broken.says }
