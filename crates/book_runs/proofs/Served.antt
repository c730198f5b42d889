-- What a run leaves to which numbers came.
use Rattle.std.proofs.Common.{◌≡◌, ◌≢◌, ◌⊎◌, inl, inr, ℕ, ℤ, ◌≤◌, List, [], ◌∷◌, ◌++◌, length, Option, Some, None, Result, Ok, Err, IfOk, IfErr, refl, sym, ap, subst, ◌∙◌, append_assoc, append-nil, arith}
use Rattle.stab_files.specs.Count.{Rose}
use Rattle.stab_files.proofs.Puts.{appends_trans}
use Rattle.stab_code.specs.JobParts.{JobParts, longer}
use Rattle.stab_words.specs.Command.{most_workers}
use Rattle.stab_journal.specs.declared.event.Event.{Event}
use Rattle.stab_journal.specs.declared.event.What.TheVariants.{Release}
use Rattle.stab_journal.specs.Due.{released}
use Rattle.language.specs.Plain.{PlainState}
use Rattle.language.specs.Shown.{value_lines}
use Rattle.language.specs.Standing.{event}
use Rattle.thread_slots.specs.declared.state.State.TheVariants.{Leased, Parked, Ready}
use Rattle.number_source.specs.declared.came.Came.{Came}
use Rattle.commit_book.specs.Book.{BookView, IsShown}
use Rattle.commit_book.specs.Counts.{in_state}
use Rattle.commit_book.specs.Releases.{finals}
use Rattle.commit_book.specs.Turns.{CanRest, choice_of}
use Rattle.commit_book.proofs.Lawful.Firm.{front_of, released_more, snoc_of}
use Rattle.commit_book.proofs.Threads.Chosen.{quiet_unready, spent_says}
use Rattle.book_text.specs.Written.{released_lines}
use Rattle.lone_worker.specs.Running.{IsLater}
use Rattle.turn_floor.specs.Served.{AreOf}
use Rattle.worker_rounds.specs.declared.rounds.Stop.TheVariants as stops
use Rattle.worker_rounds.specs.Releases.{HasReleases, StopSays}
use Rattle.live_rounds.specs.declared.halt.Halt.{Halt}
use Rattle.live_rounds.specs.declared.halt.Halt.TheVariants as halts
use Rattle.live_rounds.specs.Lines.{IsCutShort}
use Rattle.live_rounds.specs.Ending.{IsRunOver}
use Rattle.live_rounds.specs.Numbers.{Heard, IsCaused}
use Rattle.live_rounds.specs.Serving.{IsServed}
use Rattle.sink_lines.specs.Device.{Device, Gains, Rests}
use Rattle.call_status.specs.declared.status.Status.{Status}
use Rattle.call_status.specs.declared.status.Status.TheVariants.{Done, Held, BadWords, BadText, NoFile, TooBig, FileFault, SinkFault, Spent, NoMemory, BadProbes, BadTrace, BadScript, No, Untyped, NoCut, BadImage}
use Rattle.book_runs.specs.declared.running.LastLine.TheVariants.{Nothing}
use Rattle.book_runs.specs.Ending.{AsReleased, IsRunOf, IsSpent, IsWritten, RestSays, shown_by}
use Rattle.book_runs.specs.Playing.{IsTextBehind, WritesOf}
use Rattle.book_runs.specs.Serving.{AsServed, IsShownOut, LeftOver, ServedEnds, Serves, bad_place, halt_status, place_in}
use Rattle.book_runs.proofs.Ending.{fault_written, lines_only, rest_none, rest_prefix, rest_whole, whole_by}
use Rattle.book_runs.proofs.Played.{front_lines, run_of_book}
use Rattle.book_runs.proofs.Rounding.{lines_stay}
use Rattle.book_runs.proofs.Watched.{not_one, of_most}

-- ---- statuses of runs that are over

module _ (b : BookView) (state : PlainState) where
  rest_left : (job : JobParts) (after : Heard) (over : List ℤ) → over ≡ [] → (status : Status) → RestSays status b state → LeftOver status job after over
  rest_left job after over none Done rest = none
  rest_left job after over none Held rest = none
  rest_left job after over none Spent rest = none
  rest_left job after over none BadWords rest = none
  rest_left job after over none BadText rest = none
  rest_left job after over none NoFile rest = none
  rest_left job after over none TooBig rest = elim rest [ ]
  rest_left job after over none FileFault rest = elim rest [ ]
  rest_left job after over none SinkFault rest = none
  rest_left job after over none NoMemory rest = tt
  rest_left job after over none BadProbes rest = elim rest [ ]
  rest_left job after over none BadTrace rest = none
  rest_left job after over none BadScript rest = none
  rest_left job after over none No rest = none
  rest_left job after over none Untyped rest = none
  rest_left job after over none NoCut rest = none
  rest_left job after over none BadImage rest = none

  rest_bad : (last : Option Came) (status : Status) → RestSays status b state → bad_place status last ≡ None
  rest_bad last Done rest = refl
  rest_bad last Held rest = refl
  rest_bad last Spent rest = refl
  rest_bad last BadWords rest = refl
  rest_bad last BadText rest = refl
  rest_bad last NoFile rest = refl
  rest_bad last TooBig rest = refl
  rest_bad last FileFault rest = refl
  rest_bad last SinkFault rest = refl
  rest_bad last NoMemory rest = refl
  rest_bad last BadProbes rest = elim rest [ ]
  rest_bad last BadTrace rest = refl
  rest_bad last BadScript rest = refl
  rest_bad last No rest = refl
  rest_bad last Untyped rest = refl
  rest_bad last NoCut rest = refl
  rest_bad last BadImage rest = refl

-- what is written of a run that is over is what `run` writes
as_served : (workers : ℕ) (b : BookView) (state : PlainState) (sink after : Device (List ℕ)) (status : Status) → RestSays status b state → AsReleased shown_by workers status b state sink after → AsServed workers status b state sink after
as_served workers b state sink after Done rest wrote = wrote
as_served workers b state sink after Held rest wrote = wrote
as_served workers b state sink after Spent rest wrote = wrote
as_served workers b state sink after BadWords rest wrote = wrote
as_served workers b state sink after BadText rest wrote = wrote
as_served workers b state sink after NoFile rest wrote = wrote
as_served workers b state sink after TooBig rest wrote = elim rest [ ]
as_served workers b state sink after FileFault rest wrote = elim rest [ ]
as_served workers b state sink after SinkFault rest wrote = elim rest [ ]
as_served workers b state sink after NoMemory rest wrote = elim rest [ ]
as_served workers b state sink after BadProbes rest wrote = elim rest [ ]
as_served workers b state sink after BadTrace rest wrote = wrote
as_served workers b state sink after BadScript rest wrote = wrote
as_served workers b state sink after No rest wrote = wrote
as_served workers b state sink after Untyped rest wrote = wrote
as_served workers b state sink after NoCut rest wrote = wrote
as_served workers b state sink after BadImage rest wrote = wrote

-- ---- the end of a run in which no turn comes any more

pub over_spent : (b : BookView) → IsShown b → IsRunOver b → in_state Leased b ≡ 0 → 1 ≤ in_state Ready b → IsSpent b
over_spent b shown (inl quiet) free some = absurd (let none : in_state Ready b ≡ 0 = quiet_unready b shown quiet.0.0 in let wrong : 1 ≤ 0 = subst (λ n. 1 ≤ n) none some in omega arith)
over_spent b shown (inr spent) free some = let says = spent_says b shown free spent.0 in record { used = says.0; ready = says.1 }

pub over_rests : (b : BookView) → IsShown b → IsRunOver b → in_state Leased b ≡ 0 → in_state Ready b ≡ 0 → CanRest b
over_rests b shown (inl quiet) free none = quiet.1
over_rests b shown (inr spent) free none = absurd (let says = spent_says b shown free spent.0 in let some : 1 ≤ 0 = subst (λ n. 1 ≤ n) none says.1 in omega arith)

-- ---- a release whose lines were cut short

module _ (b : BookView) (shown : IsShown b) (sink after : Device (List ℕ)) (cut : IsCutShort b sink after) where
  abbrev last : BookView
  last = cut.last

  later : IsLater last b
  later = record { job = cut.job; added = event 1 (Release (finals last)) ∷ []; events = cut.release; by_one = (refl, tt) }

  -- the lines of everything that was released before it
  cut_has : (piece more : List ℕ) → piece ≡ released_lines last ++ more → HasReleases b shown.state piece
  cut_has piece more is first behind e split by =
      let before = cut.shown in
      let within : last.history.events ≡ first ++ (snoc_of e behind).front = front_of last.history.events first (event 1 (Release (finals last))) e behind (sym cut.release ∙ split) in
      front_lines b shown (released last.history.events) first piece more
      (released_more last.job.program last.history.events before.run before.state before.shows.journal.history.stands first (snoc_of e behind).front within)
      (is ∙ ap (λ l. l ++ more) (sym (lines_stay last b before shown later)))

  cut_says : StopSays stops.SinkFault b shown.state sink after
  cut_says =
      let part = cut.cut.0 in (
        record {
          front = released_lines last ++ part.front;
          back = part.back;
          split = append_assoc (released_lines last) part.front part.back ∙ ap (λ l. released_lines last ++ l) part.split ∙ sym cut.more;
          fact = (
            appends_trans sink.told cut.between.told after.told (released_lines last) part.front cut.so_far.0 part.fact,
            cut_has (released_lines last ++ part.front) part.front refl,
          );
        },
        subst (λ n. Rose n after.faults) cut.so_far.1 cut.cut.1,
      )

-- ---- a run

module _ (workers : ℕ) (few : workers ≤ most_workers) (old : BookView) (b : BookView) (before after : Heard) (sink between : Device (List ℕ)) where
  module _ (halt : Option Halt) (served : IsServed workers halt old b before after sink between) where
    abbrev numbers : List ℤ
    numbers = served.fed.numbers

    abbrev job : JobParts
    job = longer old.job numbers

    run : IsRunOf most_workers job b served.shown.state
    run = run_of_book most_workers job b served.shown served.fed.script (of_most workers few b.history.events served.named) (λ one. absurd (not_one one))

    -- what is left of the run, with this status
    left : (status : Status) (book : Option BookView) (written : Device (List ℕ)) → book ≡ Some b → LeftOver status b.job after served.fed.over → AsServed most_workers status b served.shown.state sink written
        → Serves workers status old.job book before after sink written
    left status book written is over wrote = record {
      numbers = numbers;
      over = served.fed.over;
      came = served.fed.came;
      ends = record { book = b; state = served.shown.state; is_left = is; run = run; writes = wrote };
      left_over = over;
      zeros = served.within;
      named = served.named;
    }

  -- it was halted
  halted_so : (halt : Halt) (book : Option BookView) → book ≡ Some b → IsServed workers (Some halt) old b before after sink between → Serves workers (halt_status halt) old.job book before after sink between
  halted_so halts.SinkFault book is served =
      left (Some halts.SinkFault) served SinkFault book between is served.fed.left
      (fault_written most_workers b served.shown.state (job (Some halts.SinkFault) served) (run (Some halts.SinkFault) served) Nothing sink between (cut_says b served.shown sink between served.says))
  halted_so halts.NoMemory book is served =
      left (Some halts.NoMemory) served NoMemory book between is tt
      (lines_only most_workers b served.shown.state (job (Some halts.NoMemory) served) (run (Some halts.NoMemory) served) Nothing sink between served.says)
  halted_so (halts.Bad at) book is served = left (Some (halts.Bad at)) served BadProbes book between is (served.fed.left, (at, served.caused)) served.says
  halted_so halts.Failed book is served = left (Some halts.Failed) served FileFault book between is (served.fed.left, served.caused) served.says
  halted_so halts.TooMany book is served = left (Some halts.TooMany) served TooBig book between is served.fed.left served.says

  pub halted_ends : (halt : Halt) (status : Status) (book : Option BookView) → status ≡ halt_status halt → book ≡ Some b → IsServed workers (Some halt) old b before after sink between → ServedEnds workers status old.job book before after sink between
  halted_ends halt status book is is_left served = inr (subst (λ s. Serves workers s old.job book before after sink between) (sym is) (halted_so halt book is_left served))

  -- it is over
  module _ (served : IsServed workers None old b before after sink between) (written : Device (List ℕ)) where
    abbrev state : PlainState
    state = served.shown.state

    over_left : (status : Status) (book : Option BookView) → book ≡ Some b → LeftOver status b.job after served.fed.over → AsServed most_workers status b state sink written → Serves workers status old.job book before after sink written
    over_left status book is over wrote = left None served status book written is over wrote

    by_rest : (end status : Status) (book : Option BookView) → book ≡ Some b → RestSays end b state → (text : List ℕ) → IsTextBehind Nothing b text → WritesOf end status text between written → Serves workers status old.job book before after sink written
    by_rest end status book is rest text behind (inl (same, gains)) =
        subst (λ s. Serves workers s old.job book before after sink written) (sym same)
        (over_left end book is (rest_left b state b.job after served.fed.over served.fed.left end rest)
        (as_served most_workers b state sink written end rest
        (whole_by shown_by most_workers b state sink written end
        (record {
          whole = λ one. absurd (not_one one);
          rest = rest;
          gains = rest_whole most_workers b state (job None served) (run None served) Nothing sink written between served.says.0 text behind gains;
        }))))
    by_rest end status book is rest text behind (inr (fault, prefix)) =
        subst (λ s. Serves workers s old.job book before after sink written) (sym fault)
        (over_left SinkFault book is served.fed.left (rest_prefix most_workers b state (job None served) (run None served) Nothing sink written between served.says.0 text behind prefix))

    by_memory : (status : Status) (book : Option BookView) → book ≡ Some b → status ≡ NoMemory → Rests between written → Serves workers status old.job book before after sink written
    by_memory status book is none rests =
        subst (λ s. Serves workers s old.job book before after sink written) (sym none)
        (over_left NoMemory book is tt (rest_none most_workers b state (job None served) (run None served) Nothing sink written between served.says.0 rests))

    by_out : (status : Status) (book : Option BookView) → book ≡ Some b → IsShownOut status b between written → Serves workers status old.job book before after sink written
    by_out status book is out = by out.wrote
      where
        by : ((text : List ℕ) × IsTextBehind Nothing b text × WritesOf out.end status text between written) ⊎ ((status ≡ NoMemory) × Rests between written) → Serves workers status old.job book before after sink written
        by (inl (text, behind, wrote)) = by_rest out.end status book is (out.rest served.shown) text behind wrote
        by (inr (none, rests)) = by_memory status book is none rests

    pub over_ends : (status : Status) (book : Option BookView) → book ≡ Some b → IsShownOut status b between written → ServedEnds workers status old.job book before after sink written
    over_ends status book is out = inr (by_out status book is out)

-- ---- the place of a line that stopped a run

pub halted_bad : (halt : Halt) (after : Heard) (status : Status) (bad : Option ℕ) → status ≡ halt_status halt → bad ≡ place_in halt → IsCaused (Some halt) after → bad ≡ bad_place status after.last
halted_bad halt after status bad is place caused = place ∙ by halt caused ∙ ap (λ s. bad_place s after.last) (sym is)
  where
    by : (h : Halt) → IsCaused (Some h) after → place_in h ≡ bad_place (halt_status h) after.last
    by halts.SinkFault c = refl
    by halts.NoMemory c = refl
    by (halts.Bad at) c = ap (bad_place BadProbes) (sym c)
    by halts.Failed c = refl
    by halts.TooMany c = refl

pub over_bad : (last : Option Came) (b : BookView) (shown : IsShown b) (status : Status) (bad : Option ℕ) (between written : Device (List ℕ)) → bad ≡ None → IsShownOut status b between written → bad ≡ bad_place status last
over_bad last b shown status bad between written none out = none ∙ by out.wrote
  where
    by : ((text : List ℕ) × IsTextBehind Nothing b text × WritesOf out.end status text between written) ⊎ ((status ≡ NoMemory) × Rests between written) → None ≡ bad_place status last
    by (inl (text, behind, inl (same, gains))) = sym (ap (λ s. bad_place s last) same ∙ rest_bad b shown.state last out.end (out.rest shown))
    by (inl (text, behind, inr (fault, prefix))) = sym (ap (λ s. bad_place s last) fault)
    by (inr (is, rests)) = sym (ap (λ s. bad_place s last) is)

-- ---- a text that was left to write, if there was memory for it

pub out_of : {T E : Type 0} (items : T → List ℕ) (rest : Result T E) (end status : Status) (b : BookView) (sink after : Device (List ℕ)) → ((shown : IsShown b) → RestSays end b shown.state) → IfOk rest (λ text. IsTextBehind Nothing b (items text))
    → IfOk rest (λ text. WritesOf end status (items text) sink after) → IfErr rest (λ _. (status ≡ NoMemory) × Rests sink after) → IsShownOut status b sink after
out_of items (Ok text) end status b sink after rests behind wrote none = record { end = end; rest = rests; wrote = inl (items text, behind, wrote) }
out_of items (Err e) end status b sink after rests behind wrote none = record { end = end; rest = rests; wrote = inr none }
