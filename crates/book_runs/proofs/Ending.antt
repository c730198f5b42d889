-- What each status says of a job that was run.
use Rattle.std.proofs.Common.{◌≡◌, ◌∙◌, inl, inr, ℕ, List, [], ◌++◌, take, drop, None, Option, Some, Result, Ok, Err, IfOk, IfErr, refl, sym, ap, subst, append-nil, append_assoc}
use Rattle.std.proofs.lemmas.Grind.{flat_map-append}
use Rattle.std.proofs.lemmas.List.{take-append-drop}
use Rattle.stab_base.specs.Datum.{Datum}
use Rattle.stab_base.specs.Gain.{SomePrefix}
use Rattle.stab_base.specs.Printed.{printed}
use Rattle.stab_base.proofs.GainLemmas.{SomePrefix-append}
use Rattle.stab_code.specs.JobParts.{JobParts}
use Rattle.stab_files.specs.Count.{Rose}
use Rattle.stab_files.specs.Told.{Appends}
use Rattle.stab_files.proofs.Puts.{appends_trans}
use Rattle.stab_journal.specs.Due.{released}
use Rattle.language.specs.Plain.{PlainState}
use Rattle.language.specs.Shown.{line, shown, value_lines}
use Rattle.commit_book.specs.Book.{BookView, IsShown}
use Rattle.book_text.specs.Written.{IsRestText, released_lines}
use Rattle.trace_text.specs.Text.{trace}
use Rattle.worker_rounds.specs.declared.rounds.Stop.TheVariants as stops
use Rattle.worker_rounds.specs.Releases.{HasReleases, StopSays}
use Rattle.call_status.specs.declared.status.Status.{Status}
use Rattle.call_status.specs.declared.status.Status.TheVariants.{Done, Held, BadWords, BadText, NoFile, TooBig, FileFault, SinkFault, Spent, NoMemory, BadProbes, BadTrace, BadScript, No, Untyped, NoCut, BadImage}
use Rattle.sink_lines.specs.Device.{Device, Gains, GainsPrefix, Rests}
use Rattle.sink_lines.proofs.Gained.{gains_on}
use Rattle.book_runs.specs.Ending.{AsReleased, AtTheEnd, Ends, IsOver, IsRunOf, IsWritten, mill_line, RunEnds, shown_by, Writing}
use Rattle.book_runs.specs.declared.running.LastLine.{LastLine}
use Rattle.book_runs.specs.declared.running.LastLine.TheVariants.{Nothing, Mill, Watch}
use Rattle.book_runs.specs.Playing.{HasRun, HasStopped, IsTextBehind, WritesOf}
use Rattle.book_runs.specs.Watching.{text_with, watch_line}
use Rattle.book_runs.proofs.Led.{leads}
use Rattle.book_runs.proofs.Played.{has_all}

-- ---- what is left

module _ (writes : Writing) (workers : ℕ) where
  ended : (status : Status) (job : JobParts) (left : Option BookView) (sink after : Device (List ℕ)) → Ends writes workers status job left sink after → RunEnds writes workers status job left sink after
  ended Done job left sink after e = e
  ended Held job left sink after e = e
  ended BadWords job left sink after e = e
  ended BadText job left sink after e = e
  ended NoFile job left sink after e = e
  ended TooBig job left sink after e = e
  ended FileFault job left sink after e = e
  ended SinkFault job left sink after e = e
  ended Spent job left sink after e = e
  ended NoMemory job left sink after e = inr e
  ended BadProbes job left sink after e = e
  ended BadTrace job left sink after e = e
  ended BadScript job left sink after e = e
  ended No job left sink after e = e
  ended Untyped job left sink after e = e
  ended NoCut job left sink after e = e
  ended BadImage job left sink after e = e

  -- a book is left
  pub with_book : (status said : Status) (job : JobParts) (left : Option BookView) (sink after : Device (List ℕ)) (book : BookView) (state : PlainState) → status ≡ said → left ≡ Some book → IsRunOf workers job book state
      → writes workers said book state sink after → RunEnds writes workers status job left sink after
  with_book status said job left sink after book state is is_left run wrote =
      subst (λ s. RunEnds writes workers s job left sink after) (sym is) (ended said job left sink after (record { book = book; state = state; is_left = is_left; run = run; writes = wrote }))

  -- there was no memory
  pub without_book : (status : Status) (job : JobParts) (left : Option BookView) (sink after : Device (List ℕ)) → status ≡ NoMemory → left ≡ None → Rests sink after → RunEnds writes workers status job left sink after
  without_book status job left sink after is none rests = subst (λ s. RunEnds writes workers s job left sink after) (sym is) (inl (none, rests))

-- ---- a text that was written whole

module _ (text_by : BookView → PlainState → List ℕ) (workers : ℕ) (book : BookView) (state : PlainState) (sink after : Device (List ℕ)) where
  pub whole_by : (status : Status) → IsWritten workers status book state (text_by book state) sink after → AsReleased text_by workers status book state sink after
  whole_by Done w = w
  whole_by Held w = w
  whole_by BadWords w = w
  whole_by BadText w = w
  whole_by NoFile w = w
  whole_by TooBig w = w
  whole_by FileFault w = w
  whole_by SinkFault w = elim w.rest [ ]
  whole_by Spent w = w
  whole_by NoMemory w = elim w.rest [ ]
  whole_by BadProbes w = w
  whole_by BadTrace w = w
  whole_by BadScript w = w
  whole_by No w = w
  whole_by Untyped w = w
  whole_by NoCut w = w
  whole_by BadImage w = w

module _ (workers : ℕ) (book : BookView) (state : PlainState) (sink after : Device (List ℕ)) where
  pub trace_whole : (status : Status) → IsWritten workers status book state (trace book.history) sink after → AtTheEnd workers status book state sink after
  trace_whole Done w = w
  trace_whole Held w = w
  trace_whole BadWords w = w
  trace_whole BadText w = w
  trace_whole NoFile w = w
  trace_whole TooBig w = w
  trace_whole FileFault w = w
  trace_whole SinkFault w = elim w.rest [ ]
  trace_whole Spent w = w
  trace_whole NoMemory w = elim w.rest [ ]
  trace_whole BadProbes w = w
  trace_whole BadTrace w = w
  trace_whole BadScript w = w
  trace_whole No w = w
  trace_whole Untyped w = w
  trace_whole NoCut w = w
  trace_whole BadImage w = w

-- a run that ended with a status is over
pub over_of : (workers : ℕ) (status : Status) (job : JobParts) (book : BookView) (has : HasRun workers status job book) → IsOver workers book has.state
over_of workers Done job book has = record { whole = has.whole; rest = inl has.rest.0 }
over_of workers Held job book has = record { whole = has.whole; rest = inl has.rest.0 }
over_of workers Spent job book has = record { whole = has.whole; rest = inr has.rest }
over_of workers BadWords job book has = elim has.rest [ ]
over_of workers BadText job book has = elim has.rest [ ]
over_of workers NoFile job book has = elim has.rest [ ]
over_of workers TooBig job book has = elim has.rest [ ]
over_of workers FileFault job book has = elim has.rest [ ]
over_of workers SinkFault job book has = elim has.rest [ ]
over_of workers NoMemory job book has = elim has.rest [ ]
over_of workers BadProbes job book has = elim has.rest [ ]
over_of workers BadTrace job book has = elim has.rest [ ]
over_of workers BadScript job book has = elim has.rest [ ]
over_of workers No job book has = elim has.rest [ ]
over_of workers Untyped job book has = elim has.rest [ ]
over_of workers NoCut job book has = elim has.rest [ ]
over_of workers BadImage job book has = elim has.rest [ ]

-- ---- the text of a run, and what of it is written when it is over

-- what a run shows begins with the lines of what was released
module _ (workers : ℕ) (book : BookView) (state : PlainState) (job : JobParts) (run : IsRunOf workers job book state) where
  abbrev is_shown : IsShown book
  is_shown = record { run = run.run; state = state; shows = run.shown }

  abbrev others : List Datum
  others = drop (released book.history.events) book.printed

  values_split : value_lines book.job.program state.output ≡ released_lines book ++ value_lines book.job.program others
  values_split =
      ap (value_lines book.job.program) (sym run.shown.journal.printed ∙ sym (take-append-drop (released book.history.events) book.printed))
      ∙ flat_map-append (λ v. line (printed book.job.program.texts v)) (take (released book.history.events) book.printed) others

  shown_more : (more : List ℕ) × (shown_by book state ≡ released_lines book ++ more)
  shown_more = by _ _ refl
    where
      by : (faults ends : List ℕ) → shown book.job.program state ≡ value_lines book.job.program state.output ++ faults ++ ends → (more : List ℕ) × (shown book.job.program state ≡ released_lines book ++ more)
      by faults ends is =
          let rest = value_lines book.job.program others in (
            rest ++ faults ++ ends,
            is ∙ ap (λ l. l ++ faults ++ ends) values_split
                ∙ ap (λ l. l ++ ends) (append_assoc (released_lines book) rest faults)
                ∙ append_assoc (released_lines book) (rest ++ faults) ends,
          )

  line_more : (last : List ℕ) → (more : List ℕ) × (shown_by book state ++ last ≡ released_lines book ++ more)
  line_more last = let s = shown_more in (s.0 ++ last, ap (λ l. l ++ last) s.1 ∙ append_assoc (released_lines book) s.0 last)

  text_more : (last : LastLine) → (more : List ℕ) × (text_with last book state ≡ released_lines book ++ more)
  text_more Nothing = shown_more
  text_more (Mill n) = line_more (mill_line n book.history.events)
  text_more Watch = line_more (watch_line book.history.events)

  -- and goes on with the rest
  line_rest : (last text rest : List ℕ) → IsRestText book rest → text ≡ rest ++ last → shown_by book state ++ last ≡ released_lines book ++ text
  line_rest last text rest behind is =
      ap (λ l. l ++ last) (behind state (leads book.job.program book.history run.run state run.shown.journal.history))
      ∙ append_assoc (released_lines book) rest last
      ∙ ap (λ l. released_lines book ++ l) (sym is)

  text_rest : (last : LastLine) (text : List ℕ) → IsTextBehind last book text → text_with last book state ≡ released_lines book ++ text
  text_rest Nothing text behind = behind.1 state (leads book.job.program book.history run.run state run.shown.journal.history) ∙ ap (λ l. released_lines book ++ l) (sym (behind.2 ∙ append-nil behind.0))
  text_rest (Mill n) text behind = line_rest (mill_line n book.history.events) text behind.0 behind.1 behind.2
  text_rest Watch text behind = line_rest (watch_line book.history.events) text behind.0 behind.1 behind.2

  module _ (last : LastLine) (sink after : Device (List ℕ)) where
    -- only the lines of what was released were written
    pub lines_only : Gains sink after (released_lines book) → AsReleased (text_with last) workers NoMemory book state sink after
    lines_only gains =
        let more = text_more last in (
          record {
            front = released_lines book;
            back = more.0;
            split = sym more.1;
            fact = (gains.0, has_all book is_shown (released_lines book) [] (sym (append-nil (released_lines book))));
          },
          gains.1,
        )

    -- a line couldn't be written
    pub fault_written : StopSays stops.SinkFault book state sink after → AsReleased (text_with last) workers SinkFault book state sink after
    fault_written says =
        let more = text_more last in (
          subst (SomePrefix (λ front. Appends sink.told after.told front × HasReleases book state front)) (sym more.1)
              (SomePrefix-append (λ front. Appends sink.told after.told front × HasReleases book state front) (released_lines book) more.0 says.0),
          says.1,
        )

    module _ (between : Device (List ℕ)) (so_far : Gains sink between (released_lines book)) where
      -- the rest was written, or a prefix of it
      pub rest_prefix : (text : List ℕ) → IsTextBehind last book text → GainsPrefix between after text → AsReleased (text_with last) workers SinkFault book state sink after
      rest_prefix text behind prefix =
          let part = prefix.0 in (
            record {
              front = released_lines book ++ part.front;
              back = part.back;
              split = append_assoc (released_lines book) part.front part.back ∙ ap (λ l. released_lines book ++ l) part.split ∙ sym (text_rest last text behind);
              fact = (
                appends_trans sink.told between.told after.told (released_lines book) part.front so_far.0 part.fact,
                has_all book is_shown (released_lines book ++ part.front) part.front refl,
              );
            },
            subst (λ n. Rose n after.faults) so_far.1 prefix.1,
          )

      pub rest_whole : (text : List ℕ) → IsTextBehind last book text → Gains between after text → Gains sink after (text_with last book state)
      rest_whole text behind gains = subst (Gains sink after) (sym (text_rest last text behind)) (gains_on sink between after (released_lines book) text so_far gains)

      -- there was no memory for the rest
      pub rest_none : Rests between after → AsReleased (text_with last) workers NoMemory book state sink after
      rest_none rests = lines_only (rests.0 ∙ so_far.0, rests.1 ∙ so_far.1)

-- ---- a run, from what is said of its play

module _ (last : LastLine) (workers : ℕ) (job : JobParts) (book : BookView) (status : Status) (left : Option BookView) (sink after : Device (List ℕ)) where
  -- it was stopped
  pub stopped_by_sink : HasStopped workers stops.SinkFault job book sink after → status ≡ SinkFault → left ≡ Some book → RunEnds (AsReleased (text_with last)) workers status job left sink after
  stopped_by_sink has is is_left = with_book (AsReleased (text_with last)) workers status SinkFault job left sink after book has.state is is_left has.run (fault_written workers book has.state job has.run last sink after has.says)

  pub stopped_by_memory : HasStopped workers stops.NoMemory job book sink after → status ≡ NoMemory → left ≡ Some book → RunEnds (AsReleased (text_with last)) workers status job left sink after
  stopped_by_memory has is is_left = with_book (AsReleased (text_with last)) workers status NoMemory job left sink after book has.state is is_left has.run (lines_only workers book has.state job has.run last sink after has.says)

  -- it is over, and this text was left to write, or there was no memory for it
  module _ (end said : Status) (has : HasRun workers end job book) (between : Device (List ℕ)) (so_far : Gains sink between (released_lines book)) (is : status ≡ said) (is_left : left ≡ Some book) where
    by_state : AsReleased (text_with last) workers said book has.state sink after → RunEnds (AsReleased (text_with last)) workers status job left sink after
    by_state wrote = with_book (AsReleased (text_with last)) workers status said job left sink after book has.state is is_left has.run wrote

    pub rest_given : (text : List ℕ) → IsTextBehind last book text → WritesOf end said text between after → RunEnds (AsReleased (text_with last)) workers status job left sink after
    rest_given text behind (inl (same, gains)) =
        by_state (subst (λ s. AsReleased (text_with last) workers s book has.state sink after) (sym same)
        (whole_by (text_with last) workers book has.state sink after end (record { whole = has.whole; rest = has.rest; gains = rest_whole workers book has.state job has.run last sink after between so_far text behind gains })))
    rest_given text behind (inr (fault, prefix)) =
        by_state (subst (λ s. AsReleased (text_with last) workers s book has.state sink after) (sym fault) (rest_prefix workers book has.state job has.run last sink after between so_far text behind prefix))

    pub rest_wanted : said ≡ NoMemory → Rests between after → RunEnds (AsReleased (text_with last)) workers status job left sink after
    rest_wanted none rests = by_state (subst (λ s. AsReleased (text_with last) workers s book has.state sink after) (sym none) (rest_none workers book has.state job has.run last sink after between so_far rests))

  -- the same of a text for which there may have been no memory
  pub rest_written : {T E : Type 0} (items : T → List ℕ) (rest : Result T E) (end said : Status) → HasRun workers end job book → (between : Device (List ℕ)) → Gains sink between (released_lines book) → status ≡ said → left ≡ Some book
      → IfOk rest (λ text. IsTextBehind last book (items text)) → IfOk rest (λ text. WritesOf end said (items text) between after) → IfErr rest (λ _. (said ≡ NoMemory) × Rests between after) → RunEnds (AsReleased (text_with last)) workers status job left sink after
  rest_written items (Ok text) end said has between so_far is is_left behind wrote none = rest_given end said has between so_far is is_left (items text) behind wrote
  rest_written items (Err e) end said has between so_far is is_left behind wrote none = rest_wanted end said has between so_far is is_left none.0 none.1

-- ---- a trace

module _ (workers : ℕ) (job : JobParts) (book : BookView) (status : Status) (left : Option BookView) (sink after : Device (List ℕ)) (end : Status) (has : HasRun workers end job book) (is_left : left ≡ Some book) where
  pub trace_written : status ≡ end → Gains sink after (trace book.history) → RunEnds AtTheEnd workers status job left sink after
  trace_written is gains = with_book AtTheEnd workers status end job left sink after book has.state is is_left has.run (trace_whole workers book has.state sink after end (record { whole = has.whole; rest = has.rest; gains = gains }))

  pub trace_cut : status ≡ SinkFault → GainsPrefix sink after (trace book.history) → RunEnds AtTheEnd workers status job left sink after
  trace_cut is prefix = with_book AtTheEnd workers status SinkFault job left sink after book has.state is is_left has.run (over_of workers end job book has, prefix)
