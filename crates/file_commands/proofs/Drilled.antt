-- What each status says of a script that was to be played.
use Rattle.std.proofs.Common.{◌≡◌, ◌++◌, ℕ, List, Some, ap, sym, subst, ◌∙◌}
use Rattle.stab_code.specs.JobParts.{JobParts}
use Rattle.stab_code.specs.Program.{ProgramParts}
use Rattle.stab_journal.specs.declared.event.Numbered.{Numbered}
use Rattle.stab_journal.specs.Journal.{Journal, survivors}
use Rattle.language.specs.Plain.{PlainState, end_of}
use Rattle.language.specs.Standing.{Shows}
use Rattle.journal_laws.proofs.Undone.{stands_run}
use Rattle.call_report.specs.declared.report.Blame.TheVariants as blame
use Rattle.call_report.specs.declared.report.Made.TheVariants as made
use Rattle.stab_journal.specs.Script.{FollowsScript}
use Rattle.commit_book.specs.Book.{BookView, IsShown}
use Rattle.drill_text.specs.declared.script.Line.{Line}
use Rattle.drill_text.specs.declared.fault.DrillFault.{DrillFault}
use Rattle.drill_text.specs.declared.fault.DrillFault.TheVariants as faults
use Rattle.schedule_drill.specs.Drilled.{IsDrilled, IsNew, IsRefused, StopsAt}
use Rattle.schedule_drill.specs.Played.{Stand}
use Rattle.call_status.specs.declared.status.Status.{Status}
use Rattle.call_status.specs.declared.status.Status.TheVariants.{Done, Held, BadWords, BadText, NoFile, TooBig, FileFault, SinkFault, Spent, NoMemory, BadProbes, BadTrace, BadScript, No, Untyped, NoCut, BadImage}
use Rattle.sink_lines.specs.Device.{Gains, GainsPrefix}
use Rattle.file_commands.specs.Drilling.{IsPlayedOut, IsStuck, PlayEnds, WriteEnds, unplayed_blame, unplayed_status}
use Rattle.call_report.specs.Report.{Leaves, Outcome, Refuses}

-- the state in which a book's run ends
leads : (p : ProgramParts) (journal : Journal) (run : List Numbered) (s : PlainState) → Shows p journal run s → end_of p (survivors journal) ≡ Some s
leads p journal run s shown = ap (end_of p) shown.left ∙ (stands_run p journal.events run s shown.stands).1.ends

module _ (job : JobParts) (script : List Line) (o : Outcome) where
  module _ (lines : List ℕ) (book : BookView) (drilled : IsDrilled job script lines book) (of_job : book.job ≡ job) (shown : IsShown book) where
    abbrev played_out : Leaves o.report (Some (made.Book book)) → IsPlayedOut job script o
    played_out reported = record {
      book = book;
      state = shown.state;
      lines = lines;
      drilled = drilled;
      of_job = of_job;
      run = shown.run;
      shown = shown.shows;
      follows = subst (λ (j : JobParts). FollowsScript j.script book.history.events) of_job shown.shows.journal.script;
      reported = reported;
    }

    -- what was written of a script that was played
    pub play_ends : (status : Status) → WriteEnds status lines book o → PlayEnds status job script o
    play_ends Done w =
        let text = w.1.1 shown.state (leads book.job.program book.history shown.run shown.state shown.shows.journal.history) in
        (played_out w.0, subst (λ t. Gains o.sink o.sink_after (lines ++ t)) text w.1.2)
    play_ends SinkFault w =
        let text = w.1.1 shown.state (leads book.job.program book.history shown.run shown.state shown.shows.journal.history) in
        (played_out w.0, subst (λ t. GainsPrefix o.sink o.sink_after (lines ++ t)) text w.1.2)
    play_ends NoMemory w = w
    play_ends Held w = elim w [ ]
    play_ends BadWords w = elim w [ ]
    play_ends BadText w = elim w [ ]
    play_ends NoFile w = elim w [ ]
    play_ends TooBig w = elim w [ ]
    play_ends FileFault w = elim w [ ]
    play_ends Spent w = elim w [ ]
    play_ends BadProbes w = elim w [ ]
    play_ends BadTrace w = elim w [ ]
    play_ends BadScript w = elim w [ ]
    play_ends No w = elim w [ ]
    play_ends Untyped w = elim w [ ]
    play_ends NoCut w = elim w [ ]
    play_ends BadImage w = elim w [ ]

  abbrev stuck_at : (fault : DrillFault) (first : Stand) → IsNew job first → StopsAt first script fault → Refuses o (Some (blame.Script fault)) → IsStuck job script o
  stuck_at fault first new stops refuses = record { first = first; new = new; fault = fault; stops = stops; refuses = refuses }

  -- what is reported of a script that wasn't played
  pub unplayed_ends : (status : Status) (fault : DrillFault) → status ≡ unplayed_status fault → IsRefused job script fault → Refuses o (unplayed_blame fault) → PlayEnds status job script o
  unplayed_ends status faults.NoMemory is refused refuses = subst (λ s. PlayEnds s job script o) (sym is) refuses
  unplayed_ends status (faults.BadLine at) is refused refuses = subst (λ s. PlayEnds s job script o) (sym is) (stuck_at (faults.BadLine at) refused.0 refused.1 refused.2 refuses)
  unplayed_ends status (faults.NoSuchLease at) is refused refuses = subst (λ s. PlayEnds s job script o) (sym is) (stuck_at (faults.NoSuchLease at) refused.0 refused.1 refused.2 refuses)
  unplayed_ends status (faults.HeldTwice at) is refused refuses = subst (λ s. PlayEnds s job script o) (sym is) (stuck_at (faults.HeldTwice at) refused.0 refused.1 refused.2 refuses)
