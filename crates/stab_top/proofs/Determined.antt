-- The job and the lines of its script determine the result of a drill.
use Rattle.std.proofs.Common.{◌≡◌, ◌⊎◌, inl, inr, ℕ, ℤ, List, ◌++◌, Some, Ok, ap, sym, subst, ◌∙◌}
use Rattle.commit_book.specs.Book.{BookView}
use Rattle.drill_text.specs.declared.script.Line.{Line}
use Rattle.drill_text.specs.Script.{script_of}
use Rattle.journal_laws.proofs.Undone.{stands_run}
use Rattle.lone_worker.specs.Desk.{Desk}
use Rattle.language.specs.Plain.{end_of}
use Rattle.language.specs.Shown.{shown}
use Rattle.drill_text.specs.declared.fault.DrillFault.{DrillFault}
use Rattle.drill_text.specs.declared.fault.DrillFault.TheVariants as faults
use Rattle.schedule_drill.specs.Drilled as drills
use Rattle.schedule_drill.specs.Drilled.{ArePlayed, IsDrilled, IsNew, IsOfScript, StopsAt}
use Rattle.schedule_drill.specs.Played.{Stand}
use Rattle.schedule_drill.proofs.OneDrill.{never_stops, one_book, one_text, paired_first, played_or_refused, stops_once}
use Rattle.stab_code.specs.JobParts.{JobParts, job_of}
use Rattle.stab_code.specs.Program.{ProgramParts}
use Rattle.stab_journal.specs.Surviving.{run_of}
use Rattle.stab_text.specs.Text.{IsTextOf}
use Rattle.stab_words.specs.Asked.{asked}
use Rattle.stab_words.specs.declared.request.DrillArgs.{DrillArgs}
use Rattle.stab_words.specs.declared.request.Request.TheVariants.{Drill}
use Rattle.call_status.specs.declared.role.Role.TheVariants as roles
use Rattle.call_status.specs.declared.status.Status.{Status}
use Rattle.call_status.specs.declared.status.Status.TheVariants.{Done, Held, BadWords, BadText, NoFile, TooBig, FileFault, SinkFault, Spent, NoMemory, BadProbes, BadTrace, BadScript, No, Untyped, NoCut, BadImage}
use Rattle.call_report.specs.Call.{Call, status_of}
use Rattle.stab_top.specs.Call.{Says}
use Rattle.stab_top.specs.Complete.{ComesTo, IsHeld, IsScriptFor, IsTextOfDrill, StopsWith}
use Rattle.file_commands.specs.Drilling.{IsPlayedOut, PlayEnds, drill_text}
use Rattle.call_report.specs.Report.{Refuses}
use Rattle.call_report.specs.declared.report.Blame.TheVariants as blame
use Rattle.stab_top.proofs.Complete.{Failed, drill_said}

module _ (c : Call) (job : JobParts) (script : List Line) where
  -- ---- a drill that is played

  module _ (lines : List ℕ) (book : BookView) (drilled : IsDrilled job script lines book) where
    text_of : (end : IsPlayedOut job script c.outcome) → IsTextOfDrill c lines book (drill_text end)
    text_of end =
        let told = one_text job script end.lines lines end.book book end.drilled drilled in
        let desk = one_book job script end.lines lines end.book book end.drilled drilled in
        let led = stands_run end.book.job.program end.book.history.events end.run end.state end.shown.journal.history.stands in
        let ends : end_of end.book.job.program (run_of end.book.history.events) ≡ Some end.state = ap (end_of end.book.job.program) (sym led.0) ∙ led.1.ends in
        record {
          last = end.book;
          reported = end.reported;
          desk = desk;
          state = end.state;
          ends = subst (λ (d : Desk). end_of d.job.program (run_of d.events) ≡ Some end.state) desk ends;
          is = λ i. told i ++ shown (desk i).job.program end.state;
        }

    goes_on : (first : Stand) (fault : DrillFault) → IsNew job first → StopsAt first script fault → ⊥
    goes_on first fault new u =
        never_stops u.before u.line u.behind first drilled.first u.last drilled.last u.text lines fault (paired_first job first drilled.first new drilled.begins) u.played u.faulty
        (subst (λ (ls : List Line). ArePlayed ls drilled.first lines drilled.last) u.script_is drilled.played)

    comes_to : (status : Status) → PlayEnds status job script c.outcome → ComesTo status c lines book
    comes_to Done ends = (drill_text ends.0, text_of ends.0, ends.1)
    comes_to SinkFault ends = (drill_text ends.0, text_of ends.0, ends.1)
    comes_to BadScript ends = absurd (goes_on ends.first ends.fault ends.new ends.stops)
    comes_to NoMemory ends = tt
    comes_to Held ends = elim ends [ ]
    comes_to BadWords ends = elim ends [ ]
    comes_to BadText ends = elim ends [ ]
    comes_to NoFile ends = elim ends [ ]
    comes_to TooBig ends = elim ends [ ]
    comes_to FileFault ends = elim ends [ ]
    comes_to Spent ends = elim ends [ ]
    comes_to BadProbes ends = elim ends [ ]
    comes_to BadTrace ends = elim ends [ ]
    comes_to No ends = elim ends [ ]
    comes_to Untyped ends = elim ends [ ]
    comes_to NoCut ends = elim ends [ ]
    comes_to BadImage ends = elim ends [ ]

    failed_comes : Failed (status_of c) c → ComesTo (status_of c) c lines book
    failed_comes (inl none) = subst (λ s. ComesTo s c lines book) (sym none) tt
    failed_comes (inr counted) = subst (λ s. ComesTo s c lines book) (sym counted.0) counted.1

    said_comes : Failed (status_of c) c ⊎ PlayEnds (status_of c) job script c.outcome → ComesTo (status_of c) c lines book
    said_comes (inl failed) = failed_comes failed
    said_comes (inr ends) = comes_to (status_of c) ends

  -- ---- a drill that can't be played

  -- a script stops for one fault only
  same_stop : (f g : DrillFault) (a b : Stand) → IsNew job a → IsNew job b → StopsAt a script f → StopsAt b script g → f ≡ g
  same_stop f g a b new_a new_b u v =
      stops_once u.before v.before u.line v.line u.behind v.behind a b u.last v.last u.text v.text f g (paired_first job a b new_a new_b)
      (sym u.script_is ∙ v.script_is) u.played u.faulty v.played v.faulty

  module _ (fault : DrillFault) (of_script : IsOfScript fault) (refused : drills.IsRefused job script fault) where
    one_stop : (f : DrillFault) (first : Stand) → IsNew job first → StopsAt first script f → f ≡ fault
    one_stop f first new stops = by fault of_script refused
      where
        by : (g : DrillFault) → IsOfScript g → drills.IsRefused job script g → f ≡ g
        by faults.NoMemory of_g is = absurd of_g
        by (faults.BadLine at) of_g is = same_stop f (faults.BadLine at) first is.0 new is.1 stops is.2
        by (faults.NoSuchLease at) of_g is = same_stop f (faults.NoSuchLease at) first is.0 new is.1 stops is.2
        by (faults.HeldTwice at) of_g is = same_stop f (faults.HeldTwice at) first is.0 new is.1 stops is.2

    not_played : IsPlayedOut job script c.outcome → ⊥
    not_played end = played_or_refused job script end.lines end.book fault of_script end.drilled refused

    stops_with : (status : Status) → PlayEnds status job script c.outcome → StopsWith status c fault
    stops_with Done ends = absurd (not_played ends.0)
    stops_with SinkFault ends = absurd (not_played ends.0)
    stops_with BadScript ends = subst (λ f. Refuses c.outcome (Some (blame.Script f))) (one_stop ends.fault ends.first ends.new ends.stops) ends.refuses
    stops_with NoMemory ends = tt
    stops_with Held ends = elim ends [ ]
    stops_with BadWords ends = elim ends [ ]
    stops_with BadText ends = elim ends [ ]
    stops_with NoFile ends = elim ends [ ]
    stops_with TooBig ends = elim ends [ ]
    stops_with FileFault ends = elim ends [ ]
    stops_with Spent ends = elim ends [ ]
    stops_with BadProbes ends = elim ends [ ]
    stops_with BadTrace ends = elim ends [ ]
    stops_with No ends = elim ends [ ]
    stops_with Untyped ends = elim ends [ ]
    stops_with NoCut ends = elim ends [ ]
    stops_with BadImage ends = elim ends [ ]

    failed_stops : Failed (status_of c) c → StopsWith (status_of c) c fault
    failed_stops (inl none) = subst (λ s. StopsWith s c fault) (sym none) tt
    failed_stops (inr counted) = subst (λ s. StopsWith s c fault) (sym counted.0) counted.1

    said_stops : Failed (status_of c) c ⊎ PlayEnds (status_of c) job script c.outcome → StopsWith (status_of c) c fault
    said_stops (inl failed) = failed_stops failed
    said_stops (inr ends) = stops_with (status_of c) ends

module _ (words : List (List ℕ)) (c : Call) (args : DrillArgs) (text bytes : List ℕ) (program : ProgramParts) (script : List ℤ) where
  abbrev of_job : JobParts
  of_job = job_of program script args.fuel args.quantum

  pub drill_comes : (lines : List ℕ) (book : BookView) → Says words c → asked words ≡ Ok (Drill args) → IsHeld roles.Program c args.file text → IsTextOf text program → IsScriptFor c args.probes script
      → IsHeld roles.Script c args.script bytes → IsDrilled of_job (script_of bytes) lines book → ComesTo (status_of c) c lines book
  drill_comes lines book says is held of for_script there drilled =
      said_comes c of_job (script_of bytes) lines book drilled (drill_said words c args text bytes program script says is held of for_script there)

  pub drill_stops : (fault : DrillFault) → Says words c → asked words ≡ Ok (Drill args) → IsHeld roles.Program c args.file text → IsTextOf text program → IsScriptFor c args.probes script
      → IsHeld roles.Script c args.script bytes → IsOfScript fault → drills.IsRefused of_job (script_of bytes) fault → StopsWith (status_of c) c fault
  drill_stops fault says is held of for_script there of_script refused =
      said_stops c of_job (script_of bytes) fault of_script refused (drill_said words c args text bytes program script says is held of for_script there)
