-- By what the statuses say, a good program or trace is accepted, and a bad text is refused.
use Rattle.std.proofs.Common.{arith, ◌≡◌, ◌⊎◌, inl, inr, ℕ, ℤ, ◌<◌, List, [], ◌∷◌, ◌++◌, length, Option, Some, None, Result, Ok, Err, IfSome, IsSomeAnd, refl, sym, subst, ◌∙◌}
use Rattle.language.specs.Plain.{PlainState}
use Rattle.commit_book.specs.Book.{BookView}
use Rattle.drill_text.specs.declared.order.Order.{Order}
use Rattle.drill_text.specs.declared.script.Line.{Line}
use Rattle.drill_text.specs.Script.{script_of}
use Rattle.schedule_drill.specs.Drilled.{ArePlayed}
use Rattle.schedule_drill.specs.Played.{IsAnswered, Stand}
use Rattle.mill_text.specs.Mill.{mill_script, mill_text}
use Rattle.probe_text.specs.declared.fault.ProbesFault.{ProbesFault}
use Rattle.probe_text.specs.Probes as probes
use Rattle.stab_code.specs.JobParts.{JobParts, job_of}
use Rattle.stab_code.specs.Program.{ProgramParts}
use Rattle.stab_files.specs.Entry.{Entry, contents_of}
use Rattle.stab_journal.specs.Journal.{Journal}
use Rattle.stab_text.specs.declared.fault.TextFault.{TextFault}
use Rattle.stab_text.specs.Text.{HasFault, IsTextOf}
use Rattle.stab_text.proofs.Reading.{not_both, one_fault, one_program}
use Rattle.stab_words.specs.Asked.{asked}
use Rattle.stab_words.specs.Command.{most_workers}
use Rattle.book_runs.specs.Watching.{watched_by}
use Rattle.stab_words.specs.declared.request.DrillArgs.{DrillArgs}
use Rattle.stab_words.specs.declared.request.MillArgs.{MillArgs}
use Rattle.stab_words.specs.declared.request.Request.{Request}
use Rattle.stab_words.specs.declared.request.Request.TheVariants.{Run, Trace, Verify, Drill, Check, Mill, Types, Save, Resume, Watch, Serve}
use Rattle.stab_words.specs.declared.request.RunArgs.{RunArgs}
use Rattle.stab_words.specs.declared.request.VerifyArgs.{VerifyArgs}
use Rattle.stab_words.specs.declared.request.WordFault.{WordFault}
use Rattle.trace_text.specs.declared.fault.TraceFault.{TraceFault}
use Rattle.trace_text.specs.Reading as traces
use Rattle.trace_text.specs.Text.{entries}
use Rattle.call_status.specs.declared.role.Role.{Role}
use Rattle.call_status.specs.declared.role.Role.TheVariants as roles
use Rattle.call_status.specs.declared.status.Status.{Status}
use Rattle.call_status.specs.declared.status.Status.TheVariants.{Done, Held, BadWords, BadText, NoFile, TooBig, FileFault, SinkFault, Spent, NoMemory, BadProbes, BadTrace, BadScript, No, Untyped, NoCut, BadImage}
use Rattle.sink_lines.specs.Device.{Device}
use Rattle.book_runs.specs.Ending.{AsReleased, AtTheEnd, Writing, milled_by, shown_by}
use Rattle.file_commands.specs.Checking.{CheckEnds, CheckSays}
use Rattle.file_commands.specs.Judging.{IsJudged, IsTold, TraceSays, VerdictEnds, VerifySays}
use Rattle.stab_top.specs.Running.{RunEnds}
use Rattle.file_commands.specs.Drilling.{DrillEnds, DrillSays, OrdersSay, PlayEnds}
use Rattle.stab_top.specs.Milling.{MillEnds}
use Rattle.stab_top.specs.Serving.{IsServedBy}
use Rattle.call_report.specs.Loading.{Finds, LoadRefused, Loads}
use Rattle.call_status.specs.Role.{max_bytes}
use Rattle.call_report.specs.Report.{Blames}
use Rattle.call_report.specs.Reading.{Form, ReadRefused, probes_form, program_form, trace_form}
use Rattle.file_commands.specs.Saving.{CutSays, source_form}
use Rattle.file_commands.specs.Typing.{TypesEnds}
use Rattle.call_report.specs.Call.{Call, CountedFault, LastSays, ReadSays, ScriptSays, status_of}
use Rattle.stab_top.specs.Call.{RequestSays, RunSaysBy, Says, WordsSay}
use Rattle.stab_top.specs.Complete.{Checked, IsHeld, IsHeldFor, IsRefused, IsScriptFor, Ran, WasDrilled, WasJudged, WasStuck}

-- what is found, if the files say what they hold
found_there : (files : Device (List Entry)) (name : List ℕ) (P : Option (List ℕ) → Type 0) (held : List Entry) → Finds files name P → files.told ≡ Some held → P (contents_of held name)
found_there files name P held found told = subst (λ o. IfSome o (λ all. P (contents_of all name))) told found

same_bytes : (a b : List ℕ) → ◌≡◌ {A = Option (List ℕ)} (Some a) (Some b) → a ≡ b
same_bytes a b h = cc

-- memory ran out, or a file was refused for a counted fault
abbrev pub Failed : Status → Call → Type 0
Failed status c = (status ≡ NoMemory) ⊎ ((status ≡ FileFault) × CountedFault c)

-- a file that is held within the limit is refused only for a counted fault, or because memory ran out
load_refused : (role : Role) (status : Status) (c : Call) (name bytes : List ℕ) → IsHeld role c name bytes → LoadRefused status role c.files name c.files_after → Failed status c
load_refused role NoFile c name bytes is says =
    let none : contents_of is.files name ≡ None = found_there c.files name (λ found. found ≡ None) is.files says.1 is.told in
    let there : contents_of is.files name ≡ Some bytes = is.held in absurd (let wrong : ⊥ = cc in wrong)
load_refused role TooBig c name bytes is says =
    let big : IsSomeAnd (Some bytes) (λ b. max_bytes role < length b) =
    subst (λ o. IsSomeAnd o (λ b. max_bytes role < length b)) is.held (found_there c.files name (λ found. IsSomeAnd found (λ b. max_bytes role < length b)) is.files says.1 is.told) in
    let over : max_bytes role < length bytes = big in
    let within = is.within in absurd (omega arith)
load_refused role FileFault c name bytes is says = inr (refl, inl says)
load_refused role NoMemory c name bytes is says = inl refl
load_refused role Done c name bytes is says = elim says [ ]
load_refused role Held c name bytes is says = elim says [ ]
load_refused role BadWords c name bytes is says = elim says [ ]
load_refused role BadText c name bytes is says = elim says [ ]
load_refused role SinkFault c name bytes is says = elim says [ ]
load_refused role Spent c name bytes is says = elim says [ ]
load_refused role BadProbes c name bytes is says = elim says [ ]
load_refused role BadTrace c name bytes is says = elim says [ ]
load_refused role BadScript c name bytes is says = elim says [ ]
load_refused role No c name bytes is says = elim says [ ]
load_refused role Untyped c name bytes is says = elim says [ ]
load_refused role NoCut c name bytes is says = elim says [ ]
load_refused role BadImage c name bytes is says = elim says [ ]

-- what was loaded is what is held
loaded_is : (role : Role) (c : Call) (name bytes loaded : List ℕ) (faults : ℕ) → IsHeld role c name bytes → Loads role c.files name faults loaded → loaded ≡ bytes
loaded_is role c name bytes loaded faults is loads =
    sym (same_bytes bytes loaded (sym is.held ∙ found_there c.files name (λ found. found ≡ Some loaded) is.files loads.held is.told))

module _ {Content Fault : Type 0} (form : Form Content Fault) (c : Call) (name bytes : List ℕ) (is : IsHeld form.role c name bytes) where
  -- if what is held has no fault, there is no other reason to refuse it
  read_refused : ((fault : Fault) → form.HasFault bytes fault → ⊥) → ReadRefused form c.outcome.report c.files name c.files_after → Failed (status_of c) c
  read_refused none (inl (says, blames)) = load_refused form.role (status_of c) c name bytes is says
  read_refused none (inr (loaded, loads, inl have)) =
      absurd (none have.fault (subst (λ b. form.HasFault b have.fault) (loaded_is form.role c name bytes loaded c.files_after is loads) have.has))
  read_refused none (inr (loaded, loads, inr says)) = inl says.0

  -- `Said` is true of what is held; or the call failed
  pub said_of : ((fault : Fault) → form.HasFault bytes fault → ⊥) → (faults : ℕ) (Said : Content → Type 0) → ReadSays form c name faults Said
      → Failed (status_of c) c ⊎ ((content : Content) × form.IsOf bytes content × Said content)
  said_of none faults Said (inl (refused, rests)) = inl (read_refused none refused)
  said_of none faults Said (inr (content, holds, said)) =
      inr (content, subst (λ b. form.IsOf b content) (loaded_is form.role c name bytes holds.bytes faults is holds.loads) holds.is, said)

  pub failed_refused : (fault : Fault) → Failed (status_of c) c → IsRefused form c fault ⊎ CountedFault c
  failed_refused fault (inl none) = inl (inr none)
  failed_refused fault (inr counted) = inr counted.1

  -- what is held has a fault, and was refused for it
  pub fault_refused : (fault : Fault) → ((content : Content) → form.IsOf bytes content → ⊥) → ((other : Fault) → form.HasFault bytes other → other ≡ fault) → (faults : ℕ) (Said : Content → Type 0)
      → ReadSays form c name faults Said → IsRefused form c fault ⊎ CountedFault c
  fault_refused fault none one faults Said (inl (inl (says, blames), rests)) = failed_refused fault (load_refused form.role (status_of c) c name bytes is says)
  fault_refused fault none one faults Said (inl (inr (loaded, loads, inl have), rests)) =
      let same = one have.fault (subst (λ b. form.HasFault b have.fault) (loaded_is form.role c name bytes loaded c.files_after is loads) have.has) in
      inl (inl (have.status, subst (λ f. Blames c.outcome.report (Some (form.blames f))) same have.blames))
  fault_refused fault none one faults Said (inl (inr (loaded, loads, inr says), rests)) = inl (inr says.0)
  fault_refused fault none one faults Said (inr (content, holds, said)) =
      absurd (none content (subst (λ b. form.IsOf b content) (loaded_is form.role c name bytes holds.bytes faults is holds.loads) holds.is))

-- ---- the three forms

pub ok_is : {A B : Type 0} (a b : A) → ◌≡◌ {A = Result A B} (Ok a) (Ok b) → a ≡ b
ok_is a b h = cc

pub err_is : {A B : Type 0} (a b : B) → ◌≡◌ {A = Result A B} (Err a) (Err b) → a ≡ b
err_is a b h = cc

pub not_ok : {A B : Type 0} (a : A) (b : B) → ◌≡◌ {A = Result A B} (Ok a) (Err b) → ⊥
not_ok a b h = cc

module _ (c : Call) (name bytes : List ℕ) where
  of_one : (program : ProgramParts) → IsTextOf bytes program → (Said : ProgramParts → Type 0) → Failed (status_of c) c ⊎ ((other : ProgramParts) × IsTextOf bytes other × Said other) → Failed (status_of c) c ⊎ Said program
  of_one program text Said (inl failed) = inl failed
  of_one program text Said (inr (other, is, said)) = inr (subst Said (one_program bytes other program is text) said)

  of_numbers : (script : List ℤ) → probes.reading bytes ≡ Ok script → (Said : List ℤ → Type 0) → Failed (status_of c) c ⊎ ((other : List ℤ) × (probes.reading bytes ≡ Ok other) × Said other) → Failed (status_of c) c ⊎ Said script
  of_numbers script text Said (inl failed) = inl failed
  of_numbers script text Said (inr (other, is, said)) = inr (subst Said (ok_is other script (sym is ∙ text)) said)

  pub program_said : (program : ProgramParts) → IsHeld roles.Program c name bytes → IsTextOf bytes program → (faults : ℕ) (Said : ProgramParts → Type 0) → ReadSays program_form c name faults Said
      → Failed (status_of c) c ⊎ Said program
  program_said program is text faults Said says =
      of_one program text Said (said_of program_form c name bytes is (λ fault has. not_both bytes program fault text has) faults Said says)

  script_said : (script : List ℤ) → IsHeld roles.Probes c name bytes → probes.reading bytes ≡ Ok script → (faults : ℕ) (Said : List ℤ → Type 0) → ReadSays probes_form c name faults Said
      → Failed (status_of c) c ⊎ Said script
  script_said script is text faults Said says =
      of_numbers script text Said (said_of probes_form c name bytes is (λ fault has. not_ok script fault (sym text ∙ has)) faults Said says)

-- ---- runs and checks

failed_ran : (c : Call) → Failed (status_of c) c → Ran (status_of c) ⊎ CountedFault c
failed_ran c (inl none) = inl (subst Ran (sym none) tt)
failed_ran c (inr counted) = inr counted.1

failed_checked : (c : Call) → Failed (status_of c) c → Checked (status_of c) ⊎ CountedFault c
failed_checked c (inl none) = inl (subst Checked (sym none) tt)
failed_checked c (inr counted) = inr counted.1

ran : (text_by : BookView → PlainState → List ℕ) (workers : ℕ) (status : Status) (c : Call) (job : JobParts) → RunEnds (AsReleased text_by) workers status job c.outcome → Ran status ⊎ CountedFault c
ran text_by workers Done c job says = inl tt
ran text_by workers Held c job says = inl tt
ran text_by workers BadWords c job says = elim says.ends.writes.rest [ ]
ran text_by workers BadText c job says = elim says.ends.writes.rest [ ]
ran text_by workers NoFile c job says = elim says.ends.writes.rest [ ]
ran text_by workers TooBig c job says = elim says.ends.writes.rest [ ]
ran text_by workers FileFault c job says = elim says.ends.writes.rest [ ]
ran text_by workers SinkFault c job says = inr (inr says.ends.writes.1)
ran text_by workers Spent c job says = inl tt
ran text_by workers NoMemory c job says = inl tt
ran text_by workers BadProbes c job says = elim says.ends.writes.rest [ ]
ran text_by workers BadTrace c job says = elim says.ends.writes.rest [ ]
ran text_by workers BadScript c job says = elim says.ends.writes.rest [ ]
ran text_by workers No c job says = elim says.ends.writes.rest [ ]
ran text_by workers Untyped c job says = elim says.ends.writes.rest [ ]
ran text_by workers NoCut c job says = elim says.ends.writes.rest [ ]
ran text_by workers BadImage c job says = elim says.ends.writes.rest [ ]

traced : (workers : ℕ) (status : Status) (c : Call) (job : JobParts) → RunEnds AtTheEnd workers status job c.outcome → Ran status ⊎ CountedFault c
traced workers Done c job says = inl tt
traced workers Held c job says = inl tt
traced workers BadWords c job says = elim says.ends.writes.rest [ ]
traced workers BadText c job says = elim says.ends.writes.rest [ ]
traced workers NoFile c job says = elim says.ends.writes.rest [ ]
traced workers TooBig c job says = elim says.ends.writes.rest [ ]
traced workers FileFault c job says = elim says.ends.writes.rest [ ]
traced workers SinkFault c job says = inr (inr says.ends.writes.1.1)
traced workers Spent c job says = inl tt
traced workers NoMemory c job says = inl tt
traced workers BadProbes c job says = elim says.ends.writes.rest [ ]
traced workers BadTrace c job says = elim says.ends.writes.rest [ ]
traced workers BadScript c job says = elim says.ends.writes.rest [ ]
traced workers No c job says = elim says.ends.writes.rest [ ]
traced workers Untyped c job says = elim says.ends.writes.rest [ ]
traced workers NoCut c job says = elim says.ends.writes.rest [ ]
traced workers BadImage c job says = elim says.ends.writes.rest [ ]

checked : (status : Status) (c : Call) (program : ProgramParts) → CheckEnds status program c.outcome → Checked status ⊎ CountedFault c
checked Done c program says = inl tt
checked Held c program says = elim says [ ]
checked BadWords c program says = elim says [ ]
checked BadText c program says = elim says [ ]
checked NoFile c program says = elim says [ ]
checked TooBig c program says = elim says [ ]
checked FileFault c program says = elim says [ ]
checked SinkFault c program says = inr (inr says.1.1)
checked Spent c program says = elim says [ ]
checked NoMemory c program says = inl tt
checked BadProbes c program says = elim says [ ]
checked BadTrace c program says = elim says [ ]
checked BadScript c program says = elim says [ ]
checked No c program says = elim says [ ]
checked Untyped c program says = elim says [ ]
checked NoCut c program says = elim says [ ]
checked BadImage c program says = elim says [ ]

run_came : (writes : Writing) (workers : ℕ) → ((status : Status) (c : Call) (job : JobParts) → RunEnds writes workers status job c.outcome → Ran status ⊎ CountedFault c) → (c : Call) (job : JobParts) → Failed (status_of c) c ⊎ RunEnds writes workers (status_of c) job c.outcome
    → Ran (status_of c) ⊎ CountedFault c
run_came writes workers came c job (inl failed) = failed_ran c failed
run_came writes workers came c job (inr ends) = came (status_of c) c job ends

check_came : (c : Call) (program : ProgramParts) → Failed (status_of c) c ⊎ CheckEnds (status_of c) program c.outcome → Checked (status_of c) ⊎ CountedFault c
check_came c program (inl failed) = failed_checked c failed
check_came c program (inr ends) = checked (status_of c) c program ends

-- what is said of a request
pub request_said : (words : List (List ℕ)) (c : Call) (request : Request) → Says words c → asked words ≡ Ok request → RequestSays c request
request_said words c request says is = subst (λ (r : Result Request WordFault). WordsSay r c) is says

module _ (writes : Writing) (c : Call) (args : RunArgs) (bytes : List ℕ) (program : ProgramParts) (held : IsHeld roles.Program c args.file bytes) (text : IsTextOf bytes program) where
  behind : (name : List ℕ) (script : List ℤ) (probe_bytes : List ℕ) → IsHeld roles.Probes c name probe_bytes → probes.reading probe_bytes ≡ Ok script
      → Failed (status_of c) c ⊎ LastSays probes_form c name (λ s. RunEnds writes args.workers (status_of c) (job_of program s args.fuel args.quantum) c.outcome) → Failed (status_of c) c ⊎ RunEnds writes args.workers (status_of c) (job_of program script args.fuel args.quantum) c.outcome
  behind name script probe_bytes there reads (inl failed) = inl failed
  behind name script probe_bytes there reads (inr says) = script_said c name probe_bytes script there reads c.files_after (λ s. RunEnds writes args.workers (status_of c) (job_of program s args.fuel args.quantum) c.outcome) says

  -- what is said of a run of a program and a script that are held
  run_said : (named : Option (List ℕ)) (script : List ℤ) → IsScriptFor c named script → RunSaysBy writes c args named → Failed (status_of c) c ⊎ RunEnds writes args.workers (status_of c) (job_of program script args.fuel args.quantum) c.outcome
  run_said None script is says =
      subst (λ s. Failed (status_of c) c ⊎ RunEnds writes args.workers (status_of c) (job_of program s args.fuel args.quantum) c.outcome) (sym is)
      (program_said c args.file bytes program held text c.files_after (λ p. RunEnds writes args.workers (status_of c) (job_of p [] args.fuel args.quantum) c.outcome) says)
  run_said (Some name) script is says =
      behind name script is.0 is.1 is.2 (program_said c args.file bytes program held text c.files.faults (λ p. LastSays probes_form c name (λ s. RunEnds writes args.workers (status_of c) (job_of p s args.fuel args.quantum) c.outcome)) says)

  probes_of_run : (name probe_bytes : List ℕ) (fault : ProbesFault) → IsHeld roles.Probes c name probe_bytes → probes.reading probe_bytes ≡ Err fault
      → Failed (status_of c) c ⊎ LastSays probes_form c name (λ s. RunEnds writes args.workers (status_of c) (job_of program s args.fuel args.quantum) c.outcome) → IsRefused probes_form c fault ⊎ CountedFault c
  probes_of_run name probe_bytes fault there has (inl failed) = failed_refused probes_form c name probe_bytes there fault failed
  probes_of_run name probe_bytes fault there has (inr says) =
      fault_refused probes_form c name probe_bytes there fault (λ s is. not_ok s fault (sym is ∙ has)) (λ other is. err_is other fault (sym is ∙ has)) c.files_after (λ s. RunEnds writes args.workers (status_of c) (job_of program s args.fuel args.quantum) c.outcome) says

  bad_probes_said : (named : Option (List ℕ)) (name probe_bytes : List ℕ) (fault : ProbesFault) → named ≡ Some name → IsHeld roles.Probes c name probe_bytes → probes.reading probe_bytes ≡ Err fault
      → RunSaysBy writes c args named → IsRefused probes_form c fault ⊎ CountedFault c
  bad_probes_said named name probe_bytes fault is there has says =
      probes_of_run name probe_bytes fault there has
      (program_said c args.file bytes program held text c.files.faults (λ p. LastSays probes_form c name (λ s. RunEnds writes args.workers (status_of c) (job_of p s args.fuel args.quantum) c.outcome)) (subst (RunSaysBy writes c args) is says))

pub good_program_runs : (words : List (List ℕ)) (c : Call) (args : RunArgs) (bytes : List ℕ) (program : ProgramParts) (script : List ℤ) → Says words c → asked words ≡ Ok (Run args) →
    IsHeld roles.Program c args.file bytes → IsTextOf bytes program → IsScriptFor c args.probes script → Ran (status_of c) ⊎ CountedFault c
good_program_runs words c args bytes program script says is held text for_script =
    run_came (AsReleased shown_by) args.workers (ran shown_by args.workers) c (job_of program script args.fuel args.quantum) (run_said (AsReleased shown_by) c args bytes program held text args.probes script for_script (request_said words c (Run args) says is))

pub good_program_is_traced : (words : List (List ℕ)) (c : Call) (args : RunArgs) (bytes : List ℕ) (program : ProgramParts) (script : List ℤ) → Says words c → asked words ≡ Ok (Trace args) →
    IsHeld roles.Program c args.file bytes → IsTextOf bytes program → IsScriptFor c args.probes script → Ran (status_of c) ⊎ CountedFault c
good_program_is_traced words c args bytes program script says is held text for_script =
    run_came AtTheEnd args.workers (traced args.workers) c (job_of program script args.fuel args.quantum) (run_said AtTheEnd c args bytes program held text args.probes script for_script (request_said words c (Trace args) says is))

pub good_program_is_watched : (words : List (List ℕ)) (c : Call) (args : RunArgs) (bytes : List ℕ) (program : ProgramParts) (script : List ℤ) → Says words c → asked words ≡ Ok (Watch args) →
    IsHeld roles.Program c args.file bytes → IsTextOf bytes program → IsScriptFor c args.probes script → Ran (status_of c) ⊎ CountedFault c
good_program_is_watched words c args bytes program script says is held text for_script =
    let by_most = record args { workers = most_workers } in
    run_came (AsReleased watched_by) most_workers (ran watched_by most_workers) c (job_of program script args.fuel args.quantum) (run_said (AsReleased watched_by) c by_most bytes program held text args.probes script for_script (request_said words c (Watch args) says is).0)

pub run_with_bad_probes : (words : List (List ℕ)) (c : Call) (args : RunArgs) (text name bytes : List ℕ) (program : ProgramParts) (fault : ProbesFault) → Says words c → (asked words ≡ Ok (Run args)) ⊎ (asked words ≡ Ok (Trace args)) ⊎ (asked words ≡ Ok (Watch args)) →
    IsHeld roles.Program c args.file text → IsTextOf text program → args.probes ≡ Some name → IsHeld roles.Probes c name bytes → probes_form.HasFault bytes fault → IsRefused probes_form c fault ⊎ CountedFault c
run_with_bad_probes words c args text name bytes program fault says (inl is) held of named there has =
    bad_probes_said (AsReleased shown_by) c args text program held of args.probes name bytes fault named there has (request_said words c (Run args) says is)
run_with_bad_probes words c args text name bytes program fault says (inr (inl is)) held of named there has =
    bad_probes_said AtTheEnd c args text program held of args.probes name bytes fault named there has (request_said words c (Trace args) says is)
run_with_bad_probes words c args text name bytes program fault says (inr (inr is)) held of named there has =
    bad_probes_said (AsReleased watched_by) c (record args { workers = most_workers }) text program held of args.probes name bytes fault named there has (request_said words c (Watch args) says is).0

-- the mill, if its text is that of a program
pub mill_runs : (words : List (List ℕ)) (c : Call) (args : MillArgs) (program : ProgramParts) → Says words c → asked words ≡ Ok (Mill args) → IsTextOf (mill_text args.size) program → Ran (status_of c) ⊎ CountedFault c
mill_runs words c args program says is text = by (request_said words c (Mill args) says is).1
  where
    by : MillEnds (status_of c) args c.outcome → Ran (status_of c) ⊎ CountedFault c
    by (inl (inl have, rests)) = absurd (not_both (mill_text args.size) program have.fault text have.has)
    by (inl (inr none, rests)) = inl (subst Ran (sym none.0) tt)
    by (inr (other, same, ends)) = ran (milled_by args.size) args.workers (status_of c) c (job_of other (mill_script args.size) args.fuel args.quantum) ends

pub good_program_checks : (words : List (List ℕ)) (c : Call) (file bytes : List ℕ) (program : ProgramParts) → Says words c → asked words ≡ Ok (Check file) →
    IsHeld roles.Program c file bytes → IsTextOf bytes program → Checked (status_of c) ⊎ CountedFault c
good_program_checks words c file bytes program says is held text =
    let check : CheckSays c file = request_said words c (Check file) says is in
    check_came c program (program_said c file bytes program held text c.files_after (λ p. CheckEnds (status_of c) p c.outcome) check)

-- ---- verdicts

module _ (c : Call) (program : ProgramParts) (script : List ℤ) (bytes : List ℕ) where
  told : (history : Journal) → traces.reading bytes ≡ Ok (entries history) → (j : IsJudged (status_of c) program script history c.outcome) → IsTold (status_of c) j.verdict c.outcome → WasJudged c program script bytes ⊎ CountedFault c
  told history is j (inl says) = inl (inl (record { history = history; is = is; verdict = j.verdict; given = j.is; status = says.0 }))
  told history is j (inr says) = inr (inr says.1.1)

  judged : (history : Journal) → traces.reading bytes ≡ Ok (entries history) → VerdictEnds (status_of c) program script history c.outcome → WasJudged c program script bytes ⊎ CountedFault c
  judged history is (inl j) = told history is j j.told
  judged history is (inr none) = inl (inr none.0)

  failed_judged : Failed (status_of c) c → WasJudged c program script bytes ⊎ CountedFault c
  failed_judged (inl none) = inl (inr none)
  failed_judged (inr counted) = inr counted.1

  trace_came : Failed (status_of c) c ⊎ ((history : Journal) × (traces.reading bytes ≡ Ok (entries history)) × VerdictEnds (status_of c) program script history c.outcome) → WasJudged c program script bytes ⊎ CountedFault c
  trace_came (inl failed) = failed_judged failed
  trace_came (inr (history, is, ends)) = judged history is ends

  trace_judged : (name : List ℕ) (history : Journal) → IsHeld roles.Trace c name bytes → traces.reading bytes ≡ Ok (entries history) → Failed (status_of c) c ⊎ TraceSays c name program script → WasJudged c program script bytes ⊎ CountedFault c
  trace_judged name history held is (inl failed) = failed_judged failed
  trace_judged name history held is (inr says) =
      trace_came (said_of trace_form c name bytes held (λ fault has. not_ok (entries history) fault (sym is ∙ has)) c.files_after (λ h. VerdictEnds (status_of c) program script h c.outcome) says)

  trace_refused : (name : List ℕ) (fault : TraceFault) → IsHeld roles.Trace c name bytes → traces.reading bytes ≡ Err fault → Failed (status_of c) c ⊎ TraceSays c name program script → IsRefused trace_form c fault ⊎ CountedFault c
  trace_refused name fault held has (inl failed) = failed_refused trace_form c name bytes held fault failed
  trace_refused name fault held has (inr says) =
      fault_refused trace_form c name bytes held fault (λ h is. not_ok (entries h) fault (sym is ∙ has)) (λ other is. err_is other fault (sym is ∙ has)) c.files_after (λ h. VerdictEnds (status_of c) program script h c.outcome) says

-- what is said of the script that the words name
of_script : (c : Call) (name : Option (List ℕ)) (script : List ℤ) (Said : List ℤ → Type 0) → IsScriptFor c name script → ScriptSays c name Said → Failed (status_of c) c ⊎ Said script
of_script c None script Said is says = inr (subst Said (sym is) says)
of_script c (Some name) script Said is says = script_said c name is.0 script is.1 is.2 c.files.faults Said says

pub behind_program : (c : Call) (named : Option (List ℕ)) (script : List ℤ) (Said : List ℤ → Type 0) → IsScriptFor c named script → Failed (status_of c) c ⊎ ScriptSays c named Said → Failed (status_of c) c ⊎ Said script
behind_program c named script Said is (inl failed) = inl failed
behind_program c named script Said is (inr says) = of_script c named script Said is says

-- if a program and a script are held, they are read before the trace
trace_said : (words : List (List ℕ)) (c : Call) (args : VerifyArgs) (text : List ℕ) (program : ProgramParts) (script : List ℤ) → Says words c → asked words ≡ Ok (Verify args)
    → IsHeld roles.Program c args.file text → IsTextOf text program → IsScriptFor c args.probes script → Failed (status_of c) c ⊎ TraceSays c args.trace program script
trace_said words c args text program script says is held of for_script =
    let verify : VerifySays c args = request_said words c (Verify args) says is in
    behind_program c args.probes script (λ s. TraceSays c args.trace program s) for_script (program_said c args.file text program held of c.files.faults (λ p. ScriptSays c args.probes (λ s. TraceSays c args.trace p s)) verify)

pub trace_is_judged : (words : List (List ℕ)) (c : Call) (args : VerifyArgs) (text bytes : List ℕ) (program : ProgramParts) (script : List ℤ) (history : Journal) → Says words c → asked words ≡ Ok (Verify args)
    → IsHeld roles.Program c args.file text → IsTextOf text program → IsScriptFor c args.probes script → IsHeld roles.Trace c args.trace bytes → trace_form.IsOf bytes history → WasJudged c program script bytes ⊎ CountedFault c
trace_is_judged words c args text bytes program script history says is held of for_script trace reads =
    trace_judged c program script bytes args.trace history trace reads (trace_said words c args text program script says is held of for_script)

pub bad_trace_refused : (words : List (List ℕ)) (c : Call) (args : VerifyArgs) (text bytes : List ℕ) (program : ProgramParts) (script : List ℤ) (fault : TraceFault) → Says words c → asked words ≡ Ok (Verify args)
    → IsHeld roles.Program c args.file text → IsTextOf text program → IsScriptFor c args.probes script → IsHeld roles.Trace c args.trace bytes → trace_form.HasFault bytes fault → IsRefused trace_form c fault ⊎ CountedFault c
bad_trace_refused words c args text bytes program script fault says is held of for_script trace has =
    trace_refused c program script bytes args.trace fault trace has (trace_said words c args text program script says is held of for_script)

pub probes_refused : (c : Call) (named : Option (List ℕ)) (Said : List ℤ → Type 0) (name bytes : List ℕ) (fault : ProbesFault) → named ≡ Some name → IsHeld roles.Probes c name bytes → probes.reading bytes ≡ Err fault
    → Failed (status_of c) c ⊎ ScriptSays c named Said → IsRefused probes_form c fault ⊎ CountedFault c
probes_refused c named Said name bytes fault is held has (inl failed) = failed_refused probes_form c name bytes held fault failed
probes_refused c named Said name bytes fault is held has (inr says) =
    fault_refused probes_form c name bytes held fault (λ s reads. not_ok s fault (sym reads ∙ has)) (λ other reads. err_is other fault (sym reads ∙ has)) c.files.faults Said (subst (λ o. ScriptSays c o Said) is says)

pub bad_probes_refused : (words : List (List ℕ)) (c : Call) (args : VerifyArgs) (text name bytes : List ℕ) (program : ProgramParts) (fault : ProbesFault) → Says words c → asked words ≡ Ok (Verify args)
    → IsHeld roles.Program c args.file text → IsTextOf text program → args.probes ≡ Some name → IsHeld roles.Probes c name bytes → probes_form.HasFault bytes fault → IsRefused probes_form c fault ⊎ CountedFault c
bad_probes_refused words c args text name bytes program fault says is held of named probes has =
    let verify : VerifySays c args = request_said words c (Verify args) says is in
    probes_refused c args.probes (λ s. TraceSays c args.trace program s) name bytes fault named probes has (program_said c args.file text program held of c.files.faults (λ p. ScriptSays c args.probes (λ s. TraceSays c args.trace p s)) verify)

-- ---- drills

-- if a program and a probe script are held, they are read before the drill script
orders_said : (words : List (List ℕ)) (c : Call) (args : DrillArgs) (text : List ℕ) (program : ProgramParts) (script : List ℤ) → Says words c → asked words ≡ Ok (Drill args)
    → IsHeld roles.Program c args.file text → IsTextOf text program → IsScriptFor c args.probes script → Failed (status_of c) c ⊎ OrdersSay c args program script
orders_said words c args text program script says is held of for_script =
    let drill : DrillSays c args = request_said words c (Drill args) says is in
    behind_program c args.probes script (λ s. OrdersSay c args program s) for_script (program_said c args.file text program held of c.files.faults (λ p. ScriptSays c args.probes (λ s. OrdersSay c args p s)) drill)

pub bad_probes_undrilled : (words : List (List ℕ)) (c : Call) (args : DrillArgs) (text name bytes : List ℕ) (program : ProgramParts) (fault : ProbesFault) → Says words c → asked words ≡ Ok (Drill args)
    → IsHeld roles.Program c args.file text → IsTextOf text program → args.probes ≡ Some name → IsHeld roles.Probes c name bytes → probes_form.HasFault bytes fault → IsRefused probes_form c fault ⊎ CountedFault c
bad_probes_undrilled words c args text name bytes program fault says is held of named probes has =
    let drill : DrillSays c args = request_said words c (Drill args) says is in
    probes_refused c args.probes (λ s. OrdersSay c args program s) name bytes fault named probes has (program_said c args.file text program held of c.files.faults (λ p. ScriptSays c args.probes (λ s. OrdersSay c args p s)) drill)

module _ (c : Call) (job : JobParts) where
  played : (script : List Line) (status : Status) → status_of c ≡ status → PlayEnds status job script c.outcome → WasDrilled c job script ⊎ CountedFault c
  played script Done is ends = inl (inl (record { status = is; end = ends.0; gains = ends.1 }))
  played script SinkFault is ends = inr (inr ends.1.1)
  played script BadScript is ends = inl (inr (inl (record { status = is; stuck = ends })))
  played script NoMemory is ends = inl (inr (inr is))
  played script Held is ends = elim ends [ ]
  played script BadWords is ends = elim ends [ ]
  played script BadText is ends = elim ends [ ]
  played script NoFile is ends = elim ends [ ]
  played script TooBig is ends = elim ends [ ]
  played script FileFault is ends = elim ends [ ]
  played script Spent is ends = elim ends [ ]
  played script BadProbes is ends = elim ends [ ]
  played script BadTrace is ends = elim ends [ ]
  played script No is ends = elim ends [ ]
  played script Untyped is ends = elim ends [ ]
  played script NoCut is ends = elim ends [ ]
  played script BadImage is ends = elim ends [ ]

  failed_drilled : (script : List Line) → Failed (status_of c) c → WasDrilled c job script ⊎ CountedFault c
  failed_drilled script (inl none) = inl (inr (inr none))
  failed_drilled script (inr counted) = inr counted.1

  bytes_drilled : (bytes : List ℕ) → Failed (status_of c) c ⊎ DrillEnds (status_of c) job bytes c.outcome → WasDrilled c job (script_of bytes) ⊎ CountedFault c
  bytes_drilled bytes (inl failed) = failed_drilled (script_of bytes) failed
  bytes_drilled bytes (inr ends) = played (script_of bytes) (status_of c) refl ends

module _ (c : Call) (args : DrillArgs) (bytes : List ℕ) (held : IsHeld roles.Script c args.script bytes) (program : ProgramParts) (script : List ℤ) where
  abbrev of_job : JobParts
  of_job = job_of program script args.fuel args.quantum

  orders_held : OrdersSay c args program script → Failed (status_of c) c ⊎ DrillEnds (status_of c) of_job bytes c.outcome
  orders_held (inl refused) = inl (load_refused roles.Script (status_of c) c args.script bytes held refused.0)
  orders_held (inr (loaded, loads, ends)) = inr (subst (λ b. DrillEnds (status_of c) of_job b c.outcome) (loaded_is roles.Script c args.script bytes loaded c.files_after held loads) ends)

  orders_came : Failed (status_of c) c ⊎ OrdersSay c args program script → Failed (status_of c) c ⊎ DrillEnds (status_of c) of_job bytes c.outcome
  orders_came (inl failed) = inl failed
  orders_came (inr says) = orders_held says

-- what is said of a drill script that is held, after a program and a probe script that are held
pub drill_said : (words : List (List ℕ)) (c : Call) (args : DrillArgs) (text bytes : List ℕ) (program : ProgramParts) (script : List ℤ) → Says words c → asked words ≡ Ok (Drill args)
    → IsHeld roles.Program c args.file text → IsTextOf text program → IsScriptFor c args.probes script → IsHeld roles.Script c args.script bytes
    → Failed (status_of c) c ⊎ DrillEnds (status_of c) (job_of program script args.fuel args.quantum) bytes c.outcome
drill_said words c args text bytes program script says is held of for_script there =
    orders_came c args bytes there program script (orders_said words c args text program script says is held of for_script)

pub script_is_drilled : (words : List (List ℕ)) (c : Call) (args : DrillArgs) (text bytes : List ℕ) (program : ProgramParts) (script : List ℤ) → Says words c → asked words ≡ Ok (Drill args)
    → IsHeld roles.Program c args.file text → IsTextOf text program → IsScriptFor c args.probes script → IsHeld roles.Script c args.script bytes
    → WasDrilled c (job_of program script args.fuel args.quantum) (script_of bytes) ⊎ CountedFault c
script_is_drilled words c args text bytes program script says is held of for_script there =
    bytes_drilled c (job_of program script args.fuel args.quantum) bytes (drill_said words c args text bytes program script says is held of for_script there)

-- a line that isn't an order isn't played
no_order_played : (before behind : List Line) (line : Line) (old new : Stand) (text : List ℕ) → line.order ≡ None → ArePlayed (before ++ line ∷ behind) old text new → ⊥
no_order_played [] behind line old new text none are = subst (λ (o : Option Order). IsSomeAnd o (IsAnswered old are.next are.written)) none are.played
no_order_played (first ∷ before) behind line old new text none are = no_order_played before behind line are.next new are.more none are.follows

bad_line_stops : (c : Call) (job : JobParts) (script before behind : List Line) (line : Line) → script ≡ before ++ line ∷ behind → line.order ≡ None → WasDrilled c job script ⊎ CountedFault c
    → (WasStuck c job script ⊎ (status_of c ≡ NoMemory)) ⊎ CountedFault c
bad_line_stops c job script before behind line is none (inl (inl was)) =
    absurd (no_order_played before behind line was.end.drilled.first was.end.drilled.last was.end.lines none (subst (λ ls. ArePlayed ls was.end.drilled.first was.end.lines was.end.drilled.last) is was.end.drilled.played))
bad_line_stops c job script before behind line is none (inl (inr other)) = inl other
bad_line_stops c job script before behind line is none (inr counted) = inr counted

pub bad_line_is_refused : (words : List (List ℕ)) (c : Call) (args : DrillArgs) (text bytes : List ℕ) (program : ProgramParts) (script : List ℤ) (before : List Line) (line : Line) (behind : List Line) → Says words c → asked words ≡ Ok (Drill args)
    → IsHeld roles.Program c args.file text → IsTextOf text program → IsScriptFor c args.probes script → IsHeld roles.Script c args.script bytes → script_of bytes ≡ before ++ line ∷ behind → line.order ≡ None
    → (WasStuck c (job_of program script args.fuel args.quantum) (script_of bytes) ⊎ (status_of c ≡ NoMemory)) ⊎ CountedFault c
bad_line_is_refused words c args text bytes program script before line behind says is held of for_script there cut none =
    bad_line_stops c (job_of program script args.fuel args.quantum) (script_of bytes) before behind line cut none (script_is_drilled words c args text bytes program script says is held of for_script there)

-- ---- texts with a fault

text_with_fault : (c : Call) (name bytes : List ℕ) (fault : TextFault) (faults : ℕ) (Said : ProgramParts → Type 0) → IsHeld roles.Program c name bytes → HasFault bytes fault → ReadSays program_form c name faults Said
    → IsRefused program_form c fault ⊎ CountedFault c
text_with_fault c name bytes fault faults Said is has says =
    fault_refused program_form c name bytes is fault (λ p text. not_both bytes p fault text has) (λ other same. one_fault bytes other fault same has) faults Said says

run_with_fault : (writes : Writing) (c : Call) (args : RunArgs) (named : Option (List ℕ)) (bytes : List ℕ) (fault : TextFault) → RunSaysBy writes c args named → IsHeld roles.Program c args.file bytes → HasFault bytes fault
    → IsRefused program_form c fault ⊎ CountedFault c
run_with_fault writes c args None bytes fault says is has = text_with_fault c args.file bytes fault c.files_after (λ p. RunEnds writes args.workers (status_of c) (job_of p [] args.fuel args.quantum) c.outcome) is has says
run_with_fault writes c args (Some name) bytes fault says is has = text_with_fault c args.file bytes fault c.files.faults (λ p. LastSays probes_form c name (λ s. RunEnds writes args.workers (status_of c) (job_of p s args.fuel args.quantum) c.outcome)) is has says

request_with_fault : (c : Call) (request : Request) (bytes : List ℕ) (fault : TextFault) → RequestSays c request → IsHeldFor c request bytes → HasFault bytes fault → IsRefused program_form c fault ⊎ CountedFault c
request_with_fault c (Run args) bytes fault says is has = run_with_fault (AsReleased shown_by) c args args.probes bytes fault says is has
request_with_fault c (Trace args) bytes fault says is has = run_with_fault AtTheEnd c args args.probes bytes fault says is has
request_with_fault c (Verify args) bytes fault says is has = text_with_fault c args.file bytes fault c.files.faults (λ p. ScriptSays c args.probes (λ s. TraceSays c args.trace p s)) is has says
request_with_fault c (Check file) bytes fault says is has = text_with_fault c file bytes fault c.files_after (λ p. CheckEnds (status_of c) p c.outcome) is has says
request_with_fault c (Drill args) bytes fault says is has = text_with_fault c args.file bytes fault c.files.faults (λ p. ScriptSays c args.probes (λ s. OrdersSay c args p s)) is has says
request_with_fault c (Mill args) bytes fault says is has = elim is [ ]
request_with_fault c (Types file) bytes fault says is has = text_with_fault c file bytes fault c.files_after (λ p. TypesEnds (status_of c) p c.outcome) is has says
request_with_fault c (Save args) bytes fault says is has =
    fault_refused source_form c args.file bytes is fault (λ s text. not_both bytes s.program fault text.1 has) (λ other same. one_fault bytes other fault same has) c.files.faults
    (λ s. ScriptSays c args.probes (λ script. CutSays c args s script)) says
request_with_fault c (Resume args) bytes fault says is has = elim is [ ]
request_with_fault c (Serve args) bytes fault says is has = text_with_fault c args.file bytes fault c.files_after (λ p. IsServedBy args p c.input c.input_after c.outcome) is has says
request_with_fault c (Watch args) bytes fault says is has = run_with_fault (AsReleased watched_by) c (record args { workers = most_workers }) args.probes bytes fault says.0 is has

pub bad_text_refused : (words : List (List ℕ)) (c : Call) (request : Request) (bytes : List ℕ) (fault : TextFault) → Says words c → asked words ≡ Ok request →
    IsHeldFor c request bytes → HasFault bytes fault → IsRefused program_form c fault ⊎ CountedFault c
bad_text_refused words c request bytes fault says is held has =
    request_with_fault c request bytes fault (request_said words c request says is) held has
