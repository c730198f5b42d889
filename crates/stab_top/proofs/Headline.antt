-- What a call shows of the program that it runs.
use Rattle.std.proofs.Common.{◌≡◌, ◌∙◌, inl, inr, ℕ, ℤ, List, [], Option, Some, None, Ok, refl, ap, sym, subst}
use Rattle.std.specs.Prelude.{option_map}
use Rattle.drill_text.specs.Script.{script_of}
use Rattle.drill_text.specs.declared.script.Line.{Line}
use Rattle.stab_code.specs.JobParts.{JobParts, job_of, longer}
use Rattle.stab_code.specs.Program.{ProgramParts}
use Rattle.stab_files.specs.Entry.{Entry}
use Rattle.stab_words.specs.Asked.{asked}
use Rattle.stab_words.specs.Command.{most_workers}
use Rattle.book_runs.specs.Watching.{watched_by}
use Rattle.stab_words.specs.declared.request.DrillArgs.{DrillArgs}
use Rattle.stab_words.specs.declared.request.MillArgs.{MillArgs}
use Rattle.stab_words.specs.declared.request.Request.{Request}
use Rattle.stab_words.specs.declared.request.Request.TheVariants.{Run, Trace, Verify, Drill, Check, Mill, Types, Save, Resume, Watch, Serve}
use Rattle.stab_words.specs.declared.request.RunArgs.{RunArgs}
use Rattle.stab_words.specs.declared.request.ServeArgs.{ServeArgs}
use Rattle.language.specs.Plain.{IsRun, PlainState, end_of}
use Rattle.stab_journal.specs.declared.event.Numbered.{Numbered}
use Rattle.stab_journal.specs.Journal.{survivors}
use Rattle.journal_laws.proofs.Undone.{stands_run}
use Rattle.commit_book.specs.Book.{BookView, IsShown, ShowsRun}
use Rattle.commit_book.proofs.Lawful.LawfulBooks.{final_lasts, granted, has_run, pinned_lasts}
use Rattle.lone_worker.specs.Solo.{IsWholeSolo}
use Rattle.schedule_drill.specs.Solo.{IsDrilledByOne}
use Rattle.schedule_drill.proofs.OneWorker.{drilled_by_one}
use Rattle.call_report.specs.declared.report.Report.{Report}
use Rattle.call_status.specs.declared.status.Status.{Status}
use Rattle.call_status.specs.declared.status.Status.TheVariants.{Done, Held, BadWords, BadText, NoFile, TooBig, FileFault, SinkFault, Spent, NoMemory, BadProbes, BadTrace, BadScript, No, Untyped, NoCut, BadImage}
use Rattle.stab_top.specs.Call.{RequestSays, MillSays, RunSaysBy, Says}
use Rattle.call_report.specs.Call.{Call, LastSays, ReadSays, ScriptSays, status_of}
use Rattle.file_commands.specs.Drilling.{DrillSays, IsPlayedOut, OrdersSay, PlayEnds}
use Rattle.sink_lines.specs.Device.{Device, Gains}
use Rattle.book_runs.specs.Ending.{AsReleased, AtTheEnd, IsRunOf, IsWritten, RestSays, Writing, milled_by, shown_by}
use Rattle.call_report.specs.Report.{Leaves, Outcome}
use Rattle.stab_top.specs.Running.{RunEnds}
use Rattle.stab_top.specs.Serving.{IsServedBy, ServeSays, heard_by}
use Rattle.book_runs.specs.Serving.{AsServed, ServedEnds, Serves}
use Rattle.book_runs.specs.Ending as runs
use Rattle.call_report.specs.declared.report.Made.{Made}
use Rattle.call_report.specs.declared.report.Made.TheVariants as made
use Rattle.stab_top.specs.Headline.{AsksForRun, IsEnd, IsOfTheLanguage, ShowsRunOf}
use Rattle.stab_top.specs.Alone.{IsDrillOfOne, ReportsDrillOfOne}
use Rattle.call_status.specs.declared.role.Role.{Role}
use Rattle.call_report.specs.Loading.{LoadRefused}
use Rattle.call_report.specs.Reading.{AreGiven, AreGivenBy, BytesRefused, Form, Holds, ReadRefused, probes_form, program_form}
use Rattle.stab_top.proofs.Complete.{request_said}

-- what a book shows
abbrev pub of_shown : (book : BookView) (run : List Numbered) (state : PlainState) → ShowsRun book run state → IsOfTheLanguage book
of_shown book run state shows =
    let shown : IsShown book = record { run = run; state = state; shows = shows } in
    record {
      run = has_run book shown;
      undos = granted book.job.program book.history.events run state shows.journal.history.stands;
      cuts = final_lasts book shown;
      pins = pinned_lasts book shown;
    }

abbrev pub of_language : (workers : ℕ) (job : JobParts) (book : BookView) (state : PlainState) → IsRunOf workers job book state → IsOfTheLanguage book
of_language workers job book state r = of_shown book r.run state r.shown

-- a list of steps ends in only one state
one_end : (p : ProgramParts) (run steps : List Numbered) (s u : PlainState) → steps ≡ run → IsRun p steps u → IsRun p run s → u ≡ s
one_end p run steps s u same left right =
    let ends : end_of p run ≡ Some u = subst (λ (ns : List Numbered). end_of p ns ≡ Some u) same left.ends in
    let again : end_of p run ≡ Some s = right.ends in
    let one : u ≡ s = cc in
    one

pub ends_in : (workers : ℕ) (job : JobParts) (book : BookView) (state : PlainState) (r : IsRunOf workers job book state) → (of_language workers job book state r).run.end ≡ state
ends_in workers job book state r =
    let p = book.job.program in
    let history = r.shown.journal.history in
    let says = (of_language workers job book state r).run in
    one_end p r.run (survivors book.history) state says.end history.left says.run (stands_run p book.history.events r.run state history.stands).1

-- ---- a call

abbrev pub book_made : Option BookView → Option Made
book_made left = option_map made.Book left

pub not_there : {A : Type 0} (o : Option Made) (b : BookView) → o ≡ None → o ≡ Some (made.Book b) → A
not_there o b none some = absurd (let wrong : ⊥ = cc in wrong)

pub same_book : (o : Option Made) (a b : BookView) → o ≡ Some (made.Book a) → o ≡ Some (made.Book b) → a ≡ b
same_book o a b x y = cc

-- a book that is left is the one that is reported
pub left_book : (o : Option Made) (left : Option BookView) (a : BookView) → o ≡ book_made left → left ≡ Some a → o ≡ Some (made.Book a)
left_book o left a is left_is = is ∙ ap book_made left_is

no_bytes_book : {Content Fault : Type 0} (form : Form Content Fault) (report : Report) (bytes : List ℕ) → BytesRefused form report bytes → report.made ≡ None
no_bytes_book form report bytes (inl have) = have.blames.nothing
no_bytes_book form report bytes (inr none) = none.1.nothing

pub no_read_book : {Content Fault : Type 0} (form : Form Content Fault) (report : Report) (files : Device (List Entry)) (name : List ℕ) (faults : ℕ) → ReadRefused form report files name faults → report.made ≡ None
no_read_book form report files name faults (inl x) = x.1.nothing
no_read_book form report files name faults (inr x) = no_bytes_book form report x.0 x.2

module _ (o : Outcome) (b : BookView) (there : o.report.made ≡ Some (made.Book b)) where
  module _ (writes : Writing) (workers : ℕ) (job : JobParts) where
    module _ (left : Option BookView) (is : o.report.made ≡ book_made left) where
      ends_book : (status : Status) → runs.Ends writes workers status job left o.sink o.sink_after → IsOfTheLanguage b
      ends_book status e = subst IsOfTheLanguage (same_book o.report.made e.book b (left_book o.report.made left e.book is e.is_left) there) (of_language workers job e.book e.state e.run)

      left_of : (status : Status) → runs.RunEnds writes workers status job left o.sink o.sink_after → IsOfTheLanguage b
      left_of Done e = ends_book Done e
      left_of Held e = ends_book Held e
      left_of BadWords e = ends_book BadWords e
      left_of BadText e = ends_book BadText e
      left_of NoFile e = ends_book NoFile e
      left_of TooBig e = ends_book TooBig e
      left_of FileFault e = ends_book FileFault e
      left_of SinkFault e = ends_book SinkFault e
      left_of Spent e = ends_book Spent e
      left_of NoMemory (inl none) = not_there o.report.made b (is ∙ ap book_made none.0) there
      left_of NoMemory (inr e) = ends_book NoMemory e
      left_of BadProbes e = ends_book BadProbes e
      left_of BadTrace e = ends_book BadTrace e
      left_of BadScript e = ends_book BadScript e
      left_of No e = ends_book No e
      left_of Untyped e = ends_book Untyped e
      left_of NoCut e = ends_book NoCut e
      left_of BadImage e = ends_book BadImage e

    run_book : (status : Status) → RunEnds writes workers status job o → IsOfTheLanguage b
    run_book status e = left_of e.left e.reported.made status e.ends

  -- the book of a script that was played
  module _ (job : JobParts) (script : List Line) where
    drilled_book : IsPlayedOut job script o → IsOfTheLanguage b
    drilled_book end = subst IsOfTheLanguage (same_book o.report.made end.book b end.reported.made there) (of_shown end.book end.run end.state end.shown)

    play_book : (status : Status) → PlayEnds status job script o → IsOfTheLanguage b
    play_book Done e = drilled_book e.0
    play_book SinkFault e = drilled_book e.0
    play_book BadScript e = not_there o.report.made b e.refuses.0.nothing there
    play_book NoMemory e = not_there o.report.made b e.0.nothing there
    play_book Held e = elim e [ ]
    play_book BadWords e = elim e [ ]
    play_book BadText e = elim e [ ]
    play_book NoFile e = elim e [ ]
    play_book TooBig e = elim e [ ]
    play_book FileFault e = elim e [ ]
    play_book Spent e = elim e [ ]
    play_book BadProbes e = elim e [ ]
    play_book BadTrace e = elim e [ ]
    play_book No e = elim e [ ]
    play_book Untyped e = elim e [ ]
    play_book NoCut e = elim e [ ]
    play_book BadImage e = elim e [ ]

module _ (c : Call) (b : BookView) (there : c.outcome.report.made ≡ Some (made.Book b)) where
  read_book : {Content Fault : Type 0} (form : Form Content Fault) (file : List ℕ) (faults : ℕ) (Said : Content → Type 0) → ((content : Content) → Said content → IsOfTheLanguage b) → ReadSays form c file faults Said → IsOfTheLanguage b
  read_book form file faults Said all (inl refused) = not_there c.outcome.report.made b (no_read_book form c.outcome.report c.files file c.files_after refused.0) there
  read_book form file faults Said all (inr (content, holds, said)) = all content said

  file_book : (writes : Writing) (args : RunArgs) (named : Option (List ℕ)) → RunSaysBy writes c args named → IsOfTheLanguage b
  file_book writes args None says =
      read_book program_form args.file c.files_after (λ p. RunEnds writes args.workers (status_of c) (job_of p [] args.fuel args.quantum) c.outcome)
      (λ p ends. run_book c.outcome b there writes args.workers (job_of p [] args.fuel args.quantum) (status_of c) ends) says
  file_book writes args (Some name) says =
      read_book program_form args.file c.files.faults (λ p. LastSays probes_form c name (λ script. RunEnds writes args.workers (status_of c) (job_of p script args.fuel args.quantum) c.outcome))
      (λ p said. read_book probes_form name c.files_after (λ script. RunEnds writes args.workers (status_of c) (job_of p script args.fuel args.quantum) c.outcome)
      (λ script ends. run_book c.outcome b there writes args.workers (job_of p script args.fuel args.quantum) (status_of c) ends) said) says

  mill_book : (args : MillArgs) → MillSays c args → IsOfTheLanguage b
  mill_book args (same, inl refused) = not_there c.outcome.report.made b (no_bytes_book program_form c.outcome.report _ refused.0) there
  mill_book args (same, inr (p, is, ends)) = run_book c.outcome b there (AsReleased (milled_by args.size)) args.workers _ (status_of c) ends

  -- the program was read, and then numbers came
  serve_left : (job : JobParts) (args : ServeArgs) (left : Option BookView) → c.outcome.report.made ≡ book_made left
      → ServedEnds args.workers (status_of c) job left (heard_by c.input) (heard_by c.input_after) c.outcome.sink c.outcome.sink_after → IsOfTheLanguage b
  serve_left job args left is (inl none) = not_there c.outcome.report.made b (is ∙ ap book_made none.1) there
  serve_left job args left is (inr s) = ends_book c.outcome b there AsServed most_workers (longer job s.numbers) left is (status_of c) s.ends

  serve_book : (args : ServeArgs) → ServeSays c args → IsOfTheLanguage b
  serve_book args says =
      read_book program_form args.file c.files_after (λ p. IsServedBy args p c.input c.input_after c.outcome)
      (λ p ends. serve_left (job_of p [] args.fuel args.quantum) args ends.left ends.is_made ends.ends) says

  -- the program was read, then the probe script, then the drill script
  behind_probes : (named : Option (List ℕ)) (Said : List ℤ → Type 0) → ((script : List ℤ) → Said script → IsOfTheLanguage b) → ScriptSays c named Said → IsOfTheLanguage b
  behind_probes None Said all says = all [] says
  behind_probes (Some name) Said all says = read_book probes_form name c.files.faults Said all says

  orders_book : (args : DrillArgs) (p : ProgramParts) (script : List ℤ) → OrdersSay c args p script → IsOfTheLanguage b
  orders_book args p script (inl refused) = not_there c.outcome.report.made b refused.1.0.nothing there
  orders_book args p script (inr (bytes, loads, ends)) = play_book c.outcome b there (job_of p script args.fuel args.quantum) (script_of bytes) (status_of c) ends

  drill_book : (args : DrillArgs) → DrillSays c args → IsOfTheLanguage b
  drill_book args says =
      read_book program_form args.file c.files.faults (λ p. ScriptSays c args.probes (λ s. OrdersSay c args p s))
      (λ p said. behind_probes args.probes (λ s. OrdersSay c args p s) (λ s orders. orders_book args p s orders) said) says

  built_book : (request : Request) → AsksForRun request → RequestSays c request → IsOfTheLanguage b
  built_book (Run args) asks says = file_book (AsReleased shown_by) args args.probes says
  built_book (Trace args) asks says = file_book AtTheEnd args args.probes says
  built_book (Mill args) asks says = mill_book args says
  built_book (Verify args) asks says = elim asks [ ]
  built_book (Check file) asks says = elim asks [ ]
  built_book (Drill args) asks says = drill_book args says
  built_book (Types file) asks says = elim asks [ ]
  built_book (Save args) asks says = elim asks [ ]
  built_book (Resume args) asks says = elim asks [ ]
  built_book (Serve args) asks says = serve_book args says
  built_book (Watch args) asks says = file_book (AsReleased watched_by) (record args { workers = most_workers }) args.probes says.0

-- each reported book of a run is of the language
pub book_of_language : (words : List (List ℕ)) (c : Call) (request : Request) (b : BookView) → Says words c → asked words ≡ Ok request → AsksForRun request → c.outcome.report.made ≡ Some (made.Book b) → IsOfTheLanguage b
book_of_language words c request b says is asks there = built_book c b there request asks (request_said words c request says is)

-- ---- a run that is over

-- the whole run of one worker is a drill
drill_of_one : (book : BookView) → IsWholeSolo book.job book.history.events → IsDrillOfOne book
drill_of_one book whole =
    let solo = whole.solo in
    record {
      last = solo.new;
      drilled = subst (λ (j : JobParts). IsDrilledByOne j solo.new) solo.of_job (drilled_by_one whole.end solo.old solo.new solo.start solo.run whole.whole);
      events = solo.left;
    }

-- what a run that is over shows, and that by one worker it is a drill
record Shown (text_by : BookView → PlainState → List ℕ) (c : Call) (args : RunArgs) : Type 0 where
  pub shows : ShowsRunOf text_by c args
  pub alone : args.workers ≡ 1 → ReportsDrillOfOne c

module _ (text_by : BookView → PlainState → List ℕ) (c : Call) (args : RunArgs) (program : ProgramParts) (script : List ℤ) (given : AreGiven c.files c.files_after args program script) where
  abbrev job : JobParts
  job = job_of program script args.fuel args.quantum

  ended : (book : BookView) (state : PlainState) → IsRunOf args.workers job book state → Leaves c.outcome.report (Some (made.Book book))
      → IsWritten args.workers (status_of c) book state (text_by book state) c.outcome.sink c.outcome.sink_after → Shown text_by c args
  ended book state r reported writes = record {
    shows = record {
      program = program;
      script = script;
      given = given;
      book = book;
      reported = reported;
      of_job = r.of_job;
      says = of_language args.workers job book state r;
      rest = subst (λ (s : PlainState). RestSays (status_of c) book s) (sym (ends_in args.workers job book state r)) writes.rest;
      written = subst (λ (s : PlainState). Gains c.outcome.sink c.outcome.sink_after (text_by book s)) (sym (ends_in args.workers job book state r)) writes.gains;
    };
    alone = λ one. record { book = book; reported = reported; drill = drill_of_one book (writes.whole one) };
  }

  module _ (left : Option BookView) (reported : Leaves c.outcome.report (book_made left)) where
    abbrev EndsSo : Status → Type 0
    EndsSo status = runs.RunEnds (AsReleased text_by) args.workers status job left c.outcome.sink c.outcome.sink_after

    -- the book that is left is reported
    with_book : (book : BookView) → left ≡ Some book → Leaves c.outcome.report (Some (made.Book book))
    with_book book is = subst (λ o. Leaves c.outcome.report (book_made o)) is reported

    written : (status : Status) → status_of c ≡ status → (book : BookView) (state : PlainState) → IsRunOf args.workers job book state → left ≡ Some book
        → IsWritten args.workers status book state (text_by book state) c.outcome.sink c.outcome.sink_after → Shown text_by c args
    written status is book state run is_left writes =
        ended book state run (with_book book is_left) (subst (λ (s : Status). IsWritten args.workers s book state (text_by book state) c.outcome.sink c.outcome.sink_after) (sym is) writes)

    ended_by : (status : Status) → status_of c ≡ status → IsEnd status → EndsSo status → Shown text_by c args
    ended_by Done is over e = written Done is e.book e.state e.run e.is_left e.writes
    ended_by Held is over e = written Held is e.book e.state e.run e.is_left e.writes
    ended_by Spent is over e = written Spent is e.book e.state e.run e.is_left e.writes
    ended_by BadWords is over e = elim over [ ]
    ended_by BadText is over e = elim over [ ]
    ended_by NoFile is over e = elim over [ ]
    ended_by TooBig is over e = elim over [ ]
    ended_by FileFault is over e = elim over [ ]
    ended_by SinkFault is over e = elim over [ ]
    ended_by NoMemory is over e = elim over [ ]
    ended_by BadProbes is over e = elim over [ ]
    ended_by BadTrace is over e = elim over [ ]
    ended_by BadScript is over e = elim over [ ]
    ended_by No is over e = elim over [ ]
    ended_by Untyped is over e = elim over [ ]
    ended_by NoCut is over e = elim over [ ]
    ended_by BadImage is over e = elim over [ ]

  ended_run : (status : Status) → status_of c ≡ status → IsEnd status → RunEnds (AsReleased text_by) args.workers status job c.outcome → Shown text_by c args
  ended_run status is over e = ended_by e.left e.reported status is over e.ends

load_no_end : (role : Role) (status : Status) (files : Device (List Entry)) (name : List ℕ) (faults : ℕ) → LoadRefused status role files name faults → IsEnd status → ⊥
load_no_end role Done files name faults refused over = refused
load_no_end role Held files name faults refused over = refused
load_no_end role Spent files name faults refused over = refused
load_no_end role BadWords files name faults refused over = over
load_no_end role BadText files name faults refused over = over
load_no_end role NoFile files name faults refused over = over
load_no_end role TooBig files name faults refused over = over
load_no_end role FileFault files name faults refused over = over
load_no_end role SinkFault files name faults refused over = over
load_no_end role NoMemory files name faults refused over = over
load_no_end role BadProbes files name faults refused over = over
load_no_end role BadTrace files name faults refused over = over
load_no_end role BadScript files name faults refused over = over
load_no_end role No files name faults refused over = over
load_no_end role Untyped files name faults refused over = over
load_no_end role NoCut files name faults refused over = over
load_no_end role BadImage files name faults refused over = over

module _ {Content Fault : Type 0} (form : Form Content Fault) (bad : IsEnd form.bad → ⊥) (report : Report) (over : IsEnd report.status) where
  bytes_no_end : (bytes : List ℕ) → BytesRefused form report bytes → ⊥
  bytes_no_end bytes (inl have) = bad (subst IsEnd have.status over)
  bytes_no_end bytes (inr none) = subst IsEnd none.0 over

  pub read_no_end : (files : Device (List Entry)) (name : List ℕ) (faults : ℕ) → ReadRefused form report files name faults → ⊥
  read_no_end files name faults (inl x) = load_no_end form.role report.status files name faults x.0 over
  read_no_end files name faults (inr x) = bytes_no_end x.0 x.2

module _ (text_by : BookView → PlainState → List ℕ) (c : Call) (args : RunArgs) (over : IsEnd (status_of c)) where
  read_ended : {Content Fault : Type 0} (form : Form Content Fault) → (IsEnd form.bad → ⊥) → (file : List ℕ) (faults : ℕ) (Said : Content → Type 0)
      → ((content : Content) → Holds form c.files file faults content → Said content → Shown text_by c args) → ReadSays form c file faults Said → Shown text_by c args
  read_ended form bad file faults Said all (inl refused) = absurd (read_no_end form bad c.outcome.report over c.files file c.files_after refused.0)
  read_ended form bad file faults Said all (inr (content, holds, said)) = all content holds said

  abbrev Ran : ProgramParts → List ℤ → Type 0
  Ran program script = RunEnds (AsReleased text_by) args.workers (status_of c) (job_of program script args.fuel args.quantum) c.outcome

  file_ended : (named : Option (List ℕ)) → args.probes ≡ named → RunSaysBy (AsReleased text_by) c args named → Shown text_by c args
  file_ended None is says =
      read_ended program_form (λ bad. bad) args.file c.files_after (λ p. Ran p [])
      (λ p holds ends. ended_run text_by c args p [] (subst (λ o. AreGivenBy c.files c.files_after args.file o p []) (sym is) (holds, refl)) (status_of c) refl over ends) says
  file_ended (Some name) is says =
      read_ended program_form (λ bad. bad) args.file c.files.faults (λ p. LastSays probes_form c name (λ script. Ran p script))
      (λ p program said. read_ended probes_form (λ bad. bad) name c.files_after (λ script. Ran p script)
      (λ script holds ends. ended_run text_by c args p script (subst (λ o. AreGivenBy c.files c.files_after args.file o p script) (sym is) (program, holds)) (status_of c) refl over ends) said) says

-- what a run that is over shows
pub run_shows : (words : List (List ℕ)) (c : Call) (args : RunArgs) → Says words c → asked words ≡ Ok (Run args) → IsEnd (status_of c) → ShowsRunOf shown_by c args
run_shows words c args says is over = (file_ended shown_by c args over args.probes refl (request_said words c (Run args) says is)).shows

-- what a run by one worker is
pub run_is_drill : (words : List (List ℕ)) (c : Call) (args : RunArgs) → Says words c → asked words ≡ Ok (Run args) → IsEnd (status_of c) → args.workers ≡ 1 → ReportsDrillOfOne c
run_is_drill words c args says is over = (file_ended shown_by c args over args.probes refl (request_said words c (Run args) says is)).alone

pub watch_shows : (words : List (List ℕ)) (c : Call) (args : RunArgs) → Says words c → asked words ≡ Ok (Watch args) → IsEnd (status_of c) → ShowsRunOf watched_by c (record args { workers = most_workers })
watch_shows words c args says is over = (file_ended watched_by c (record args { workers = most_workers }) over args.probes refl (request_said words c (Watch args) says is).0).shows
