-- What is said of words if memory ran out.
use Rattle.std.proofs.Common.{◌≡◌, inl, inr, ℕ, List, [], Option, Some, None, Result, Ok, Err, sym, subst}
use Rattle.stab_code.specs.JobParts.{job_of}
use Rattle.stab_words.specs.Asked.{asked}
use Rattle.stab_words.specs.Command.{most_workers}
use Rattle.stab_journal.specs.declared.event.Event.{Event}
use Rattle.commit_book.specs.Book.{BookView}
use Rattle.turn_floor.specs.Served.{AreOf}
use Rattle.book_runs.specs.Watching.{watched_by}
use Rattle.stab_words.specs.declared.request.Request.{Request}
use Rattle.stab_words.specs.declared.request.Request.TheVariants.{Run, Trace, Verify, Drill, Check, Mill, Types, Save, Resume, Watch, Serve}
use Rattle.stab_words.specs.declared.request.RunArgs.{RunArgs}
use Rattle.stab_words.specs.declared.request.WordFault.{WordFault}
use Rattle.call_status.specs.declared.status.Status.TheVariants.{NoMemory}
use Rattle.call_report.specs.Loading.{LoadRefused, blamed}
use Rattle.call_report.specs.Report.{Blames}
use Rattle.call_report.specs.Reading.{Form, probes_form, program_form}
use Rattle.book_runs.specs.Ending.{AsReleased, AtTheEnd, Writing, shown_by}
use Rattle.file_commands.specs.Checking.{CheckEnds}
use Rattle.stab_top.specs.Running.{IfBook, RunEnds}
use Rattle.call_report.specs.declared.report.Made.{Made}
use Rattle.file_commands.specs.Typing.{TypesEnds}
use Rattle.file_commands.specs.Saving.{CutSays, source_form}
use Rattle.file_commands.specs.Resuming.{ResumeEnds, image_form}
use Rattle.call_report.specs.Call.{Call, LastSays, ReadSays, ScriptSays, Untouched, status_of}
use Rattle.stab_top.specs.Call.{FaultSays, Hears, RequestSays, RunSaysBy, Says, WordsSay}
use Rattle.stab_top.specs.Serving.{IsServedBy}
use Rattle.file_commands.specs.Drilling.{OrdersSay}
use Rattle.file_commands.specs.Judging.{TraceSays}

-- no file was loaded, because memory ran out
unread : {Content Fault : Type 0} (form : Form Content Fault) (c : Call) (file : List ℕ) (faults : ℕ) (Said : Content → Type 0) → status_of c ≡ NoMemory → Untouched c None → ReadSays form c file faults Said
unread form c file faults Said none is =
    inl (inl (subst (λ s. LoadRefused s form.role c.files file c.files_after) (sym none) is.no_fault, subst (λ s. Blames c.outcome.report (blamed s form.role)) (sym none) is.refuses.0), is.refuses.1)

run_says : (writes : Writing) (args : RunArgs) (named : Option (List ℕ)) (c : Call) → status_of c ≡ NoMemory → Untouched c None → RunSaysBy writes c args named
run_says writes args None c none is = unread program_form c args.file c.files_after (λ p. RunEnds writes args.workers (status_of c) (job_of p [] args.fuel args.quantum) c.outcome) none is
run_says writes args (Some name) c none is = unread program_form c args.file c.files.faults (λ p. LastSays probes_form c name (λ s. RunEnds writes args.workers (status_of c) (job_of p s args.fuel args.quantum) c.outcome)) none is

-- no book, no events
pub no_events : (P : List Event → Type 0) (made : Option Made) → made ≡ None → IfBook made (λ b. P b.history.events)
no_events P made is = subst (λ o. IfBook o (λ (b : BookView). P b.history.events)) (sym is) tt

request_says : (request : Request) (c : Call) → status_of c ≡ NoMemory → Untouched c None → RequestSays c request
request_says (Run args) c none is = run_says (AsReleased shown_by) args args.probes c none is
request_says (Trace args) c none is = run_says AtTheEnd args args.probes c none is
request_says (Verify args) c none is = unread program_form c args.file c.files.faults (λ p. ScriptSays c args.probes (λ s. TraceSays c args.trace p s)) none is
request_says (Check file) c none is = unread program_form c file c.files_after (λ p. CheckEnds (status_of c) p c.outcome) none is
request_says (Drill args) c none is = unread program_form c args.file c.files.faults (λ p. ScriptSays c args.probes (λ s. OrdersSay c args p s)) none is
request_says (Mill args) c none is = (is.no_fault, inl (inr (none, is.refuses.0), is.refuses.1))
request_says (Types file) c none is = unread program_form c file c.files_after (λ p. TypesEnds (status_of c) p c.outcome) none is
request_says (Save args) c none is = unread source_form c args.file c.files.faults (λ s. ScriptSays c args.probes (λ script. CutSays c args s script)) none is
request_says (Resume args) c none is = unread image_form c args.image c.files_after (λ image. ResumeEnds (status_of c) image args.fuel args.quantum c.outcome) none is
request_says (Watch args) c none is = (run_says (AsReleased watched_by) (record args { workers = most_workers }) args.probes c none is, no_events (AreOf args.workers) c.outcome.report.made is.refuses.0.nothing)
request_says (Serve args) c none is = unread program_form c args.file c.files_after (λ p. IsServedBy args p c.input c.input_after c.outcome) none is

words_say : (meant : Result Request WordFault) (c : Call) → status_of c ≡ NoMemory → Untouched c None → WordsSay meant c
words_say (Ok request) c none is = request_says request c none is
words_say (Err fault) c none is = subst (λ s. FaultSays s c fault) (sym none) is

-- there was no memory for the words, whatever they mean
pub no_memory_call : (words : List (List ℕ)) (c : Call) → status_of c ≡ NoMemory → Untouched c None → Says words c
no_memory_call words c none is = words_say (asked words) c none is

-- what is said of a request by its command
pub said : (request known : Request) (c : Call) → request ≡ known → RequestSays c known → RequestSays c request
said request known c is says = subst (RequestSays c) (sym is) says

-- where no number was taken, nothing else is asked
pub hears_none : (meant : Result Request WordFault) (c : Call) → c.input_after ≡ c.input → Hears meant c
hears_none (Ok (Run args)) c is = is
hears_none (Ok (Trace args)) c is = is
hears_none (Ok (Verify args)) c is = is
hears_none (Ok (Drill args)) c is = is
hears_none (Ok (Check file)) c is = is
hears_none (Ok (Mill args)) c is = is
hears_none (Ok (Types file)) c is = is
hears_none (Ok (Save args)) c is = is
hears_none (Ok (Resume args)) c is = is
hears_none (Ok (Watch args)) c is = is
hears_none (Ok (Serve args)) c is = λ none. is
hears_none (Err fault) c is = is

-- what is heard by what the words mean
pub heard : (meant known : Result Request WordFault) (c : Call) → meant ≡ known → Hears known c → Hears meant c
heard meant known c is hears = subst (λ m. Hears m c) (sym is) hears
