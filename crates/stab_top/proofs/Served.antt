-- What a call shows of a program to which numbers came.
use Rattle.std.proofs.Common.{◌≡◌, ◌∙◌, ◌⊎◌, inl, inr, ℕ, ℤ, List, [], ◌∷◌, ◌++◌, length, Option, Some, None, Ok, refl, ap, sym, subst, append-nil}
use Rattle.std.specs.Prelude.{option_map}
use Rattle.stab_code.specs.JobParts.{JobParts, job_of, longer}
use Rattle.stab_code.specs.Limits.{max_script}
use Rattle.stab_code.specs.Program.{ProgramParts}
use Rattle.stab_text.specs.Text.{IsTextOf}
use Rattle.stab_words.specs.Asked.{asked}
use Rattle.stab_words.specs.Command.{most_workers}
use Rattle.stab_words.specs.declared.request.Request.TheVariants.{Serve}
use Rattle.stab_words.specs.declared.request.ServeArgs.{ServeArgs}
use Rattle.language.specs.Plain.{PlainState}
use Rattle.commit_book.specs.Book.{BookView}
use Rattle.sink_lines.specs.Device.{Gains}
use Rattle.call_status.specs.declared.role.Role.TheVariants as roles
use Rattle.call_status.specs.declared.status.Status.{Status}
use Rattle.call_status.specs.declared.status.Status.TheVariants.{Done, Held, BadWords, BadText, NoFile, TooBig, FileFault, SinkFault, Spent, NoMemory, BadProbes, BadTrace, BadScript, No, Untyped, NoCut, BadImage}
use Rattle.call_report.specs.declared.report.Made.TheVariants as made
use Rattle.call_report.specs.Call.{Call, CountedFault, LastSays, status_of}
use Rattle.call_report.specs.Reading.{Holds, program_form}
use Rattle.call_report.specs.Report.{Leaves}
use Rattle.book_runs.specs.Ending.{IsRunOf, IsWritten, RestSays, shown_by}
use Rattle.book_runs.specs.Serving.{LeftOver, ServedEnds, Serves, bad_place}
use Rattle.stab_top.specs.Call.{Says}
use Rattle.stab_top.specs.Complete.{CameTooMany, IsHeld, WasServed}
use Rattle.stab_top.specs.Headline.{HasWhatCame, IsEnd, ShowsServed}
use Rattle.stab_top.specs.Serving.{IsServedBy, ServeSays, heard_by, served_blame}
use Rattle.stab_top.proofs.Complete.{Failed, program_said, request_said}
use Rattle.stab_top.proofs.Headline.{book_made, ends_in, left_book, no_read_book, not_there, of_language, read_no_end, same_book}

module _ (c : Call) (args : ServeArgs) where
  abbrev job : ProgramParts → JobParts
  job program = job_of program [] args.fuel args.quantum

  abbrev Came : ProgramParts → Option BookView → Type 0
  Came program left = Serves args.workers (status_of c) (job program) left (heard_by c.input) (heard_by c.input_after) c.outcome.sink c.outcome.sink_after

  -- the numbers that came are the script
  what_came : (program : ProgramParts) (left : Option BookView) (s : Came program left) → HasWhatCame c s.ends.book s.over
  what_came program left s = record { numbers = s.numbers; came = s.came; script = ap (λ (j : JobParts). j.script) s.ends.run.of_job; zeros = s.zeros }

  -- ---- whatever the status

  abbrev Got : BookView → Type 0
  Got book = (over : List ℤ) × HasWhatCame c book over × LeftOver (status_of c) book.job (heard_by c.input_after) over

  module _ (b : BookView) (there : c.outcome.report.made ≡ Some (made.Book b)) where
    left_got : (program : ProgramParts) (left : Option BookView) → c.outcome.report.made ≡ book_made left
        → ServedEnds args.workers (status_of c) (job program) left (heard_by c.input) (heard_by c.input_after) c.outcome.sink c.outcome.sink_after → Got b
    left_got program left is (inl none) = not_there c.outcome.report.made b (is ∙ ap book_made none.1) there
    left_got program left is (inr s) =
        subst Got (same_book c.outcome.report.made s.ends.book b (left_book c.outcome.report.made left s.ends.book is s.ends.is_left) there)
        (s.over, what_came program left s, s.left_over)

    got : ServeSays c args → Got b
    got (inl refused) = not_there c.outcome.report.made b (no_read_book program_form c.outcome.report c.files args.file c.files_after refused.0) there
    got (inr (program, holds, ends)) = left_got program ends.left ends.is_made ends.ends

  -- ---- a run that is over

  module _ (program : ProgramParts) (holds : Holds program_form c.files args.file c.files_after program) (ends : IsServedBy args program c.input c.input_after c.outcome) where
    -- what was written of it, with nothing left over
    shows : (status : Status) → status_of c ≡ status
        → (s : Serves args.workers status (job program) ends.left (heard_by c.input) (heard_by c.input_after) c.outcome.sink c.outcome.sink_after) → s.over ≡ [] → c.outcome.report.blame ≡ None
        → IsWritten most_workers status s.ends.book s.ends.state (shown_by s.ends.book s.ends.state) c.outcome.sink c.outcome.sink_after → ShowsServed c args
    shows status is s none bare writes =
        let book = s.ends.book in
        let state = s.ends.state in
        let ended = ends_in most_workers (longer (job program) s.numbers) book state s.ends.run in
        let rest : RestSays (status_of c) book state = subst (λ (t : Status). RestSays t book state) (sym is) writes.rest in
        record {
          program = program;
          given = holds;
          book = book;
          reported = record { made = left_book c.outcome.report.made ends.left book ends.is_made s.ends.is_left; no_blame = bare };
          fed = record {
            numbers = s.numbers;
            came = s.came ∙ ap (λ over. c.input.came ++ s.numbers ++ over) none;
            script = ap (λ (j : JobParts). j.script) s.ends.run.of_job;
            zeros = s.zeros;
          };
          of_job = s.ends.run.of_job;
          says = of_language most_workers (longer (job program) s.numbers) book state s.ends.run;
          rest = subst (λ (t : PlainState). RestSays (status_of c) book t) (sym ended) rest;
          written = subst (λ (t : PlainState). Gains c.outcome.sink c.outcome.sink_after (shown_by book t)) (sym ended) writes.gains;
        }

    by_status : (status : Status) → status_of c ≡ status → IsEnd status → c.outcome.report.blame ≡ served_blame status (bad_place status c.input_after.last)
        → Serves args.workers status (job program) ends.left (heard_by c.input) (heard_by c.input_after) c.outcome.sink c.outcome.sink_after → ShowsServed c args
    by_status Done is over blamed s = shows Done is s s.left_over blamed s.ends.writes
    by_status Held is over blamed s = shows Held is s s.left_over blamed s.ends.writes
    by_status Spent is over blamed s = shows Spent is s s.left_over blamed s.ends.writes
    by_status BadWords is over blamed s = elim over [ ]
    by_status BadText is over blamed s = elim over [ ]
    by_status NoFile is over blamed s = elim over [ ]
    by_status TooBig is over blamed s = elim over [ ]
    by_status FileFault is over blamed s = elim over [ ]
    by_status SinkFault is over blamed s = elim over [ ]
    by_status NoMemory is over blamed s = elim over [ ]
    by_status BadProbes is over blamed s = elim over [ ]
    by_status BadTrace is over blamed s = elim over [ ]
    by_status BadScript is over blamed s = elim over [ ]
    by_status No is over blamed s = elim over [ ]
    by_status Untyped is over blamed s = elim over [ ]
    by_status NoCut is over blamed s = elim over [ ]
    by_status BadImage is over blamed s = elim over [ ]

    no_memory_ends : (status : Status) → status ≡ NoMemory → IsEnd status → ShowsServed c args
    no_memory_ends status is over = absurd (subst IsEnd is over)

    ended_by : (status : Status) → status_of c ≡ status → IsEnd status → c.outcome.report.blame ≡ served_blame status (bad_place status c.input_after.last)
        → ServedEnds args.workers status (job program) ends.left (heard_by c.input) (heard_by c.input_after) c.outcome.sink c.outcome.sink_after → ShowsServed c args
    ended_by status is over blamed (inl none) = no_memory_ends status none.0 over
    ended_by status is over blamed (inr s) = by_status status is over blamed s

  served_shows : IsEnd (status_of c) → ServeSays c args → ShowsServed c args
  served_shows over (inl refused) = absurd (read_no_end program_form (λ bad. bad) c.outcome.report over c.files args.file c.files_after refused.0)
  served_shows over (inr (program, holds, ends)) = ended_by program holds ends (status_of c) refl over ends.is_blamed ends.ends

  -- ---- a good program

  module _ (program : ProgramParts) (left : Option BookView) where
    too_many : (s : Serves args.workers TooBig (job program) left (heard_by c.input) (heard_by c.input_after) c.outcome.sink c.outcome.sink_after) → CameTooMany c
    too_many s = record {
      numbers = s.numbers;
      over = s.over;
      came = s.came;
      full = subst (λ ns. length ns ≡ max_script) (ap (λ (j : JobParts). j.script) s.ends.run.of_job) s.left_over.0;
      more = s.left_over.1;
    }

    came_so : (status : Status) → Serves args.workers status (job program) left (heard_by c.input) (heard_by c.input_after) c.outcome.sink c.outcome.sink_after → WasServed status c ⊎ CountedFault c
    came_so Done s = inl tt
    came_so Held s = inl tt
    came_so Spent s = inl tt
    came_so NoMemory s = inl tt
    came_so BadProbes s = inl s.left_over.1
    came_so FileFault s = inl s.left_over.1
    came_so TooBig s = inl (too_many s)
    came_so SinkFault s = inr (inr s.ends.writes.1)
    came_so BadWords s = elim s.ends.writes.rest [ ]
    came_so BadText s = elim s.ends.writes.rest [ ]
    came_so NoFile s = elim s.ends.writes.rest [ ]
    came_so BadTrace s = elim s.ends.writes.rest [ ]
    came_so BadScript s = elim s.ends.writes.rest [ ]
    came_so No s = elim s.ends.writes.rest [ ]
    came_so Untyped s = elim s.ends.writes.rest [ ]
    came_so NoCut s = elim s.ends.writes.rest [ ]
    came_so BadImage s = elim s.ends.writes.rest [ ]

    came_by : (status : Status) → ServedEnds args.workers status (job program) left (heard_by c.input) (heard_by c.input_after) c.outcome.sink c.outcome.sink_after → WasServed status c ⊎ CountedFault c
    came_by status (inl none) = inl (subst (λ s. WasServed s c) (sym none.0) tt)
    came_by status (inr s) = came_so status s

  was_served : (program : ProgramParts) → Failed (status_of c) c ⊎ IsServedBy args program c.input c.input_after c.outcome → WasServed (status_of c) c ⊎ CountedFault c
  was_served program (inl (inl none)) = inl (subst (λ s. WasServed s c) (sym none) tt)
  was_served program (inl (inr counted)) = inr counted.1
  was_served program (inr ends) = came_by program ends.left (status_of c) ends.ends

pub serve_shows : (words : List (List ℕ)) (c : Call) (args : ServeArgs) → Says words c → asked words ≡ Ok (Serve args) → IsEnd (status_of c) → ShowsServed c args
serve_shows words c args says is over = served_shows c args over (request_said words c (Serve args) says is)

pub serve_gets : (words : List (List ℕ)) (c : Call) (args : ServeArgs) (book : BookView) → Says words c → asked words ≡ Ok (Serve args) → c.outcome.report.made ≡ Some (made.Book book)
    → (over : List ℤ) × HasWhatCame c book over × LeftOver (status_of c) book.job (heard_by c.input_after) over
serve_gets words c args book says is there = got c args book there (request_said words c (Serve args) says is)

pub good_program_is_served : (words : List (List ℕ)) (c : Call) (args : ServeArgs) (bytes : List ℕ) (program : ProgramParts) → Says words c → asked words ≡ Ok (Serve args)
    → IsHeld roles.Program c args.file bytes → IsTextOf bytes program → WasServed (status_of c) c ⊎ CountedFault c
good_program_is_served words c args bytes program says is held text =
    let serve : ServeSays c args = request_said words c (Serve args) says is in
    was_served c args program (program_said c args.file bytes program held text c.files_after (λ p. IsServedBy args p c.input c.input_after c.outcome) serve)
