-- What a call says of a run that goes on from an image.
use Rattle.std.specs.Prelude.{◌≡◌, ◌++◌, ℕ, Bool, true, false, List, Err, None, Some, ◌⊎◌}
use Rattle.image_laws.specs.Image.{Image}
use Rattle.image_run.specs.declared.going.Resumed.{Resumed}
use Rattle.image_text.specs.declared.image_fault.ImageFault.{ImageFault}
use Rattle.language.specs.Shown.{shown, value_lines}
use Rattle.state_text.specs.Ended.{AllDone, SomeHeld}
use Rattle.stab_code.specs.Program.{ProgramParts}
use Rattle.stab_image.specs.Read.{IsRead}
use Rattle.stab_image.specs.Resumed.{IsResumed}
use Rattle.stab_image.specs.Written.{IsImageText}
use Rattle.stab_words.specs.declared.request.ResumeArgs.{ResumeArgs}
use Rattle.call_status.specs.declared.role.Role.TheVariants as roles
use Rattle.call_status.specs.declared.status.Status.{Status}
use Rattle.call_status.specs.declared.status.Status.TheVariants.{BadImage, Done, Held, NoMemory, SinkFault, Spent}
use Rattle.sink_lines.specs.Device.{Gains, GainsPrefix}
use Rattle.call_report.specs.declared.report.Blame.TheVariants as blame
use Rattle.call_report.specs.declared.report.Made.TheVariants as made
use Rattle.call_report.specs.Call.{Call, LastSays, status_of}
use Rattle.call_report.specs.Reading.{Form}
use Rattle.call_report.specs.Report.{Leaves, Outcome, Refuses}

-- the bytes are the text of no image, and this is their first fault
pub record IsNoImage (bytes : List ℕ) (fault : ImageFault) : Type 0 where
  pub none : (image : Image) → IsImageText bytes image → ⊥
  pub first : IsRead bytes (Err fault)

-- the text of an image
abbrev pub image_form : Form Image ImageFault
image_form = record { role = roles.Image; IsOf = IsImageText; HasFault = IsNoImage; bad = BadImage; blames = blame.Image }

-- how the run ended that went on
abbrev pub StopsAs : Status → ProgramParts → Resumed → Type 0
StopsAs Done p r = (r.spent ≡ false) × AllDone p r.state.state
StopsAs Held p r = (r.spent ≡ false) × SomeHeld p r.state.state
StopsAs Spent p r = r.spent ≡ true
StopsAs _ p r = ⊥

-- the status of such an end, where the text is written
abbrev pub status_by : Bool → Bool → Status
status_by true all_ended = Spent
status_by false true = Done
status_by false false = Held

-- the text was written whole, and the report has this status; or a prefix of it was written up to a fault, and it has SinkFault
abbrev pub IsPutAs : Status → List ℕ → Outcome → Type 0
IsPutAs status text o =
    ((o.report.status ≡ status) × Gains o.sink o.sink_after text)
    ⊎ ((o.report.status ≡ SinkFault) × GainsPrefix o.sink o.sink_after text)

-- A run went on from the image, which is reported, and this is what it shows behind the lines of what was printed up to the cut.
pub record HasGoneOn (image : Image) (fuel quantum : ℕ) (o : Outcome) : Type 0 where
  pub resumed : Resumed
  pub reported : Leaves o.report (Some (made.Resumed resumed))
  pub is : IsResumed image fuel quantum resumed
  pub text : List ℕ
  pub shows : shown image.program resumed.state.state ≡ value_lines image.program image.state.output ++ text

-- the same, with the end that the status says, and the text was written whole
pub record HasWritten (status : Status) (image : Image) (fuel quantum : ℕ) (o : Outcome) : Type 0 where
  pub on : HasGoneOn image fuel quantum o
  pub stops : StopsAs status image.program on.resumed
  pub gains : Gains o.sink o.sink_after on.text

-- What each status says of an image from which a run was to go on. Want of memory is free, and no other status comes.
abbrev pub ResumeEnds : Status → Image → ℕ → ℕ → Outcome → Type 0
ResumeEnds SinkFault image fuel quantum o = (on : HasGoneOn image fuel quantum o) × GainsPrefix o.sink o.sink_after on.text
ResumeEnds NoMemory image fuel quantum o = Refuses o None
ResumeEnds status image fuel quantum o = HasWritten status image fuel quantum o

-- the image in the file, from which the run was to go on
abbrev pub ResumeSays : Call → ResumeArgs → Type 0
ResumeSays c args = LastSays image_form c args.image (λ image. ResumeEnds (status_of c) image args.fuel args.quantum c.outcome)
