-- The reason line.
use Rattle.std.specs.Prelude.{ℕ, List, [], ◌∷◌, ◌++◌, Option, Some, None, codes, decimal}
use Rattle.stab_text.specs.declared.fault.TextFault.{TextFault}
use Rattle.stab_text.specs.FaultText as text
use Rattle.probe_text.specs.declared.fault.ProbesFault.{ProbesFault}
use Rattle.probe_text.specs.declared.fault.ProbesFault.TheVariants as probes
use Rattle.drill_text.specs.declared.fault.DrillFault.{DrillFault}
use Rattle.drill_text.specs.declared.fault.DrillFault.TheVariants as scripts
use Rattle.image_text.specs.declared.image_fault.ImageFault.{ImageFault}
use Rattle.image_text.specs.declared.image_fault.ImageFault.TheVariants as images
use Rattle.stab_types.specs.declared.typed.TypeFault.{TypeFault}
use Rattle.stab_types.specs.declared.typed.TypeFault.TheVariants as types
use Rattle.trace_text.specs.declared.fault.TraceFault.{TraceFault}
use Rattle.trace_text.specs.declared.fault.TraceFault.TheVariants as traces
use Rattle.trace_verify.specs.declared.verdict.Verdict.{Verdict}
use Rattle.trace_verify.specs.declared.verdict.Verdict.TheVariants as verdicts
use Rattle.trace_verify.specs.declared.verdict.Why.{Why}
use Rattle.trace_verify.specs.declared.verdict.Why.TheVariants.{NoStep, WrongProbe, WrongAttempt, Revocable, NotRevocable, WrongRelease, WrongSign}
use Rattle.stab_words.specs.declared.request.WordFault.{WordFault}
use Rattle.stab_words.specs.FaultText as words
use Rattle.call_status.specs.declared.role.Role.{Role}
use Rattle.call_status.specs.declared.status.Status.{Status}
use Rattle.call_status.specs.declared.status.Status.TheVariants.{Done}
use Rattle.call_status.specs.Role.{role_name}
use Rattle.call_status.specs.Status.{status_name}
use Rattle.call_report.specs.declared.report.Blame.{Blame}
use Rattle.call_report.specs.declared.report.Blame.TheVariants as blame
use Rattle.call_report.specs.declared.report.Made.{Made}
use Rattle.call_report.specs.declared.report.Made.TheVariants as made
use Rattle.call_report.specs.declared.report.Report.{Report}

-- a word of the line, after a space
abbrev pub role_word : Role → List ℕ
role_word role = 32 ∷ role_name role

abbrev pub number_word : Option ℕ → List ℕ
number_word None = []
number_word (Some n) = 32 ∷ decimal n

-- the fault's name, and the number of the word that it is about
abbrev pub fault_words : WordFault → List ℕ
fault_words fault = 32 ∷ (words.fault_name fault ++ number_word (words.fault_word fault))

-- the fault's name, its place, and the length of the name that it is about
abbrev pub text_words : TextFault → List ℕ
text_words fault =
    32 ∷ (text.fault_name fault ++ (number_word (text.fault_place fault) ++ number_word (text.fault_length fault)))

-- the fault's name and its place
abbrev pub probes_words : ProbesFault → List ℕ
probes_words (probes.Line at) = codes " Line" ++ number_word (Some at)
probes_words probes.NoMemory = codes " NoMemory"

abbrev pub trace_words : TraceFault → List ℕ
trace_words (traces.BadLine at) = codes " BadLine" ++ number_word (Some at)
trace_words (traces.BadNumber at) = codes " BadNumber" ++ number_word (Some at)
trace_words (traces.OutOfOrder at) = codes " OutOfOrder" ++ number_word (Some at)
trace_words traces.NoEnd = codes " NoEnd"
trace_words traces.NoMemory = codes " NoMemory"

abbrev pub script_words : DrillFault → List ℕ
script_words (scripts.BadLine at) = codes " BadLine" ++ number_word (Some at)
script_words (scripts.NoSuchLease at) = codes " NoSuchLease" ++ number_word (Some at)
script_words (scripts.HeldTwice at) = codes " HeldTwice" ++ number_word (Some at)
script_words scripts.NoMemory = codes " NoMemory"

abbrev pub image_words : ImageFault → List ℕ
image_words (images.BadLine at) = codes " BadLine" ++ number_word (Some at)
image_words (images.BadNumber at) = codes " BadNumber" ++ number_word (Some at)
image_words images.BadProgram = codes " BadProgram"
image_words (images.BadState at) = codes " BadState" ++ number_word (Some at)
image_words images.NoEnd = codes " NoEnd"
image_words images.NoMemory = codes " NoMemory"

-- the number of the first function that isn't typed
abbrev pub type_words : TypeFault → List ℕ
type_words (types.Untyped f) = number_word (Some f.0)
type_words types.NoMemory = codes " NoMemory"

-- the name of what is wrong with an event
abbrev pub why_name : Why → List ℕ
why_name NoStep = codes "NoStep"
why_name WrongProbe = codes "WrongProbe"
why_name WrongAttempt = codes "WrongAttempt"
why_name Revocable = codes "Revocable"
why_name NotRevocable = codes "NotRevocable"
why_name WrongRelease = codes "WrongRelease"
why_name WrongSign = codes "WrongSign"

-- of a verdict, the number of the event that fails and what is wrong with it
abbrev pub failing_words : Verdict → List ℕ
failing_words verdicts.Yes = []
failing_words (verdicts.No q why) = 32 ∷ (decimal q.0 ++ (32 ∷ why_name why))

-- the words for what is blamed, and for what was made
abbrev pub blame_words : Option Blame → List ℕ
blame_words None = []
blame_words (Some (blame.Words fault)) = fault_words fault
blame_words (Some (blame.File role)) = role_word role
blame_words (Some (blame.Text fault)) = text_words fault
blame_words (Some (blame.Probes fault)) = probes_words fault
blame_words (Some (blame.Trace fault)) = trace_words fault
blame_words (Some (blame.Script fault)) = script_words fault
blame_words (Some (blame.Types fault)) = type_words fault
blame_words (Some (blame.Image fault)) = image_words fault

abbrev pub made_words : Option Made → List ℕ
made_words None = []
made_words (Some (made.Book book)) = []
made_words (Some (made.Verdict verdict)) = failing_words verdict
made_words (Some (made.Resumed resumed)) = []

-- why a call ended as it did
abbrev pub cause_words : Report → List ℕ
cause_words report = blame_words report.blame ++ made_words report.made

-- the line with the status and its cause
abbrev pub reason_line : Status → List ℕ → List ℕ
reason_line status cause = codes "stab: " ++ (status_name status ++ (cause ++ 10 ∷ []))

-- nothing for Done, and the reason line for any other status
abbrev pub reason_text : Status → List ℕ → List ℕ
reason_text Done cause = []
reason_text status cause = reason_line status cause
