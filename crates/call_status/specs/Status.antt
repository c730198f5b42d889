-- The numbers and names of statuses.
use Rattle.std.specs.Prelude.{ℕ, List, codes}
use Rattle.call_status.specs.declared.status.Status.{Status}
use Rattle.call_status.specs.declared.status.Status.TheVariants.{Done, Held, BadWords, BadText, NoFile, TooBig, FileFault, SinkFault, Spent, NoMemory, BadProbes, BadTrace, BadScript, No, Untyped, NoCut, BadImage}

-- the exit status
abbrev pub status_number : Status → ℕ
status_number Done = 0
status_number Held = 1
status_number BadWords = 2
status_number BadText = 3
status_number NoFile = 4
status_number TooBig = 5
status_number FileFault = 6
status_number SinkFault = 7
status_number Spent = 8
status_number NoMemory = 9
status_number BadProbes = 10
status_number BadTrace = 11
status_number BadScript = 12
status_number No = 13
status_number Untyped = 15
status_number NoCut = 16
status_number BadImage = 17

-- the name of a status
abbrev pub status_name : Status → List ℕ
status_name Done = codes "Done"
status_name Held = codes "Held"
status_name BadWords = codes "BadWords"
status_name BadText = codes "BadText"
status_name NoFile = codes "NoFile"
status_name TooBig = codes "TooBig"
status_name FileFault = codes "FileFault"
status_name SinkFault = codes "SinkFault"
status_name Spent = codes "Spent"
status_name NoMemory = codes "NoMemory"
status_name BadProbes = codes "BadProbes"
status_name BadTrace = codes "BadTrace"
status_name BadScript = codes "BadScript"
status_name No = codes "No"
status_name Untyped = codes "Untyped"
status_name NoCut = codes "NoCut"
status_name BadImage = codes "BadImage"
