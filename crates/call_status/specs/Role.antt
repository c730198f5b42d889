-- The words for the roles of files, and how large a file may be.
use Rattle.std.specs.Prelude.{ℕ, List, codes}
use Rattle.call_status.specs.declared.role.Role.{Role}
use Rattle.call_status.specs.declared.role.Role.TheVariants.{Program, Probes, Trace, Script, Image}

-- the word for a file's role
abbrev pub role_name : Role → List ℕ
role_name Program = codes "program"
role_name Probes = codes "probes"
role_name Trace = codes "trace"
role_name Script = codes "script"
role_name Image = codes "image"

-- the largest size of a file, in bytes
abbrev pub max_bytes : Role → ℕ
max_bytes Program = 1048576
max_bytes Probes = 1048576
max_bytes Trace = 67108864
max_bytes Script = 1048576
max_bytes Image = 67108864
