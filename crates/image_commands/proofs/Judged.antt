-- What a verdict says.
use Rattle.std.proofs.Common.{◌≡◌, ℤ, List}
use Rattle.stab_code.specs.Program.{ProgramParts}
use Rattle.stab_journal.specs.Journal.{Journal}
use Rattle.trace_verify.specs.declared.verdict.Verdict.{Verdict}
use Rattle.trace_verify.specs.declared.verdict.Verdict.TheVariants.{Yes, No}
use Rattle.trace_verify.specs.declared.verdict.Why.TheVariants.{WrongSign}
use Rattle.trace_verify.specs.Verdict.{IsOfRun, IsVerdict, passes, fails, signs}

-- a history of which the verdict is yes is one of a run
pub of_yes : (p : ProgramParts) (script : List ℤ) (j : Journal) (v : Verdict) → v ≡ Yes → IsVerdict p script j v → IsOfRun p script j
of_yes p script j _ is (passes h) = h
of_yes p script j _ is (fails q why h) = absurd (let other : No q why ≡ Yes = is in cc)
of_yes p script j _ is (signs q h) = absurd (let other : No q WrongSign ≡ Yes = is in cc)
