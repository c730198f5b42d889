-- What is said of a run whose program and script were read.
use Rattle.std.proofs.Common.{◌≡◌, inl, inr, ℕ, ℤ, List, Option, Some, None, subst}
use Rattle.stab_code.specs.JobParts.{job_of}
use Rattle.stab_code.specs.Program.{ProgramParts}
use Rattle.stab_files.specs.Entry.{Entry}
use Rattle.stab_words.specs.declared.request.RunArgs.{RunArgs}
use Rattle.sink_lines.specs.Device.{Device, Rests}
use Rattle.book_runs.specs.Ending.{Writing}
use Rattle.call_report.specs.Reading.{AreGivenBy, AreRefusedBy}
use Rattle.call_report.specs.Report.{Outcome}
use Rattle.call_report.proofs.ReadFirst.{finding}
use Rattle.stab_top.specs.Call.{RunSaysBy}
use Rattle.stab_top.specs.Running.{RunEnds}

module _ (writes : Writing) (outcome : Outcome) (after : ℕ) (files : Device (List Entry)) (args : RunArgs) where
  pub given_says : (named : Option (List ℕ)) (program : ProgramParts) (script : List ℤ) → AreGivenBy files after args.file named program script → RunEnds writes args.workers outcome.report.status (job_of program script args.fuel args.quantum) outcome
      → RunSaysBy writes (finding outcome after files) args named
  given_says None program script given ends = inr (program, given.0, subst (λ numbers. RunEnds writes args.workers outcome.report.status (job_of program numbers args.fuel args.quantum) outcome) given.1 ends)
  given_says (Some probes) program script given ends = inr (program, given.0, inr (script, given.1, ends))

  -- the same, for a run whose workers, fuel and quantum equal the arguments
  pub given_means : (named : Option (List ℕ)) (program : ProgramParts) (script : List ℤ) (workers fuel quantum : ℕ) → (workers ≡ args.workers) × (fuel ≡ args.fuel) × (quantum ≡ args.quantum)
      → AreGivenBy files after args.file named program script → RunEnds writes workers outcome.report.status (job_of program script fuel quantum) outcome → RunSaysBy writes (finding outcome after files) args named
  given_means named program script workers fuel quantum same given ends =
      given_says named program script given
      (subst (λ w. RunEnds writes w outcome.report.status (job_of program script args.fuel args.quantum) outcome) same.0
      (subst (λ f. RunEnds writes workers outcome.report.status (job_of program script f args.quantum) outcome) same.1
      (subst (λ q. RunEnds writes workers outcome.report.status (job_of program script fuel q) outcome) same.2 ends)))

  pub refused_says : (named : Option (List ℕ)) → AreRefusedBy files after args.file named outcome.report → Rests outcome.sink outcome.sink_after → RunSaysBy writes (finding outcome after files) args named
  refused_says None refused rests = inl (refused, rests)
  refused_says (Some probes) (inl refused) rests = inl (refused, rests)
  refused_says (Some probes) (inr (program, holds, refused)) rests = inr (program, holds, inl (refused, rests))
