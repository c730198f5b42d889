use Rattle.std.proofs.Common.{◌+◌, ℕ, List, Contains, refl, subst}
use Rattle.stab_files.specs.MemFiles.{HeldFiles}
use Rattle.stab_files.proofs.mem_files.MemFilesFiles.load.Goals as goal

pub returns-then-fails-clause-failed : goal.returns-then-fails-clause-failed
returns-then-fails-clause-failed c =
    let planned = subst (λ (fails : List ℕ). Contains fails (c.self.inside.loads + 1)) c.deref.ensures.value (c.if-fails.ensures.0 refl) in
    (λ _. subst (λ (files : HeldFiles). Contains files.fails (files.loads + 1)) c.self.view_is planned, λ _. refl)
