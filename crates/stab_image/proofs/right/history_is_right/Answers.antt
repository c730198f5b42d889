use Rattle.std.proofs.Common.{List, sym, subst}
use Rattle.std.specs.List.{AllByRecursion}
use Rattle.stab_journal.specs.declared.event.Numbered.{Numbered}
use Rattle.stab_code.specs.Program.{ProgramParts}
use Rattle.stab_code.specs.Valid.{CountsAreWithin}
use Rattle.language.specs.Plain.{IsRun, PlainState}
use Rattle.image_laws.specs.Image.{StandsAt}
use Rattle.image_lines.specs.HeadText.{IsProbe}
use Rattle.standing_runs.specs.Standing.{IsStanding}
use Rattle.stab_image.specs.Written.{IsRight}
use Rattle.stab_image.proofs.Righting.{image_right}
use Rattle.stab_image.proofs.right.history_is_right.Goals as goal

pub returns : goal.returns
returns c = λ p script es h.
    let program = c.deref.ensures in
    let stand = subst (λ (q : ProgramParts). (run : List Numbered) (s : PlainState) → IsRun q run s → IsStanding q s) program c.runs_stand.ensures.stand in
    let counts = subst (λ (q : ProgramParts). CountsAreWithin q) program c.runs_stand.ensures.counts in
    let probes = subst (AllByRecursion IsProbe) c.deref-2.ensures.value c.numbers_fit.ensures in
    subst IsRight c.image.view_is (image_right c.image.inside c.image.invariant stand counts probes p script es (subst (StandsAt p script es) (sym c.image.view_is) h))
