use Rattle.std.proofs.Common.{◌≡◌, ◌<◌, ◌++◌, length, drop, sym, ap, subst, ◌∙◌, arith}
use Rattle.std.specs.List.{flat_map}
use Rattle.stab_base.specs.Datum.{Datum}
use Rattle.stab_base.specs.Printed.{printed}
use Rattle.stab_code.specs.Program.{ProgramParts}
use Rattle.stab_journal.specs.Due.{due}
use Rattle.stab_journal.specs.Event.{weight_of}
use Rattle.stab_journal.specs.Journal.{Journal}
use Rattle.language.specs.Shown.{line}
use Rattle.commit_book.specs.Book.{BookView}
use Rattle.commit_book.specs.Layout.{view_of}
use Rattle.commit_book.specs.Releases.{IsReleased, due_lines}
use Rattle.commit_book.proofs.Acting.Acted.{in_ok}
use Rattle.commit_book.proofs.Acting.Releasing.{book_after_release, due_so, finals_few, finals_same, kept_after_release, light_for_one, lines_so, released_so, room_for_one}
use Rattle.commit_book.proofs.book.Book.release.Goals as goal

pub overflow_add-next : goal.overflow_add-next
overflow_add-next c =
    let few = room_for_one c.self.inside.job c.self.inside.parts c.self.invariant.kept (subst (λ (b : BookView). 0 < due b.history.events) (sym c.self.view_is) c.requires.due) c.self.invariant in
    let len = c.len.ensures.len in
    omega (arith, few, len)

pub reserve-requires : goal.reserve-requires
reserve-requires c =
    let few = room_for_one c.self.inside.job c.self.inside.parts c.self.invariant.kept (subst (λ (b : BookView). 0 < due b.history.events) (sym c.self.view_is) c.requires.due) c.self.invariant in
    omega (arith, few)

pub split_at-requires : goal.split_at-requires
split_at-requires c =
    let low = due_so c.self.inside.job c.self.inside.parts c.self.invariant.kept (subst (λ (b : BookView). 0 < due b.history.events) (sym c.self.view_is) c.requires.due) in
    let same = finals_same c.self.inside.job c.self.inside.parts c.self.invariant.kept in
    let all = ap length c.finals-finals.ensures in
    omega (arith, low, same, all)

pub release-requires-clause-weight : goal.release-requires-clause-weight
release-requires-clause-weight c =
    let light = light_for_one c.self.inside.job c.self.inside.parts c.self.invariant.kept (subst (λ (b : BookView). 0 < due b.history.events) (sym c.self.view_is) c.requires.due) c.self.invariant c.len.ensures.valid in
    let same : weight_of c.reserve.new.self.events ≡ weight_of c.self.inside.parts.history.events = ap (λ (j : Journal). weight_of j.events) c.reserve.ensures.rest in
    omega (arith, light, same)

pub release-requires-clause-count : goal.release-requires-clause-count
release-requires-clause-count c =
    let some = subst (λ (b : BookView). 0 < due b.history.events) (sym c.self.view_is) c.requires.due in
    let low = due_so c.self.inside.job c.self.inside.parts c.self.invariant.kept some in
    let few = finals_few c.self.inside.job c.self.inside.parts c.self.invariant.kept in
    let short = room_for_one c.self.inside.job c.self.inside.parts c.self.invariant.kept some c.self.invariant in
    (omega (arith, low), omega (arith, few, short))

pub returns-clause-lines : goal.returns-clause-lines
returns-clause-lines c =
    in_ok c.put_lines.result c.is_err.result c.put_lines.ensures.lines c.is_err.ensures.value c.if-is_err.false
    ∙ ap (λ l. c.args.out.now.items ++ l)
    (ap (λ texts. flat_map (λ (v : Datum). line (printed texts v)) c.split_at.result.1.now) (c.texts.ensures.value ∙ ap (λ (p : ProgramParts). p.texts) (c.deref.ensures ∙ c.program.ensures.value))
    ∙ lines_so c.self.inside.job c.self.inside.parts c.self.invariant.kept c.split_at.result.1.now
    (c.split_at.ensures.back ∙ ap (drop c.self.inside.parts.tallies.released) c.finals-finals.ensures)
    ∙ ap due_lines c.self.view_is)

pub invariant_of-self-2 : goal.invariant_of-self-2
invariant_of-self-2 c =
    book_after_release c.self.inside.job c.self.inside.parts c.self.invariant.kept c.reserve.new.self c.reserve.ensures.rest c.release.new.self c.args.worker (subst (λ (b : BookView). 0 < due b.history.events) (sym c.self.view_is) c.requires.due) c.release.ensures.released c.self.invariant

pub returns-clause-released : goal.returns-clause-released
returns-clause-released c =
    subst (λ (b : BookView). IsReleased b (view_of c.self.inside.job c.release.new.self) c.args.worker) c.self.view_is
    (released_so c.self.inside.job c.self.inside.parts c.self.invariant.kept c.reserve.new.self c.reserve.ensures.rest c.release.new.self c.args.worker (subst (λ (b : BookView). 0 < due b.history.events) (sym c.self.view_is) c.requires.due) c.release.ensures.released)

pub returns-clause-shown : goal.returns-clause-shown
returns-clause-shown c =
    (kept_after_release c.self.inside.job c.self.inside.parts c.self.invariant.kept c.reserve.new.self c.reserve.ensures.rest c.release.new.self c.args.worker (subst (λ (b : BookView). 0 < due b.history.events) (sym c.self.view_is) c.requires.due) c.release.ensures.released).shown
