use Rattle.std.proofs.Common.{List, sym, subst, ◌∙◌}
use Rattle.std.specs.Prelude.{IfSome}
use Rattle.std.specs.List.{All}
use Rattle.std.proofs.lemmas.Result.{err_from_is_err_and}
use Rattle.drill_text.specs.declared.script.Line.{Line}
use Rattle.drill_text.specs.Order.{HasLease}
use Rattle.drill_text.specs.Script.{script_of}
use Rattle.schedule_drill.specs.Drilled.{ArePlayed, IsNew, IsStopped}
use Rattle.schedule_drill.specs.Played.{Stand, stand}
use Rattle.schedule_drill.proofs.JobKept.{drilled_job}
use Rattle.schedule_drill.proofs.Playing.{all_numbered, refuses}
use Rattle.schedule_drill.proofs.Under.{none_under}
use Rattle.schedule_drill.proofs.whole.drill.Goals as goal

pub play_all-played-requires-clause-numbers : goal.play_all-played-requires-clause-numbers
play_all-played-requires-clause-numbers c =
    subst (All (λ (line : Line). IfSome line.order HasLease)) (sym (c.deref.ensures.value ∙ c.in_ok-script.ensures)) (all_numbered c.args.script.now)

pub play_all-played-requires-clause-under : goal.play_all-played-requires-clause-under
play_all-played-requires-clause-under c = none_under _ c.new-leases.result c.new-leases.ensures

pub returns-in_err-played-clause-refused : goal.returns-in_err-played-clause-refused
returns-in_err-played-clause-refused c =
    let p = err_from_is_err_and c.from_residual-in_err-played.result c.from_residual-in_err-played.ensures.1 in
    let first : Stand = stand c.in_ok-book.book c.new-leases.result in
    let new : IsNew c.args.job first = record { start = c.in_ok-book.ensures.start; of_job = c.in_ok-book.ensures.job; out = c.new-leases.ensures } in
    rw (p.1, p.2) (refuses c.args.job (script_of c.args.script.now) first new c.in_err-played.field-0.0
    (subst (λ (lines : List Line). IsStopped first lines c.in_err-played.field-0.0) (c.deref.ensures.value ∙ c.in_ok-script.ensures) c.in_err-played.ensures.stopped))

drilled : goal.returns-clause-drilled
drilled c =
    let first : Stand = stand c.in_ok-book.book c.new-leases.result in
    let last : Stand = stand c.play_all-played.new.book c.play_all-played.new.leases in
    record {
      first = first;
      last = last;
      begins = record { start = c.in_ok-book.ensures.start; of_job = c.in_ok-book.ensures.job; out = c.new-leases.ensures };
      played = subst (λ (lines : List Line). ArePlayed lines first c.in_ok-played.field-0.items last) (c.deref.ensures.value ∙ c.in_ok-script.ensures) c.in_ok-played.ensures.played;
      left = c.give_back.ensures.given;
    }

pub returns-clause-drilled : goal.returns-clause-drilled
returns-clause-drilled c = drilled c

pub returns-clause-of_job : goal.returns-clause-of_job
returns-clause-of_job c = drilled_job c.args.job (script_of c.args.script.now) _ _ (drilled c)
