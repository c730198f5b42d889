use Rattle.std.proofs.Common.{◌<◌, ◌||◌, nat_eq, length, sym, ap, subst, ◌∙◌}
use Rattle.std.proofs.lemmas.List.{length-set}
use Rattle.own_steps.specs.Own.{Seen}
use Rattle.commit_book.proofs.Keeping.ReadSteps.{or_second, same_number}
use Rattle.commit_book.proofs.rollback.Rollback.push_own.Goals as goal

pub push-requires-clause-place : goal.push-requires-clause-place
push-requires-clause-place c =
    let a = c.actors.result in
    c.requires.places a.0.0 (c.actors.ensures.has a.0.0 ∙ ap (λ b. b || nat_eq a.0.0 a.1.0) (same_number a.0.0))

pub push-requires-then-second-first-clause-place : goal.push-requires-then-second-first-clause-place
push-requires-then-second-first-clause-place c =
    let a = c.actors.result in
    subst (λ n. a.1.0 < n) (sym (ap (λ (s : Seen). length s.steps) c.push.ensures ∙ length-set c.args.self.now.own.steps a.0.0 _))
    (c.requires.places a.1.0 (c.actors.ensures.has a.1.0 ∙ or_second (nat_eq a.1.0 a.0.0) (nat_eq a.1.0 a.1.0) (same_number a.1.0)))
