use Rattle.std.proofs.Common.{◌<◌, ◌+◌, ◌++◌, ◌∷◌, [], cond, length, refl, sym, ap, subst, ◌∙◌, arith}
use Rattle.stab_journal.specs.Journal.{IsLive, label_at}
use Rattle.stab_journal.specs.Label.{actors}
use Rattle.stab_journal.specs.Names.{has}
use Rattle.own_steps.specs.Own.{steps_of}
use Rattle.commit_book.specs.declared.rollback.Rollback.{Rollback}
use Rattle.commit_book.specs.OwnSteps.{IsRead}
use Rattle.commit_book.proofs.Keeping.ReadSteps.{acting_low, read_none, read_one}
use Rattle.commit_book.proofs.rollback.Rollback.read_next.Goals as goal

pub read_step-requires-clause-places : goal.read_step-requires-clause-places
read_step-requires-clause-places c = λ t acts.
    let low = acting_low c.args.history.now.events c.args.q.0 t c.in-Some.label c.in-Some.ensures.label acts in
    let place = c.requires.room.1.places in
    let last = c.requires.room.2 in
    omega arith

pub returns-in-Some-clause-read : goal.returns-in-Some-clause-read
returns-in-Some-clause-read c =
    let old = c.args.self.now in
    let j = c.args.history.now in
    let label = c.in-Some.label in
    let next = c.requires.next in
    let rest = c.read_step.ensures.rest in
    let within : old.read < length j.events = omega (arith, c.requires.more) in
    let live : IsLive j (old.read + 1) = subst (IsLive j) next (c.in-Some.ensures.live.0 refl) in
    read_one j old c.read_step.new.self label c.requires.read c.requires.run within live
    (ap (label_at j.events) (sym next) ∙ c.in-Some.ensures.label)
    (ap (λ (r : Rollback). r.read) rest ∙ next)
    (ap (λ (r : Rollback). r.floor) rest)
    (λ t. c.read_step.ensures.own t ∙ ap (λ n. steps_of old.own t ++ cond (has (actors label) t) (n ∷ []) []) next)
    (ap (λ (r : Rollback). r.lost.items) rest)

pub returns-in-None-clause-read : goal.returns-in-None-clause-read
returns-in-None-clause-read c =
    let old = c.args.self.now in
    let j = c.args.history.now in
    let next = c.requires.next in
    let within : old.read < length j.events = omega (arith, c.requires.more) in
    subst (IsRead j) (sym c.pass.ensures)
    (read_none j old c.requires.read c.requires.run within (λ live. let none = c.in-None.ensures.live.1 (subst (IsLive j) (sym next) live) in absurd (cc none)))
