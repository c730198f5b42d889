use Rattle.std.proofs.Common.{◌+◌, ◌-◌, ◌++◌, ◌∷◌, [], length, sym, ap, subst, ◌∙◌}
use Rattle.std.specs.FinSet.{insert}
use Rattle.stab_journal.specs.Journal.{Journal, IsLive}
use Rattle.trace_text.specs.Text.{entries}
use Rattle.trace_text.proofs.Entries.{entry, entries-push, entries-struck, live-push, was_pushed}
use Rattle.trace_text.proofs.read.add.Goals as goal

pub strike-requires : goal.strike-requires
strike-requires c =
    let number = c.push-seq.ensures.number ∙ ap (λ (r : Journal). length r.events + 1) c.in_ok-reserve.ensures.rest in
    subst (λ j. IsLive j c.push-seq.result.0) (sym (was_pushed c.args.history.now c.reserve.new.self c.push-seq.new.self c.args.entry.event c.push-seq.ensures.after c.in_ok-reserve.ensures.rest))
    (live-push c.args.history.now c.args.entry.event (c.reserve.new.self.spare - 1) c.requires.valid c.push-seq.result.0 number (c.requires.in_range.struck c.if-entry.true))

pub returns-then-entry-clause-added : goal.returns-then-entry-clause-added
returns-then-entry-clause-added c =
    let number = c.push-seq.ensures.number ∙ ap (λ (r : Journal). length r.events + 1) c.in_ok-reserve.ensures.rest in
    ap entries (c.strike.ensures.after ∙ ap (λ (j : Journal). record j { struck = insert j.struck c.push-seq.result.0 })
    (was_pushed c.args.history.now c.reserve.new.self c.push-seq.new.self c.args.entry.event c.push-seq.ensures.after c.in_ok-reserve.ensures.rest))
    ∙ entries-struck c.args.history.now c.args.entry.event (c.reserve.new.self.spare - 1) c.requires.valid c.push-seq.result.0 number
    ∙ ap (λ b. entries c.args.history.now ++ entry c.args.entry.event b ∷ []) (sym c.if-entry.true)

pub returns-else-entry-clause-added : goal.returns-else-entry-clause-added
returns-else-entry-clause-added c =
    ap entries (was_pushed c.args.history.now c.reserve.new.self c.push-seq.new.self c.args.entry.event c.push-seq.ensures.after c.in_ok-reserve.ensures.rest)
    ∙ entries-push c.args.history.now c.args.entry.event (c.reserve.new.self.spare - 1) c.requires.valid
    ∙ ap (λ b. entries c.args.history.now ++ entry c.args.entry.event b ∷ []) (sym c.if-entry.false)
