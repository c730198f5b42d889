use Rattle.std.proofs.Common.{◌+◌, suc, cond, List, ap, subst, ◌∙◌}
use Rattle.std.specs.List.{list_any}
use Rattle.stab_journal.specs.declared.event.Numbered.{Numbered}
use Rattle.stab_journal.specs.Label.{actors}
use Rattle.stab_journal.specs.Names.{has}
use Rattle.trace_verify.specs.Generations.{AreBefore, times}
use Rattle.image_run.proofs.Stepping.{undone}
use Rattle.image_run.proofs.machine.Machine.undo.Goals as goal

pub take_back-requires : goal.take_back-requires
take_back-requires c = record { kept = (c.args.self.now.origin.state.state, c.requires.at.played.kept) }

pub unreachable-requires : goal.unreachable-requires
unreachable-requires c = (rw c.in-None.is at (c.in_ok-goes.ensures c.args.self.now.origin.state.state c.requires.at.played.kept)) c.requires.may

pub returns-clause-at : goal.returns-clause-at
returns-clause-at c =
    let m = c.args.self.now in
    undone m c.note.new.self c.take_back.new.self c.put_back.new.self c.args.t c.args.m c.in-Some.goes.items c.requires.at c.requires.room
    (rw c.in-Some.is at (c.in_ok-goes.ensures m.origin.state.state c.requires.at.played.kept))
    (subst (λ q. AreBefore (q + 1) c.put_back.new.self) c.number-seq.ensures c.in_ok-put_back-in-Some.ensures.before)
    (λ u. c.in_ok-put_back-in-Some.ensures.times u ∙ ap (λ (ns : List Numbered). cond (list_any (λ (k : Numbered). has (actors k.label) u) ns) (suc (times m.generations u)) (times m.generations u)) c.deref.ensures.value)
    c.in_ok-note-in-Some.ensures
