use Rattle.std.proofs.Common.{cond, suc, refl, sym, ap, subst, ◌∙◌}
use Rattle.std.specs.List.{list_any}
use Rattle.stab_journal.specs.declared.event.Numbered.{Numbered}
use Rattle.stab_journal.specs.Label.{actors}
use Rattle.stab_journal.specs.Names.{has}
use Rattle.language.specs.Plain.{start}
use Rattle.language.specs.Standing.{MayUndo}
use Rattle.trace_verify.specs.Generations.{times}
use Rattle.trace_verify.specs.Parts.{run_in}
use Rattle.trace_verify.specs.Verdict.{not_revocable}
use Rattle.trace_verify.proofs.Following.{may_undo_back, undo_follows}
use Rattle.trace_verify.proofs.replay.Replay.undo.Goals as goal

pub take_back-requires : goal.take_back-requires
take_back-requires c = record { kept = (start c.args.self.now.surviving.state.program, c.requires.ready.kept.kept) }

pub returns-in_ok-put_back-in-Some : goal.returns-in_ok-put_back-in-Some
returns-in_ok-put_back-in-Some c = λ p script events number r.
    undo_follows p script events c.args.self.now _ c.args.seq.0 c.args.t c.args.m c.in-Some.goes.items number r c.requires.ready
    (rw c.in-Some.is at (c.in_ok-goes.ensures (start c.args.self.now.surviving.state.program) c.requires.ready.kept.kept)) c.in_ok-put_back-in-Some.ensures.before
    (λ u. c.in_ok-put_back-in-Some.ensures.times u
    ∙ ap (λ ns. cond (list_any (λ (n : Numbered). has (actors n.label) u) ns) (suc (times c.args.self.now.generations u)) (times c.args.self.now.generations u)) c.deref.ensures.value)
    refl refl

pub returns-in-None : goal.returns-in-None
returns-in-None c = λ p script events number r.
    not_revocable c.args.t c.args.m (λ may. (rw c.in-None.is at (c.in_ok-goes.ensures (start c.args.self.now.surviving.state.program) c.requires.ready.kept.kept))
    (may_undo_back c.args.self.now.surviving c.args.t.0 c.args.m.0 c.requires.ready.kept.since
    (subst (λ x. MayUndo x (run_in c.args.self.now.surviving.parts) c.args.self.now.surviving.state.state c.args.t.0 c.args.m.0) (sym r.program) may)))
