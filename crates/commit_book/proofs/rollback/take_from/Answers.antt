use Rattle.std.proofs.Common.{sym, ap, ◌∙◌, append-nil}
use Rattle.linked_lists.specs.Lists.{is_listed}
use Rattle.own_steps.specs.Own.{Seen, steps_of}
use Rattle.reach_line.specs.MarkList.{numbers}
use Rattle.commit_book.proofs.Undoing.GatheredSteps.{all_taken-lost, all_taken-own, taken_more, taken_none}
use Rattle.commit_book.proofs.rollback.take_from.Goals as goal

pub loop-t-init : goal.loop-t-init
loop-t-init c = record {
  taken = taken_none c.args.own.now c.args.t.0 c.args.line.0 c.args.lost.now.items (sym (append-nil (steps_of c.args.own.now c.args.t.0)));
  room = c.requires.room;
}

pub loop-t-preserved : goal.loop-t-preserved
loop-t-preserved c = record {
  taken = taken_more c.args.own.now c.loop-t.own c.take_last.new.own c.args.t.0 c.args.line.0 c.args.lost.now.items c.loop-t.lost.items c.take_last.new.lost.items c.loop-t.invariant.taken (c.take_last.ensures.taken c.loop-t-test.true);
  room = c.take_last.ensures.room;
}

pub returns-clause-own : goal.returns-clause-own
returns-clause-own c = λ u.
    let left = c.take_last.ensures.kept c.loop-t-test.false in
    ap (λ (s : Seen). steps_of s u) left.own
    ∙ all_taken-own c.args.own.now c.loop-t.own c.args.t.0 c.args.line.0 c.args.lost.now.items c.loop-t.lost.items c.loop-t.invariant.taken c.requires.rising left.low u

pub returns-clause-lost : goal.returns-clause-lost
returns-clause-lost c = λ q.
    let left = c.take_last.ensures.kept c.loop-t-test.false in
    ap (λ qs. is_listed q (numbers qs)) left.lost
    ∙ all_taken-lost c.args.own.now c.loop-t.own c.args.t.0 c.args.line.0 c.args.lost.now.items c.loop-t.lost.items c.loop-t.invariant.taken c.requires.rising left.low q
