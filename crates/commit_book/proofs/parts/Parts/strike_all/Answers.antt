use Rattle.std.proofs.Common.{◌++◌, Option, refl, sym, ap, subst, ◌∙◌, ◌+◌, arith}
use Rattle.std.specs.Prelude.{option_to_list}
use Rattle.std.proofs.lemmas.Bool.{false≢true}
use Rattle.stab_base.specs.declared.numbers.Seq.{Seq}
use Rattle.reach_line.specs.MarkList.{numbers}
use Rattle.commit_book.specs.declared.rollback.Rollback.{Rollback}
use Rattle.commit_book.proofs.Undoing.StrikeCalls.{IsStriking, may_one, numbers_long, one_more_fits, striking_again, striking_none, striking_one}
use Rattle.commit_book.proofs.parts.Parts.strike_all.Goals as goal

pub loop-q-init : goal.loop-q-init
loop-q-init c = striking_none c.args.self.now (numbers c.args.self.now.rollback.lost.items)

pub strike-requires : goal.strike-requires
strike-requires c =
    may_one c.args.self.now c.loop-q.self (record c.loop-q.self { rollback = record c.loop-q.self.rollback { lost = c.pop.new.self } }) (numbers c.args.self.now.rollback.lost.items) c.loop-q.self.rollback.lost.items c.pop.new.self.items c.in-Some.q c.loop-q.removed c.requires.may c.loop-q.invariant
    (c.pop.ensures.items ∙ ap (λ (o : Option Seq). c.pop.new.self.items ++ option_to_list o) c.in-Some.is) refl
    (c.is_live.ensures.0 c.if-is_live.true)

pub overflow_add-removed : goal.overflow_add-removed
overflow_add-removed c =
    let few = one_more_fits c.args.self.now c.loop-q.self (record c.loop-q.self { rollback = record c.loop-q.self.rollback { lost = c.pop.new.self } }) (numbers c.args.self.now.rollback.lost.items) c.loop-q.self.rollback.lost.items c.pop.new.self.items c.in-Some.q c.loop-q.removed c.requires.may c.loop-q.invariant
    (c.pop.ensures.items ∙ ap (λ (o : Option Seq). c.pop.new.self.items ++ option_to_list o) c.in-Some.is) refl in
    let long = numbers_long c.args.self.now.rollback.lost.items in
    omega (arith, few, long, c.args.self.now.rollback.lost.ok.0, c.args.self.now.rollback.lost.ok.1, c.args.self.now.rollback.lost.small)

pub loop-q-preserved-then-is_live : goal.loop-q-preserved-then-is_live
loop-q-preserved-then-is_live c =
    subst (λ (r : Rollback). IsStriking c.args.self.now c.strike.new.self (numbers c.args.self.now.rollback.lost.items) (numbers r.lost.items) (c.loop-q.removed + 1)) (sym c.strike.ensures.lost)
    (striking_one c.args.self.now c.loop-q.self (record c.loop-q.self { rollback = record c.loop-q.self.rollback { lost = c.pop.new.self } }) (numbers c.args.self.now.rollback.lost.items) c.loop-q.self.rollback.lost.items c.pop.new.self.items c.in-Some.q c.loop-q.removed c.requires.may c.loop-q.invariant
    (c.pop.ensures.items ∙ ap (λ (o : Option Seq). c.pop.new.self.items ++ option_to_list o) c.in-Some.is) refl
    (c.is_live.ensures.0 c.if-is_live.true) c.strike.new.self (c.loop-q.removed + 1) c.strike.ensures.struck refl)

pub loop-q-preserved : goal.loop-q-preserved
loop-q-preserved c =
    striking_again c.args.self.now c.loop-q.self (record c.loop-q.self { rollback = record c.loop-q.self.rollback { lost = c.pop.new.self } }) (numbers c.args.self.now.rollback.lost.items) c.loop-q.self.rollback.lost.items c.pop.new.self.items c.in-Some.q c.loop-q.removed c.requires.may c.loop-q.invariant
    (c.pop.ensures.items ∙ ap (λ (o : Option Seq). c.pop.new.self.items ++ option_to_list o) c.in-Some.is) refl
    (λ live. false≢true (sym c.if-is_live.false ∙ c.is_live.ensures.1 live))
