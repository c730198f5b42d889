use Rattle.std.proofs.Common.{◌≡◌, ◌+◌, ◌++◌, ◌∷◌, ◌&&◌, ◌||◌, ℕ, [], cond, not, nat_eq, length, take, sym, ap, subst, ◌∙◌, arith}
use Rattle.std.specs.Prelude.{nat_le, filter}
use Rattle.std.specs.FinMap as map
use Rattle.std.specs.List.{slice_index_or}
use Rattle.std.proofs.lemmas.List.{map-append, take_more}
use Rattle.linked_lists.specs.Lists.{is_listed}
use Rattle.own_steps.specs.Own.{steps_of}
use Rattle.reach_line.specs.MarkList.{numbers}
use Rattle.restore.specs.Found.{numbers as threads}
use Rattle.stab_base.specs.declared.numbers.ThreadId.{ThreadId}
use Rattle.commit_book.specs.OwnSteps.{IsGatheredFrom, line_number}
use Rattle.commit_book.proofs.Undoing.GatheredLines.{gathered_more, gathered_none, gathered_rises}
use Rattle.commit_book.proofs.rollback.take_lost.Goals as goal

pub loop-t-init : goal.loop-t-init
loop-t-init c = record {
  gathered = subst (λ qs. IsGatheredFrom c.args.plan.now.lines c.args.own.now c.args.own.now qs []) (sym c.requires.none) (gathered_none c.args.plan.now.lines c.args.own.now);
  room = let none = ap length c.requires.none in omega (arith, c.requires.room);
}

pub take_from-requires-clause-rising : goal.take_from-requires-clause-rising
take_from-requires-clause-rising c =
    let items = c.touched-t-items.result.now in
    let t : ℕ = (slice_index_or items c.loop-t.t-index (record { 0 = 0 })).0 in
    gathered_rises c.args.plan.now.lines c.args.own.now c.loop-t.own c.loop-t.own c.loop-t.lost.items c.loop-t.lost.items (threads (take c.loop-t.t-index items)) t c.loop-t.invariant.gathered t (c.requires.rising t)

pub loop-t-preserved : goal.loop-t-preserved
loop-t-preserved c =
    let lines = c.args.plan.now.lines in
    let items = c.touched-t-items.result.now in
    let i = c.loop-t.t-index in
    let d : ThreadId = record { 0 = 0 } in
    let t : ℕ = (slice_index_or items i d).0 in
    let old = c.args.own.now in
    let mid = c.loop-t.own in
    let new = c.take_from.new.own in
    let before = c.loop-t.lost.items in
    let after = c.take_from.new.lost.items in
    let line : c.first_lost-line.result.0 ≡ line_number (map.get lines t) = c.first_lost-line.ensures ∙ ap line_number c.line.ensures in
    let one : threads (take (i + 1) items) ≡ threads (take i items) ++ t ∷ [] = ap threads (take_more items i d c.loop-t-test.true) ∙ map-append (λ (u : ThreadId). u.0) (take i items) (slice_index_or items i d ∷ []) in
    record {
      gathered =
          subst (IsGatheredFrom lines old new after) (sym one)
          (gathered_more lines old mid new before after (threads (take i items)) t c.loop-t.invariant.gathered
          (subst (λ n. (u : ℕ) → steps_of new u ≡ cond (nat_eq t u) (filter (λ q. not (nat_le n q)) (steps_of mid u)) (steps_of mid u)) line c.take_from.ensures.own)
          (subst (λ n. (q : ℕ) → is_listed q (numbers after) ≡ ((is_listed q (steps_of mid t) && nat_le n q) || is_listed q (numbers before))) line c.take_from.ensures.lost));
      room = c.take_from.ensures.room;
    }
