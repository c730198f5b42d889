use Rattle.std.proofs.Common.{rules, ◌≡◌, ◌+◌, ◌-◌, ◌<◌, ◌∷◌, [], length, ap, sym, ◌∙◌, arith, ℕ, suc, subst, map, vec_len}
use Rattle.turn_floor.specs.Parts.{IsPass, floor_of, pass_of}
use Rattle.turn_floor.specs.Served.{from_to}
use Rattle.turn_floor.specs.Turn.{dealing}
use Rattle.turn_floor.proofs.Dealing.{all_new, first_new, first_pass, next_new}
use Rattle.turn_floor.proofs.Histories.{rotated}
use Rattle.turn_floor.proofs.floor.Floor.new.Goals as goal

pub loop-last-preserved : goal.loop-last-preserved
loop-last-preserved g c =
    let inv = c.loop-last.invariant in
    let d = c.deal.ensures in
    let len = c.push_reserved.ensures.len in
    let one = inv.0 in
    let number : c.loop-last.last + 1 ≡ 2 + vec_len c.loop-last.passes = omega (arith, one) in
    let more : suc (vec_len c.loop-last.passes) ≡ vec_len c.push_reserved.new.self = omega (arith, len) in (
      omega (arith, len, one),
      search rules,
      search rules,
      d.id ∙ inv.3,
      d.view,
      omega (arith, d.parts.0, inv.5, len),
      omega (arith, d.parts.1, inv.6, len),
      d.amounts.0 ∙ inv.7,
      d.amounts.1 ∙ inv.8,
      next_new _ _ _ _ _ _ _ inv.9 c.push_reserved.ensures.items d.pass number more,
    )

pub begin-requires : goal.begin-requires
begin-requires g c =
    let inv = c.loop-last.invariant in
    let one = inv.0 in
    let le = inv.1 in
    let ge = c.loop-last-test.false in
    let workers = ap (λ s. s.workers) c.in-Ok-open_table.ensures.start in
    let long = c.len-len.ensures.len ∙ ap length (c.history.ensures ∙ sym (ap (λ s. s.events) c.in-Ok-open_table.ensures.start)) in
    record {
      seat = (ap (λ m. m.1) inv.4, subst (λ v. IsPass v 1 c.len-len.result) (sym (ap (λ m. m.0) inv.4)) (first_pass _ _ _ (omega (arith, le, ge, workers)) (omega (arith, workers, c.requires.workers.0)) (omega (arith, workers, c.requires.workers.1)) long));
      parts = (omega (arith, one, le, ge, inv.5), omega (arith, one, le, ge, inv.6));
    }

pub returns-clause-passes : goal.returns-clause-passes
returns-clause-passes g c =
    let inv = c.loop-last.invariant in
    let one = inv.0 in
    let le = inv.1 in
    let ge = c.loop-last-test.false in
    let start = ap (λ m. m.0.start) inv.4 in
    let seen = ap (λ m. m.0.seen) inv.4 in
    let first = c.begin.ensures ∙ (λ i. pass_of (floor_of (inv.3 i) (start i)) 1 (seen i) (inv.7 i) (inv.8 i)) in
    first_new _ _ _ _ _ _ inv.9 (rotated _ _ _ _ _ c.push_reserved-2.new.self.ok.0 c.push_reserved-2.ensures.items c.rotate_right.ensures.items) first (omega (arith, one, le, ge))

pub returns-clause-all : goal.returns-clause-all
returns-clause-all g c = all_new _ _ _ (returns-clause-passes g c) (ap (λ s. s.workers) c.in-Ok-open_table.ensures.start)
