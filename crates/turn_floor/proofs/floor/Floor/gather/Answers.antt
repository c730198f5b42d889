use Rattle.std.proofs.Common.{◌≡◌, ◌≢◌, ◌∷◌, [], ◌++◌, ◌+◌, ◌<◌, ℕ, List, ap, sym, ◌∙◌, subst, arith, refl, append_assoc, length}
use Rattle.std.proofs.lemmas.List.{append-nil}
use Rattle.std.specs.List.{AllByRecursion, sum_by}
use Rattle.turn_floor.specs.Joined.{Joined}
use Rattle.turn_floor.specs.Parts.{IsPass, PassParts}
use Rattle.turn_floor.proofs.Histories.{all_cut}
use Rattle.turn_floor.proofs.Joins.{all_left, joined_more, joined_none, none_left}
use Rattle.std.proofs.lemmas.List.Sums.{sum_by-cons}
use Rattle.turn_floor.proofs.floor.Floor.gather.Goals as goal

pub absorb-requires : goal.absorb-requires
absorb-requires g c =
    let inv = c.loop-pass.invariant in
    let is = c.first.invariant.3 in
    let items = c.in-Some.ensures.items in
    let own = all_cut (λ (p : PassParts). p.floor ≡ c.args.self.now) _ _ c.in-Some.pass items (all_left (λ (p : PassParts). p.floor ≡ c.args.self.now) _ _ (subst (AllByRecursion (λ (p : PassParts). p.floor ≡ c.args.self.now)) inv.3 c.requires.own.1)) in
    let other = all_cut (λ (p : PassParts). p.worker ≢ 1) _ _ c.in-Some.pass items (all_left (λ (p : PassParts). p.worker ≢ 1) _ _ (subst (AllByRecursion (λ (p : PassParts). p.worker ≢ 1)) inv.3 c.requires.others)) in
    record {
      own = (inv.0 ∙ ap (λ p. p.floor.table) c.first.view_is ∙ ap (λ f. f.table) c.requires.own.0, own.1);
      idle = (inv.4.holds ∙ is.idle, omega (arith, inv.4.seats, is.one_seat));
      other = other.1;
    }

pub loop-pass-preserved : goal.loop-pass-preserved
loop-pass-preserved g c =
    let inv = c.loop-pass.invariant in
    let a = c.absorb.ensures in
    let pass = c.in-Some.pass in (
      a.id ∙ inv.0,
      a.slots ∙ inv.1,
      pass ∷ inv.2,
      inv.3 ∙ ap (λ l. l ++ inv.2) c.in-Some.ensures.items ∙ append_assoc _ (pass ∷ []) inv.2,
      joined_more _ _ _ inv.2 (pass ∷ []) inv.4 a.joined,
      omega (arith, a.commits.0, inv.5, sum_by-cons (λ (p : PassParts). p.commits) pass inv.2),
      omega (arith, a.commits.1, inv.6),
      omega (arith, a.stale.0, inv.7, sum_by-cons (λ (p : PassParts). p.stale) pass inv.2),
      omega (arith, a.stale.1, inv.8),
    )

pub loop-pass-init : goal.loop-pass-init
loop-pass-init g c = (refl, c.first.invariant.0, [], sym (append-nil _), joined_none c.first.inside.seat.me.0, omega arith, omega arith, omega arith, omega arith)

pub returns-clause-joined : goal.returns-clause-joined
returns-clause-joined g c =
    let inv = c.loop-pass.invariant in
    let view = c.first.view_is in
    let v = c.first.inside.seat.me.0 in
    let worker = ap (λ p. p.worker) view ∙ c.requires.first in
    let len = sym c.first.invariant.3.len_is ∙ ap (λ p. length p.seen) view in
    let all = inv.3 ∙ ap (λ l. l ++ inv.2) (none_left c.loop-pass.others.items (omega (arith, c.loop-pass.others.ok.0, c.in_default.ensures.cases.0))) in (
      v,
      subst (λ (z : ℕ × ℕ). IsPass v z.0 z.1) (λ i. (worker i, len i)) c.first.invariant.3,
      ap (λ p. p.floor.start) view ∙ ap (λ f. f.start) c.requires.own.0,
      ap (λ p. p.seen) view,
      subst (Joined v c.loop-pass.seat.me.0) (sym all) inv.4,
    )

pub returns-clause-commits : goal.returns-clause-commits
returns-clause-commits g c =
    let inv = c.loop-pass.invariant in
    let commits = ap (λ p. p.commits) c.first.view_is in
    let all = inv.3 ∙ ap (λ l. l ++ inv.2) (none_left c.loop-pass.others.items (omega (arith, c.loop-pass.others.ok.0, c.in_default.ensures.cases.0))) in (
      inv.5 ∙ (λ i. commits i + sum_by (λ (p : PassParts). p.commits) (sym all i)),
      omega (arith, inv.6, c.first.invariant.1, ap length all),
    )

pub returns-clause-stale : goal.returns-clause-stale
returns-clause-stale g c =
    let inv = c.loop-pass.invariant in
    let stale = ap (λ p. p.stale) c.first.view_is in
    let all = inv.3 ∙ ap (λ l. l ++ inv.2) (none_left c.loop-pass.others.items (omega (arith, c.loop-pass.others.ok.0, c.in_default.ensures.cases.0))) in (
      inv.7 ∙ (λ i. stale i + sum_by (λ (p : PassParts). p.stale) (sym all i)),
      omega (arith, inv.8, c.first.invariant.2, ap length all),
    )
