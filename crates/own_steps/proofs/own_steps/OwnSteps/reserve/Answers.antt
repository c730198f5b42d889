use Rattle.std.proofs.Common.{[], length, ap, ◌∙◌, arith}
use Rattle.std.specs.List.{slice_index_or}
use Rattle.own_steps.specs.Own.{Seen}
use Rattle.own_steps.specs.Layout.{rows_from, spare_in}
use Rattle.own_steps.proofs.Rows.{rows-grown, rows-length}
use Rattle.own_steps.proofs.own_steps.OwnSteps.reserve.Goals as goal

pub loop-preserved : goal.loop-preserved
loop-preserved c = record {
  rows = λ t. ap (λ hs. slice_index_or (rows_from 0 hs c.loop.self-inside.entries.items) t []) c.push_reserved.ensures.items ∙ rows-grown c.loop.self-inside.heads.items c.loop.self-inside.entries.items t ∙ c.loop.invariant.rows t;
  entries = c.loop.invariant.entries;
  len = omega (arith, c.push_reserved.ensures.len, c.loop.invariant.len);
  capacity = c.push_reserved.ensures.capacity ∙ c.loop.invariant.capacity;
}

pub returns-clause-places : goal.returns-clause-places
returns-clause-places c =
    let long = rows-length 0 c.loop.self-inside.heads.items c.loop.self-inside.entries.items in
    omega (arith, c.loop.self-inside.heads.ok.0, c.loop.invariant.len, c.loop-test.false, c.saturating_sub-more.ensures, c.len-2.ensures, c.reserve-2.ensures.len)

pub returns-clause-no_less : goal.returns-clause-no_less
returns-clause-no_less c =
    let long = rows-length 0 c.loop.self-inside.heads.items c.loop.self-inside.entries.items in
    let old = rows-length 0 c.self.inside.heads.items c.self.inside.entries.items in
    let seen = ap (λ (s : Seen). length s.steps) c.self.view_is in
    let spare = ap (λ (s : Seen). s.spare) c.self.view_is in
    let kept = ap (λ v. spare_in v) c.loop.invariant.entries in
    (omega (arith, c.reserve.ensures.capacity, ap length c.reserve.ensures.items), omega (arith, c.loop.self-inside.heads.ok.0, c.self.inside.heads.ok.0, c.loop.invariant.len, c.reserve-2.ensures.len))
