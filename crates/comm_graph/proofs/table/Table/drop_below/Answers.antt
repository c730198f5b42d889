use Rattle.std.proofs.Common.{◌≡◌, ℕ, Bool, ◌+◌, ◌∙◌, ap, subst, arith, length, length-append, cond, false}
use Rattle.comm_graph.specs.Sound.{IsDropped}
use Rattle.comm_graph.proofs.Ends.{dropped_more}
use Rattle.comm_graph.proofs.Grown.{few_nodes}
use Rattle.comm_graph.proofs.table.Table.drop_below.Goals as goal

same : (n : ℕ) (b : Bool) → b ≡ false → n + cond b 1 0 ≡ n
same n b h = ap (λ x. n + cond x 1 0) h ∙ (let z : n + 0 ≡ n = omega arith in z)

pub overflow_add-total : goal.overflow_add-total
overflow_add-total c =
    let d = c.loop-live.invariant.dropped in
    let few = few_nodes d.dropped in
    let n = ap length d.split ∙ length-append d.dropped c.loop-live.self.entries.items in
    let f = c.in-Some.ensures.some in
    let m = ap length f.split in
    omega (arith, d.count, c.requires)

pub loop-live-preserved-then-live : goal.loop-live-preserved-then-live
loop-live-preserved-then-live c = record {
  dropped = subst (λ b. IsDropped c.args.self.now.entries.items c.args.self.now.gone c.pop_below.new.self.entries.items c.pop_below.new.self.gone c.args.q.0 (c.loop-live.total + cond b 1 0)) c.if-live.true
      (dropped_more c.args.self.now.entries.items c.args.self.now.gone c.loop-live.self.entries.items c.loop-live.self.gone c.pop_below.new.self.entries.items c.pop_below.new.self.gone c.args.q.0 c.loop-live.total c.in-Some.live c.loop-live.invariant.dropped c.in-Some.ensures.some);
  capacity = c.pop_below.ensures.capacity ∙ c.loop-live.invariant.capacity;
}

pub loop-live-preserved : goal.loop-live-preserved
loop-live-preserved c = record {
  dropped = subst (λ n. IsDropped c.args.self.now.entries.items c.args.self.now.gone c.pop_below.new.self.entries.items c.pop_below.new.self.gone c.args.q.0 n) (same c.loop-live.total c.in-Some.live c.if-live.false)
      (dropped_more c.args.self.now.entries.items c.args.self.now.gone c.loop-live.self.entries.items c.loop-live.self.gone c.pop_below.new.self.entries.items c.pop_below.new.self.gone c.args.q.0 c.loop-live.total c.in-Some.live c.loop-live.invariant.dropped c.in-Some.ensures.some);
  capacity = c.pop_below.ensures.capacity ∙ c.loop-live.invariant.capacity;
}
