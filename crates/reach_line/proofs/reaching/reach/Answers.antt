use Rattle.std.proofs.Common.{◌≡◌, ◌+◌, ◌*◌, ◌<◌, ◌≤◌, suc, cond, true, List, [], ◌∷◌, ◌++◌, take, length, Some, None, IsSome, refl, sym, subst, ap, ◌∙◌, arith, length-append}
use Rattle.std.specs.List.{AllByRecursion, slice_get}
use Rattle.std.specs.Option.{option_map}
use Rattle.stab_base.specs.declared.numbers.Seq.{Seq}
use Rattle.comm_graph.specs.Edge.{ends, kind_of}
use Rattle.reach_line.specs.Reached.{has, Reached}
use Rattle.reach_line.specs.Reached.Reached.{itself, edge}
use Rattle.reach_line.specs.MarkList.{MarkList}
use Rattle.reach_line.specs.Progress.{named, AreClosed, cost}
use Rattle.reach_line.proofs.Closing.{in_room, kind_named, named_kind, all_get, get_within, take_next, get_none, cost_push, closed_more, all_append, all_map, has_more, has_self, ends_named, all_reached}
use Rattle.reach_line.proofs.Counting.{four_a_node}
use Rattle.reach_line.proofs.reaching.reach.Goals as goal

pub mark-requires-clause-low : goal.mark-requires-clause-low
mark-requires-clause-low g c =
    let b = in_room c.args.marks.now c.args.graph.now.nodes c.args.node.0 c.requires.spare (kind_named c.args.node.0 c.args.graph.now.nodes c.requires.there) in
    omega (arith, b.0, c.clear.ensures.spare.0)

pub mark-requires-clause-high : goal.mark-requires-clause-high
mark-requires-clause-high g c =
    let b = in_room c.args.marks.now c.args.graph.now.nodes c.args.node.0 c.requires.spare (kind_named c.args.node.0 c.args.graph.now.nodes c.requires.there) in
    omega (arith, b.1, c.clear.ensures.spare.1)

pub loop-from-init : goal.loop-from-init
loop-from-init g c =
    let ns = c.args.graph.now.nodes in
    let m = c.args.node.0 in
    let ms : c.mark.new.self.nodes ≡ m ∷ [] = ap (λ (l : MarkList). l.nodes) c.mark.ensures ∙ ap (λ l. cond (has m l) l (l ++ m ∷ [])) c.clear.ensures.nodes in
    record {
      lowest = ap (λ (l : MarkList). l.lowest) c.mark.ensures ∙ c.clear.ensures.spare.0;
      beyond = ap (λ (l : MarkList). l.beyond) c.mark.ensures ∙ c.clear.ensures.spare.1;
      first = ap (has m) ms ∙ has_self m [];
      only = subst (AllByRecursion (Reached ns m)) (sym ms) (itself, tt);
      nodes = subst (AllByRecursion (λ q. named q ns ≡ true)) (sym ms) (kind_named m ns c.requires.there, tt);
      closed = tt;
      steps = omega arith;
      within = omega arith;
    }

pub spread-requires-clause-there : goal.spread-requires-clause-there
spread-requires-clause-there g c =
    let ns = c.args.graph.now.nodes in
    named_kind c.in-Some.from.0 ns (all_get (λ q. named q ns ≡ true) c.loop-from.marks.nodes c.loop-from.next c.in-Some.from.0 c.loop-from.invariant.nodes c.in-Some.ensures.at)

pub overflow_add-next : goal.overflow_add-next
overflow_add-next g c = let w = get_within c.loop-from.marks.nodes c.loop-from.next c.in-Some.from.0 c.in-Some.ensures.at in omega (arith, c.in-Some.ensures.small)

pub loop-from-smaller : goal.loop-from-smaller
loop-from-smaller g c = let w = get_within c.loop-from.marks.nodes c.loop-from.next c.in-Some.from.0 c.in-Some.ensures.at in omega (arith, c.in-Some.ensures.few, c.spread.ensures.spread.lowest, c.spread.ensures.spread.beyond)

pub loop-from-preserved : goal.loop-from-preserved
loop-from-preserved g c =
    let ns = c.args.graph.now.nodes in
    let m = c.args.node.0 in
    let inv = c.loop-from.invariant in
    let ms = c.loop-from.marks.nodes in
    let i = c.loop-from.next in
    let x = c.in-Some.from.0 in
    let at = c.in-Some.ensures.at in
    let s = c.spread.ensures.spread in
    let w = get_within ms i x at in
    let one : suc i ≡ i + 1 = omega arith in
    let taken : take (i + 1) c.spread.new.marks.nodes ≡ take i ms ++ x ∷ [] = ap (λ n. take n c.spread.new.marks.nodes) (sym one) ∙ ap (take (suc i)) s.grown ∙ take_next ms s.more i x at in
    let here = all_get (Reached ns m) ms i x inv.only at in
    record {
      lowest = s.lowest ∙ inv.lowest;
      beyond = s.beyond ∙ inv.beyond;
      first = ap (has m) s.grown ∙ has_more m ms s.more inv.first;
      only = subst (AllByRecursion (Reached ns m)) (sym s.grown) (all_append (Reached ns m) ms s.more inv.only (all_map (λ q. has q (ends ns x) ≡ true) (Reached ns m) s.more (λ q h. edge x q here h) s.among));
      nodes = subst (AllByRecursion (λ q. named q ns ≡ true)) (sym s.grown) (all_append (λ q. named q ns ≡ true) ms s.more inv.nodes (all_map (λ q. has q (ends ns x) ≡ true) (λ q. named q ns ≡ true) s.more (λ q h. ends_named q x ns h) s.among));
      closed = subst (AreClosed ns c.spread.new.marks.nodes) (sym taken) (subst (λ l. AreClosed ns l (take i ms ++ x ∷ [])) (sym s.grown) (closed_more ns ms s.more (take i ms) x inv.closed (subst (λ l. AllByRecursion (λ q. has q l ≡ true) (ends ns x)) s.grown s.all)));
      steps = (let a = ap (cost ns) taken ∙ cost_push ns (take i ms) x in let b = c.spread.ensures.steps in let d = inv.steps in omega arith);
      within = (let l = ap length s.grown ∙ length-append ms s.more in omega arith);
    }

pub returns-clause-reached : goal.returns-clause-reached
returns-clause-reached g c =
    let ns = c.args.graph.now.nodes in
    let inv = c.loop-from.invariant in
    let ms = c.loop-from.marks.nodes in
    let all : take c.loop-from.next ms ≡ ms = get_none ms c.loop-from.next (sym (ap (option_map (λ (q : Seq). q.0)) c.in_default.is) ∙ c.at.ensures.at) in
    record {
      only = inv.only;
      all = all_reached ns c.args.node.0 ms inv.first (subst (AreClosed ns ms) all inv.closed);
      once = c.at.ensures.once;
    }

pub returns-clause-steps : goal.returns-clause-steps
returns-clause-steps g c =
    let ns = c.args.graph.now.nodes in
    let inv = c.loop-from.invariant in
    let ms = c.loop-from.marks.nodes in
    let all : take c.loop-from.next ms ≡ ms = get_none ms c.loop-from.next (sym (ap (option_map (λ (q : Seq). q.0)) c.in_default.is) ∙ c.at.ensures.at) in
    let few = four_a_node ns ms c.valid.ensures c.at.ensures.once (subst (AreClosed ns ms) all inv.closed) in
    omega (arith, inv.steps, ap (cost ns) all)
