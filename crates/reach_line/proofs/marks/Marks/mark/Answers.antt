use Rattle.std.proofs.Common.{◌≡◌, ◌-◌, ◌≤◌, ◌<◌, ◌+◌, ◌++◌, ◌∷◌, [], not, true, false, length, get_or, vec_capacity, sym, ap, subst, ◌∙◌, arith}
use Rattle.std.proofs.lemmas.List.{get_or_read}
use Rattle.std.specs.List.{slice_set}
use Rattle.reach_line.specs.MarkList.{MarkList, IsKept, numbers}
use Rattle.reach_line.proofs.Marking.{room_left, kept_more, numbers_push}
use Rattle.reach_line.proofs.marks.Marks.mark.Goals as goal

pub push_reserved-requires : goal.push_reserved-requires
push_reserved-requires c =
    let s = c.self.inside in
    let lo : s.lowest ≤ c.args.q.0 = subst (λ n. n ≤ c.args.q.0) (sym (ap (λ (m : MarkList). m.lowest) c.self.view_is)) c.requires.low in
    let hi : c.args.q.0 < s.lowest + length s.seen.items = subst (λ n. c.args.q.0 < n) (sym (ap (λ (m : MarkList). m.beyond) c.self.view_is)) c.requires.high in
    let no : get_or s.seen.items (c.args.q.0 - s.lowest) false ≡ false = sym (get_or_read s.seen.items (c.args.q.0 - s.lowest) c.index.result.now (omega arith) c.index.ensures false) ∙ c.if-not-index.true in
    let r = room_left s.nodes.items s.lowest c.args.q.0 s.seen.items (vec_capacity s.nodes) c.self.invariant lo hi no in
    omega (arith, s.nodes.ok.0)

pub invariant_of-self : goal.invariant_of-self
invariant_of-self c =
    let s = c.self.inside in
    let lo : s.lowest ≤ c.args.q.0 = subst (λ n. n ≤ c.args.q.0) (sym (ap (λ (m : MarkList). m.lowest) c.self.view_is)) c.requires.low in
    let hi : c.args.q.0 < s.lowest + length s.seen.items = subst (λ n. c.args.q.0 < n) (sym (ap (λ (m : MarkList). m.beyond) c.self.view_is)) c.requires.high in
    let no : get_or s.seen.items (c.args.q.0 - s.lowest) false ≡ false = sym (get_or_read s.seen.items (c.args.q.0 - s.lowest) c.index.result.now (omega arith) c.index.ensures false) ∙ c.if-not-index.true in
    let items : numbers c.push_reserved.new.self.items ≡ numbers s.nodes.items ++ c.args.q.0 ∷ [] = ap numbers c.push_reserved.ensures.items ∙ numbers_push s.nodes.items c.args.q in
    let k = kept_more (numbers s.nodes.items) s.lowest c.args.q.0 s.seen.items (vec_capacity s.nodes) c.self.invariant lo hi no in
    subst (λ l. IsKept l s.lowest (slice_set s.seen.items (c.args.q.0 - s.lowest) true) (vec_capacity c.push_reserved.new.self)) (sym items)
    (subst (λ n. IsKept (numbers s.nodes.items ++ c.args.q.0 ∷ []) s.lowest (slice_set s.seen.items (c.args.q.0 - s.lowest) true) n) (sym c.push_reserved.ensures.capacity) k)
