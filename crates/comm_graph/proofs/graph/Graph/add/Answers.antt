use Rattle.std.proofs.Common.{◌≡◌, ℕ, ◌+◌, ◌-◌, ◌<◌, ◌∙◌, length, ◌++◌, ◌∷◌, [], sym, ap, subst, arith, true, length-append}
use Rattle.std.specs.List.{AllByRecursion}
use Rattle.std.proofs.lemmas.List.Elements.{recursion_from_All}
use Rattle.comm_graph.specs.Node.{Node}
use Rattle.comm_graph.specs.Edge.{NodeList}
use Rattle.comm_graph.specs.Sound.{IsSound, spare_of}
use Rattle.comm_graph.specs.Table.{unlinked, nodes_of, thread, readers, in_line, after_of, IsSorted, IsNodeAt, AreReaders, AreReadersBut, BesideReaders}
use Rattle.comm_graph.proofs.Grown.{IsPushed, p_node, p_alone, p_tails, p_sorted, p_readers, p_added, few_nodes, rooms}
use Rattle.comm_graph.proofs.Kept.{node_kept, sorted_kept, tails_kept, readers_but_kept}
use Rattle.comm_graph.proofs.Joins.{same_members}
use Rattle.comm_graph.proofs.Relinks.{keeps_twice}
use Rattle.comm_graph.proofs.Ends.{nodes_append}
use Rattle.comm_graph.proofs.graph.Graph.add.Goals as goal

pub join-requires-clause-node : goal.join-requires-clause-node
join-requires-clause-node c =
    let t = c.self.inside.table in
    p_node t.entries.items t.gone c.args.q c.args.node c.push.new.self.entries.items c.push.new.self.gone c.end-place.result (record { entries = c.push.ensures.entries; gone = c.push.ensures.gone; place = c.end-place.ensures })

pub join-requires-clause-alone : goal.join-requires-clause-alone
join-requires-clause-alone c =
    let t = c.self.inside.table in
    λ u. p_alone t.entries.items t.gone c.args.q c.args.node c.push.new.self.entries.items c.push.new.self.gone c.end-place.result (record { entries = c.push.ensures.entries; gone = c.push.ensures.gone; place = c.end-place.ensures }) (thread u)

pub join-requires-clause-lines : goal.join-requires-clause-lines
join-requires-clause-lines c =
    let t = c.self.inside.table in
    p_tails t.entries.items t.gone c.args.q c.args.node c.push.new.self.entries.items c.push.new.self.gone c.end-place.result (record { entries = c.push.ensures.entries; gone = c.push.ensures.gone; place = c.end-place.ensures }) c.self.inside.tails.items c.self.invariant.acting

pub join-requires-2-clause-node : goal.join-requires-2-clause-node
join-requires-2-clause-node c =
    let t = c.self.inside.table in
    let es1 = c.push.new.self.entries.items in
    let es2 = c.join.new.table.entries.items in
    let g1 = c.push.new.self.gone in
    let is : IsPushed t.entries.items t.gone c.args.q c.args.node es1 g1 c.end-place.result = record { entries = c.push.ensures.entries; gone = c.push.ensures.gone; place = c.end-place.ensures } in
    subst (λ n. IsNodeAt es2 n c.end-place.result c.args.node) (sym c.join.ensures.gone)
    (node_kept es1 es2 g1 c.end-place.result c.args.node c.join.ensures.beside.keeps (p_node t.entries.items t.gone c.args.q c.args.node es1 g1 c.end-place.result is))

pub join-requires-2-clause-sorted : goal.join-requires-2-clause-sorted
join-requires-2-clause-sorted c =
    let s = c.self.inside in
    let t = s.table in
    let es1 = c.push.new.self.entries.items in
    let es2 = c.join.new.table.entries.items in
    let g1 = c.push.new.self.gone in
    let is : IsPushed t.entries.items t.gone c.args.q c.args.node es1 g1 c.end-place.result = record { entries = c.push.ensures.entries; gone = c.push.ensures.gone; place = c.end-place.ensures } in
    let above : AllByRecursion (λ (n : Node). n.number < c.args.q.0) (nodes_of t.entries.items) = subst (AllByRecursion (λ (n : Node). n.number < c.args.q.0)) (sym (ap (λ (v : NodeList). v.nodes) c.self.view_is)) (recursion_from_All (λ (n : Node). n.number < c.args.q.0) c.args.self.now.nodes c.requires.above) in
    subst (λ n. IsSorted es2 n) (sym c.join.ensures.gone)
    (sorted_kept es1 es2 g1 c.join.ensures.beside.keeps (p_sorted t.entries.items t.gone c.args.q c.args.node es1 g1 c.end-place.result is s.tails.items s.count s.greatest c.self.invariant above c.requires.read))

pub join-requires-2-clause-alone : goal.join-requires-2-clause-alone
join-requires-2-clause-alone c =
    let t = c.self.inside.table in
    let es1 = c.push.new.self.entries.items in
    let es2 = c.join.new.table.entries.items in
    let g1 = c.push.new.self.gone in
    let p = c.end-place.result in
    let is : IsPushed t.entries.items t.gone c.args.q c.args.node es1 g1 p = record { entries = c.push.ensures.entries; gone = c.push.ensures.gone; place = c.end-place.ensures } in
    let at : (q : ℕ) → in_line (readers q) es2 g1 p ≡ true → after_of (readers q) es2 g1 p ≡ 0 = λ q m.
    (c.join.ensures.beside.reading q p (sym (same_members (readers q) es1 es2 g1 c.join.ensures.beside.keeps p) ∙ m)).1 ∙ p_alone t.entries.items t.gone c.args.q c.args.node es1 g1 p is (readers q) in
    subst (λ n. (q : ℕ) → in_line (readers q) es2 n p ≡ true → after_of (readers q) es2 n p ≡ 0) (sym c.join.ensures.gone) at

pub join-requires-2-clause-lines : goal.join-requires-2-clause-lines
join-requires-2-clause-lines c =
    let s = c.self.inside in
    let t = s.table in
    let es1 = c.push.new.self.entries.items in
    let es2 = c.join.new.table.entries.items in
    let g1 = c.push.new.self.gone in
    let p = c.end-place.result in
    let is : IsPushed t.entries.items t.gone c.args.q c.args.node es1 g1 p = record { entries = c.push.ensures.entries; gone = c.push.ensures.gone; place = c.end-place.ensures } in
    let above : AllByRecursion (λ (n : Node). n.number < c.args.q.0) (nodes_of t.entries.items) = subst (AllByRecursion (λ (n : Node). n.number < c.args.q.0)) (sym (ap (λ (v : NodeList). v.nodes) c.self.view_is)) (recursion_from_All (λ (n : Node). n.number < c.args.q.0) c.args.self.now.nodes c.requires.above) in
    subst (λ n. AreReadersBut es2 n p) (sym c.join.ensures.gone)
    (readers_but_kept es1 es2 g1 c.join.ensures.beside p (p_readers t.entries.items t.gone c.args.q c.args.node es1 g1 p is s.tails.items s.count s.greatest c.self.invariant above c.requires.read))

pub overflow_add-self : goal.overflow_add-self
overflow_add-self c = let few = few_nodes c.self.inside.table.entries.items in let s = c.self.invariant.small in let n = c.self.invariant.count in let e = c.end-place.ensures in let l = ap length c.push.ensures.entries ∙ length-append c.self.inside.table.entries.items (unlinked c.args.q c.args.node ∷ []) in let r = c.end-place.type_inv in omega arith

pub invariant_of-self : goal.invariant_of-self
invariant_of-self c =
    let s = c.self.inside in
    let t = s.table in
    let es1 = c.push.new.self.entries.items in
    let es2 = c.join.new.table.entries.items in
    let es3 = c.join-2.new.table.entries.items in
    let g1 = c.push.new.self.gone in
    let p = c.end-place.result in
    let is : IsPushed t.entries.items t.gone c.args.q c.args.node es1 g1 p = record { entries = c.push.ensures.entries; gone = c.push.ensures.gone; place = c.end-place.ensures } in
    let above : AllByRecursion (λ (n : Node). n.number < c.args.q.0) (nodes_of t.entries.items) = subst (AllByRecursion (λ (n : Node). n.number < c.args.q.0)) (sym (ap (λ (v : NodeList). v.nodes) c.self.view_is)) (recursion_from_All (λ (n : Node). n.number < c.args.q.0) c.args.self.now.nodes c.requires.above) in
    let beside : BesideReaders es2 es3 g1 = subst (λ n. BesideReaders es2 es3 n) c.join.ensures.gone c.join-2.ensures.beside in
    let reading : AreReaders es3 g1 = subst (λ n. AreReaders es3 n) c.join.ensures.gone c.join-2.ensures.lines in
    subst (λ n. IsSound es3 n c.join.new.tails.items (s.count + 1) c.greatest-self-inside.result) (sym (c.join-2.ensures.gone ∙ c.join.ensures.gone))
    (p_added t.entries.items t.gone c.args.q c.args.node es1 g1 p is s.tails.items s.count s.greatest c.self.invariant above c.requires.read es3 c.join.new.tails.items c.greatest-self-inside.result
    (keeps_twice es1 es2 es3 g1 c.join.ensures.beside.keeps beside.keeps)
    (tails_kept es2 es3 g1 c.join.new.tails.items beside c.join.ensures.lines)
    reading
    (let r = c.end-place.type_inv in omega arith)
    c.greatest-self-inside.ensures.number c.greatest-self-inside.ensures.threads)

pub returns : goal.returns
returns c =
    let t = c.self.inside.table in
    let es1 = c.push.new.self.entries.items in
    let es2 = c.join.new.table.entries.items in
    let es3 = c.join-2.new.table.entries.items in
    let u = c.join-2.new.table in
    let n = ap (λ (v : NodeList). v.nodes) c.self.view_is in
    let nodes : nodes_of es3 ≡ c.args.self.now.nodes ++ record { number = c.args.q.0; kind = c.args.node } ∷ [] =
    c.join-2.ensures.beside.keeps.nodes ∙ c.join.ensures.beside.keeps.nodes ∙ ap nodes_of c.push.ensures.entries ∙ nodes_append t.entries.items (unlinked c.args.q c.args.node ∷ []) ∙ ap (λ ns. ns ++ record { number = c.args.q.0; kind = c.args.node } ∷ []) n in
    let len : length es3 ≡ length t.entries.items + 1 = c.join-2.ensures.beside.keeps.count ∙ c.join.ensures.beside.keeps.count ∙ ap length c.push.ensures.entries ∙ length-append t.entries.items (unlinked c.args.q c.args.node ∷ []) in
    let cap = c.join-2.ensures.capacity ∙ c.join.ensures.capacity ∙ c.push.ensures.capacity in
    let gone = c.join-2.ensures.gone ∙ c.join.ensures.gone ∙ c.push.ensures.gone in
    let spare : spare_of u ≡ c.args.self.now.spare - 1 = rooms t u len cap gone ∙ ap (λ v. v - 1) (ap (λ (v : NodeList). v.spare) c.self.view_is) in
    λ i. record { nodes = nodes i; spare = spare i }
