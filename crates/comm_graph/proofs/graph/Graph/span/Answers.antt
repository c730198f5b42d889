use Rattle.std.proofs.Common.{◌+◌, ◌≤◌, length, IsSome, refl, sym, ap, subst}
use Rattle.std.specs.List.{All}
use Rattle.std.proofs.lemmas.List.Elements.{All-from_recursion}
use Rattle.comm_graph.specs.Node.{Node}
use Rattle.comm_graph.specs.Edge.{NodeList, kind_of}
use Rattle.comm_graph.specs.Table.{IsFound}
use Rattle.comm_graph.proofs.Ends.{first_at, last_at}
use Rattle.comm_graph.proofs.Reading.{kind_found}
use Rattle.comm_graph.proofs.Turns.{between, in_order}
use Rattle.comm_graph.proofs.graph.Graph.span.Goals as goal

pub returns-clause-some : goal.returns-clause-some
returns-clause-some c =
    let t = c.self.inside.table in
    let a = c.in_ok-first.first.now in
    let b = c.in_ok-last.last.now in
    let pos = c.in_ok-first.ensures.variant.0 refl in
    let first = first_at t.entries.items t.gone t.entries.len a t.entries.ok.0 pos c.in_ok-first.ensures.lookup in
    let last = last_at t.entries.items t.gone t.entries.len b t.entries.ok.0 pos c.in_ok-last.ensures.lookup in
    subst (λ ns. All (λ (n : Node). (a.number.0 ≤ n.number) × (n.number ≤ b.number.0)) ns) (ap (λ (v : NodeList). v.nodes) c.self.view_is)
    (All-from_recursion (λ (n : Node). (a.number.0 ≤ n.number) × (n.number ≤ b.number.0)) _ (between t.entries.items t.gone a b c.self.invariant.sorted first last))

pub returns-clause-order : goal.returns-clause-order
returns-clause-order c =
    let t = c.self.inside.table in
    let a = c.in_ok-first.first.now in
    let b = c.in_ok-last.last.now in
    let pos = c.in_ok-first.ensures.variant.0 refl in
    let first = first_at t.entries.items t.gone t.entries.len a t.entries.ok.0 pos c.in_ok-first.ensures.lookup in
    let last = last_at t.entries.items t.gone t.entries.len b t.entries.ok.0 pos c.in_ok-last.ensures.lookup in
    in_order t.entries.items t.gone a b c.self.invariant.sorted first last

pub returns-clause-last : goal.returns-clause-last
returns-clause-last c =
    let t = c.self.inside.table in
    let es = t.entries.items in
    let b = c.in_ok-last.last.now in
    let pos = c.in_ok-first.ensures.variant.0 refl in
    let at = last_at es t.gone t.entries.len b t.entries.ok.0 pos c.in_ok-last.ensures.lookup in
    let found : IsFound es t.gone b.number.0 (t.gone + length es) = record { entry = b; at = at; live = c.self.invariant.closed b at; number = refl } in
    subst (λ ns. IsSome (kind_of ns b.number.0)) (ap (λ (v : NodeList). v.nodes) c.self.view_is)
    (subst IsSome (sym (kind_found es t.gone b.number.0 (t.gone + length es) b c.self.invariant.sorted found at)) refl)
