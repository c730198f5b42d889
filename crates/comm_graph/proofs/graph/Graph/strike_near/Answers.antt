use Rattle.std.proofs.Common.{◌≡◌, ◌-◌, ◌≤◌, ◌∙◌, not, nat_eq, filter, length, sym, ap, subst, arith}
use Rattle.comm_graph.specs.Node.{Node}
use Rattle.comm_graph.specs.Edge.{NodeList, kind_of}
use Rattle.comm_graph.specs.Table.{change, struck, AreReaders, AreReadersBut, BesideReaders}
use Rattle.comm_graph.specs.Sound.{IsSound, IsTrimmed, IsClosed, spare_of}
use Rattle.comm_graph.proofs.Tables.{in_range, change_length}
use Rattle.comm_graph.proofs.Kept.{readers_kept}
use Rattle.comm_graph.proofs.ReaderLines.{none_of}
use Rattle.comm_graph.proofs.Reading.{must_be}
use Rattle.comm_graph.proofs.Shrunk.{struck_nodes, struck_sound, more_room, live_counts}
use Rattle.comm_graph.proofs.graph.Graph.strike_near.Goals as goal

pub entry-requires : goal.entry-requires
entry-requires c = let t = c.self.inside.table in in_range t.entries.items t.gone c.in-Some.place c.in-Some.ensures.found.entry c.in-Some.ensures.found.at

pub leave-requires-in-Some-clause-lines : goal.leave-requires-in-Some-clause-lines
leave-requires-in-Some-clause-lines c =
    let t = c.self.inside.table in
    let fs = c.leave.new.table.entries.items in
    subst (λ n. AreReaders fs n) (sym c.leave.ensures.gone) (readers_kept t.entries.items fs t.gone c.leave.ensures.beside c.self.invariant.reading)

pub set_struck-requires : goal.set_struck-requires
set_struck-requires c =
    let t = c.self.inside.table in
    let r = in_range t.entries.items t.gone c.in-Some.place c.in-Some.ensures.found.entry c.in-Some.ensures.found.at in
    omega (arith, c.leave.ensures.gone, c.leave-in-Some.ensures.gone, c.leave.ensures.beside.keeps.count, c.leave-in-Some.ensures.beside.keeps.count)

pub invariant_of-self : goal.invariant_of-self
invariant_of-self c =
    let s = c.self.inside in
    let t = s.table in
    let p = c.in-Some.place in
    let fs = c.leave.new.table.entries.items in
    let gs = c.leave-in-Some.new.table.entries.items in
    let hs = c.trim.new.self.entries.items in
    let left = c.leave.new.tails.items in
    let two = c.leave-in-Some.ensures.gone ∙ c.leave.ensures.gone in
    let three = c.set_struck.ensures.gone ∙ two in
    let others : BesideReaders fs gs t.gone = subst (λ n. BesideReaders fs gs n) c.leave.ensures.gone c.leave-in-Some.ensures.beside in
    let reading : AreReadersBut gs t.gone p = subst (λ n. AreReadersBut gs n p) c.leave.ensures.gone c.leave-in-Some.ensures.lines in
    let entries : c.set_struck.new.self.entries.items ≡ change struck t.gone p gs = c.set_struck.ensures.entries ∙ ap (λ n. change struck n p gs) two in
    let trimmed : IsTrimmed (change struck t.gone p gs) hs t.gone = subst (λ l. IsTrimmed l hs t.gone) entries (subst (λ n. IsTrimmed c.set_struck.new.self.entries.items hs n) three c.trim.ensures.trimmed) in
    let closed : IsClosed hs t.gone = subst (λ n. IsClosed hs n) three c.trim.ensures.closed in
    let some = live_counts t.entries.items t.gone p c.in-Some.ensures.found.entry c.in-Some.ensures.found.at c.in-Some.ensures.found.live in
    let n = c.self.invariant.count in
    subst (λ n. IsSound hs n left (s.count - 1) s.greatest) (sym (c.trim.ensures.gone ∙ three))
    (struck_sound t.entries.items fs gs t.gone p c.args.q.0 s.tails.items left s.count s.greatest c.self.invariant c.in-Some.ensures.found c.leave.ensures.beside c.leave.ensures.lines others reading hs (s.count - 1) trimmed closed (omega arith))

pub returns-in-Some-clause-nodes : goal.returns-in-Some-clause-nodes
returns-in-Some-clause-nodes c =
    let s = c.self.inside in
    let t = s.table in
    let p = c.in-Some.place in
    let fs = c.leave.new.table.entries.items in
    let gs = c.leave-in-Some.new.table.entries.items in
    let hs = c.trim.new.self.entries.items in
    let two = c.leave-in-Some.ensures.gone ∙ c.leave.ensures.gone in
    let three = c.set_struck.ensures.gone ∙ two in
    let others : BesideReaders fs gs t.gone = subst (λ n. BesideReaders fs gs n) c.leave.ensures.gone c.leave-in-Some.ensures.beside in
    let reading : AreReadersBut gs t.gone p = subst (λ n. AreReadersBut gs n p) c.leave.ensures.gone c.leave-in-Some.ensures.lines in
    let entries : c.set_struck.new.self.entries.items ≡ change struck t.gone p gs = c.set_struck.ensures.entries ∙ ap (λ n. change struck n p gs) two in
    let trimmed : IsTrimmed (change struck t.gone p gs) hs t.gone = subst (λ l. IsTrimmed l hs t.gone) entries (subst (λ n. IsTrimmed c.set_struck.new.self.entries.items hs n) three c.trim.ensures.trimmed) in
    struck_nodes t.entries.items fs gs t.gone p c.args.q.0 s.tails.items c.leave.new.tails.items s.count s.greatest c.self.invariant c.in-Some.ensures.found c.leave.ensures.beside c.leave.ensures.lines others reading hs trimmed
    ∙ ap (filter (λ (n : Node). not (nat_eq c.args.q.0 n.number))) (ap (λ (v : NodeList). v.nodes) c.self.view_is)

pub returns-in-Some-clause-spare : goal.returns-in-Some-clause-spare
returns-in-Some-clause-spare c =
    let t = c.self.inside.table in
    let u = c.trim.new.self in
    let gs = c.leave-in-Some.new.table.entries.items in
    let len : length u.entries.items ≤ length t.entries.items =
    (let a = c.trim.ensures.trimmed.count in
    let b = ap length c.set_struck.ensures.entries ∙ change_length struck gs c.leave-in-Some.new.table.gone c.in-Some.place in
    let d = c.leave-in-Some.ensures.beside.keeps.count ∙ c.leave.ensures.beside.keeps.count in
    omega arith) in
    let room = more_room t u len (c.trim.ensures.capacity ∙ c.set_struck.ensures.capacity ∙ c.leave-in-Some.ensures.capacity ∙ c.leave.ensures.capacity) (c.trim.ensures.gone ∙ c.set_struck.ensures.gone ∙ c.leave-in-Some.ensures.gone ∙ c.leave.ensures.gone) in
    subst (λ v. v ≤ spare_of u) (ap (λ (v : NodeList). v.spare) c.self.view_is) room

pub returns-in_default-clause-nodes : goal.returns-in_default-clause-nodes
returns-in_default-clause-nodes c =
    let t = c.self.inside.table in
    absurd (must_be t.entries.items t.gone c.args.q.0 (none_of c.find_near.result _ c.find_near.ensures.none c.in_default.is) (kind_of c.args.self.now.nodes c.args.q.0) (ap (λ ns. kind_of ns c.args.q.0) (sym (ap (λ (v : NodeList). v.nodes) c.self.view_is))) c.requires)
