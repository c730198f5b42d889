use Rattle.std.proofs.Common.{sym, subst}
use Rattle.comm_graph.specs.Sound.{IsSound}
use Rattle.comm_graph.proofs.Shrunk.{grown_sound}
use Rattle.comm_graph.proofs.graph.Graph.reserve.Goals as goal

pub invariant_of-self : goal.invariant_of-self
invariant_of-self c =
    let s = c.self.inside in
    let u = c.reserve.new.self in
    subst (λ n. IsSound u.entries.items n c.number_threads.new.tails.items s.count s.greatest) (sym c.reserve.ensures.gone)
    (subst (λ l. IsSound l s.table.gone c.number_threads.new.tails.items s.count s.greatest) (sym c.reserve.ensures.entries)
    (grown_sound s.table.entries.items s.table.gone s.tails.items c.number_threads.new.tails.items s.count s.greatest c.self.invariant c.number_threads.ensures))
