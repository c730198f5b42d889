use Rattle.std.proofs.Common.{◌+◌, ◌*◌, ◌<◌, false, length, set, is_some, sym, ap, ◌∙◌, arith}
use Rattle.std.specs.FinMap as map
use Rattle.std.proofs.lemmas.List.{length-set}
use Rattle.rendezvous.specs.Line.{nobody}
use Rattle.rendezvous.proofs.Numbered.{get_or-at, lines-taken}
use Rattle.rendezvous.proofs.Lined.{Backed-set, line_seen, line_unmade, listed_one}
use Rattle.rendezvous.proofs.offers.Offers.unmake.Goals as goal

pub invariant_of-self : goal.invariant_of-self
invariant_of-self c =
    let low : c.args.c.0 < length c.self.inside.channels.items = omega (arith, c.self.inside.channels.ok.0) in
    Backed-set c.self.invariant (set c.self.inside.channels.items c.args.c.0 false) c.args.c.0 false (length-set c.self.inside.channels.items c.args.c.0 false)
    (line_seen c.self.inside.channels.items c.self.inside.lists.lists c.args.self.now.lines c.args.c.0 nobody (ap (λ s. s.lines) c.self.view_is) c.requires)
    (λ d. get_or-at c.self.inside.channels.items c.args.c.0 d false false low)

pub returns-then-c-len-clause-lines : goal.returns-then-c-len-clause-lines
returns-then-c-len-clause-lines c =
    let low : c.args.c.0 < length c.self.inside.channels.items = omega (arith, c.self.inside.channels.ok.0) in
    lines-taken c.self.inside.channels.items (set c.self.inside.channels.items c.args.c.0 false) c.self.inside.lists.lists c.self.inside.lists.lists c.args.c.0
    (λ d. line_unmade c.self.inside.channels.items (set c.self.inside.channels.items c.args.c.0 false) c.self.inside.lists.lists c.args.c.0 d (get_or-at c.self.inside.channels.items c.args.c.0 d false false low))
    ∙ ap (λ s. map.remove s.lines c.args.c.0) c.self.view_is

pub returns-else-c-len-clause-lines : goal.returns-else-c-len-clause-lines
returns-else-c-len-clause-lines c =
    let there : 2 * c.args.c.0 + 1 < length c.self.inside.lists.lists = (listed_one c.self.invariant c.args.self.now.lines c.args.c.0 (ap (λ s. s.lines) c.self.view_is) (ap is_some c.requires)).0 in
    absurd (omega (arith, c.self.invariant.many, c.self.inside.channels.ok.0))
