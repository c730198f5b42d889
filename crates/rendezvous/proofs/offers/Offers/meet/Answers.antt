use Rattle.std.proofs.Common.{IfSome, nat_eq, option_and_then, slice_get, sym, ap, ◌∙◌, subst}
use Rattle.std.specs.List.{IsDistinct}
use Rattle.std.specs.FinMap as map
use Rattle.rendezvous.specs.Offer.{opposite}
use Rattle.rendezvous.specs.Line.{Line, waiting, IsSound}
use Rattle.rendezvous.specs.Nodes.{line_at}
use Rattle.rendezvous.proofs.Numbered.{get-lines}
use Rattle.rendezvous.proofs.Lined.{listed_one, once_at, IsSound-from_backed}
use Rattle.rendezvous.proofs.offers.Offers.meet.Goals as goal

pub first-requires-clause-list : goal.first-requires-clause-list
first-requires-clause-list c = (listed_one c.self.invariant c.args.self.now.lines c.args.c.0 (ap (λ s. s.lines) c.self.view_is) c.requires).0

pub returns-clause-met : goal.returns-clause-met
returns-clause-met c =
    c.first.ensures ∙ ap (λ s. slice_get (waiting s (line_at c.self.inside.lists.lists c.args.c.0)) 0) c.opposite_of.ensures
    ∙ ap (option_and_then (λ (l : Line). slice_get (waiting (opposite c.args.side) l) 0))
    (sym (listed_one c.self.invariant c.args.self.now.lines c.args.c.0 (ap (λ s. s.lines) c.self.view_is) c.requires).1 ∙ sym (get-lines c.self.inside.channels.items c.self.inside.lists.lists c.args.c.0) ∙ ap (λ s. map.get s.lines c.args.c.0) c.self.view_is)

pub returns-clause-once : goal.returns-clause-once
returns-clause-once c =
    subst (λ o. IfSome o (λ (l : Line). IsDistinct nat_eq (waiting (opposite c.args.side) l)))
    (sym (listed_one c.self.invariant c.args.self.now.lines c.args.c.0 (ap (λ s. s.lines) c.self.view_is) c.requires).1 ∙ sym (get-lines c.self.inside.channels.items c.self.inside.lists.lists c.args.c.0) ∙ ap (λ s. map.get s.lines c.args.c.0) c.self.view_is)
    (once_at (opposite c.args.side) (line_at c.self.inside.lists.lists c.args.c.0) (c.self.invariant.once c.args.c.0))

pub returns-clause-sound : goal.returns-clause-sound
returns-clause-sound c = subst IsSound c.self.view_is (IsSound-from_backed c.self.invariant)
