use Rattle.std.proofs.Common.{false, true, cond, nat_eq, set, ap, ◌∙◌}
use Rattle.std.specs.FinMap as map
use Rattle.rendezvous.specs.Line.{nobody}
use Rattle.rendezvous.proofs.Numbered.{get_or-at, lines-same, lines-put}
use Rattle.rendezvous.proofs.Lined.{always, opened_line, same_lines_at, line_made, unmade_there}
use Rattle.rendezvous.proofs.offers.Offers.make.Goals as goal

pub returns-in_err-open_channels-clause-err : goal.returns-in_err-open_channels-clause-err
returns-in_err-open_channels-clause-err c =
    always c.from_residual.result
    (lines-same c.self.inside.channels.items c.open_channels.new.channels.items c.self.inside.lists.lists c.open_channels.new.lists.lists
    (λ d. opened_line c.self.inside.channels.items c.open_channels.new.channels.items c.self.inside.lists.lists c.open_channels.new.lists.lists d (c.open_channels.ensures.there d) (same_lines_at c.self.inside.lists.lists c.open_channels.new.lists.lists c.open_channels.ensures.lists d))
    ∙ ap (λ s. s.lines) c.self.view_is)

pub returns-clause-ok : goal.returns-clause-ok
returns-clause-ok c =
    lines-put c.self.inside.channels.items (set c.open_channels.new.channels.items c.args.c.0 true) c.self.inside.lists.lists c.open_channels.new.lists.lists c.args.c.0 nobody
    (λ d. line_made c.self.inside.channels.items (set c.open_channels.new.channels.items c.args.c.0 true) c.self.inside.lists.lists c.open_channels.new.lists.lists c.args.c.0 d
    (get_or-at c.open_channels.new.channels.items c.args.c.0 d true false c.in_ok-open_channels.ensures.enough ∙ ap (λ b. cond (nat_eq d c.args.c.0) true b) (c.open_channels.ensures.there d))
    (same_lines_at c.self.inside.lists.lists c.open_channels.new.lists.lists c.open_channels.ensures.lists d)
    (c.self.invariant.unmade c.args.c.0 (unmade_there c.self.inside.channels.items c.self.inside.lists.lists c.args.self.now.lines c.args.c.0 (ap (λ s. s.lines) c.self.view_is) c.requires)))
    ∙ ap (λ s. map.insert s.lines c.args.c.0 nobody) c.self.view_is
