use Rattle.std.proofs.Common.{◌≡◌, ◌≤◌, ◌<◌, false, Some, None, cond, nat_eq, length, get_or, set, option_map, sym, ap, ◌∙◌, arith}
use Rattle.std.specs.FinMap as map
use Rattle.std.proofs.lemmas.List.{length-set, get_or_past}
use Rattle.rendezvous.specs.Line.{left}
use Rattle.rendezvous.specs.Nodes.{line_at}
use Rattle.linked_lists.specs.Numbered.{by_number}
use Rattle.rendezvous.specs.Layout.{lines_from}
use Rattle.rendezvous.proofs.Numbered.{get-lines, get-by_number, get_or-at, by_number-same, by_number-taken, lines-same}
use Rattle.rendezvous.proofs.Lined.{away, unchanged, taken_alone, left_line, option_line, HasNoOffer-left, Backed-left}
use Rattle.rendezvous.proofs.offers.Offers.withdraw.Goals as goal

pub returns-then-t-len-clause-lines : goal.returns-then-t-len-clause-lines
returns-then-t-len-clause-lines c = λ d.
    let high : length c.self.inside.offers.items ≤ c.args.t.0 = omega (arith, c.self.inside.offers.ok.0) in
    unchanged c.self.invariant c.args.self.now.lines c.args.t.0 d (ap (λ s. s.lines) c.self.view_is) (get_or_past c.self.inside.offers.items c.args.t.0 None high)

pub returns-then-t-len-clause-offers : goal.returns-then-t-len-clause-offers
returns-then-t-len-clause-offers c =
    let high : length c.self.inside.offers.items ≤ c.args.t.0 = omega (arith, c.self.inside.offers.ok.0) in
    ap (λ s. s.offers) (sym c.self.view_is)
    ∙ by_number-taken c.self.inside.offers.items c.self.inside.offers.items c.args.t.0 (λ q. taken_alone c.self.inside.offers.items c.args.t.0 q (get_or_past c.self.inside.offers.items c.args.t.0 None high))
    ∙ ap (λ s. map.remove s.offers c.args.t.0) c.self.view_is

pub returns-then-t-len-clause-gone : goal.returns-then-t-len-clause-gone
returns-then-t-len-clause-gone c = HasNoOffer-left c.args.self.now.lines c.args.self.now.lines c.args.t.0 (returns-then-t-len-clause-lines c)

pub invariant_of-self : goal.invariant_of-self
invariant_of-self c =
    let low : c.args.t.0 < length c.self.inside.offers.items = omega (arith, c.self.inside.offers.ok.0) in
    Backed-left c.self.invariant (set c.self.inside.offers.items c.args.t.0 None) c.leave.new.lists c.args.t.0 (λ u. get_or-at c.self.inside.offers.items c.args.t.0 u None None low) (length-set c.self.inside.offers.items c.args.t.0 None)
    c.leave.ensures.lines c.leave.ensures.nought c.leave.ensures.many c.leave.ensures.places

pub returns-clause-lines : goal.returns-clause-lines
returns-clause-lines c = λ d.
    get-lines c.self.inside.channels.items c.leave.new.lists.lists d
    ∙ option_line (get_or c.self.inside.channels.items d false) (left c.args.t.0) (line_at c.self.inside.lists.lists d) (line_at c.leave.new.lists.lists d) (c.leave.ensures.lines d)
    ∙ ap (option_map (left c.args.t.0)) (sym (get-lines c.self.inside.channels.items c.self.inside.lists.lists d) ∙ ap (λ s. map.get s.lines d) c.self.view_is)

pub returns-clause-offers : goal.returns-clause-offers
returns-clause-offers c =
    let low : c.args.t.0 < length c.self.inside.offers.items = omega (arith, c.self.inside.offers.ok.0) in
    by_number-taken c.self.inside.offers.items (set c.self.inside.offers.items c.args.t.0 None) c.args.t.0 (λ u. get_or-at c.self.inside.offers.items c.args.t.0 u None None low)
    ∙ ap (λ s. map.remove s.offers c.args.t.0) c.self.view_is

pub returns-clause-gone : goal.returns-clause-gone
returns-clause-gone c = HasNoOffer-left c.args.self.now.lines _ c.args.t.0 (returns-clause-lines c)

pub returns-clause-absent : goal.returns-clause-absent
returns-clause-absent c = λ none.
    let low : c.args.t.0 < length c.self.inside.offers.items = omega (arith, c.self.inside.offers.ok.0) in
    let nothing : get_or c.self.inside.offers.items c.args.t.0 None ≡ None = sym (get-by_number c.self.inside.offers.items c.args.t.0) ∙ ap (λ s. map.get s.offers c.args.t.0) c.self.view_is ∙ none in
    let lines : by_number 0 (lines_from 0 c.self.inside.channels.items c.leave.new.lists.lists) ≡ by_number 0 (lines_from 0 c.self.inside.channels.items c.self.inside.lists.lists) =
    lines-same c.self.inside.channels.items c.self.inside.channels.items c.self.inside.lists.lists c.leave.new.lists.lists
    (λ d. ap (λ l. cond (get_or c.self.inside.channels.items d false) (Some l) None) (c.leave.ensures.lines d ∙ left_line c.args.t.0 (line_at c.self.inside.lists.lists d) (away c.self.invariant c.args.t.0 nothing d))) in
    let offers : by_number 0 (set c.self.inside.offers.items c.args.t.0 None) ≡ by_number 0 c.self.inside.offers.items =
    by_number-same c.self.inside.offers.items (set c.self.inside.offers.items c.args.t.0 None) (λ u. get_or-at c.self.inside.offers.items c.args.t.0 u None None low ∙ sym (taken_alone c.self.inside.offers.items c.args.t.0 u nothing)) in
    (λ i. record { lines = lines i; offers = offers i }) ∙ c.self.view_is
