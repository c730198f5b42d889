use Rattle.std.proofs.Common.{◌≡◌, Some, None, false, cond, nat_eq, get_or, set, option_map, sym, ap, ◌∙◌, subst}
use Rattle.std.specs.FinMap as map
use Rattle.std.proofs.lemmas.List.{length-set}
use Rattle.rendezvous.specs.Line.{joined}
use Rattle.rendezvous.specs.Nodes.{line_at, IsAway, AreListed}
use Rattle.linked_lists.specs.Numbered.{by_number}
use Rattle.rendezvous.specs.Layout.{lines_from}
use Rattle.rendezvous.proofs.Numbered.{get-lines, get-by_number, get_or-at, by_number-same, by_number-put}
use Rattle.rendezvous.proofs.Lined.{always, away, listed, made_there, option_line, Backed-threads, Backed-joined}
use Rattle.rendezvous.proofs.offers.Offers.park.Goals as goal

pub returns-in_err-open_threads-clause-err : goal.returns-in_err-open_threads-clause-err
returns-in_err-open_threads-clause-err c =
    let lines : by_number 0 (lines_from 0 c.self.inside.channels.items c.open_threads.new.lists.lists) ≡ by_number 0 (lines_from 0 c.self.inside.channels.items c.self.inside.lists.lists) = ap (λ ls. by_number 0 (lines_from 0 c.self.inside.channels.items ls)) c.open_threads.ensures.lists in
    let offers : by_number 0 c.open_threads.new.offers.items ≡ by_number 0 c.self.inside.offers.items = by_number-same c.self.inside.offers.items c.open_threads.new.offers.items c.open_threads.ensures.offers in
    always c.from_residual.result ((λ i. record { lines = lines i; offers = offers i }) ∙ c.self.view_is)

pub enter-requires-clause-away : goal.enter-requires-clause-away
enter-requires-clause-away c =
    subst (IsAway c.args.t.0) (sym c.open_threads.ensures.lists) (away c.self.invariant c.args.t.0 (sym (get-by_number c.self.inside.offers.items c.args.t.0) ∙ ap (λ s. map.get s.offers c.args.t.0) c.self.view_is ∙ c.requires.none))

pub enter-requires-clause-listed : goal.enter-requires-clause-listed
enter-requires-clause-listed c =
    subst (AreListed c.args.offer) (sym c.open_threads.ensures.lists) (listed c.self.invariant c.args.self.now.lines c.args.offer (ap (λ s. s.lines) c.self.view_is) c.requires.there)

pub invariant_of-self-2 : goal.invariant_of-self-2
invariant_of-self-2 c =
    let room = Backed-threads c.self.invariant c.open_threads.new.offers.items c.open_threads.new.lists c.open_threads.ensures.offers c.open_threads.ensures.lists c.open_threads.ensures.nodes c.open_threads.ensures.few in
    Backed-joined room (set c.open_threads.new.offers.items c.args.t.0 (Some c.args.offer)) c.enter.new.lists c.args.t.0 c.args.offer
    (c.open_threads.ensures.offers c.args.t.0 ∙ sym (get-by_number c.self.inside.offers.items c.args.t.0) ∙ ap (λ s. map.get s.offers c.args.t.0) c.self.view_is ∙ c.requires.none)
    (λ d on. made_there c.self.inside.channels.items c.self.inside.lists.lists c.args.self.now.lines d (ap (λ s. s.lines) c.self.view_is) (c.requires.there d on))
    (λ u. get_or-at c.open_threads.new.offers.items c.args.t.0 u (Some c.args.offer) None c.in_ok-open_threads.ensures.enough)
    (length-set c.open_threads.new.offers.items c.args.t.0 (Some c.args.offer))
    c.enter.ensures.lines (c.enter.ensures.nought room.nought) c.enter.ensures.many c.enter.ensures.places

pub returns-clause-ok : goal.returns-clause-ok
returns-clause-ok c = λ d.
    get-lines c.self.inside.channels.items c.enter.new.lists.lists d
    ∙ option_line (get_or c.self.inside.channels.items d false) (joined c.args.t.0 c.args.offer d) (line_at c.self.inside.lists.lists d) (line_at c.enter.new.lists.lists d)
    (c.enter.ensures.lines d ∙ ap (λ ls. joined c.args.t.0 c.args.offer d (line_at ls d)) c.open_threads.ensures.lists)
    ∙ ap (option_map (joined c.args.t.0 c.args.offer d)) (sym (get-lines c.self.inside.channels.items c.self.inside.lists.lists d) ∙ ap (λ s. map.get s.lines d) c.self.view_is)

pub returns-clause-offers : goal.returns-clause-offers
returns-clause-offers c =
    by_number-put c.self.inside.offers.items (set c.open_threads.new.offers.items c.args.t.0 (Some c.args.offer)) c.args.t.0 c.args.offer
    (λ u. get_or-at c.open_threads.new.offers.items c.args.t.0 u (Some c.args.offer) None c.in_ok-open_threads.ensures.enough ∙ ap (cond (nat_eq u c.args.t.0) (Some c.args.offer)) (c.open_threads.ensures.offers u))
    ∙ ap (λ s. map.insert s.offers c.args.t.0 c.args.offer) c.self.view_is
