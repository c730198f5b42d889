use Rattle.std.proofs.Common.{◌≤◌, ◌<◌, None, length, sym, ap, ◌∙◌, arith}
use Rattle.std.specs.FinMap as map
use Rattle.std.proofs.lemmas.List.{get_or_default, get_or_past}
use Rattle.rendezvous.proofs.Numbered.{get-by_number}
use Rattle.rendezvous.proofs.offers.Offers.offer.Goals as goal

pub returns-then-t-len : goal.returns-then-t-len
returns-then-t-len c =
    let high : length c.self.inside.offers.items ≤ c.args.t.0 = omega (arith, c.self.inside.offers.ok.0) in
    sym (get_or_past c.self.inside.offers.items c.args.t.0 None high) ∙ sym (get-by_number c.self.inside.offers.items c.args.t.0) ∙ ap (λ s. map.get s.offers c.args.t.0) c.self.view_is

pub returns : goal.returns
returns c =
    let low : c.args.t.0 < length c.self.inside.offers.items = omega (arith, c.self.inside.offers.ok.0) in
    c.index.ensures ∙ get_or_default c.self.inside.offers.items c.args.t.0 c.index.result.now None low
    ∙ sym (get-by_number c.self.inside.offers.items c.args.t.0) ∙ ap (λ s. map.get s.offers c.args.t.0) c.self.view_is
