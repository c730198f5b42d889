use Rattle.std.proofs.Common.{◌≡◌, ℕ, ◌≤◌, ◌<◌, false, ltb, get_or, length, is_some, sym, ap, ◌∙◌, arith}
use Rattle.std.specs.FinMap as map
use Rattle.std.proofs.lemmas.Bool.Decides.{nat_tests}
use Rattle.std.proofs.lemmas.List.{get_or_default, get_or_past}
use Rattle.rendezvous.specs.Nodes.{line_at}
use Rattle.rendezvous.proofs.Numbered.{get-lines}
use Rattle.rendezvous.proofs.Lined.{made_at}
use Rattle.rendezvous.proofs.offers.Offers.contains.Goals as goal

pub returns-then-c-len : goal.returns-then-c-len
returns-then-c-len c =
    let low : c.args.c.0 < length c.self.inside.channels.items = omega (arith, c.self.inside.channels.ok.0) in
    c.index.ensures ∙ get_or_default c.self.inside.channels.items c.args.c.0 c.index.result.now false low
    ∙ sym (made_at (get_or c.self.inside.channels.items c.args.c.0 false) (line_at c.self.inside.lists.lists c.args.c.0))
    ∙ ap is_some (sym (get-lines c.self.inside.channels.items c.self.inside.lists.lists c.args.c.0) ∙ ap (λ s. map.get s.lines c.args.c.0) c.self.view_is)

pub returns-else-c-len : goal.returns-else-c-len
returns-else-c-len c =
    let high : length c.self.inside.channels.items ≤ c.args.c.0 = omega (arith, c.self.inside.channels.ok.0) in
    let off : ltb c.args.c.0 c.len.result ≡ false = not_below c.args.c.0 c.len.result c.if-c-len.false in
    off ∙ sym (get_or_past c.self.inside.channels.items c.args.c.0 false high)
    ∙ sym (made_at (get_or c.self.inside.channels.items c.args.c.0 false) (line_at c.self.inside.lists.lists c.args.c.0))
    ∙ ap is_some (sym (get-lines c.self.inside.channels.items c.self.inside.lists.lists c.args.c.0) ∙ ap (λ s. map.get s.lines c.args.c.0) c.self.view_is)
  where
    not_below : (m n : ℕ) → n ≤ m → ltb m n ≡ false
    not_below m n high = grind (arith, nat_tests)
