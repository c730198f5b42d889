use Rattle.std.proofs.Common.{◌≡◌, ℕ, [], ◌∷◌, ◌++◌, map, ap, ◌∙◌, arith, rules}
use Rattle.std.specs.Ordering.{nat_cmp}
use Rattle.std.specs.FinSet.{from_list}
use Rattle.std.proofs.lemmas.Grind.{common_steps}
use Rattle.stab_base.specs.declared.numbers.ChanId.{ChanId}
use Rattle.language.specs.Parts.{channels_of}
use Rattle.language.proofs.Onto.{among, among-empty, among_next, map_push}
use Rattle.plain_language.proofs.parts.by_channel.Goals as goal

abbrev number : ChanId → ℕ
number k = k.0

pub loop-c-init : goal.loop-c-init
loop-c-init c =
    ap (λ ks. among (map number c.args.channels.items) (from_list {R = nat_cmp} ks)) c.new-among.ensures.empty
    ∙ among-empty (map number c.args.channels.items)

pub loop-c-preserved : goal.loop-c-preserved
loop-c-preserved c =
    let items : c.loop-c.channels.items ≡ c.pop.new.self.items ++ c.in-Some.c ∷ [] = first_of (search rules, cc, grind (arith, common_steps)) in
    among_next (channels_of c.args.channels.items) (map number c.loop-c.channels.items) (map number c.pop.new.self.items) c.in-Some.c.0
    (from_list c.loop-c.among.keys) (from_list c.add.new.among.keys)
    c.loop-c.invariant
    (ap (map number) items ∙ map_push number c.pop.new.self.items c.in-Some.c)
    c.in_ok-add.ensures
