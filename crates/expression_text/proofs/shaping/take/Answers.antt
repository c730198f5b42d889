use Rattle.std.proofs.Common.{◌≡◌, ◌+◌, ◌-◌, ◌≤◌, ◌++◌, ◌∷◌, [], refl, arith, rules}
use Rattle.std.proofs.lemmas.Grind.{common_steps}
use Rattle.expression_text.proofs.Owing.{lowered, popped}
use Rattle.expression_text.proofs.shaping.take.Goals as goal

pub returns-then-top-gt1 : goal.returns-then-top-gt1
returns-then-top-gt1 c =
    let items : c.args.owes.now.items ≡ c.pop.new.self.items ++ c.in-Some.top ∷ [] = first_of (search rules, cc, grind (arith, common_steps)) in
    let one : c.in-Some.top.count ≡ (c.in-Some.top.count - 1) + 1 = omega arith in
    let some : 1 ≤ c.in-Some.top.count - 1 = omega arith in
    lowered c.args.owes.now.items c.pop.new.self.items c.push_reserved.new.self.items c.in-Some.top (record { what = c.in-Some.top.what; count = c.in-Some.top.count - 1 }) items c.push_reserved.ensures.items c.requires refl one some

pub returns-else-top-gt1 : goal.returns-else-top-gt1
returns-else-top-gt1 c =
    let items : c.args.owes.now.items ≡ c.pop.new.self.items ++ c.in-Some.top ∷ [] = first_of (search rules, cc, grind (arith, common_steps)) in
    let few : c.in-Some.top.count ≤ 1 = omega arith in
    popped c.args.owes.now.items c.pop.new.self.items c.in-Some.top items c.requires few
