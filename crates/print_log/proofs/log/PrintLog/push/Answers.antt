use Rattle.std.proofs.Common.{◌≡◌, ◌+◌, ◌-◌, ◌<◌, ◌++◌, ◌∷◌, [], List, length, Some, sym, ap, subst, ◌∙◌, length-append, arith}
use Rattle.std.specs.Prelude.{vec_capacity}
use Rattle.std.specs.List.{AllByRecursion}
use Rattle.print_log.specs.Log.{Print, Prints}
use Rattle.print_log.specs.Layout.{live, IsSound}
use Rattle.print_log.proofs.Entries.{live_end, sound_end}
use Rattle.print_log.proofs.log.PrintLog.push.Goals as goal

pub invariant_of-self : goal.invariant_of-self
invariant_of-self c =
    subst IsSound (sym c.push_reserved.ensures.items)
    (sound_end c.self.inside.recent.items c.args.q c.args.v c.self.invariant (subst (λ (p : Prints). AllByRecursion (λ (x : Print). x.number < c.args.q.0) p.recent) (sym c.self.view_is) c.requires.later))

pub returns : goal.returns
returns c =
    let es = c.self.inside.recent.items in
    let new = c.push_reserved.new.self.items in
    let long : length new ≡ length es + 1 = ap length c.push_reserved.ensures.items ∙ length-append es (record { number = c.args.q; value = Some c.args.v } ∷ []) in
    let room = c.push_reserved.ensures.capacity in
    let spare : vec_capacity c.push_reserved.new.self - length new ≡ vec_capacity c.self.inside.recent - length es - 1 = omega (arith, long, room) in
    ap (λ (ps : List Print). record { finals = c.self.inside.finals.items; recent = ps; spare = vec_capacity c.push_reserved.new.self - length new; places = vec_capacity c.self.inside.finals - length c.self.inside.finals.items }) (ap live c.push_reserved.ensures.items ∙ live_end es c.args.q c.args.v)
    ∙ ap (λ n. record { finals = c.self.inside.finals.items; recent = live es ++ record { number = c.args.q.0; value = c.args.v } ∷ []; spare = n; places = vec_capacity c.self.inside.finals - length c.self.inside.finals.items }) spare
    ∙ ap (λ (p : Prints). record p { recent = p.recent ++ record { number = c.args.q.0; value = c.args.v } ∷ []; spare = p.spare - 1 }) c.self.view_is
