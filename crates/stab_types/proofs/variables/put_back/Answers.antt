use Rattle.std.proofs.Common.{◌≡◌, ◌∷◌, ◌++◌, [], ◌∙◌}
use Rattle.stab_types.specs.declared.variables.Hidden.{Hidden}
use Rattle.stab_types.proofs.Lets.{put_back_last, within_rest}
use Rattle.stab_types.proofs.variables.put_back.Goals as goal

pub loop-last-preserved : goal.loop-last-preserved
loop-last-preserved c =
    let seen = c.loop-last.seen in
    let last : Hidden = c.in-Some.last in
    let rest = c.pop.new.self.items in
    let items : c.loop-last.hidden.items ≡ rest ++ last ∷ [] = c.in-Some.ensures.items in
    record {
      within = within_rest seen c.loop-last.hidden.items rest last items c.loop-last.invariant.within;
      back = put_back_last seen c.loop-last.hidden.items rest last items ∙ c.loop-last.invariant.back;
    }
