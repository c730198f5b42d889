use Rattle.std.proofs.Common.{◌≡◌, ◌∙◌, Some, IsSome, ap, subst, sym}
use Rattle.std.specs.Option.{option_copied}
use Rattle.language.specs.Held.{Held}
use Rattle.language.specs.Plain.{standing}
use Rattle.language.proofs.Staying.{still_there}
use Rattle.plain_language.proofs.state.PlainState.meet.Goals as goal

pub stand-requires-2 : goal.stand-requires-2
stand-requires-2 c =
    let there : Some c.in_ok-a.a.now ≡ standing c.args.self.now.state c.args.s.0 = sym (ap option_copied c.in_ok-a.ensures.ok_part) ∙ c.expr.ensures in
    subst (λ (h : Held). IsSome (standing h.state c.args.s.0)) (sym c.stand.ensures) (still_there _ c.args.s.0 c.args.r.0 _ _ there)
