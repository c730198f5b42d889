use Rattle.std.proofs.Common.{◌≡◌, ◌∙◌, Some, IsSome, ap, subst, sym}
use Rattle.std.specs.Option.{option_copied}
use Rattle.language.specs.Held.{Held}
use Rattle.language.specs.Plain.{standing}
use Rattle.language.proofs.Staying.{still_there}
use Rattle.plain_language.proofs.state.PlainState.spawn.Goals as goal

pub stand-requires : goal.stand-requires
stand-requires c =
    let there : Some c.in_ok-e.e.now ≡ standing c.args.self.now.state c.args.t.0 = sym (ap option_copied c.in_ok-e.ensures.ok_part) ∙ c.expr-2.ensures in
    subst (λ (h : Held). IsSome (standing h.state c.args.t.0)) (sym c.in_ok-put_thread.ensures) (still_there _ c.args.t.0 c.args.u.0 _ _ there)
