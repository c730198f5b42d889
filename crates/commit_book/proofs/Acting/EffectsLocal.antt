-- What the pure steps of a progress change, and what they leave.
use Rattle.std.proofs.Common.{◌≡◌, ℕ, ◌<◌, zero, suc, false, cond, nat_eq, Some, refl, sym, ap, ◌∙◌, arith}
use Rattle.std.specs.Prelude.{option_map}
use Rattle.std.specs.Cmp.{nat_eq_equiv}
use Rattle.std.specs.FinMap as map
use Rattle.stab_base.specs.declared.numbers.ThreadId.{ThreadId}
use Rattle.stab_code.specs.Program.{ProgramParts}
use Rattle.stab_journal.specs.declared.event.Label.TheVariants.{Local}
use Rattle.language.specs.Expression.{Expr}
use Rattle.language.specs.Plain.{PlainState, effect_of, language_of, standing}
use Rattle.language.specs.Steps.{apply, effect_in}
use Rattle.language.specs.Table.{Act, act, local_by, pure_steps, to}
use Rattle.language.specs.Plain.{look_in}
use Rattle.language.proofs.Applying.{get_inserted}
use Rattle.step_eval.specs.ControlView.{ControlView, expr_of}
use Rattle.step_eval.specs.Progress.{Advances}
use Rattle.journal_laws.specs.Known.{known_in, IsActIn, IsExprIn, IsKnown}
use Rattle.journal_laws.proofs.Runs.{closed}
use Rattle.journal_laws.proofs.Stepping.{plain_of}
use Rattle.journal_laws.proofs.Surviving.{some_is}
use Rattle.commit_book.proofs.Acting.Effects.{alone}
use Rattle.commit_book.proofs.Acting.EffectsHeld.{act_known}

made_local : (p : ProgramParts) (n : ℕ) (e f : Expr) → 0 < n → pure_steps (language_of p) n e ≡ Some f → local_by (language_of p) n e ≡ Some (to (language_of p) f)
made_local p zero e f some made = absurd (omega (arith, some))
made_local p (suc n) e f some made = ap (option_map (to (language_of p))) made

module _ (p : ProgramParts) (s : PlainState) (q : ℕ) (t : ThreadId) (n : ℕ) (origin end : ControlView) (stands : standing s t.0 ≡ Some (expr_of p origin)) (made : Advances p origin n end) where
  pub local_effect : 0 < n → effect_in (effect_of p) s q (Local t n) ≡ Some (to (language_of p) (expr_of p end))
  local_effect some = alone p s q t (expr_of p origin) stands (Local t n) refl ∙ made_local p n (expr_of p origin) (expr_of p end) some made.made

  -- no steps lead nowhere else
  pub unmoved : n ≡ 0 → expr_of p end ≡ expr_of p origin
  unmoved none = sym (some_is (ap (λ k. pure_steps (language_of p) k (expr_of p origin)) (sym none) ∙ made.made))

  -- where the thread then stands, and the others
  pub local_stands : standing (apply s (Local t n) (to (language_of p) (expr_of p end))) t.0 ≡ Some (expr_of p end)
  local_stands = get_inserted s.threads t.0 (expr_of p end) t.0 ∙ ap (λ b. cond b (Some (expr_of p end)) (map.get s.threads t.0)) (nat_eq_equiv.refl t.0)

  pub local_others : (u : ℕ) → nat_eq u t.0 ≡ false → standing (apply s (Local t n) (to (language_of p) (expr_of p end))) u ≡ standing s u
  local_others u other = get_inserted s.threads t.0 (expr_of p end) u ∙ ap (λ b. cond b (Some (expr_of p end)) (map.get s.threads u)) other

  known_later : (k : ℕ) → n ≡ k → IsKnown IsExprIn s → (a : Act Expr) → look_in p (expr_of p end) ≡ act a → IsActIn IsExprIn (known_in s) a
  known_later zero is known a looks = act_known p s t.0 (expr_of p end) a known (stands ∙ ap Some (sym (unmoved is))) looks
  known_later (suc k) is known a looks =
      let found : effect_in (effect_of p) s q (Local t n) ≡ Some (to (language_of p) (expr_of p end)) = local_effect (omega (arith, is)) in
      let later : IsKnown IsExprIn (apply s (Local t n) (to (language_of p) (expr_of p end))) = (closed p).step s _ q (Local t n) known (plain_of (effect_of p) s q (Local t n) (to (language_of p) (expr_of p end)) found refl) in
      act_known p (apply s (Local t n) (to (language_of p) (expr_of p end))) t.0 (expr_of p end) a later local_stands looks

  -- what the act names at which the thread stands after its pure steps is there before them already
  pub act_there : IsKnown IsExprIn s → (a : Act Expr) → look_in p (expr_of p end) ≡ act a → IsActIn IsExprIn (known_in s) a
  act_there known a looks = known_later n refl known a looks
