-- What a meeting of a sender and a receiver changes.
use Rattle.std.proofs.Common.{◌≡◌, ℕ, true, false, cond, nat_eq, [], ◌∷◌, Some, None, ap, ◌∙◌}
use Rattle.std.specs.Prelude.{pos, option_and_then, option_map}
use Rattle.std.specs.Cmp.{nat_eq_equiv}
use Rattle.stab_base.specs.Datum.{Datum, unit}
use Rattle.stab_base.specs.declared.numbers.ChanId.{ChanId}
use Rattle.stab_base.specs.declared.numbers.ThreadId.{ThreadId}
use Rattle.stab_code.specs.Program.{ProgramParts}
use Rattle.stab_journal.specs.declared.event.Label.TheVariants.{Comm}
use Rattle.language.specs.Effects.{picked_at}
use Rattle.language.specs.Expression.{Expr}
use Rattle.language.specs.Look.{answered}
use Rattle.language.specs.Plain.{PlainState, effect_of, language_of, look_in, standing}
use Rattle.language.specs.Steps.{Effect, effect_in, exprs_at}
use Rattle.language.specs.Table.{sends, picks, act, received_by, sent_by}

module _ (p : ProgramParts) where
  pub picked_first : (c a b : ℕ) (e : Expr) (v : Datum) → look_in p e ≡ act (picks a b) → nat_eq a c ≡ true → received_by (language_of p) c e v (look_in p e) ≡ Some (picked_at e (pos 0) v)
  picked_first c a b e v looks first =
      ap (received_by (language_of p) c e v) looks
      ∙ ap (λ k. cond k (Some (picked_at e (pos 0) v)) (cond (nat_eq b c) (Some (picked_at e (pos 1) v)) None)) first

  pub picked_second : (c a b : ℕ) (e : Expr) (v : Datum) → look_in p e ≡ act (picks a b) → nat_eq a c ≡ false → nat_eq b c ≡ true → received_by (language_of p) c e v (look_in p e) ≡ Some (picked_at e (pos 1) v)
  picked_second c a b e v looks other second =
      ap (received_by (language_of p) c e v) looks
      ∙ ap (λ k. cond k (Some (picked_at e (pos 0) v)) (cond (nat_eq b c) (Some (picked_at e (pos 1) v)) None)) other
      ∙ ap (λ k. cond k (Some (picked_at e (pos 1) v)) None) second

  sent_plain : (c : ℕ) (e : Expr) (v : Datum) → look_in p e ≡ act (sends c v) → sent_by (language_of p) c (look_in p e) ≡ Some v
  sent_plain c e v looks = ap (sent_by (language_of p) c) looks ∙ ap (λ b. cond b (Some v) None) (nat_eq_equiv.refl c)

  -- where a sender and its receiver then stand
  abbrev met : Expr → Expr → Effect Expr
  met a d = record { mine = answered a unit; other = d; value = unit; printed = [] }

  pub comm_effect : (s : PlainState) (q : ℕ) (sender receiver : ThreadId) (c : ChanId) (a b d : Expr) (v : Datum) → standing s sender.0 ≡ Some a → standing s receiver.0 ≡ Some b
      → look_in p a ≡ act (sends c.0 v) → received_by (language_of p) c.0 b v (look_in p b) ≡ Some d
      → effect_in (effect_of p) s q (Comm sender receiver c) ≡ Some (record { mine = answered a unit; other = d; value = unit; printed = [] })
  comm_effect s q sender receiver c a b d v at there looks gets =
      ap (λ o. option_and_then (λ es. effect_of p q (Comm sender receiver c) es None) (option_and_then (λ x. option_map (λ es. x ∷ es) (exprs_at s.threads (receiver.0 ∷ []))) o)) at
      ∙ ap (λ o. option_and_then (λ es. effect_of p q (Comm sender receiver c) es None) (option_map (λ es. a ∷ es) (option_and_then (λ x. option_map (λ es. x ∷ es) (Some [])) o))) there
      ∙ ap (option_and_then (λ x. option_map (met a) (received_by (language_of p) c.0 b x (look_in p b)))) (sent_plain c.0 a v looks)
      ∙ ap (option_map (met a)) gets
