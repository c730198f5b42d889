-- Threads passed in the order of their numbers, and what is next for them.
use Rattle.std.proofs.Common.{◌≡◌, ℕ, ◌≤◌, true, false, ltb, [], refl, sym, ap, subst, ◌∙◌, arith}
use Rattle.std.specs.Prelude.{Option, Some, None, IfSome, IsSomeAnd, is_some}
use Rattle.std.specs.FinMap as map
use Rattle.std.proofs.lemmas.Bool.{false≢true, ltb-true, ltb-false}
use Rattle.stab_base.specs.declared.fault.Fault.{Fault}
use Rattle.plain_language.specs.declared.look.Look.TheVariants.{Done, Failed}
use Rattle.language.specs.Above.{IsLeastAbove}
use Rattle.language.specs.Expression.{Expr}
use Rattle.language.specs.Plain.{PlainState, look_in, standing}
use Rattle.plain_language.specs.Seen.{seen}
use Rattle.language.specs.Shown.{fault_line, is_done}
use Rattle.language.specs.Table.{Look, done, fault, act, pure}
use Rattle.stab_code.specs.Program.{ProgramParts}

pub done_is : (l : Look Expr) → Done ≡ seen l → is_done l ≡ true
done_is (done v) is = refl
done_is (fault k) is = absurd (let no : Done ≡ Failed k = is in cc)
done_is (act a) is = absurd (let no : Done ≡ seen (act a) = is in cc)
done_is (pure e) is = absurd (let no : Done ≡ seen (pure e) = is in cc)

pub not_done : (l : Look Expr) → (seen l ≡ Done → ⊥) → is_done l ≡ false
not_done (done v) other = absurd (other refl)
not_done (fault k) other = refl
not_done (act a) other = refl
not_done (pure e) other = refl

pub failed_line : (t : ℕ) (l : Look Expr) (k : Fault) → Failed k ≡ seen l → fault_line t (fault k) ≡ fault_line t l
failed_line t (fault j) k is = let same : k ≡ j = cc in ap (λ (x : Fault). fault_line t (fault x)) same
failed_line t (done v) k is = absurd (let no : Failed k ≡ Done = is in cc)
failed_line t (act a) k is = absurd (let no : Failed k ≡ seen (act a) = is in cc)
failed_line t (pure e) k is = absurd (let no : Failed k ≡ seen (pure e) = is in cc)

pub no_line : (t : ℕ) (l : Look Expr) → ((k : Fault) → seen l ≡ Failed k → ⊥) → fault_line t l ≡ []
no_line t (fault k) other = absurd (other k refl)
no_line t (done v) other = refl
no_line t (act a) other = refl
no_line t (pure e) other = refl

module _ (p : ProgramParts) (s : PlainState) where
  abbrev pub Ended : ℕ → Type 0
  Ended u = IfSome (standing s u) (λ e. is_done (look_in p e) ≡ true)

  pub one_passed : (last k : ℕ) (x : Expr) → IsLeastAbove (map.contains_key s.threads) last (Some k) → standing s k ≡ Some x → is_done (look_in p x) ≡ true
      → ((u : ℕ) → u ≤ last → Ended u) → (u : ℕ) → u ≤ k → Ended u
  one_passed last k x least at ended before u le =
      elim (ltb last u) as (λ b. ltb last u ≡ b → Ended u) [
        | false ↦ λ is. before u (ltb-false last u is)
        | true ↦ λ is.
            (elim (standing s u) as (λ o. standing s u ≡ o → IfSome o (λ e. is_done (look_in p e) ≡ true)) [
              | None ↦ λ none. tt
              | (Some e) ↦ λ there.
                  let up : k ≤ u = least.2 u (ltb-true last u is) (ap is_some there) in
                  let same : u ≡ k = omega arith in
                  let both : Some e ≡ Some x = sym there ∙ ap (standing s) same ∙ at in
                  let this : x ≡ e = cc in
                  subst (λ (y : Expr). is_done (look_in p y) ≡ true) this ended
            ]) refl
      ] refl

  pub all_passed : (last : ℕ) → IsLeastAbove (map.contains_key s.threads) last None → ((u : ℕ) → u ≤ last → Ended u) → (u : ℕ) → Ended u
  all_passed last none before u =
      elim (ltb last u) as (λ b. ltb last u ≡ b → Ended u) [
        | false ↦ λ is. before u (ltb-false last u is)
        | true ↦ λ is.
            (elim (standing s u) as (λ o. standing s u ≡ o → IfSome o (λ e. is_done (look_in p e) ≡ true)) [
              | None ↦ λ gone. tt
              | (Some e) ↦ λ there. absurd (false≢true (sym (none u (ltb-true last u is)) ∙ ap is_some there))
            ]) refl
      ] refl

  pub none_passed : standing s 0 ≡ None → (u : ℕ) → u ≤ 0 → Ended u
  none_passed none u le =
      let zero_is : u ≡ 0 = omega arith in
      subst (λ (o : Option Expr). IfSome o (λ e. is_done (look_in p e) ≡ true)) (sym (ap (standing s) zero_is ∙ none)) tt

  pub held_at : (t : ℕ) (e : Expr) → standing s t ≡ Some e → is_done (look_in p e) ≡ false → IsSomeAnd (standing s t) (λ x. is_done (look_in p x) ≡ false)
  held_at t e at waits = subst (λ (o : Option Expr). IsSomeAnd o (λ x. is_done (look_in p x) ≡ false)) (sym at) waits
