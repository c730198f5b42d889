-- What a get and a set change, and that the references and channels at which a thread stands are there.
use Rattle.std.proofs.Common.{◌≡◌, ℕ, true, cond, List, [], Some, None, refl, ap, subst, ◌∙◌}
use Rattle.std.specs.Prelude.{is_some, option_map}
use Rattle.std.specs.Cmp.{nat_eq_equiv}
use Rattle.std.specs.FinMap as map
use Rattle.std.proofs.lemmas.Bool.{false≢true}
use Rattle.stab_base.specs.Datum.{Datum, unit}
use Rattle.stab_base.specs.declared.numbers.RefId.{RefId}
use Rattle.stab_base.specs.declared.numbers.ThreadId.{ThreadId}
use Rattle.stab_code.specs.Program.{ProgramParts}
use Rattle.stab_journal.specs.declared.event.Event.{Event}
use Rattle.stab_journal.specs.declared.event.Label.TheVariants.{Get, Set}
use Rattle.stab_journal.specs.declared.event.Numbered.{Numbered}
use Rattle.language.specs.Expression.{Expr}
use Rattle.language.specs.Look.{answered}
use Rattle.language.specs.Plain.{PlainState, effect_of, language_of, look_in, standing}
use Rattle.language.specs.Standing.{StandsFor}
use Rattle.language.specs.Steps.{effect_in}
use Rattle.language.specs.Table.{gets, sets, Act, act, to, get_by, set_by}
use Rattle.journal_laws.specs.Known.{known_in, IsActIn, IsExprIn, IsKnown, IsLookIn}
use Rattle.journal_laws.proofs.Occurring.{kept}
use Rattle.journal_laws.proofs.Runs.{run_known}
use Rattle.journal_laws.proofs.Undone.{stands_run}
use Rattle.commit_book.proofs.Acting.Effects.{alone}

module _ (p : ProgramParts) (s : PlainState) (q : ℕ) (t : ThreadId) (e : Expr) (stands : standing s t.0 ≡ Some e) where
  pub get_effect : (r : RefId) (v : Datum) → look_in p e ≡ act (gets r.0) → map.get s.references r.0 ≡ Some v → effect_in (effect_of p) s q (Get t r) ≡ Some (to (language_of p) (answered e v))
  get_effect r v looks holds =
      alone p s q t e stands (Get t r) refl
      ∙ ap (get_by (language_of p) r.0 e (map.get s.references r.0)) looks
      ∙ ap (λ b. cond b (option_map (λ x. to (language_of p) (answered e x)) (map.get s.references r.0)) None) (nat_eq_equiv.refl r.0)
      ∙ ap (option_map (λ x. to (language_of p) (answered e x))) holds

  pub set_effect : (r : RefId) (v : Datum) → look_in p e ≡ act (sets r.0 v) → effect_in (effect_of p) s q (Set t r) ≡ Some (record { mine = answered e unit; other = e; value = v; printed = [] })
  set_effect r v looks =
      alone p s q t e stands (Set t r) refl
      ∙ ap (set_by (language_of p) r.0 e) looks
      ∙ ap (λ b. cond b (Some (record { mine = answered e unit; other = e; value = v; printed = [] })) None) (nat_eq_equiv.refl r.0)

-- a history leads to a state in which each channel and each reference that occurs is there
pub known_at : (p : ProgramParts) (events : List Event) (run : List Numbered) (s : PlainState) → StandsFor p events run s → IsKnown IsExprIn s
known_at p events run s stands = run_known p s run (stands_run p events run s stands).1

-- so is what a thread's act names
pub act_known : (p : ProgramParts) (s : PlainState) (t : ℕ) (e : Expr) (a : Act Expr) → IsKnown IsExprIn s → standing s t ≡ Some e → look_in p e ≡ act a → IsActIn IsExprIn (known_in s) a
act_known p s t e a known stands looks = subst (IsLookIn IsExprIn (known_in s)) looks ((kept p).look (known_in s) e (known.threads t e stands))

-- a reference that is there holds a value
pub record Holds (s : PlainState) (r : ℕ) : Type 0 where
  pub value : Datum
  pub is : map.get s.references r ≡ Some value

pub holds_of : (s : PlainState) (r : ℕ) → map.contains_key s.references r ≡ true → Holds s r
holds_of s r there =
    elim (map.get s.references r) as (λ o. map.get s.references r ≡ o → is_some o ≡ true → Holds s r) [
      | None ↦ λ is h. absurd (false≢true h)
      | (Some v) ↦ λ is h. record { value = v; is = is }
    ] refl there
