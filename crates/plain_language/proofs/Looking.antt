-- What is next for an expression, by its redex.
use Rattle.std.proofs.Common.{◌≡◌, List, ℕ, suc, ◌+◌, ◌<◌, Some, None, refl, sym, ap, ◌∙◌, arith}
use Rattle.std.specs.Prelude.{option_and_then, ◌-◌}
use Rattle.language.specs.declared.head.Head.{Head}
use Rattle.plain_language.specs.declared.look.Look.TheVariants.{Act as ActLook}
use Rattle.language.specs.Expression.{Expr, value, variable, failed, form}
use Rattle.language.specs.Redex.{first_counts_alone, Frame, Redex, redex}
use Rattle.language.specs.Busy.{counted, waiting_parts, redex_with, IsRedexOf}
use Rattle.language.specs.Outcome.{Outcome, becomes, fails, acts, outcome}
use Rattle.language.specs.Outcome.{told}
use Rattle.plain_language.specs.Seen.{kind_of, seen}
use Rattle.language.specs.Table.{Act, pure_of, pure_steps}
use Rattle.language.specs.Look.{look, look_at, look_by, language}

-- what the redex with this head and these parts does
abbrev pub outcome_with : (ℕ → Expr) → Head → List Expr → Outcome
outcome_with body h es = outcome body h (counted (first_counts_alone h) es) (waiting_parts (first_counts_alone h) es)

module _ (body : ℕ → Expr) where
  look_some : (e : Expr) (r : Redex) → redex e ≡ Some r → look body e ≡ look_at body (Some r)
  look_some (value v) r h = cc
  look_some (variable x) r h = cc
  look_some (failed k) r h = cc
  look_some (form g ps) r h = ap (look_at body) h

  pub look_redex : (e : Expr) (h : Head) (es : List Expr) (r : IsRedexOf e h es) → look body e ≡ look_by r.round (outcome_with body h es)
  look_redex e h es r = look_some e (redex_with r.round h es) r.is

  act_seen : (round : List Frame) (o : Outcome) (a : Act Expr) → Some a ≡ told o → seen (look_by round o) ≡ ActLook (kind_of a)
  act_seen round (becomes e) a h = cc
  act_seen round (fails k) a h = cc
  act_seen round (acts b) a h = let same : b ≡ a = cc in ap (λ x. ActLook (kind_of x)) same

  pub look_act : (e : Expr) (h : Head) (es : List Expr) (r : IsRedexOf e h es) (a : Act Expr) → Some a ≡ told (outcome_with body h es) → ActLook (kind_of a) ≡ seen (look body e)
  look_act e h es r a is = sym (ap seen (look_redex e h es r) ∙ act_seen r.round (outcome_with body h es) a is)

  act_stays : (round : List Frame) (o : Outcome) (a : Act Expr) → Some a ≡ told o → pure_of (language body) (look_by round o) ≡ None
  act_stays round (becomes e) a h = cc
  act_stays round (fails k) a h = cc
  act_stays round (acts b) a h = refl

  -- an act is no pure step
  pub no_pure_at_act : (e : Expr) (h : Head) (es : List Expr) (r : IsRedexOf e h es) (a : Act Expr) → Some a ≡ told (outcome_with body h es) → pure_of (language body) (look body e) ≡ None
  no_pure_at_act e h es r a is = ap (pure_of (language body)) (look_redex e h es r) ∙ act_stays r.round (outcome_with body h es) a is

  one_more : (m k : ℕ) (e f : Expr) → m ≡ suc k → Some f ≡ pure_of (language body) (look body e) → pure_steps (language body) m e ≡ pure_steps (language body) k f
  one_more m k e f more is = ap (λ n. pure_steps (language body) n e) more ∙ ap (option_and_then (pure_steps (language body) k)) (sym is)

  -- n steps, of which i are made
  pub one_step_more : (n i : ℕ) (e f : Expr) → i < n → Some f ≡ pure_of (language body) (look body e) → pure_steps (language body) (n - i) e ≡ pure_steps (language body) (n - (i + 1)) f
  one_step_more n i e f less is = one_more (n - i) (n - (i + 1)) e f (omega arith) is
