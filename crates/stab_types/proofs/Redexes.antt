-- Where the redex of a typed expression is: it has a type, and whatever runs with that type may stand there.
use Rattle.std.proofs.Common.{◌≡◌, ℕ, Bool, true, false, if◌then◌else◌, ◌⊎◌, List, [], ◌∷◌, ◌++◌, slice_get, Option, Some, None, refl, sym, ap, subst, ◌∙◌, inl, inr}
use Rattle.std.specs.Prelude.{IfSome, nat_lt}
use Rattle.std.proofs.lemmas.Bool.{false≢true}
use Rattle.stab_base.specs.Datum.{Datum}
use Rattle.stab_base.specs.declared.fault.Fault.TheVariants.{WrongKind, TooDeep}
use Rattle.stab_code.specs.declared.head.Head as code
use Rattle.stab_code.specs.declared.head.Head.TheVariants as code_head
use Rattle.stab_code.specs.declared.head.Op.TheVariants.{Or, And}
use Rattle.stab_code.specs.Heads.{slots_of}
use Rattle.stab_code.specs.Program.{FunctionParts}
use Rattle.language.specs.declared.head.Head.{Head}
use Rattle.language.specs.declared.head.Head.TheVariants.{Block}
use Rattle.language.specs.Expression.{Expr, value, variable, failed, form, Parts, none, part}
use Rattle.language.specs.Redex.{first_counts_alone, Frame, after_values, within, Redex, redex_of, redex_in, redex, frames_of, frames, rebuild, spine, max_spine, cap}
use Rattle.language.specs.Outcome.{Outcome, becomes, fails, acts, called, outcome}
use Rattle.language.specs.Look.{look_by, look_at, look}
use Rattle.language.specs.Table.{Look, done, fault, act, pure}
use Rattle.stab_types.specs.ExprType.{ExprType, of, all_of}
use Rattle.stab_types.specs.Typed.{behind}
use Rattle.stab_types.proofs.World.{World, IsMore, same_world, AllFit, IsUnder, under_refl, fits_type_more}
use Rattle.stab_types.proofs.Running.{running, slots_in, FormRule, written, section, Runs, AllRun, nothing_seen, runs_under, runs_more, all_more}
use Rattle.stab_types.proofs.Outcomes.{Settled, all_values, first_value, no_part, first_alone, ActFits, OutcomeFits, one, strict_fit, does}

-- the forms of a run are those of the program
record IsSame (c : code.Head) (h : Head) : Type 0 where
  slots : slots_of c ≡ slots_in h
  alone : first_alone c ≡ first_counts_alone h

same_if : (c : code.Head) → IfSome (running c) (IsSame c)
same_if (code_head.Block slots) = record { slots = refl; alone = refl }
same_if (code_head.Two Or) = record { slots = refl; alone = refl }
same_if (code_head.Two And) = record { slots = refl; alone = refl }
same_if code_head.Unit = tt
same_if (code_head.Truth b) = tt
same_if (code_head.Int n) = tt
same_if (code_head.Text t) = tt
same_if (code_head.Var x) = tt
same_if _ = record { slots = refl; alone = refl }

same_form : (c : code.Head) (h : Head) → running c ≡ Some h → IsSame c h
same_form c h e = subst (λ (o : Option Head). IfSome o (IsSame c)) e (same_if c)

-- a part that is evaluated stands under no let
first_part : (h : Head) → (slots_in h ≡ []) ⊎ (first_counts_alone h ≡ true)
first_part (Block slots) = inr refl
first_part _ = inl refl

after_more : (left : List Datum) (v : Datum) (ps : Parts) → after_values (left ++ v ∷ []) ps ≡ after_values left (part (value v) ps)
after_more [] v ps = refl
after_more (x ∷ left) v ps = ap (part (value x)) (after_more left v ps)

module _ (functions : List FunctionParts) where
  -- whatever runs with the first type may stand within these forms, where the whole then runs with the second; so too when more channels and references have types
  abbrev pub Hole : World → List Frame → ExprType → ExprType → Type 0
  Hole w round u t = (v : World) → IsMore w v → (e : Expr) → Runs functions v nothing_seen e u → Runs functions v nothing_seen (within round e) t

  module _ (w : World) where
    -- a part of a form and what else may stand there
    record Focus (slots : List (Option ℕ)) (left : List Datum) (e : Expr) (ps : Parts) (ts : List ExprType) : Type 0 where
      type : ExprType
      runs : Runs functions w nothing_seen e type
      back : (v : World) → IsMore w v → (x : Expr) → Runs functions v nothing_seen x type → AllRun functions v nothing_seen slots (after_values left (part x ps)) ts

    focus : (left : List Datum) (e : Expr) (ps : Parts) (ts : List ExprType) → AllRun functions w nothing_seen [] (after_values left (part e ps)) ts → Focus [] left e ps ts
    focus [] e ps [] r = absurd r
    focus [] e ps (t ∷ ts) r = record { type = t; runs = r.0; back = λ v more x q. (q, all_more functions w v more nothing_seen [] ps ts r.1) }
    focus (y ∷ left) e ps [] r = absurd r
    focus (y ∷ left) e ps (t ∷ ts) r =
        let f = focus left e ps ts r.1 in
        record { type = f.type; runs = f.runs; back = λ v more x q. (fits_type_more w v more y t r.0, f.back v more x q) }

    focus_first : (slots : List (Option ℕ)) (e : Expr) (ps : Parts) (ts : List ExprType) → AllRun functions w nothing_seen slots (part e ps) ts → Focus slots [] e ps ts
    focus_first [] e ps ts r = focus [] e ps ts r
    focus_first (slot ∷ slots) e ps [] r = absurd r
    focus_first (slot ∷ slots) e ps (t ∷ ts) r =
        record { type = t; runs = r.1; back = λ v more x q. (r.0, q, all_more functions w v more (behind slot t nothing_seen) slots ps ts r.2) }

    focus_by : (h : Head) (left : List Datum) (e : Expr) (ps : Parts) (ts : List ExprType) → (first_counts_alone h ≡ true → left ≡ []) → (slots_in h ≡ []) ⊎ (first_counts_alone h ≡ true) →
        AllRun functions w nothing_seen (slots_in h) (after_values left (part e ps)) ts → Focus (slots_in h) left e ps ts
    focus_by h left e ps ts alone (inl bare) r =
        subst (λ (s : List (Option ℕ)). Focus s left e ps ts) (sym bare) (focus left e ps ts (subst (λ (s : List (Option ℕ)). AllRun functions w nothing_seen s (after_values left (part e ps)) ts) bare r))
    focus_by h left e ps ts alone (inr first) r =
        subst (λ (l : List Datum). Focus (slots_in h) l e ps ts) (sym (alone first))
        (focus_first (slots_in h) e ps ts (subst (λ (l : List Datum). AllRun functions w nothing_seen (slots_in h) (after_values l (part e ps)) ts) (alone first) r))

    module _ (body : ℕ → Expr)
        (bodies : (f : ℕ) (callee : FunctionParts) (vs : List Datum) → slice_get functions f ≡ Some callee → AllFit w vs (all_of callee.takes) → Runs functions w nothing_seen (called body f vs) (of callee.gives)) where
      form_does : (h : Head) (vs : List Datum) (rest : Parts) (ts : List ExprType) (u : ExprType) → FormRule functions h ts u → Settled (first_counts_alone h) vs rest →
          AllRun functions w nothing_seen (slots_in h) (after_values vs rest) ts → OutcomeFits functions w (outcome body h vs rest) u
      form_does h vs rest ts u (written {c = c} e rule) s r =
          let same = same_form c h e in
          let settled : Settled (first_alone c) vs rest = subst (λ (b : Bool). Settled b vs rest) (sym same.alone) s in
          let all : AllRun functions w nothing_seen (slots_of c) (after_values vs rest) ts = subst (λ (l : List (Option ℕ)). AllRun functions w nothing_seen l (after_values vs rest) ts) (sym same.slots) r in
          subst (λ (o : Option Head). IfSome o (λ g. OutcomeFits functions w (outcome body g vs rest) u)) e (does functions w body bodies c vs rest ts u rule settled all)
      form_does h vs rest ts u (section m) s r = one functions w vs u u _ (strict_fit functions w vs rest _ s r) (λ v fit. fit)

      abbrev FoundFits : Option Redex → ExprType → Type 0
      FoundFits None t = ⊥
      FoundFits (Some r) t = (u : ExprType) × Hole w r.round u t × OutcomeFits functions w (outcome body r.head r.values r.waiting) u

      abbrev Found : Expr → Option Redex → ExprType → Type 0
      Found (value v) o t = Unit {0}
      Found _ o t = FoundFits o t

      settled_end : (b : Bool) (left : List Datum) → (b ≡ true → left ≡ []) → Settled b left none
      settled_end true left alone = subst (λ (l : List Datum). Settled true l none) (sym (alone refl)) no_part
      settled_end false left alone = all_values

      under_hole : (round : List Frame) (s u t : ExprType) → IsUnder s u → Hole w round u t → Hole w round s t
      under_hole round s u t under hole = λ v more e x. hole v more e (runs_under functions v nothing_seen e s u under x)

      deeper_hole : (h : Head) (left : List Datum) (e : Expr) (ps : Parts) (round : List Frame) (ts : List ExprType) (u t : ExprType) (f : Focus (slots_in h) left e ps ts) → FormRule functions h ts u → Hole w round u t →
          Hole w (record { head = h; left = left; right = ps } ∷ round) f.type t
      deeper_hole h left e ps round ts u t f rule hole = λ v more x q. hole v more (form h (after_values left (part x ps))) (ts, u, f.back v more x q, rule, under_refl u)

      mutual
        find_expr : (e : Expr) (round : List Frame) (u t : ExprType) → Runs functions w nothing_seen e u → Hole w round u t → Found e (redex_of e round) t
        find_expr (value v) round u t r hole = tt
        find_expr (variable x) round u t r hole = let none : None ≡ Some r.0 = r.1 in absurd (cc)
        find_expr (failed k) round u t r hole = absurd r
        find_expr (form h ps) round u t r hole = find ps h [] round r.0 r.1 t (λ e. refl) r.2 r.3 (under_hole round r.1 u t r.4 hole)

        find : (ps : Parts) (h : Head) (left : List Datum) (round : List Frame) (ts : List ExprType) (u t : ExprType) → (first_counts_alone h ≡ true → left ≡ []) →
            AllRun functions w nothing_seen (slots_in h) (after_values left ps) ts → FormRule functions h ts u → Hole w round u t → FoundFits (redex_in ps h left round) t
        find none h left round ts u t alone r rule hole = (u, hole, form_does h left none ts u rule (settled_end (first_counts_alone h) left alone) r)
        find (part (value v) ps) h left round ts u t alone r rule hole =
            elim (first_counts_alone h) as (λ b. first_counts_alone h ≡ b → FoundFits (if b then Some (record { round = round; head = h; values = v ∷ []; waiting = ps }) else redex_in ps h (left ++ v ∷ []) round) t) [
              | true ↦ λ is. (
                u,
                hole,
                form_does h (v ∷ []) ps ts u rule (subst (λ (b : Bool). Settled b (v ∷ []) ps) (sym is) first_value)
                    (subst (λ (l : List Datum). AllRun functions w nothing_seen (slots_in h) (after_values l (part (value v) ps)) ts) (alone is) r),
              )
              | false ↦ λ is. find ps h (left ++ v ∷ []) round ts u t (λ yes. absurd (false≢true (sym is ∙ yes)))
                  (subst (λ (x : Parts). AllRun functions w nothing_seen (slots_in h) x ts) (sym (after_more left v ps)) r) rule hole
            ] refl
        find (part (variable x) ps) h left round ts u t alone r rule hole = let f = focus_by h left (variable x) ps ts alone (first_part h) r in let none : None ≡ Some f.runs.0 = f.runs.1 in absurd (cc)
        find (part (failed k) ps) h left round ts u t alone r rule hole = let f = focus_by h left (failed k) ps ts alone (first_part h) r in absurd f.runs
        find (part (form g qs) ps) h left round ts u t alone r rule hole =
            let f = focus_by h left (form g qs) ps ts alone (first_part h) r in
            find_expr (form g qs) (record { head = h; left = left; right = ps } ∷ round) f.type t f.runs (deeper_hole h left (form g qs) ps round ts u t f rule hole)

  -- an expression of a run: it has a type, or it failed for another reason than a wrong kind
  abbrev pub IsSafe : World → Expr → Type 0
  IsSafe w (failed k) = k ≡ WrongKind → ⊥
  IsSafe w e = (t : ExprType) × Runs functions w nothing_seen e t

  pub safe_of : (w : World) (e : Expr) (t : ExprType) → Runs functions w nothing_seen e t → IsSafe w e
  safe_of w (value v) t r = (t, r)
  safe_of w (variable x) t r = (t, r)
  safe_of w (failed k) t r = absurd r
  safe_of w (form h ps) t r = (t, r)

  too_deep : TooDeep ≡ WrongKind → ⊥
  too_deep e = cc

  pub safe_cap : (w : World) (e : Expr) (t : ExprType) → Runs functions w nothing_seen e t → IsSafe w (cap e)
  safe_cap w e t r = elim (nat_lt max_spine (spine e)) as (λ b. IsSafe w (if b then failed TooDeep else e)) [ true ↦ too_deep | false ↦ safe_of w e t r ]

  pub safe_more : (w v : World) → IsMore w v → (e : Expr) → IsSafe w e → IsSafe v e
  safe_more w v more (value x) s = (s.0, runs_more functions w v more nothing_seen (value x) s.0 s.1)
  safe_more w v more (variable x) s = (s.0, runs_more functions w v more nothing_seen (variable x) s.0 s.1)
  safe_more w v more (failed k) s = s
  safe_more w v more (form h ps) s = (s.0, runs_more functions w v more nothing_seen (form h ps) s.0 s.1)

  module _ (w : World) where
    -- what is next keeps all types, and is no wrong kind; what answers an act may stand in its place
    abbrev pub LookFits : Expr → Look Expr → Type 0
    LookFits e (done v) = Unit {0}
    LookFits e (fault k) = k ≡ WrongKind → ⊥
    LookFits e (pure x) = IsSafe w x
    LookFits e (act a) = (u : ExprType) × ActFits functions w a u × ((v : World) → IsMore w v → (x : Expr) → Runs functions v nothing_seen x u → IsSafe v (cap (rebuild e x)))

    module _ (body : ℕ → Expr)
        (bodies : (f : ℕ) (callee : FunctionParts) (vs : List Datum) → slice_get functions f ≡ Some callee → AllFit w vs (all_of callee.takes) → Runs functions w nothing_seen (called body f vs) (of callee.gives)) where
      by_fits : (e : Expr) (round : List Frame) (o : Outcome) (u t : ExprType) → frames e ≡ round → Hole w round u t → OutcomeFits functions w o u → LookFits e (look_by round o)
      by_fits e round (becomes x) u t is hole fit = safe_cap w (within round x) t (hole w (same_world w) x fit)
      by_fits e round (fails k) u t is hole fit = fit
      by_fits e round (acts a) u t is hole fit =
          (u, fit, λ v more x r. safe_cap v (within (frames e) x) t (subst (λ (fs : List Frame). Runs functions v nothing_seen (within fs x) t) (sym is) (hole v more x r)))

      at_fits : (e : Expr) (o : Option Redex) (t : ExprType) → frames e ≡ frames_of o → FoundFits w body bodies o t → LookFits e (look_at body o)
      at_fits e None t is f = absurd f
      at_fits e (Some r) t is f = by_fits e r.round _ f.0 t is f.1 f.2

      -- the next step of an expression of a run
      pub look_fits : (e : Expr) → IsSafe w e → LookFits e (look body e)
      look_fits (value v) s = tt
      look_fits (failed k) s = s
      look_fits (variable x) s = let none : None ≡ Some s.1.0 = s.1.1 in absurd (cc)
      look_fits (form h ps) s = at_fits (form h ps) (redex (form h ps)) s.0 refl (find_expr w body bodies (form h ps) [] s.0 s.0 s.1 (λ v more x r. r))
