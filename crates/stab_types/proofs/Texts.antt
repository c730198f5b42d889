-- What the text of a typed program runs with.
use Rattle.std.proofs.Common.{◌≡◌, ℕ, zero, suc, ◌+◌, ◌≤◌, true, false, cond, nat_eq, List, [], ◌∷◌, ◌++◌, length, take, slice_get, Option, Some, None, refl, sym, ap, subst, ◌∙◌, arith, inl, inr}
use Rattle.std.specs.List.{range_with_len}
use Rattle.std.proofs.lemmas.Bool.{false≢true}
use Rattle.std.proofs.lemmas.Bool.Decides.{nat_tests}
use Rattle.stab_base.specs.Datum.{Datum, unit, truth, int, text}
use Rattle.stab_code.specs.declared.head.Head as code
use Rattle.stab_code.specs.declared.head.Head.TheVariants as code_head
use Rattle.stab_code.specs.declared.head.Head.TheVariants.{Truth, Int, Text, Var}
use Rattle.stab_code.specs.EachForm.{AllForms, AllFormsIn, count_of}
use Rattle.stab_code.specs.Heads.{slots_of, strict_parts}
use Rattle.stab_code.specs.Program.{FunctionParts, ProgramParts, arity_of, body_of}
use Rattle.stab_code.specs.Syntax.{lets_of, lets_from, with_own}
use Rattle.stab_code.specs.Trees.{Tree, Trees, tree, none, more, fold_all}
use Rattle.stab_code.specs.Valid.{IsValid, head_parts}
use Rattle.stab_code.specs.Written.{Written, unit_type, bool_type, int_type, text_type}
use Rattle.stab_code.proofs.Lists.{All-at}
use Rattle.language.specs.Outcome.{called}
use Rattle.language.specs.Program.{form_of, expr_of, exprs_of, body_by, body}
use Rattle.stab_types.specs.ExprType.{ExprType, of, never, has_never, all_of}
use Rattle.stab_types.specs.Rule.{Rule, stops, unit_literal, truth_literal, int_literal, text_literal, variable as seen_variable}
use Rattle.stab_types.specs.Typed.{Seen, behind, HasType, HaveTypes, parameters, IsBodyTyped, IsTyped}
use Rattle.stab_types.proofs.World.{World, FitsType, AllFit, under_refl}
use Rattle.stab_types.proofs.Running.{written, Runs, AllRun, nothing_seen, runs_under}
use Rattle.stab_types.proofs.Putting.{some_is, put_runs, arguments_put}
use Rattle.stab_types.proofs.Rising.{Rises, rises_left, rises_right, rises_behind}

-- each form of a body has as many parts as its head asks for
abbrev pub HasParts : List FunctionParts → code.Head → ℕ → Type 0
HasParts functions h n = head_parts functions h ≡ Some n

abbrev pub FormsFit : ProgramParts → Type 0
FormsFit p = (k : ℕ) (f : FunctionParts) → slice_get p.functions k ≡ Some f → AllForms (HasParts p.functions) (body_of p f)

-- ---- literals and variables

nothing_never : (n : ℕ) → has_never (take n []) ≡ false
nothing_never zero = refl
nothing_never (suc n) = refl

abbrev LiteralHas : Seen → code.Head → ExprType → Type 0
LiteralHas seen code_head.Unit t = t ≡ of unit_type
LiteralHas seen (Truth b) t = t ≡ of bool_type
LiteralHas seen (Int n) t = t ≡ of int_type
LiteralHas seen (Text x) t = t ≡ of text_type
LiteralHas seen (Var x) t = seen x ≡ Some t
LiteralHas seen _ t = Unit {0}

module _ (functions : List FunctionParts) where
  literal_has : (seen : Seen) (c : code.Head) (ts : List ExprType) (t : ExprType) → Rule functions seen c ts t → ts ≡ [] → LiteralHas seen c t
  literal_has seen c ts t (stops e) empty =
      absurd (false≢true (sym (nothing_never (strict_parts c 0)) ∙ subst (λ (us : List ExprType). has_never (take (strict_parts c (length us)) us) ≡ true) empty e))
  literal_has seen c ts t unit_literal empty = refl
  literal_has seen c ts t (truth_literal b) empty = refl
  literal_has seen c ts t (int_literal n) empty = refl
  literal_has seen c ts t (text_literal x) empty = refl
  literal_has seen c ts t (seen_variable e) empty = e
  literal_has seen c ts t _ empty = tt

  module _ (w : World) where
    no_types : (seen : Seen) (parts : Trees) (ts : List ExprType) → Some 0 ≡ Some (count_of parts) → AllRun functions w seen [] (exprs_of parts) ts → ts ≡ []
    no_types seen none [] e r = refl
    no_types seen none (t ∷ ts) e r = absurd r
    no_types seen (more x parts) ts e r = let same : 0 ≡ suc (count_of parts) = some_is e in absurd (omega arith)

    form_runs : (seen : Seen) (h : code.Head) (parts : Trees) (ts : List ExprType) (t : ExprType) → HasParts functions h (count_of parts) → AllRun functions w seen (slots_of h) (exprs_of parts) ts → Rule functions seen h ts t →
        Runs functions w seen (form_of h (exprs_of parts)) t
    form_runs seen code_head.Unit parts ts t count r rule = subst (FitsType w unit) (sym (literal_has seen code_head.Unit ts t rule (no_types seen parts ts count r))) tt
    form_runs seen (Truth b) parts ts t count r rule = subst (FitsType w (truth b)) (sym (literal_has seen (Truth b) ts t rule (no_types seen parts ts count r))) tt
    form_runs seen (Int n) parts ts t count r rule = subst (FitsType w (int n)) (sym (literal_has seen (Int n) ts t rule (no_types seen parts ts count r))) tt
    form_runs seen (Text x) parts ts t count r rule = subst (FitsType w (text x.0)) (sym (literal_has seen (Text x) ts t rule (no_types seen parts ts count r))) tt
    form_runs seen (Var x) parts ts t count r rule = (t, literal_has seen (Var x) ts t rule (no_types seen parts ts count r), under_refl t)
    form_runs seen h parts ts t count r rule = (ts, t, r, written {seen = seen} {c = h} refl rule, under_refl t)

    -- nothing is seen from k on
    abbrev IsBelow : ℕ → Seen → Type 0
    IsBelow k seen = (x : ℕ) → k ≤ x → seen x ≡ None

    below_let : (k x : ℕ) (t : ExprType) (seen : Seen) → k ≤ x → IsBelow k seen → IsBelow (x + 1) (behind (Some x) t seen)
    below_let k x t seen low below y high =
        let apart : nat_eq y x ≡ false = grind (arith, nat_tests) in
        let none : seen y ≡ None = below y (omega arith) in
        ap (λ b. cond b (Some t) (seen y)) apart ∙ none

    mutual
      -- a text has in a run the types that it has in its program
      pub text_runs : (k : ℕ) (seen : Seen) (x : Tree) (t : ExprType) → IsBelow k seen → Rises k (lets_of x) → AllForms (HasParts functions) x → HasType functions seen x t → Runs functions w seen (expr_of x) t
      text_runs k seen (tree h parts) t below rises forms has =
          form_runs seen h parts has.0 t forms.0 (texts_run k seen (slots_of h) parts has.0 below rises forms.1 has.1) has.2

      pub texts_run : (k : ℕ) (seen : Seen) (slots : List (Option ℕ)) (parts : Trees) (ts : List ExprType) → IsBelow k seen → Rises k (with_own slots (fold_all lets_from parts)) → AllFormsIn (HasParts functions) parts →
          HaveTypes functions seen slots parts ts → AllRun functions w seen slots (exprs_of parts) ts
      texts_run k seen [] none [] below rises forms has = tt
      texts_run k seen (slot ∷ slots) none [] below rises forms has = tt
      texts_run k seen [] none (t ∷ ts) below rises forms has = absurd has
      texts_run k seen (slot ∷ slots) none (t ∷ ts) below rises forms has = absurd has
      texts_run k seen [] (more x parts) [] below rises forms has = absurd has
      texts_run k seen (slot ∷ slots) (more x parts) [] below rises forms has = absurd has
      texts_run k seen [] (more x parts) (t ∷ ts) below rises forms has =
          (text_runs k seen x t below (rises_left k (lets_of x) _ rises) forms.0 has.0, texts_run k seen [] parts ts below (rises_right k (lets_of x) _ rises) forms.1 has.1)
      texts_run k seen (None ∷ slots) (more x parts) (t ∷ ts) below rises forms has =
          (tt, text_runs k seen x t below (rises_left k (lets_of x) _ rises) forms.0 has.0, texts_run k seen slots parts ts below (rises_right k (lets_of x) _ rises) forms.1 has.1)
      texts_run k seen ((Some y) ∷ slots) (more x parts) (t ∷ ts) below rises forms has = (
        below y rises.0,
        text_runs (y + 1) seen x t (λ z h. below z (omega (arith, rises.0))) (rises_left (y + 1) (lets_of x) _ rises.1) forms.0 has.0,
        texts_run (y + 1) (behind (Some y) t seen) slots parts ts (below_let k y t seen rises.0 below) (rises_right (y + 1) (lets_of x) _ rises.1) forms.1 has.1,
      )

none_behind : (as' : List Written) (x : ℕ) → length as' ≤ x → slice_get (all_of as') x ≡ None
none_behind [] x h = refl
none_behind (a ∷ as') zero h = absurd (omega arith)
none_behind (a ∷ as') (suc x) h = none_behind as' x (omega arith)

-- the body of a function of a typed program, with arguments as the parameters are written
module _ (p : ProgramParts) (valid : IsValid p) (fit : FormsFit p) (typed : IsTyped p) (w : World) where
  text_has : (k : ℕ) (f : FunctionParts) (t : ExprType) → slice_get p.functions k ≡ Some f → HasType p.functions (parameters f) (body_of p f) t → Runs p.functions w (parameters f) (expr_of (body_of p f)) t
  text_has k f t found has =
      let order = All-at (λ (g : FunctionParts). range_with_len 0 (arity_of g) ++ lets_of (body_of p g) ≡ range_with_len 0 g.slots) p.functions k f valid.slots_in_order found in
      text_runs p.functions w (arity_of f) (parameters f) (body_of p f) t (none_behind f.takes) (rises_behind (arity_of f) f.slots (lets_of (body_of p f)) order) (fit k f found) has

  body_has : (k : ℕ) (f : FunctionParts) → slice_get p.functions k ≡ Some f → IsBodyTyped p f → Runs p.functions w (parameters f) (expr_of (body_of p f)) (of f.gives)
  body_has k f found has =
      elim has [ inl gives ↦ text_has k f (of f.gives) found gives | inr ends ↦ runs_under p.functions w (parameters f) (expr_of (body_of p f)) never (of f.gives) tt (text_has k f never found ends) ]

  pub called_runs : (k : ℕ) (f : FunctionParts) (vs : List Datum) → slice_get p.functions k ≡ Some f → AllFit w vs (all_of f.takes) → Runs p.functions w nothing_seen (called (body p) k vs) (of f.gives)
  called_runs k f vs found given =
      let its : Runs p.functions w (parameters f) (body p k) (of f.gives) = subst (λ (o : Option FunctionParts). Runs p.functions w (parameters f) (body_by p o) (of f.gives)) (sym found) (body_has k f found (All-at (IsBodyTyped p) p.functions k f typed found)) in
      put_runs p.functions w (slice_get vs) (parameters f) nothing_seen (arguments_put p.functions w vs (all_of f.takes) given) (body p k) (of f.gives) its
