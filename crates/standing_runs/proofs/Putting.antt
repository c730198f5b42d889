-- Values in place of variables keep an expression whole and as deep as it was.
use Rattle.std.proofs.Common.{◌≡◌, ℕ, suc, ◌+◌, ◌<◌, ◌^◌, Bool, true, false, ◌||◌, nat_eq, max, List, [], ◌∷◌, Option, Some, None, refl, sym, ap, subst, ◌∙◌}
use Rattle.std.proofs.lemmas.Bool.{false≢true}
use Rattle.std.proofs.lemmas.List.Folds.{list_any-append}
use Rattle.stab_base.specs.Datum.{Datum}
use Rattle.stab_code.specs.Program.{ProgramParts}
use Rattle.language.specs.Expression.{Expr, value, variable, failed, form, Parts, none, part, put_variable, put, put_parts}
use Rattle.expression_text.specs.Spelling.{count, items_of}
use Rattle.standing_runs.specs.Whole.{is_bound, bound_by, IsValue, IsForm, IsWhole, AreWhole}

-- how deep an expression is where a value is as deep as a variable
abbrev mutual
  pub height : Expr → ℕ
  height (value v) = 1
  height (variable x) = 1
  height (failed k) = 1
  height (form h ps) = heights ps + 1

  pub heights : Parts → ℕ
  heights none = 0
  heights (part e ps) = max (height e) (heights ps)

-- what is bound and gets no value stays bound
abbrev pub Covers : (ℕ → Option Datum) → List ℕ → List ℕ → Type 0
Covers vs bound after = (x : ℕ) → is_bound bound x ≡ true → vs x ≡ None → is_bound after x ≡ true

or_cases : (a b c : Bool) → (a || b) ≡ true → (a ≡ true → c ≡ true) → (c || b) ≡ true
or_cases true b c h f = ap (λ x. x || b) (f refl)
or_cases false true true h f = refl
or_cases false true false h f = refl
or_cases false false c h f = absurd (false≢true h)

pub covers_more : (vs : ℕ → Option Datum) (bound after : List ℕ) → Covers vs bound after → (o : Option ℕ) → Covers vs (bound_by bound o) (bound_by after o)
covers_more vs bound after c None x h empty = c x h empty
covers_more vs bound after c (Some y) x h empty =
    list_any-append (λ z. nat_eq z x) after (y ∷ [])
    ∙ or_cases (is_bound bound x) (is_bound (y ∷ []) x) (is_bound after x) (sym (list_any-append (λ z. nat_eq z x) bound (y ∷ [])) ∙ h) (λ here. c x here empty)

pub count_put : (vs : ℕ → Option Datum) (ps : Parts) → count (put_parts vs ps) ≡ count ps
count_put vs none = refl
count_put vs (part e ps) = ap suc (count_put vs ps)

height_value : (o : Option Datum) (x : ℕ) → height (put_variable o x) ≡ 1
height_value None x = refl
height_value (Some v) x = refl

mutual
  pub height_put : (vs : ℕ → Option Datum) (e : Expr) → height (put vs e) ≡ height e
  height_put vs (value v) = refl
  height_put vs (variable x) = height_value (vs x) x
  height_put vs (failed k) = refl
  height_put vs (form h ps) = ap (λ n. n + 1) (heights_put vs ps)

  pub heights_put : (vs : ℕ → Option Datum) (ps : Parts) → heights (put_parts vs ps) ≡ heights ps
  heights_put vs none = refl
  heights_put vs (part e ps) = ap (λ n. max n (heights (put_parts vs ps))) (height_put vs e) ∙ ap (max (height e)) (heights_put vs ps)

module _ (p : ProgramParts) (vs : ℕ → Option Datum) (values : (x : ℕ) (v : Datum) → vs x ≡ Some v → IsValue p v) where
  variable_whole : (after : List ℕ) (x : ℕ) (o : Option Datum) → vs x ≡ o → (vs x ≡ None → is_bound after x ≡ true) → x < 2 ^ 32 → IsWhole p after (put_variable o x)
  variable_whole after x None is f small = (f is, small)
  variable_whole after x (Some v) is f small = values x v is

  mutual
    pub put_whole : (bound after : List ℕ) → Covers vs bound after → (e : Expr) → IsWhole p bound e → IsWhole p after (put vs e)
    put_whole bound after c (value v) h = h
    put_whole bound after c (variable x) h = variable_whole after x (vs x) refl (c x h.0) h.1
    put_whole bound after c (failed k) h = h
    put_whole bound after c (form h ps) w = (subst (IsForm p h) (sym (count_put vs ps)) w.0, put_all bound after c (items_of h) ps w.1)

    pub put_all : (bound after : List ℕ) → Covers vs bound after → (items : List (Option ℕ)) (ps : Parts) → AreWhole p bound items ps → AreWhole p after items (put_parts vs ps)
    put_all bound after c items none w = tt
    put_all bound after c [] (part e ps) w = (put_whole bound after c e w.0, put_all bound after c [] ps w.1)
    put_all bound after c (o ∷ items) (part e ps) w = (put_whole bound after c e w.0, put_all (bound_by bound o) (bound_by after o) (covers_more vs bound after c o) items ps w.1)
