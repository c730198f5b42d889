-- Whether a form stands.
use Rattle.std.proofs.Common.{◌≡◌, ℕ, Bool, true, false, List, [], ◌∷◌, length, suc, Option, Some, None, refl, sym, ap, ◌∙◌}
use Rattle.std.specs.Prelude.{◌&&◌}
use Rattle.stab_code.specs.Program.{ProgramParts}
use Rattle.journal_laws.specs.Known.{Known}
use Rattle.language.specs.declared.head.Head.{Head}
use Rattle.language.specs.Expression.{Expr, Parts, value, variable, failed, form, parts_of}
use Rattle.language.specs.Forms.{form_in}
use Rattle.expression_text.specs.Spelling.{count, items_of}
use Rattle.image_state.specs.Stands.{head_stands, parts_stand, stands}

-- an expression that is a form
is_form : (e : Expr) (h : Head) (ps : Parts) → Some (h, ps) ≡ form_in e → form h ps ≡ e
is_form (form g qs) h ps is = let same : (h, ps) ≡ (g, qs) = cc in ap (λ (x : Head × Parts). form x.0 x.1) same
is_form (value v) h ps is = absurd (let no : Some (h, ps) ≡ None = is in cc)
is_form (variable x) h ps is = absurd (let no : Some (h, ps) ≡ None = is in cc)
is_form (failed k) h ps is = absurd (let no : Some (h, ps) ≡ None = is in cc)

count_is : (es : List Expr) → count (parts_of es) ≡ length es
count_is [] = refl
count_is (e ∷ es) = ap suc (count_is es)

-- whether a form stands
module _ (p : ProgramParts) (k : Known) (bound : List ℕ) (e : Expr) (h : Head) (es : List Expr) (is : Some (h, parts_of es) ≡ form_in e) where
  whole : stands p k bound e ≡ (head_stands p k h (length es) && parts_stand p k bound (items_of h) (parts_of es))
  whole =
      ap (stands p k bound) (sym (is_form e h (parts_of es) is)) ∙ ap (λ (n : ℕ). head_stands p k h n && parts_stand p k bound (items_of h) (parts_of es)) (count_is es)

  pub refused : false ≡ head_stands p k h (length es) → false ≡ stands p k bound e
  refused head = sym (whole ∙ ap (λ (x : Bool). x && parts_stand p k bound (items_of h) (parts_of es)) (sym head))

  pub passed : (items : List (Option ℕ)) (r : Bool) → true ≡ head_stands p k h (length es) → items ≡ items_of h → r ≡ parts_stand p k bound items (parts_of es) → r ≡ stands p k bound e
  passed items r head slots parts =
      parts ∙ ap (λ (xs : List (Option ℕ)). parts_stand p k bound xs (parts_of es)) slots
      ∙ sym (whole ∙ ap (λ (x : Bool). x && parts_stand p k bound (items_of h) (parts_of es)) (sym head))
