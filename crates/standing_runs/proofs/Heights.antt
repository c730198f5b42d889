-- What stands beside the way to the redex isn't deep.
use Rattle.std.proofs.Common.{◌≡◌, ℕ, ◌+◌, ◌≤◌, true, false, max, List, [], ◌∷◌, ◌++◌, length, Option, Some, IfSome, refl, sym, ap, subst, ◌∙◌, if◌then◌else◌, append-nil, arith}
use Rattle.std.specs.List.{AllByRecursion}
use Rattle.std.proofs.lemmas.Bool.{false≢true}
use Rattle.stab_base.specs.Datum.{Datum}
use Rattle.stab_code.specs.Program.{ProgramParts}
use Rattle.language.specs.declared.head.Head.{Head}
use Rattle.language.specs.Expression.{Expr, value, variable, failed, form, Parts, none, part}
use Rattle.language.specs.Frames.{AreFrames}
use Rattle.language.specs.Redex.{first_counts_alone, Frame, after_values, within, Redex, redex_of, redex_in, redex}
use Rattle.language.proofs.Unique.{redex-within}
use Rattle.standing_runs.specs.Whole.{IsWhole}
use Rattle.standing_runs.proofs.Putting.{height, heights}
use Rattle.standing_runs.proofs.Redexes.{one_left}

-- the parts to the right are parts of a form of a program
abbrev pub IsLow : Frame → Type 0
IsLow f = heights f.right ≤ 199

pub record IsLowRedex (r : Redex) : Type 0 where
  pub round : AllByRecursion IsLow r.round
  pub waiting : heights r.waiting ≤ 199

mutual
  low_expr : (e : Expr) (round : List Frame) → AllByRecursion IsLow round → height e ≤ 200 → IfSome (redex_of e round) IsLowRedex
  low_expr (value v) round all low = tt
  low_expr (variable x) round all low = tt
  low_expr (failed k) round all low = tt
  low_expr (form h ps) round all low = low_parts ps h [] round all (omega arith)

  low_parts : (ps : Parts) (h : Head) (left : List Datum) (round : List Frame) → AllByRecursion IsLow round → heights ps ≤ 199 → IfSome (redex_in ps h left round) IsLowRedex
  low_parts none h left round all low = record { round = all; waiting = omega arith }
  low_parts (part (value v) ps) h left round all low =
      elim (first_counts_alone h) as (λ b. IfSome (if b then Some (record { round = round; head = h; values = v ∷ []; waiting = ps }) else redex_in ps h (left ++ v ∷ []) round) IsLowRedex) [
        | true ↦ record { round = all; waiting = omega arith }
        | false ↦ low_parts ps h (left ++ v ∷ []) round all (omega arith)
      ]
  low_parts (part (variable x) ps) h left round all low = tt
  low_parts (part (failed k) ps) h left round all low = tt
  low_parts (part (form g qs) ps) h left round all low = low_expr (form g qs) (record { head = h; left = left; right = ps } ∷ round) (omega arith, all) (omega arith)

heights_after : (left : List Datum) (ps : Parts) → heights (after_values left ps) ≤ max 1 (heights ps)
heights_after [] ps = omega arith
heights_after (v ∷ left) ps = omega (arith, heights_after left ps)

-- a low form within low forms
low_form : (fs : List Frame) (h : Head) (ps : Parts) → AreFrames fs → AllByRecursion IsLow fs → heights ps ≤ 199 → IfSome (redex (within fs (form h ps))) IsLowRedex
low_form fs h ps frames all low =
    subst (λ (o : Option Redex). IfSome o IsLowRedex) (sym (redex-within fs (form h ps) [] frames tt ∙ ap (redex_of (form h ps)) (append-nil fs))) (low_expr (form h ps) fs all (omega arith))

-- a low expression within low forms
pub low_within : (p : ProgramParts) (fs : List Frame) (x : Expr) → AreFrames fs → AllByRecursion IsLow fs → IsWhole p [] x → height x ≤ 200 → IfSome (redex (within fs x)) IsLowRedex
low_within p fs (form h ps) frames all w low = low_form fs h ps frames all (omega arith)
low_within p [] (value v) frames all w low = tt
low_within p (f ∷ fs) (value v) frames all w low = low_form fs f.head (after_values f.left (part (value v) f.right)) frames.1 all.1 (omega (arith, all.0, heights_after f.left (part (value v) f.right)))
low_within p fs (variable x) frames all w low = absurd (false≢true w.0)
low_within p fs (failed k) frames all w low = absurd w

-- how deep an expression within low forms is
pub deep_within : (fs : List Frame) (x : Expr) (n : ℕ) → AllByRecursion IsLow fs → height x ≤ 200 + n → height (within fs x) ≤ 200 + n + length fs
deep_within [] x n all low = omega arith
deep_within (f ∷ fs) x n all low = omega (arith, deep_within fs (form f.head (after_values f.left (part x f.right))) (n + 1) all.1 (omega (arith, all.0, heights_after f.left (part x f.right))))

heights_part : (left : List Datum) (x : Expr) (ps : Parts) → height x ≤ heights (after_values left (part x ps))
heights_part [] x ps = omega arith
heights_part (v ∷ left) x ps = omega (arith, heights_part left x ps)

pub high_within : (fs : List Frame) (x : Expr) → length fs + height x ≤ height (within fs x)
high_within [] x = omega arith
high_within (f ∷ fs) x = omega (arith, high_within fs (form f.head (after_values f.left (part x f.right))), heights_part f.left x f.right)

mutual
  -- the redex within the forms round it is the expression
  pub back_expr : (e : Expr) (round : List Frame) (r : Redex) → redex_of e round ≡ Some r → within r.round (form r.head (after_values r.values r.waiting)) ≡ within round e
  back_expr (value v) round r is = cc
  back_expr (variable x) round r is = cc
  back_expr (failed k) round r is = cc
  back_expr (form h ps) round r is = back_parts ps h [] round r (λ alone. refl) is

  back_parts : (ps : Parts) (h : Head) (left : List Datum) (round : List Frame) (r : Redex) → (first_counts_alone h ≡ true → left ≡ []) → redex_in ps h left round ≡ Some r →
      within r.round (form r.head (after_values r.values r.waiting)) ≡ within round (form h (after_values left ps))
  back_parts none h left round r alone is =
      let made : Redex = record { round = round; head = h; values = left; waiting = none } in
      let same : made ≡ r = cc in
      ap (λ (x : Redex). within x.round (form x.head (after_values x.values x.waiting))) (sym same)
  back_parts (part (value v) ps) h left round r alone is =
      elim (first_counts_alone h) as (λ b. first_counts_alone h ≡ b → (if b then Some (record { round = round; head = h; values = v ∷ []; waiting = ps }) else redex_in ps h (left ++ v ∷ []) round) ≡ Some r →
      within r.round (form r.head (after_values r.values r.waiting)) ≡ within round (form h (after_values left (part (value v) ps)))) [
        | true ↦ λ yes is.
            let made : Redex = record { round = round; head = h; values = v ∷ []; waiting = ps } in
            let same : made ≡ r = cc in
            ap (λ (x : Redex). within x.round (form x.head (after_values x.values x.waiting))) (sym same)
            ∙ ap (λ (l : List Datum). within round (form h (after_values l (part (value v) ps)))) (sym (alone yes))
        | false ↦ λ not is.
            back_parts ps h (left ++ v ∷ []) round r (λ yes. absurd (false≢true (sym not ∙ yes))) is
            ∙ ap (λ (qs : Parts). within round (form h qs)) (sym (one_left left v ps))
      ] refl is
  back_parts (part (variable x) ps) h left round r alone is = cc
  back_parts (part (failed k) ps) h left round r alone is = cc
  back_parts (part (form g qs) ps) h left round r alone is = back_expr (form g qs) (record { head = h; left = left; right = ps } ∷ round) r is
