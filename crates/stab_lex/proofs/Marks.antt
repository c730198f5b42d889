-- A mark or a comment that was read is the next piece, or a character begins none.
use Rattle.std.proofs.Common.{◌≡◌, ℕ, Bool, true, false, cond, eqb, None, Some, Option, List, [], ◌∷◌, length, refl, ap, ◌∙◌, arith, subst, ⊎_elim}
use Rattle.std.specs.Prelude.{IsSome, IsNone, is_some, ◌≢◌, nat_lt, ◌&&◌, ◌⊎◌}
use Rattle.std.specs.List.{slice_get, list_all}
use Rattle.std.proofs.lemmas.Bool.{and_parts, ltb-true}
use Rattle.std.specs.Str.{bytes_eq}
use Rattle.stab_lex.specs.declared.kind.Kind.{Kind}
use Rattle.stab_lex.specs.declared.token.LexFault.TheVariants.{BadChar}
use Rattle.stab_lex.specs.Kinds.{kind_in, marks, mark_kind}
use Rattle.stab_lex.specs.Place.{Place, Leads}
use Rattle.stab_lex.specs.Pieces.{Comment, Mark, Stray, Pass, Stops, is_in_line, IsLongest, IsOther}
use Rattle.stab_lex.specs.Readings.{Passes, Meets}
use Rattle.stab_lex.proofs.Ways.{Leads-append}

-- no mark has three characters
three_differ : (row : List ℕ) (a b c : ℕ) (more : List ℕ) → nat_lt (length row) 3 ≡ true → bytes_eq row (a ∷ b ∷ c ∷ more) ≡ false
three_differ [] a b c more short = refl
three_differ (x ∷ []) a b c more short = and_false (eqb x a)
  where
    and_false : (t : Bool) → (t && false) ≡ false
    and_false true = refl
    and_false false = refl
three_differ (x ∷ y ∷ []) a b c more short = neither (eqb x a) (eqb y b)
  where
    neither : (t u : Bool) → (t && (u && false)) ≡ false
    neither true true = refl
    neither true false = refl
    neither false u = refl
three_differ (x ∷ y ∷ z ∷ row) a b c more short =
    let long = ltb-true (length (x ∷ y ∷ z ∷ row)) 3 short in
    absurd (omega (arith, long))

three_in : (rows : List (List ℕ × Kind)) (a b c : ℕ) (more : List ℕ) → list_all (λ (row : List ℕ × Kind). nat_lt (length row.0) 3) rows ≡ true → IsNone (kind_in rows (a ∷ b ∷ c ∷ more))
three_in [] a b c more short = refl
three_in (row ∷ rows) a b c more short =
    let parts = and_parts _ _ short in
    ap (λ t. is_some (cond t (Some row.1) (kind_in rows (a ∷ b ∷ c ∷ more)))) (three_differ row.0 a b c more parts.0) ∙ three_in rows a b c more parts.1

pub three_no_mark : (a b c : ℕ) (more : List ℕ) → IsNone (mark_kind (a ∷ b ∷ c ∷ more))
three_no_mark a b c more = three_in marks a b c more refl

pub double_longest : (a b : ℕ) (rest : List ℕ) → IsLongest (a ∷ b ∷ []) rest
double_longest a b [] = tt
double_longest a b (c ∷ rest) = (three_no_mark a b c [], λ e. (cc))

is_mark : {kind : Kind} {found : Option Kind} → Some kind ≡ found → IsSome found
is_mark e = subst IsSome e refl

module _ {first : ℕ} {old mid : Place} (step : Leads (first ∷ []) old mid) where
  pub comment_passes : {next new : Place} (cs : List ℕ) → first ≡ 47 → Leads (47 ∷ []) mid next → Leads cs next new → Pass is_in_line cs → Stops is_in_line new.rest → Passes None old new
  comment_passes {next} {new} cs slash second way pass stops = record {
    piece = Comment cs;
    way = subst (λ x. Leads (x ∷ 47 ∷ cs) old new) slash (Leads-append step (Leads-append second way));
    stands = (pass, stops);
    kind_is = refl;
  }

  pub double_passes : {new : Place} (second : ℕ) (kind : Kind) → Leads (second ∷ []) mid new → Some kind ≡ mark_kind (first ∷ second ∷ []) → Passes (Some kind) old new
  double_passes {new} second kind more is = record {
    piece = Mark (first ∷ second ∷ []);
    way = Leads-append step more;
    stands = (is_mark is, double_longest first second new.rest);
    kind_is = is;
  }

  pub single_passes : (kind : Kind) → IsLongest (first ∷ []) mid.rest → Some kind ≡ mark_kind (first ∷ []) → Passes (Some kind) old mid
  single_passes kind alone is = record {
    piece = Mark (first ∷ []);
    way = step;
    stands = (is_mark is, alone);
    kind_is = is;
  }

  pub stray_meets : IsOther first → IsLongest (first ∷ []) mid.rest → None ≡ mark_kind (first ∷ []) → Meets (BadChar old.at) old
  stray_meets other alone none = record {
    obstacle = Stray first;
    after = mid.rest;
    text = step.text;
    blocks = (other, subst IsNone none refl, alone);
    fault_is = refl;
  }

-- with the next character, or at the end, it is no longer mark
pub alone_before : (first second : ℕ) (rest : List ℕ) → Some second ≡ slice_get rest 0 → ((first ≡ 47) × (second ≡ 47 → ⊥)) ⊎ (first ≡ 47 → ⊥) → None ≡ mark_kind (first ∷ second ∷ []) → IsLongest (first ∷ []) rest
alone_before first second [] next either none = tt
alone_before first second (c ∷ rest) next either none =
    let same : second ≡ c = cc in
    let alone : IsNone (mark_kind (first ∷ second ∷ [])) × (first ∷ second ∷ [] ≢ 47 ∷ 47 ∷ []) =
    (subst IsNone none refl, λ e. ⊎_elim (λ (w : (first ≡ 47) × (second ≡ 47 → ⊥)). w.1 (cc)) (λ (w : first ≡ 47 → ⊥). w (cc)) either) in
    subst (λ x. IsNone (mark_kind (first ∷ x ∷ [])) × (first ∷ x ∷ [] ≢ 47 ∷ 47 ∷ [])) same alone

pub alone_at_end : (first : ℕ) (rest : List ℕ) → None ≡ slice_get rest 0 → IsLongest (first ∷ []) rest
alone_at_end first [] next = tt
alone_at_end first (c ∷ rest) next = absurd (cc)
