-- What is true of an expression whose redex stands in one of its parts.
use Rattle.std.proofs.Common.{◌≡◌, ℕ, ◌+◌, ◌<◌, Bool, true, false, ◌||◌, nat_eq, List, [], ◌∷◌, ◌++◌, length, set, get_or, Option, Some, None, refl, sym, ap, subst, ◌∙◌, arith, length-append, MatchOption, IsSome}
use Rattle.std.specs.Prelude.{option_map, nat_lt, ◌-◌}
use Rattle.std.proofs.lemmas.Bool.{false≢true}
use Rattle.std.proofs.lemmas.Bool.Decides.{nat_tests}
use Rattle.plain_language.specs.declared.instead.Instead.{Instead}
use Rattle.plain_language.specs.declared.instead.Instead.TheVariants.{Put, Pass}
use Rattle.language.specs.declared.head.Head.{Head}
use Rattle.language.specs.Expression.{Expr, form, part, parts_of}
use Rattle.language.specs.Redex.{first_counts_alone, Frame, after_values, within, Redex, redex, frames_of, rebuild, section_or}
use Rattle.plain_language.specs.Pures.{changed}
use Rattle.language.specs.Size.{size_of}
use Rattle.language.specs.Busy.{busy_at, IsRedexOf, passes, innermost_or, mark_or}
use Rattle.language.proofs.Finding.{some_is, deeper, frame_at, found, redex_busy}

fewer : (limit n : ℕ) → (nat_eq limit 0 || nat_lt (limit - 1) n) ≡ nat_lt limit (n + 1)
fewer limit n = grind (arith, nat_tests)

passes_by : (limit : ℕ) (b : Bool) (f : Frame) (o : Option Redex) → Some b ≡ option_map (passes (limit - 1)) o → Some (nat_eq limit 0 || b) ≡ option_map (passes limit) (option_map (deeper (f ∷ [])) o)
passes_by limit b f None e = cc
passes_by limit b f (Some r) e =
    ap (λ c. Some (nat_eq limit 0 || c)) (some_is e) ∙ ap Some (fewer limit (length r.round)) ∙ ap (λ n. Some (nat_lt limit n)) (sym (length-append r.round (f ∷ [])))

passes_nowhere : (limit : ℕ) (f : Frame) (o : Option Redex) → None ≡ option_map (passes (limit - 1)) o → None ≡ option_map (passes limit) (option_map (deeper (f ∷ [])) o)
passes_nowhere limit f None e = refl
passes_nowhere limit f (Some r) e = cc

innermost_more : (outer : Option ℕ) (fs : List Frame) (f : Frame) → innermost_or (section_or f.head outer) fs ≡ innermost_or outer (fs ++ f ∷ [])
innermost_more outer [] f = refl
innermost_more outer (g ∷ fs) f = ap (section_or g.head) (innermost_more outer fs f)

mark_by : (outer : Option ℕ) (f : Frame) (o : Option Redex) → mark_or (section_or f.head outer) o ≡ mark_or outer (option_map (deeper (f ∷ [])) o)
mark_by outer f None = refl
mark_by outer f (Some r) = innermost_more outer r.round f

within_more : (fs gs : List Frame) (e : Expr) → within (fs ++ gs) e ≡ within gs (within fs e)
within_more [] gs e = refl
within_more (f ∷ fs) gs e = within_more fs gs (form f.head (after_values f.left (part e f.right)))

none_there : IsSome {T = Redex} None → ⊥
none_there h = false≢true h

some_there : (x : Redex) → IsSome (Some x)
some_there x = refl

rebuilt_by : (f : Frame) (r : Expr) (o : Option Redex) → IsSome o → within (frames_of (option_map (deeper (f ∷ [])) o)) r ≡ within (f ∷ []) (within (frames_of o) r)
rebuilt_by f r None there = absurd (none_there there)
rebuilt_by f r (Some x) there = within_more x.round (f ∷ []) r

some_by : (f : Frame) (o : Option Redex) → IsSome (option_map (deeper (f ∷ [])) o) → IsSome o
some_by f None there = there
some_by f (Some x) there = some_there x

zero_or : (a b : Bool) → a ≡ true → a ≡ (a || b)
zero_or true b h = refl
zero_or false b h = absurd (false≢true h)

not_zero : (n : ℕ) → (n ≡ 0 → ⊥) → nat_eq n 0 ≡ false
not_zero n h = grind (arith, nat_tests)

pub never_below : (n : ℕ) → nat_lt n 0 ≡ false
never_below n = grind (arith, nat_tests)

changed-deeper : (c : Instead) (fs : List Frame) (o : Option Redex) → changed c (option_map (deeper fs) o) ≡ changed c o
changed-deeper (Put r) fs o = refl
changed-deeper (Pass slots) fs None = refl
changed-deeper (Pass slots) fs (Some r) = refl

-- the redex of the whole is in this part
pub record IsPart (whole : Expr) (h : Head) (es : List Expr) (i : ℕ) (inner : Expr) : Type 0 where
  pub is_form : form h (parts_of es) ≡ whole
  pub busy : Some i ≡ busy_at (first_counts_alone h) es
  pub is : inner ≡ get_or es i inner

module _ {whole : Expr} {h : Head} {es : List Expr} {i : ℕ} {inner : Expr} (p : IsPart whole h es i inner) where
  pub inner_smaller : size_of inner < size_of whole
  inner_smaller =
      let P : Expr → Type 0 = λ (e : Expr). size_of e < size_of whole in
      let Q : Expr → Type 0 = λ (e : Expr). size_of (get_or es i inner) < size_of e in
      subst P (sym p.is) (subst Q p.is_form ((found (first_counts_alone h) h es i (sym p.busy)).smaller inner))

  pub inner_redex : redex whole ≡ option_map (deeper (frame_at h es i ∷ [])) (redex inner)
  inner_redex =
      ap redex (sym p.is_form) ∙ redex_busy h es i inner (sym p.busy) ∙ ap (λ e. option_map (deeper (frame_at h es i ∷ [])) (redex e)) (sym p.is)

  none_lifted : redex inner ≡ None → redex whole ≡ None
  none_lifted e = inner_redex ∙ ap (option_map (deeper (frame_at h es i ∷ []))) e

  redex_lifted : (g : Head) (ds : List Expr) → IsRedexOf inner g ds → IsRedexOf whole g ds
  redex_lifted g ds r = record {
    settled = r.settled;
    round = r.round ++ frame_at h es i ∷ [];
    is = inner_redex ∙ ap (option_map (deeper (frame_at h es i ∷ []))) r.is;
  }

  pub lifted : {X : Type 0} (f : X → Head) (g : X → List Expr) (o : Option X) → MatchOption o (redex inner ≡ None) (λ r. IsRedexOf inner (f r) (g r)) → MatchOption o (redex whole ≡ None) (λ r. IsRedexOf whole (f r) (g r))
  lifted f g None m = none_lifted m
  lifted f g (Some r) m = redex_lifted (f r) (g r) m

  -- the number of forms
  pub passes_lifted : (limit : ℕ) (b : Bool) → Some b ≡ option_map (passes (limit - 1)) (redex inner) → Some (nat_eq limit 0 || b) ≡ option_map (passes limit) (redex whole)
  passes_lifted limit b e = passes_by limit b (frame_at h es i) (redex inner) e ∙ ap (option_map (passes limit)) (sym inner_redex)

  -- at a limit of 0, and above
  pub passes_at_zero : (limit : ℕ) (b : Bool) → limit ≡ 0 → Some b ≡ option_map (passes (limit - 1)) (redex inner) → Some (nat_eq limit 0) ≡ option_map (passes limit) (redex whole)
  passes_at_zero limit b none e = ap Some (zero_or (nat_eq limit 0) b (ap (λ n. nat_eq n 0) none)) ∙ passes_lifted limit b e

  pub passes_above_zero : (limit : ℕ) (b : Bool) → (limit ≡ 0 → ⊥) → Some b ≡ option_map (passes (limit - 1)) (redex inner) → Some b ≡ option_map (passes limit) (redex whole)
  passes_above_zero limit b above e = ap (λ c. Some (c || b)) (sym (not_zero limit above)) ∙ passes_lifted limit b e

  pub passes_none : (limit : ℕ) → None ≡ option_map (passes (limit - 1)) (redex inner) → None ≡ option_map (passes limit) (redex whole)
  passes_none limit e = passes_nowhere limit (frame_at h es i) (redex inner) e ∙ ap (option_map (passes limit)) (sym inner_redex)

  -- the innermost section
  pub mark_lifted : (outer : Option ℕ) → mark_or (section_or h outer) (redex inner) ≡ mark_or outer (redex whole)
  mark_lifted outer = mark_by outer (frame_at h es i) (redex inner) ∙ ap (mark_or outer) (sym inner_redex)

  -- another expression in place of the redex
  pub rebuild_lifted : (r : Expr) → IsSome (redex inner) → rebuild whole r ≡ form h (parts_of (set es i (rebuild inner r)))
  rebuild_lifted r there =
      ap (λ o. within (frames_of o) r) inner_redex
      ∙ rebuilt_by (frame_at h es i) r (redex inner) there
      ∙ ap (form h) ((found (first_counts_alone h) h es i (sym p.busy)).replaced (rebuild inner r))

  pub redex_inside : IsSome (redex whole) → IsSome (redex inner)
  redex_inside there = some_by (frame_at h es i) (redex inner) (subst (λ (o : Option Redex). IsSome o) inner_redex there)

  -- what comes in place of the redex
  pub changed_inside : (c : Instead) → changed c (redex inner) ≡ changed c (redex whole)
  changed_inside c = sym (ap (changed c) inner_redex ∙ changed-deeper c (frame_at h es i ∷ []) (redex inner))
