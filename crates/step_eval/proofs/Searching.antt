-- What is next in forms whose parts are still to be looked at, and how deep a redex lies in them.
use Rattle.std.proofs.Common.{◌≡◌, ℕ, zero, suc, ◌+◌, ◌<◌, ◌≤◌, List, [], ◌∷◌, ◌++◌, length, slice_get, get_or, Option, Some, None, refl, ap, sym, ◌∙◌, subst, arith, length-append}
use Rattle.std.proofs.lemmas.Option.{slice_get-get_or}
use Rattle.std.specs.Arc.{arc_value}
use Rattle.stab_base.specs.Datum.{Datum, unit}
use Rattle.stab_base.specs.declared.numbers.Seq.{Seq}
use Rattle.stab_code.specs.declared.head.Head.TheVariants.{Var}
use Rattle.stab_code.specs.declared.node_id.NodeId.{NodeId}
use Rattle.stab_code.specs.Program.{ProgramParts, tree_at}
use Rattle.stab_code.specs.Valid.{IsValid}
use Rattle.language.specs.Expression.{Expr, Parts, value, put}
use Rattle.language.specs.Program.{expr_of, form_of}
use Rattle.language.specs.Redex.{spine}
use Rattle.step_eval.specs.declared.site.Site.{Site}
use Rattle.step_eval.specs.declared.site.Site.TheVariants.{Form, Section}
use Rattle.step_eval.specs.declared.machine.Focus.{Focus}
use Rattle.step_eval.specs.declared.machine.Focus.TheVariants as focus
use Rattle.step_eval.specs.declared.machine.Running.{Running}
use Rattle.step_eval.specs.ControlView.{Fits, focus_expr, focus_view, view_of, expr_of as expr_in}
use Rattle.step_eval.specs.FrameView.{FrameView}
use Rattle.step_eval.specs.Fits.{FormFits, FrameFits, FramesFit, IsForm, IsLeft, SiteFits, outside}
use Rattle.step_eval.specs.Meaning.{at_form, at_start, form_at, node_at, strict_at, with_value, within_forms}
use Rattle.step_eval.specs.Ready.{IsNext, IsSettled}
use Rattle.step_eval.specs.Scoped.{IsScoped}
use Rattle.step_eval.specs.Searched.{HasValue, IsSearched, LooksPast}
use Rattle.step_eval.proofs.Arriving.{few-values, form-fits, section-settled}
use Rattle.step_eval.proofs.Forms.{fits-start, form-start, leaf-value, leaf-variable, slot-there}
use Rattle.step_eval.proofs.Redexes.{spine_by, spine_within}
use Rattle.step_eval.specs.View.{here_of, round_of}
use Rattle.step_eval.proofs.Stepping.{expr-by, fits-as}
use Rattle.step_eval.proofs.Standing.{all-taken, begins-left, form-in, form-leaf, give-form, next-part, part-seen}

module _ (p : ProgramParts) (valid : IsValid p) (n : NodeId) (there : n.0 < length p.nodes) where
  pub has-value : (v : Datum) → ((ps : Parts) → form_of (node_at p n).head ps ≡ value v) → HasValue p n
  has-value v is = λ env s. (v, leaf-value p valid n there env v is)

  pub has-variable : (x : ℕ) → (node_at p n).head ≡ Var x → HasValue p n
  has-variable x is = λ env s.
      let inside : x < length env = slot-there p valid n there (length env) x is s in
      (get_or env x unit, leaf-variable p valid n there env x (get_or env x unit) is (slice_get-get_or env x unit inside))

  -- what is left of a form, where it may be whole
  pub left-or-whole : (from : ℕ) → (0 < from → IsLeft (node_at p n).head from) → IsLeft (node_at p n).head from
  left-or-whole zero left = begins-left p valid n there
  left-or-whole (suc from) left = left (omega arith)

-- the values so far, and those of the literals and variables before a part that counts
pub record Past (p : ProgramParts) (n : NodeId) (from k : ℕ) (here : FrameView) : Type 0 where
  pub done : List Datum
  pub many : length done ≡ k
  pub same : form_at p (at_form n from done here.env) ≡ form_at p here

pub past-start : (p : ProgramParts) (n : NodeId) (from taken : ℕ) (here : FrameView) → IsSearched p n from taken here → Past p n from taken here
past-start p n from taken here s = record { done = here.done; many = s.many; same = ap (λ t. form_at p (record { site = t; done = here.done; env = here.env })) (sym s.at) }

module _ (p : ProgramParts) (valid : IsValid p) (n : NodeId) (from taken k : ℕ) (here : FrameView) (s : IsSearched p n from taken here) (past : Past p n from k here) where
  module _ (q : NodeId) (few : k < strict_at p (Form n from)) (found : slice_get (node_at p n).parts (from + k) ≡ Some q) where
    at-done : slice_get (node_at p n).parts (from + length past.done) ≡ Some q
    at-done = ap (λ j. slice_get (node_at p n).parts (from + j)) past.many ∙ found

    -- a literal or a variable has its value
    pub past-leaf : HasValue p q → Past p n from (k + 1) here
    past-leaf leaf =
        let v = leaf here.env (part-seen p valid n from (length here.env) k q s.fits few found) in
        let one : length (past.done ++ v.0 ∷ []) ≡ length past.done + 1 = length-append past.done (v.0 ∷ []) in
        let so : length past.done ≡ k = past.many in
        record {
          done = past.done ++ v.0 ∷ [];
          many = omega arith;
          same = form-leaf p n from past.done (past.done ++ v.0 ∷ []) here.env q v.0 at-done v.1 refl ∙ past.same;
        }

    -- and any other part is next
    pub past-form : IsForm (node_at p q).head → LooksPast p n from here (Some q)
    past-form is =
        let so : length past.done ≡ k = past.many in
        record { done = past.done; same = past.same; ahead = next-part p valid n from past.done here.env s.fits q (omega arith) at-done is }

  -- no part is left
  pub past-all : (k < strict_at p (Form n from) → ⊥) → k ≤ strict_at p (Form n from) → LooksPast p n from here None
  past-all stop most =
      let so : length past.done ≡ k = past.many in
      record { done = past.done; same = past.same; ahead = all-taken p valid n from past.done here.env s.fits (omega arith) (λ h. stop (omega arith)) }

-- the same expression with its redex in a form that is so many frames deeper
pub record Deeper (p : ProgramParts) (n : NodeId) (from taken depth : ℕ) (mk : Option Seq) (round : List FrameView) (e : Expr) : Type 0 where
  pub here : FrameView
  pub inner : List FrameView
  pub searched : IsSearched p n from taken here
  pub frames : FramesFit p mk inner
  pub deep : length inner ≡ depth + length round
  pub same : within_forms p inner (form_at p here) ≡ e

module _ (p : ProgramParts) (n : NodeId) (from taken depth : ℕ) (mk : Option Seq) (round : List FrameView) (e : Expr) (d : Deeper p n from taken depth mk round e) where
  pub deeper-in : (q : NodeId) → ((here : FrameView) → IsSearched p n from taken here → LooksPast p n from here (Some q)) → Deeper p q 0 0 (depth + 1) mk round e
  deeper-in q past =
      let look = past d.here d.searched in
      let env : List Datum = d.here.env in
      let next : IsNext p n from (at_form n from look.done env) q = look.ahead in
      let long : length d.inner ≡ depth + length round = d.deep in
      record {
        here = at_start q env;
        inner = at_form n from look.done env ∷ d.inner;
        searched = record { at = refl; many = refl; few = omega arith; fits = next.fits };
        frames = (record { site = d.searched.fits; waits = next.few }, tt, d.frames);
        deep = omega arith;
        same = form-in p n from look.done env d.inner q next ∙ ap (within_forms p d.inner) look.same ∙ d.same;
      }

  pub deeper-end : ((here : FrameView) → IsSearched p n from taken here → LooksPast p n from here None) → spine e ≡ depth + length round
  deeper-end past =
      let look = past d.here d.searched in
      let settled : IsSettled p (at_form n from look.done d.here.env) = look.ahead in
      ap spine (sym (ap (within_forms p d.inner) look.same ∙ d.same))
      ∙ spine_within p mk d.inner (at_form n from look.done d.here.env) d.frames settled
      ∙ d.deep

abbrev pub IsDepth : ProgramParts → NodeId → ℕ → ℕ → ℕ → Type 0
IsDepth p n from taken depth = (here : FrameView) (mk : Option Seq) (round : List FrameView) → IsSearched p n from taken here → FramesFit p mk round → spine (within_forms p round (form_at p here)) ≡ depth + length round

module _ (p : ProgramParts) (mk : Option Seq) (v : Datum) where
  -- a value within a section leaves that section
  pub section-deep : (round : List FrameView) (f : FrameView) (m : Seq) (outer : Option Seq) (k : ℕ) → FramesFit p mk round → slice_get round 0 ≡ Some f → f.site ≡ Section m outer → k + 1 ≡ length round → spine (within_forms p round (value v)) ≡ 0 + k
  section-deep [] f m outer k fit first at long = cc
  section-deep (g ∷ fs) f m outer k fit first at long =
      let same : g ≡ f = cc in
      let section : g.site ≡ Section m outer = ap (λ (x : FrameView). x.site) same ∙ at in
      let size : length fs ≡ 0 + k = omega arith in
      ap spine (sym (give-form p g v fs)) ∙ spine_within p (outside mk g.site) fs (with_value g v) fit.2 (section-settled p g v fs mk fit m outer section) ∙ size

  -- a value within another form is one of its parts
  pub form-deep : (round : List FrameView) (f : FrameView) (n : NodeId) (from taken depth k : ℕ) → FramesFit p mk round → slice_get round 0 ≡ Some f → f.site ≡ Form n from → taken ≡ length f.done + 1 → k + 1 ≡ length round → IsDepth p n from taken depth → spine (within_forms p round (value v)) ≡ depth + k
  form-deep [] f n from taken depth k fit first at one long is = cc
  form-deep (g ∷ fs) f n from taken depth k fit first at one long is =
      let same : g ≡ f = cc in
      let form : g.site ≡ Form n from = ap (λ (x : FrameView). x.site) same ∙ at in
      let dones : length g.done ≡ length f.done = ap (λ (x : FrameView). length x.done) same in
      let more : length (g.done ++ v ∷ []) ≡ length g.done + 1 = length-append g.done (v ∷ []) in
      let size : length fs ≡ k = omega arith in
      ap spine (sym (give-form p g v fs))
      ∙ is (with_value g v) (outside mk g.site) fs (record { at = form; many = omega arith; few = few-values p g v fs mk fit n from form; fits = form-fits p g v fs mk fit n from form }) fit.2
      ∙ ap (λ j. depth + j) size

-- a node that is begun
pub begun-deep : (p : ProgramParts) → IsValid p → (mk : Option Seq) (round : List FrameView) (n : NodeId) (env : List Datum) (depth : ℕ) → n.0 < length p.nodes → IsForm (node_at p n).head → IsScoped (length env) (tree_at p n) → FramesFit p mk round → IsDepth p n 0 0 depth →
    spine (within_forms p round (put (slice_get env) (expr_of (tree_at p n)))) ≡ depth + length round
begun-deep p valid mk round n env depth there is scoped fit deep =
    ap (λ e. spine (within_forms p round e)) (form-start p valid n there env is)
    ∙ deep (at_start n env) mk round (record { at = refl; many = refl; few = omega arith; fits = fits-start p valid n there (length env) is (begins-left p valid n there) scoped }) fit

pub some-long : {A : Type 0} (xs : List A) → (xs ≡ [] → ⊥) → 0 < length xs
some-long [] some = absurd (some refl)
some-long (x ∷ xs) some = omega arith

-- the innermost frame fits
first-fits : (p : ProgramParts) (mk : Option Seq) (round : List FrameView) (f : FrameView) → FramesFit p mk round → slice_get round 0 ≡ Some f → FrameFits p f
first-fits p mk [] f fit first = cc
first-fits p mk (g ∷ fs) f fit first = let same : g ≡ f = cc in let P : FrameView → Type 0 = λ (x : FrameView). FrameFits p x in subst P same fit.0

pub first-form : (p : ProgramParts) (mk : Option Seq) (round : List FrameView) (f : FrameView) (n : NodeId) (from : ℕ) → FramesFit p mk round → slice_get round 0 ≡ Some f → f.site ≡ Form n from → FormFits p n from (length f.env)
first-form p mk round f n from fit first at =
    let its = first-fits p mk round f fit first in
    let P : Site → Type 0 = λ (s : Site). SiteFits p s (length f.env) in
    subst P at its.site

found-deep : (p : ProgramParts) (f : Focus) (h : FrameView) (round : List FrameView) (mk : Option Seq) → ((n : NodeId) → f ≡ focus.Begun n → ⊥) → ((v : Datum) → f ≡ focus.Value v → ⊥) →
    Fits p (record { focus = focus_view f h; round = round; mark = mk }) → spine (within_forms p round (focus_expr p (focus_view f h))) ≡ length round
found-deep p (focus.Begun n) h round mk begun other fits = absurd (begun n refl)
found-deep p (focus.Value v) h round mk begun other fits = absurd (other v refl)
found-deep p focus.Form h round mk begun other fits = spine_by p focus.Form h round mk fits tt
found-deep p (focus.Act a) h round mk begun other fits = spine_by p (focus.Act a) h round mk fits tt
found-deep p (focus.Fault k) h round mk begun other fits = spine_by p (focus.Fault k) h round mk fits tt

-- round what is no node and no value stand its frames
pub machine-deep : (p : ProgramParts) (r : Running) → ((n : NodeId) → r.focus ≡ focus.Begun n → ⊥) → ((v : Datum) → r.focus ≡ focus.Value v → ⊥) → Fits p (view_of r) → spine (expr_in p (view_of r)) ≡ 0 + length (round_of r.machine)
machine-deep p r begun other fits = found-deep p r.focus (here_of r.machine) (round_of r.machine) r.machine.mark begun other fits ∙ (let same : length (round_of r.machine) ≡ 0 + length (round_of r.machine) = omega arith in same)

pub node-deep : (p : ProgramParts) → IsValid p → (r : Running) (n : NodeId) (depth : ℕ) → r.focus ≡ focus.Begun n → Fits p (view_of r) → IsDepth p n 0 0 depth → spine (expr_in p (view_of r)) ≡ depth + length (round_of r.machine)
node-deep p valid r n depth is fits deep =
    let all = fits-as p r (focus.Begun n) is fits in
    ap spine (expr-by p r (focus.Begun n) is)
    ∙ begun-deep p valid r.machine.mark (round_of r.machine) n (arc_value r.machine.env) depth all.focus.0 all.focus.1 all.focus.2 all.frames deep
