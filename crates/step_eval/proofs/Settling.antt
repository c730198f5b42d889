-- What holds of each settled form within frames holds of whatever is searched, since a search finds a settled form.
use Rattle.std.proofs.Common.{◌≡◌, ℕ, zero, suc, ◌+◌, ◌-◌, ◌<◌, ◌≤◌, ◌⊎◌, inl, inr, List, [], ◌∷◌, length, slice_get, get_or, Option, Some, None, refl, ap, sym, subst, arith, length-append}
use Rattle.std.proofs.lemmas.Option.{slice_get-get_or}
use Rattle.stab_base.specs.Datum.{Datum, unit, truth, int, text}
use Rattle.stab_base.specs.declared.numbers.Seq.{Seq}
use Rattle.stab_code.specs.declared.head.Head.{Head}
use Rattle.stab_code.specs.declared.head.Head.TheVariants.{Unit, Truth, Int, Text, Var}
use Rattle.stab_code.specs.declared.node_id.NodeId.{NodeId}
use Rattle.stab_code.specs.Program.{ProgramParts, tree_at}
use Rattle.stab_code.specs.Valid.{IsValid}
use Rattle.language.specs.Expression.{Expr, value, put}
use Rattle.language.specs.Program.{expr_of, form_of}
use Rattle.step_eval.specs.declared.site.Site.{Site}
use Rattle.step_eval.specs.declared.site.Site.TheVariants.{Form, Section}
use Rattle.step_eval.specs.FrameView.{FrameView}
use Rattle.step_eval.specs.Fits.{FramesFit, IsForm, outside}
use Rattle.step_eval.specs.Meaning.{at_form, at_start, form_at, node_at, strict_at, with_value, within_forms}
use Rattle.step_eval.specs.Ready.{IsNext, IsSettled}
use Rattle.step_eval.specs.Scoped.{IsScoped}
use Rattle.step_eval.specs.Searched.{HasValue, IsSearched, LooksPast}
use Rattle.step_eval.proofs.Arriving.{few-values, form-fits, section-settled}
use Rattle.step_eval.proofs.Forms.{fits-start, form-start}
use Rattle.step_eval.proofs.Searching.{Past, has-value, has-variable, past-all, past-form, past-leaf, past-start}
use Rattle.step_eval.proofs.Standing.{begins-left, form-in, give-form, part-in, part-there}

module _ (p : ProgramParts) (valid : IsValid p) (Q : Option Seq → Expr → Type 0)
    (settled : (mk : Option Seq) (round : List FrameView) (h : FrameView) → FramesFit p mk round → IsSettled p h → Q mk (within_forms p round (form_at p h))) where
  -- a node is a literal or a variable, or it is a form
  leaf-or-form : (q : NodeId) → q.0 < length p.nodes → (h : Head) → (node_at p q).head ≡ h → HasValue p q ⊎ IsForm (node_at p q).head
  leaf-or-form q there Unit is = inl (has-value p valid q there unit (λ ps. ap (λ h. form_of h ps) is))
  leaf-or-form q there (Truth b) is = inl (has-value p valid q there (truth b) (λ ps. ap (λ h. form_of h ps) is))
  leaf-or-form q there (Int k) is = inl (has-value p valid q there (int k) (λ ps. ap (λ h. form_of h ps) is))
  leaf-or-form q there (Text t) is = inl (has-value p valid q there (text t.0) (λ ps. ap (λ h. form_of h ps) is))
  leaf-or-form q there (Var x) is = inl (has-variable p valid q there x is)
  leaf-or-form q there _ is = let P : Head → Type 0 = λ (h : Head). IsForm h in inr (subst P (sym is) tt)

  module _ (n : NodeId) (from taken : ℕ) (here : FrameView) (s : IsSearched p n from taken here) where
    -- what comes behind the literals and variables that are next
    looks : (gap k : ℕ) → k + gap ≡ strict_at p (Form n from) → Past p n from k here → (next : Option NodeId) × LooksPast p n from here next
    looks zero k e past = (None, past-all p valid n from taken k here s past (λ h. omega arith) (omega arith))
    looks (suc gap) k e past =
        let few : k < strict_at p (Form n from) = omega arith in
        let inside : from + k < length (node_at p n).parts = part-there p valid n from (length here.env) k s.fits few in
        let q : NodeId = get_or (node_at p n).parts (from + k) n in
        let found : slice_get (node_at p n).parts (from + k) ≡ Some q = slice_get-get_or (node_at p n).parts (from + k) n inside in
        elim (leaf-or-form q (part-in p valid n from (length here.env) k q s.fits few found) (node_at p q).head refl) [
          | inl leaf ↦ looks gap (k + 1) (omega arith) (past-leaf p valid n from taken k here s past q few found leaf)
          | inr form ↦ (Some q, past-form p valid n from taken k here s past q few found form)
        ]

    -- the redex is this form, or lies in that part
    by-next : (mk : Option Seq) (round : List FrameView) → FramesFit p mk round → (next : Option NodeId) → LooksPast p n from here next →
        ((q : NodeId) (inner : FrameView) (more : List FrameView) → q.0 < n.0 → IsSearched p q 0 0 inner → FramesFit p mk more → Q mk (within_forms p more (form_at p inner))) →
        Q mk (within_forms p round (form_at p here))
    by-next mk round fit None past deeper = subst (λ e. Q mk (within_forms p round e)) past.same (settled mk round (at_form n from past.done here.env) fit past.ahead)
    by-next mk round fit (Some q) past deeper =
        let next : IsNext p n from (at_form n from past.done here.env) q = past.ahead in
        let found : Q mk (within_forms p (at_form n from past.done here.env ∷ round) (form_at p (at_start q here.env))) =
        deeper q (at_start q here.env) (at_form n from past.done here.env ∷ round) next.below
        (record { at = refl; many = refl; few = omega arith; fits = next.fits })
        (record { site = s.fits; waits = next.few }, tt, fit)
        in
        subst (λ e. Q mk (within_forms p round e)) past.same (subst (Q mk) (form-in p n from past.done here.env round q next) found)

  searched : (fuel : ℕ) (n : NodeId) (from taken : ℕ) (here : FrameView) (mk : Option Seq) (round : List FrameView) → n.0 < fuel → IsSearched p n from taken here → FramesFit p mk round → Q mk (within_forms p round (form_at p here))
  searched zero n from taken here mk round lt s fit = absurd (omega arith)
  searched (suc fuel) n from taken here mk round lt s fit =
      let many : length here.done ≡ taken = s.many in
      let few : length here.done ≤ strict_at p (Form n from) = s.few in
      let ahead : (next : Option NodeId) × LooksPast p n from here next = looks n from taken here s (strict_at p (Form n from) - taken) taken (omega arith) (past-start p n from taken here s) in
      by-next n from taken here s mk round fit ahead.0 ahead.1
      (λ q inner more below is fits. searched fuel q 0 0 inner mk more (omega arith) is fits)

  -- a form that is begun
  pub begun : (mk : Option Seq) (round : List FrameView) (n : NodeId) (env : List Datum) → n.0 < length p.nodes → IsForm (node_at p n).head → IsScoped (length env) (tree_at p n) → FramesFit p mk round →
      Q mk (within_forms p round (put (slice_get env) (expr_of (tree_at p n))))
  begun mk round n env there is scoped fit =
      subst (λ e. Q mk (within_forms p round e)) (sym (form-start p valid n there env is))
      (searched (suc n.0) n 0 0 (at_start n env) mk round (omega arith)
      (record { at = refl; many = refl; few = omega arith; fits = fits-start p valid n there (length env) is (begins-left p valid n there) scoped }) fit)

  -- a value in a section leaves it, and in any other form it is one of its parts
  value-in : (mk : Option Seq) (f : FrameView) (fs : List FrameView) (v : Datum) → FramesFit p mk (f ∷ fs) → (s : Site) → f.site ≡ s → Q (outside mk f.site) (within_forms p fs (form_at p (with_value f v)))
  value-in mk f fs v fit (Section m outer) at = settled (outside mk f.site) fs (with_value f v) fit.2 (section-settled p f v fs mk fit m outer at)
  value-in mk f fs v fit (Form n from) at =
      searched (suc n.0) n from (length f.done + 1) (with_value f v) (outside mk f.site) fs (omega arith)
      (record { at = at; many = length-append f.done (v ∷ []); few = few-values p f v fs mk fit n from at; fits = form-fits p f v fs mk fit n from at }) fit.2

  -- a value within frames
  pub value-within : (mk : Option Seq) (f : FrameView) (fs : List FrameView) (v : Datum) → FramesFit p mk (f ∷ fs) → Q (outside mk f.site) (within_forms p (f ∷ fs) (value v))
  value-within mk f fs v fit = subst (Q (outside mk f.site)) (give-form p f v fs) (value-in mk f fs v fit f.site refl)
