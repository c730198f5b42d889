-- What is next of a control is what is next of its expression.
use Rattle.std.proofs.Common.{◌≡◌, List, [], map, Some, None, refl, ap, sym, ◌∙◌, subst}
use Rattle.stab_base.specs.Datum.{Datum}
use Rattle.stab_base.specs.declared.numbers.Seq.{Seq}
use Rattle.std.proofs.Common.{Option}
use Rattle.stab_code.specs.Program.{ProgramParts}
use Rattle.language.specs.Outcome.{told}
use Rattle.language.specs.Expression.{Expr, value, failed}
use Rattle.language.specs.Look.{look, look_by}
use Rattle.language.specs.Outcome.{Outcome, becomes, fails, acts}
use Rattle.language.specs.Program.{body}
use Rattle.language.specs.Table.{Look}
use Rattle.step_eval.specs.declared.act.Act.{Act}
use Rattle.step_eval.specs.declared.ask.Ask.{Ask}
use Rattle.step_eval.specs.declared.ask.Ask.TheVariants as ask
use Rattle.step_eval.specs.declared.machine.Focus.{Focus}
use Rattle.step_eval.specs.declared.machine.Focus.TheVariants as focus
use Rattle.step_eval.specs.declared.machine.Machine.{Machine}
use Rattle.step_eval.specs.Acts.{act_with}
use Rattle.step_eval.specs.Asked.{AsksRightly, IsAsked, operands_of, values_at}
use Rattle.step_eval.specs.ControlView.{ControlView, Fits, RedexIsFound, focus_expr, focus_view, expr_of as expr_in}
use Rattle.step_eval.specs.Seen.{seen_at}
use Rattle.step_eval.specs.FrameView.{FrameView}
use Rattle.step_eval.specs.Meaning.{frame_at, within_forms}
use Rattle.step_eval.specs.Turns.{turn_at}
use Rattle.step_eval.specs.View.{here_of, round_of}
use Rattle.step_eval.proofs.Stepping.{look-settled}

module _ (p : ProgramParts) where
  step-next : (vs : List Datum) (round : List FrameView) (o : Outcome) → told o ≡ None → IsAsked (body p) vs (look_by (map (frame_at p) round) o) ask.More
  step-next vs round (becomes e) none = refl
  step-next vs round (fails k) none = refl
  step-next vs round (acts a) none = cc

  act-next : (vs : List Datum) (round : List FrameView) (o : Outcome) (a : Act) → told o ≡ Some (act_with (body p) vs a) → IsAsked (body p) vs (look_by (map (frame_at p) round) o) (ask.Act a)
  act-next vs round (becomes e) a is = cc
  act-next vs round (fails k) a is = cc
  act-next vs round (acts b) a is = let same : b ≡ act_with (body p) vs a = cc in same

  abbrev pub asked : Focus → Ask
  asked (focus.Begun n) = ask.More
  asked focus.Form = ask.More
  asked (focus.Act a) = ask.Act a
  asked (focus.Value v) = ask.Done
  asked (focus.Fault k) = ask.Failed k

  asked-by : (f : Focus) (h : FrameView) (round : List FrameView) (mk : Option Seq) → Fits p (record { focus = focus_view f h; round = round; mark = mk }) → RedexIsFound (record { focus = focus_view f h; round = round; mark = mk }) → IsAsked (body p) (values_at (focus_view f h)) (look (body p) (within_forms p round (focus_expr p (focus_view f h)))) (asked f)
  asked-by (focus.Begun n) h round mk fits found = elim found [ ]
  asked-by focus.Form h round mk fits found =
      let L : Look Expr → Type 0 = λ (l : Look Expr). IsAsked (body p) [] l ask.More in
      subst L (sym (look-settled p mk round h fits.frames fits.focus.0)) (step-next [] round (turn_at p h) fits.focus.1)
  asked-by (focus.Act a) h round mk fits found =
      let L : Look Expr → Type 0 = λ (l : Look Expr). IsAsked (body p) h.done l (ask.Act a) in
      subst L (sym (look-settled p mk round h fits.frames fits.focus.0)) (act-next h.done round (turn_at p h) a fits.focus.1)
  asked-by (focus.Value v) h round mk fits found =
      let R : List FrameView → Type 0 = λ (r : List FrameView). IsAsked (body p) [] (look (body p) (within_forms p r (value v))) ask.Done in
      subst R (sym found) refl
  asked-by (focus.Fault k) h round mk fits found =
      let R : List FrameView → Type 0 = λ (r : List FrameView). IsAsked (body p) [] (look (body p) (within_forms p r (failed k))) (ask.Failed k) in
      subst R (sym fits.focus) refl

  seen-asked : (m : Machine) (f : Focus) → Fits p (seen_at f m) → RedexIsFound (seen_at f m) → IsAsked (body p) (operands_of (seen_at f m)) (look (body p) (expr_in p (seen_at f m))) (asked f)
  seen-asked m (focus.Begun n) fits found = asked-by (focus.Begun n) (here_of m) (round_of m) m.mark fits found
  seen-asked m focus.Form fits found = asked-by focus.Form (here_of m) (round_of m) m.mark fits found
  seen-asked m (focus.Act a) fits found = asked-by (focus.Act a) (here_of m) (round_of m) m.mark fits found
  seen-asked m (focus.Value v) fits found = asked-by (focus.Value v) (here_of m) (round_of m) m.mark fits found
  seen-asked m (focus.Fault k) fits found = asked-by (focus.Fault k) (here_of m) [] None fits found

  pub asked-is : (v : ControlView) (m : Machine) (g f : Focus) → v ≡ seen_at g m → g ≡ f → Fits p v → RedexIsFound v → IsAsked (body p) (operands_of v) (look (body p) (expr_in p v)) (asked f)
  asked-is v m g f is at fits found =
      let F : ControlView → Type 0 = λ (x : ControlView). Fits p x in
      let R : ControlView → Type 0 = λ (x : ControlView). RedexIsFound x in
      let A : ControlView → Type 0 = λ (x : ControlView). IsAsked (body p) (operands_of x) (look (body p) (expr_in p x)) (asked f) in
      let here : v ≡ seen_at f m = is ∙ ap (λ h. seen_at h m) at in
      subst A (sym here) (seen-asked m f (subst F here fits) (subst R here found))

rightly-by : (p : ProgramParts) (f : Focus) (m : Machine) → Fits p (seen_at f m) → AsksRightly p (operands_of (seen_at f m)) (asked p f)
rightly-by p (focus.Begun n) m fits = tt
rightly-by p focus.Form m fits = tt
rightly-by p (focus.Act a) m fits = fits.focus.2
rightly-by p (focus.Value v) m fits = tt
rightly-by p (focus.Fault k) m fits = tt

-- an act that is next has its operands
pub asked-rightly : (p : ProgramParts) (v : ControlView) (m : Machine) (g f : Focus) → v ≡ seen_at g m → g ≡ f → Fits p v → AsksRightly p (operands_of v) (asked p f)
asked-rightly p v m g f is at fits =
    let F : ControlView → Type 0 = λ (x : ControlView). Fits p x in
    let A : ControlView → Type 0 = λ (x : ControlView). AsksRightly p (operands_of x) (asked p f) in
    let here : v ≡ seen_at f m = is ∙ ap (λ h. seen_at h m) at in
    subst A (sym here) (rightly-by p f m (subst F here fits))

-- a value whose redex is found stands in no frames
pub found-alone : (v : ControlView) (m : Machine) (g : Focus) (u : Datum) → v ≡ seen_at g m → g ≡ focus.Value u → RedexIsFound v → round_of m ≡ []
found-alone v m g u is at found =
    let R : ControlView → Type 0 = λ (x : ControlView). RedexIsFound x in
    subst R (is ∙ ap (λ h. seen_at h m) at) found
