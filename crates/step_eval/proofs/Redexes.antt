-- The redex of a control whose redex is found is what it looks at, within its frames.
use Rattle.std.proofs.Common.{◌≡◌, ℕ, zero, suc, ◌+◌, ◌<◌, ◌≤◌, Bool, true, false, List, [], ◌∷◌, ◌++◌, map, length, drop, slice_get, Option, Some, None, option_map, refl, ap, sym, ◌∙◌, arith, append-nil, append_assoc, cond}
use Rattle.stab_base.specs.Datum.{Datum}
use Rattle.stab_base.specs.declared.fault.Fault.TheVariants.{TooDeep}
use Rattle.stab_base.specs.declared.numbers.Seq.{Seq}
use Rattle.std.proofs.lemmas.Bool.Decides.{nat_tests}
use Rattle.std.proofs.lemmas.List.{length-map}
use Rattle.std.specs.Prelude.{nat_lt}
use Rattle.stab_code.specs.declared.head.Head as code
use Rattle.stab_code.specs.declared.head.Head.TheVariants.{Block, If, Two}
use Rattle.stab_code.specs.declared.head.Op.TheVariants.{Or, And}
use Rattle.stab_code.specs.Heads.{strict_parts}
use Rattle.stab_code.specs.Program.{ProgramParts, trees_at}
use Rattle.language.specs.declared.head.Head.{Head}
use Rattle.language.specs.Expression.{Expr, Parts, failed, none, put_parts}
use Rattle.step_eval.specs.Arrival.{Arrives}
use Rattle.language.specs.Frames.{AreFrames}
use Rattle.language.specs.Program.{exprs_of}
use Rattle.language.specs.Redex.{Frame, Redex, after_values, cap, first_counts_alone, frames_of, innermost, mark, redex, redex_in, section_or, spine}
use Rattle.language.proofs.Unique.{redex-within}
use Rattle.step_eval.specs.declared.machine.Focus.{Focus}
use Rattle.step_eval.specs.declared.machine.Focus.TheVariants as focus
use Rattle.step_eval.specs.declared.machine.Running.{Running}
use Rattle.step_eval.specs.declared.site.Site.{Site}
use Rattle.step_eval.specs.declared.site.Site.TheVariants.{Form, Section}
use Rattle.step_eval.specs.ControlView.{Fits, RedexIsFound, focus_expr, focus_view, view_of}
use Rattle.step_eval.specs.Fits.{FramesFit, IsMarkAt, outside}
use Rattle.step_eval.specs.FrameView.{FrameView}
use Rattle.step_eval.specs.Meaning.{form_at, frame_at, head_at, head_of, head_left, node_at, behind_values, strict_at, waiting_at, within_forms}
use Rattle.step_eval.specs.Ready.{IsSettled}
use Rattle.step_eval.specs.View.{here_of, round_of}

empty : {A : Type 0} (xs : List A) → length xs < 1 → xs ≡ []
empty [] h = refl
empty (x ∷ xs) h = absurd (omega arith)

dropped : {A : Type 0} (xs : List A) (k : ℕ) → length xs ≤ k → drop k xs ≡ []
dropped [] zero h = refl
dropped [] (suc k) h = refl
dropped (x ∷ xs) zero h = absurd (omega arith)
dropped (x ∷ xs) (suc k) h = dropped xs k (omega arith)

-- where the first part counts alone, one counts; else all do
alone_head : (h : code.Head) (from parts : ℕ) → first_counts_alone (head_of (head_left from h)) ≡ true → strict_parts h parts ≡ 1
alone_head (Block slots) from parts e = refl
alone_head If from parts e = refl
alone_head (Two Or) from parts e = refl
alone_head (Two And) from parts e = refl
alone_head _ from parts e = cc

all_head : (h : code.Head) (from parts : ℕ) → first_counts_alone (head_of (head_left from h)) ≡ false → strict_parts h parts ≡ parts
all_head (Block slots) from parts e = cc
all_head If from parts e = cc
all_head (Two Or) from parts e = cc
all_head (Two And) from parts e = cc
all_head _ from parts e = refl

module _ (p : ProgramParts) where
  alone : (s : Site) → first_counts_alone (head_at p s) ≡ true → strict_at p s ≡ 1
  alone (Form n from) e = alone_head (node_at p n).head from (length (node_at p n).parts) e
  alone (Section m outer) e = refl

  rest-none : (s : Site) (k : ℕ) → first_counts_alone (head_at p s) ≡ false → k ≡ strict_at p s → waiting_at p s k ≡ none
  rest-none (Section m outer) k e is = refl
  rest-none (Form n from) k e is =
      let all : strict_parts (node_at p n).head (length (node_at p n).parts) ≡ length (node_at p n).parts = all_head (node_at p n).head from (length (node_at p n).parts) e in
      ap (λ ns. exprs_of (trees_at p ns)) (dropped (node_at p n).parts (from + k) (omega arith))

  -- frames that fit are frames of a redex
  pub frames : (mk : Option Seq) (fs : List FrameView) → FramesFit p mk fs → AreFrames (map (frame_at p) fs)
  frames mk [] fit = tt
  frames mk (f ∷ fs) fit =
      (λ e. empty f.done (let one : strict_at p f.site ≡ 1 = alone f.site e in let few : length f.done < strict_at p f.site = fit.0.waits in omega arith), frames (outside mk f.site) fs fit.2)

  passed : (b : Bool) (x y : Option Redex) → b ≡ false → cond b x y ≡ y
  passed true x y e = cc
  passed false x y e = refl

  past : (h : Head) (vs left : List Datum) (ps : Parts) (round : List Frame) → first_counts_alone h ≡ false → redex_in (after_values vs ps) h left round ≡ redex_in ps h (left ++ vs) round
  past h [] left ps round e = ap (λ l. redex_in ps h l round) (sym (append-nil left))
  past h (v ∷ vs) left ps round e = passed (first_counts_alone h) _ _ e ∙ past h vs (left ++ v ∷ []) ps round e ∙ ap (λ l. redex_in ps h l round) (append_assoc left (v ∷ []) vs)

  found : (h : Head) (vs : List Datum) (ps : Parts) (round : List Frame) (b : Bool) → first_counts_alone h ≡ b → (b ≡ true → length vs ≡ 1) → (b ≡ false → ps ≡ none) → redex_in (after_values vs ps) h [] round ≡ Some (record { round = round; head = h; values = vs; waiting = ps })
  found h [] ps round true e one bare = let n : length {A = Datum} [] ≡ 1 = one refl in absurd (omega (arith, n))
  found h (v ∷ []) ps round true e one bare = rw e refl
  found h (v ∷ w ∷ vs) ps round true e one bare = let n : length (v ∷ w ∷ vs) ≡ 1 = one refl in absurd (omega (arith, n))
  found h vs ps round false e one bare =
      past h vs [] ps round e ∙ ap (λ qs. redex_in qs h vs round) (bare refl) ∙ ap (λ qs. Some (record { round = round; head = h; values = vs; waiting = qs })) (sym (bare refl))

  -- the redex of a settled form is that form
  pub redex-settled : (mk : Option Seq) (fs : List FrameView) (h : FrameView) → FramesFit p mk fs → IsSettled p h →
      redex (within_forms p fs (form_at p h)) ≡ Some (record { round = map (frame_at p) fs; head = head_at p h.site; values = h.done; waiting = behind_values p h })
  redex-settled mk fs h fit settled =
      redex-within (map (frame_at p) fs) (form_at p h) [] (frames mk fs fit) tt
      ∙ ap (λ round. redex_in (after_values h.done (behind_values p h)) (head_at p h.site) [] round) (append-nil (map (frame_at p) fs))
      ∙ found (head_at p h.site) h.done (behind_values p h) (map (frame_at p) fs) (first_counts_alone (head_at p h.site)) refl
      (λ e. settled.all ∙ alone h.site e)
      (λ e. ap (put_parts (slice_get h.env)) (rest-none h.site (length h.done) e settled.all))

  no_section : (h : code.Head) (from : ℕ) (outer : Option ℕ) → section_or (head_of (head_left from h)) outer ≡ outer
  no_section (Block slots) from outer = refl
  no_section _ from outer = refl

  by_site : (s : Site) (mk : Option Seq) (o : Option ℕ) → IsMarkAt mk s → o ≡ option_map (λ m. m.0) (outside mk s) → section_or (head_at p s) o ≡ option_map (λ m. m.0) mk
  by_site (Form n from) mk o at is = no_section (node_at p n).head from o ∙ is
  by_site (Section m outer) mk o at is = ap (option_map (λ q. q.0)) (sym at)

  -- the mark is the number of the innermost section among the frames
  pub innermost_is : (mk : Option Seq) (fs : List FrameView) → FramesFit p mk fs → innermost (map (frame_at p) fs) ≡ option_map (λ m. m.0) mk
  innermost_is mk [] fit = ap (option_map (λ m. m.0)) (sym fit)
  innermost_is mk (f ∷ fs) fit = by_site f.site mk (innermost (map (frame_at p) fs)) fit.1 (innermost_is (outside mk f.site) fs fit.2)

  -- the mark of a settled form
  pub mark_within : (mk : Option Seq) (fs : List FrameView) (h : FrameView) → FramesFit p mk fs → IsSettled p h → option_map (λ m. m.0) mk ≡ mark (within_forms p fs (form_at p h))
  mark_within mk fs h fit settled = sym (ap (λ o. innermost (frames_of o)) (redex-settled mk fs h fit settled) ∙ innermost_is mk fs fit)

  pub none_left : (mk : Option Seq) (round : List FrameView) → FramesFit p mk round → round ≡ [] → mk ≡ None
  none_left mk [] fit is = fit
  none_left mk (f ∷ fs) fit is = cc

  pub spine_within : (mk : Option Seq) (fs : List FrameView) (h : FrameView) → FramesFit p mk fs → IsSettled p h → spine (within_forms p fs (form_at p h)) ≡ length fs
  spine_within mk fs h fit settled = ap (λ o. length (frames_of o)) (redex-settled mk fs h fit settled) ∙ length-map fs (frame_at p)

  pub spine_by : (f : Focus) (h : FrameView) (round : List FrameView) (mk : Option Seq) → Fits p (record { focus = focus_view f h; round = round; mark = mk }) → RedexIsFound (record { focus = focus_view f h; round = round; mark = mk }) → spine (within_forms p round (focus_expr p (focus_view f h))) ≡ length round
  spine_by (focus.Begun n) h round mk fits is = elim is [ ]
  spine_by focus.Form h round mk fits is = spine_within mk round h fits.frames fits.focus.0
  spine_by (focus.Act a) h round mk fits is = spine_within mk round h fits.frames fits.focus.0
  spine_by (focus.Value v) h round mk fits is = ap (λ fs. spine (within_forms p fs (focus_expr p (focus_view (focus.Value v) h)))) is ∙ sym (ap length is)
  spine_by (focus.Fault k) h round mk fits is = ap (λ fs. spine (within_forms p fs (focus_expr p (focus_view (focus.Fault k) h)))) fits.focus ∙ sym (ap length fits.focus)

  -- as many forms stand round the redex as there are frames
  pub spine_is : (r : Running) (e : Expr) → Arrives p (view_of r) e → spine e ≡ length (round_of r.machine)
  spine_is r e a = ap spine (sym a.expr) ∙ spine_by r.focus (here_of r.machine) (round_of r.machine) r.machine.mark a.fits a.found

above : (n : ℕ) → 1000 < n → nat_lt 1000 n ≡ true
above n h = grind (arith, nat_tests)

not_above : (n : ℕ) → n ≤ 1000 → nat_lt 1000 n ≡ false
not_above n h = grind (arith, nat_tests)

pub cap-over : (e : Expr) (n : ℕ) → spine e ≡ n → 1000 < n → failed TooDeep ≡ cap e
cap-over e n is h = ap (λ b. cond b (failed TooDeep) e) (sym (ap (nat_lt 1000) is ∙ above n h))

pub cap-within : (e : Expr) (n : ℕ) → spine e ≡ n → n ≤ 1000 → e ≡ cap e
cap-within e n is h = ap (λ b. cond b (failed TooDeep) e) (sym (ap (nat_lt 1000) is ∙ not_above n h))
