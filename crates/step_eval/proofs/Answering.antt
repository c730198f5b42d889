-- What comes into the place of an act.
use Rattle.std.proofs.Common.{◌≡◌, ℕ, List, map, slice_get, Option, Some, None, IsSome, ap, sym, ◌∙◌}
use Rattle.std.specs.Arc.{arc_value}
use Rattle.stab_base.specs.Datum.{Datum}
use Rattle.stab_base.specs.declared.numbers.Seq.{Seq}
use Rattle.stab_code.specs.declared.node_id.NodeId.{NodeId}
use Rattle.stab_code.specs.Program.{ProgramParts, tree_at}
use Rattle.language.specs.Expression.{put}
use Rattle.language.specs.Expression as expr
use Rattle.language.specs.Outcome.{called}
use Rattle.language.specs.Program.{body, expr_of}
use Rattle.language.specs.Redex.{frames, frames_of}
use Rattle.step_eval.specs.declared.machine.Focus.{Focus}
use Rattle.step_eval.specs.declared.machine.Focus.TheVariants as focus
use Rattle.step_eval.specs.declared.machine.Machine.{Machine}
use Rattle.step_eval.specs.declared.machine.Running.{Running}
use Rattle.step_eval.specs.Asked.{act_at, act_next}
use Rattle.step_eval.specs.ControlView.{Fits, focus_expr, focus_view, view_of, expr_of as expr_in}
use Rattle.step_eval.specs.Seen.{seen_at}
use Rattle.step_eval.specs.Entries.{IsBodyEntry}
use Rattle.step_eval.specs.Fits.{FramesFit}
use Rattle.step_eval.specs.FrameView.{FrameView}
use Rattle.step_eval.specs.Meaning.{frame_at, within_forms}
use Rattle.step_eval.specs.Sections.{entry_of}
use Rattle.step_eval.specs.View.{here_of, round_of}
use Rattle.step_eval.proofs.Redexes.{redex-settled}
use Rattle.step_eval.proofs.Stepping.{expr-by}

module _ (p : ProgramParts) where
  frames-by : (f : Focus) (h : FrameView) (round : List FrameView) (mk : Option Seq) → IsSome (act_at (focus_view f h)) → Fits p (record { focus = focus_view f h; round = round; mark = mk }) → frames (within_forms p round (focus_expr p (focus_view f h))) ≡ map (frame_at p) round
  frames-by (focus.Begun n) h round mk some fits = cc
  frames-by focus.Form h round mk some fits = cc
  frames-by (focus.Act a) h round mk some fits = ap frames_of (redex-settled p mk round h fits.frames fits.focus.0)
  frames-by (focus.Value v) h round mk some fits = cc
  frames-by (focus.Fault k) h round mk some fits = cc

  -- the forms round an act are the frames
  pub act-frames : (r : Running) → IsSome (act_next (view_of r)) → Fits p (view_of r) → frames (expr_in p (view_of r)) ≡ map (frame_at p) (round_of r.machine)
  act-frames r some fits = frames-by r.focus (here_of r.machine) (round_of r.machine) r.machine.mark some fits

  -- the same of a control that looks at an act beside the machine
  pub seen-frames : (f : Focus) (m : Machine) → IsSome (act_next (seen_at f m)) → Fits p (seen_at f m) → frames (expr_in p (seen_at f m)) ≡ map (frame_at p) (round_of m)
  seen-frames (focus.Begun n) m some fits = cc
  seen-frames focus.Form m some fits = cc
  seen-frames (focus.Act a) m some fits = frames-by (focus.Act a) (here_of m) (round_of m) m.mark some fits
  seen-frames (focus.Value v) m some fits = cc
  seen-frames (focus.Fault k) m some fits = cc

  pub seen-fit : (f : Focus) (m : Machine) → IsSome (act_next (seen_at f m)) → Fits p (seen_at f m) → FramesFit p m.mark (round_of m)
  seen-fit (focus.Begun n) m some fits = fits.frames
  seen-fit focus.Form m some fits = fits.frames
  seen-fit (focus.Act a) m some fits = fits.frames
  seen-fit (focus.Value v) m some fits = fits.frames
  seen-fit (focus.Fault k) m some fits = absurd (let wrong : ⊥ = cc in wrong)

  -- a body that is entered, or its value
  pub entry-expr : (r : Running) (k : ℕ) (n : NodeId) (o : Option Datum) (vs : List Datum) (round : List FrameView) → r.focus ≡ entry_of n o → arc_value r.machine.env ≡ vs → round_of r.machine ≡ round → IsBodyEntry p k vs n o → expr_in p (view_of r) ≡ within_forms p round (called (body p) k vs)
  entry-expr r k n None vs round looks envs rounds entry =
      expr-by p r (focus.Begun n) looks
      ∙ ap (λ e. within_forms p (round_of r.machine) (put (slice_get e) (expr_of (tree_at p n)))) envs
      ∙ ap (λ fs. within_forms p fs (put (slice_get vs) (expr_of (tree_at p n)))) rounds
      ∙ ap (within_forms p round) (sym entry.is_called)
  entry-expr r k n (Some v) vs round looks envs rounds entry =
      expr-by p r (focus.Value v) looks
      ∙ ap (λ fs. within_forms p fs (expr.value v)) rounds
      ∙ ap (within_forms p round) (sym entry)
