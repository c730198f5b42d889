-- At alike stands the same comes of a step.
use Rattle.std.proofs.Common.{◌≡◌, ℕ, List, refl, sym, ap, subst, ◌∙◌}
use Rattle.std.specs.Prelude.{decimal}
use Rattle.stab_code.specs.JobParts.{JobParts}
use Rattle.stab_code.specs.Program.{ProgramParts}
use Rattle.language.specs.Expression.{Expr}
use Rattle.language.specs.Plain.{language_of}
use Rattle.language.specs.Table.{pure_steps}
use Rattle.step_eval.specs.ControlView.{ControlView, expr_of}
use Rattle.step_eval.specs.Progress.{ProgressView}
use Rattle.commit_book.specs.Book.{BookView}
use Rattle.lone_worker.specs.Desk.{Desk, desk_of}
use Rattle.lone_worker.specs.Turn.{IsAdvanced}
use Rattle.lone_worker.proofs.PureSteps.{MakesAll, same_steps}
use Rattle.schedule_drill.specs.declared.held.At.{At}
use Rattle.schedule_drill.specs.declared.held.At.TheVariants.{Lent, Stepped}
use Rattle.schedule_drill.specs.declared.held.Held.{Held}
use Rattle.schedule_drill.specs.Alike.{AreAlike, IsOneHeld, IsOnePlace, origin_of}
use Rattle.schedule_drill.specs.Out.{IsStepped, steps_now}
use Rattle.schedule_drill.specs.Played.{IsStep, Stand}
use Rattle.schedule_drill.proofs.OneLease.{IsSame, alike_put}

makes : (job : JobParts) (c : ControlView) (f : ProgressView) → IsAdvanced job c f → MakesAll (language_of job.program) job.quantum (expr_of job.program c) f.steps (expr_of job.program f.end)
makes job c f is = record { made = ap (λ o. pure_steps (language_of job.program) f.steps (expr_of job.program o)) (sym is.origin) ∙ is.made.made; within = is.within; stops = is.stops }

-- the steps of a lease begin where it was lent
pub stepped_origin : (job : JobParts) (at : At) (f : ProgressView) → IsStepped job at f → f.origin ≡ origin_of at
stepped_origin job (Lent control) f is = is.origin
stepped_origin job (Stepped made) f is = ap (λ (g : ProgressView). g.origin) is

-- two that were stepped
pub record AreStepped (p q : ProgramParts) (h i : At) (f g : ProgressView) : Type 0 where
  pub place : IsOnePlace p q (Stepped f) (Stepped g)
  pub now : steps_now h f ≡ steps_now i g

pub one_stepped : (j k : JobParts) → j ≡ k → (h i : At) (f g : ProgressView) → IsOnePlace j.program k.program h i → IsStepped j h f → IsStepped k i g → AreStepped j.program k.program h i f g
one_stepped j k same (Lent c) (Lent d) f g one fa ga =
    let here = subst (λ (o : JobParts). MakesAll (language_of o.program) o.quantum (expr_of j.program c) f.steps (expr_of j.program f.end)) same (makes j c f fa) in
    let there = subst (λ (e : Expr). MakesAll (language_of k.program) k.quantum e f.steps (expr_of j.program f.end)) one here in
    let s = same_steps (language_of k.program) k.quantum f.steps g.steps (expr_of k.program d) (expr_of j.program f.end) (expr_of k.program g.end) there (makes k d g ga) in
    record { place = (s.steps, s.end); now = s.steps }
one_stepped j k same (Stepped m) (Stepped n) f g one fa ga = record {
  place = (ap (λ (o : ProgressView). o.steps) fa ∙ one.0 ∙ sym (ap (λ (o : ProgressView). o.steps) ga), ap (λ (o : ProgressView). expr_of j.program o.end) fa ∙ one.1 ∙ sym (ap (λ (o : ProgressView). expr_of k.program o.end) ga));
  now = refl;
}
one_stepped j k same (Lent c) (Stepped n) f g one fa ga = absurd one
one_stepped j k same (Stepped m) (Lent d) f g one fa ga = absurd one

pub one_step : (a b x y : Stand) (k : ℕ) (s t : List ℕ) (h i : Held) → AreAlike a b → IsOneHeld a.book.job.program b.book.job.program h i → IsStep a x k s h → IsStep b y k t i → IsSame x y s t
one_step a b x y k s t h i alike one sa sb =
    let st = one_stepped a.book.job b.book.job (ap (λ (d : Desk). d.job) alike.desk) h.at i.at sa.progress sb.progress one.at sa.stepped sb.stepped in
    record {
      told = sa.told ∙ ap decimal st.now ∙ sym sb.told;
      alike = alike_put a b x y k (record h { at = Stepped sa.progress }) (record i { at = Stepped sb.progress }) alike (record { lease = one.lease; at = st.place })
          (ap desk_of sa.book ∙ alike.desk ∙ sym (ap desk_of sb.book)) (ap (λ (b : BookView). b.job) sa.book) (ap (λ (b : BookView). b.job) sb.book) sa.out sb.out;
    }
