-- Going in keeps the expression, and the form that was at hand fits as a frame.
use Rattle.std.proofs.Common.{◌≡◌, ℕ, ◌∷◌, List, Option, length, ◌∙◌, sym, ap, subst, arith}
use Rattle.std.specs.Arc.{arc_value}
use Rattle.stab_base.specs.Datum.{Datum}
use Rattle.stab_base.specs.declared.numbers.Seq.{Seq}
use Rattle.step_eval.specs.FrameView.{FrameView}
use Rattle.step_eval.specs.Fits.{FormFits, FramesFit}
use Rattle.step_eval.specs.Meaning.{at_form, at_start, form_at, within_forms}
use Rattle.step_eval.specs.Ready.{IsNext}
use Rattle.step_eval.specs.View.{here_of, round_of}
use Rattle.step_eval.proofs.Standing.{form-in}
use Rattle.step_eval.proofs.machine.Machine.settle.Goals as goal

pub take_leaves-requires : goal.take_leaves-requires
take_leaves-requires c =
    let P : List Datum → Type 0 = λ (vs : List Datum). FormFits c.args.p.now c.inward.n c.inward.from (length vs) in
    record { fits = subst P (sym (c.values.ensures ∙ c.deref.ensures)) c.inward.invariant.fits; few = c.inward.invariant.few }

pub inward-preserved : goal.inward-preserved
inward-preserved c =
    let p = c.args.p.now in
    let n = c.inward.n in
    let from = c.inward.from in
    let part = c.in-Some.part in
    let env : List Datum = arc_value c.inward.self.env in
    let done : List Datum = c.take_leaves.new.done.items in
    let old : List Datum = c.inward.self.done.items in
    let round : List FrameView = round_of c.inward.self in
    let values : c.values.result.now ≡ env = c.values.ensures ∙ c.deref.ensures in
    let N : List Datum → Type 0 = λ (vs : List Datum). IsNext p n from (at_form n from done vs) part in
    let next : IsNext p n from (at_form n from done env) part = subst N values (rw c.in-Some.is at c.in_ok-part.ensures.next) in
    let F : List Datum → Type 0 = λ (vs : List Datum). form_at p (at_form n from done vs) ≡ form_at p (at_form n from old vs) in
    let form : form_at p (at_form n from done env) ≡ form_at p (at_form n from old env) = subst F values c.take_leaves.ensures.form in
    let rounds : round_of c.go_in.new.self ≡ at_form n from done env ∷ round = c.in_ok-go_in.ensures.round ∙ ap (λ s. record { site = s; done = done; env = env } ∷ round) c.inward.invariant.site in
    let here : here_of c.go_in.new.self ≡ at_start part env = c.in_ok-go_in.ensures.here in
    let S : ℕ → Type 0 = λ (k : ℕ). FormFits p part 0 k in
    let R : List FrameView → Type 0 = λ (r : List FrameView). FramesFit p c.inward.self.mark r in
    let M : Option Seq → Type 0 = λ (m : Option Seq). FramesFit p m (round_of c.go_in.new.self) in
    record {
      site = ap (λ (v : FrameView). v.site) here;
      fits = subst S (sym (ap (λ (v : FrameView). length v.env) here)) next.fits;
      few = (let none : length c.go_in.new.self.done.items ≡ 0 = ap (λ (v : FrameView). length v.done) here in omega arith);
      frames = subst M (sym c.go_in.ensures.mark) (subst R (sym rounds) (record { site = c.inward.invariant.fits; waits = next.few }, tt, c.inward.invariant.frames));
      same =
          ap (λ r. within_forms p r (form_at p (here_of c.go_in.new.self))) rounds
          ∙ ap (λ (v : FrameView). within_forms p (at_form n from done env ∷ round) (form_at p v)) here
          ∙ form-in p n from done env round part next
          ∙ ap (within_forms p round) form
          ∙ ap (λ s. within_forms p round (form_at p (record { site = s; done = old; env = env }))) (sym c.inward.invariant.site)
          ∙ c.inward.invariant.same;
    }
