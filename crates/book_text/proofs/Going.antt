-- Where a control isn't over, something is next for it.
use Rattle.std.proofs.Common.{◌≡◌, true, false, List, Option, Some, None, refl}
use Rattle.std.specs.Prelude.{IfSome, IsSome}
use Rattle.std.specs.FinMap as map
use Rattle.stab_code.specs.Program.{ProgramParts}
use Rattle.stab_code.specs.Valid.{IsValid}
use Rattle.thread_slots.specs.Slot.{Slot}
use Rattle.language.specs.Expression.{Expr, value, failed}
use Rattle.language.specs.Look.{look_at, look_by}
use Rattle.language.specs.Outcome.{Outcome, becomes, fails, acts, outcome}
use Rattle.language.specs.Plain.{look_in}
use Rattle.language.specs.Program.{body}
use Rattle.language.specs.Redex.{Frame, Redex, redex}
use Rattle.step_eval.specs.declared.rest.Rest.TheVariants.{Going}
use Rattle.step_eval.specs.ControlView.{ControlView, Fits, expr_of}
use Rattle.step_eval.specs.Rests.{rest_of}
use Rattle.step_eval.proofs.Whole.{redex-there}
use Rattle.commit_book.specs.Book.{BookView, IsShown}
use Rattle.commit_book.specs.Doing.{is_over}
use Rattle.book_text.proofs.Showing.{goes_on, IsWhole, AreWhole}

goes_by : (round : List Frame) (o : Outcome) → goes_on (look_by round o) ≡ true
goes_by round (becomes e) = refl
goes_by round (fails k) = refl
goes_by round (acts a) = refl

module _ (p : ProgramParts) (valid : IsValid p) where
  goes_at : (o : Option Redex) → IsSome o → goes_on (look_at (body p) o) ≡ true
  goes_at None there = absurd (let wrong : ⊥ = cc in wrong)
  goes_at (Some r) there = goes_by r.round (outcome (body p) r.head r.values r.waiting)

  goes : (e : Expr) → (rest_of e ≡ Going → IsSome (redex e)) → is_over e ≡ false → goes_on (look_in p e) ≡ true
  goes (value v) there not_over = absurd (let wrong : ⊥ = cc in wrong)
  goes (failed k) there not_over = absurd (let wrong : ⊥ = cc in wrong)
  goes e there not_over = goes_at (redex e) (there refl)

  pub whole : (c : ControlView) → Fits p c → IsWhole p (expr_of p c)
  whole c fits = goes (expr_of p c) (redex-there p valid c fits)

-- so it is for the threads of a book
pub all_whole : (b : BookView) → IsValid b.job.program → IsShown b → AreWhole b
all_whole b valid shown t = each (map.get b.threads t) (shown.shows.threads.fit t)
  where
    each : (o : Option (Slot ControlView)) → IfSome o (λ slot. Fits b.job.program slot.control) → IfSome o (λ slot. IsWhole b.job.program (expr_of b.job.program slot.control))
    each None fits = tt
    each (Some slot) fits = whole b.job.program valid slot.control fits
