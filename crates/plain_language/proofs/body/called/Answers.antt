use Rattle.std.proofs.Common.{◌≡◌, ◌∙◌, ap, sym, subst, IfOk}
use Rattle.std.specs.Prelude.{slice_get}
use Rattle.language.specs.Busy.{values_in}
use Rattle.language.specs.Expression.{Expr, put}
use Rattle.plain_language.specs.Given.{given_to}
use Rattle.language.specs.Outcome.{called}
use Rattle.language.specs.Program.{body}
use Rattle.plain_language.specs.declared.given.Given.TheVariants.{All}
use Rattle.plain_language.proofs.Bodies.{body_is, given_values}
use Rattle.language.proofs.Putting.{put-agree}
use Rattle.plain_language.proofs.body.called.Goals as goal

pub returns-in_ok-written-in-Some : goal.returns-in_ok-written-in-Some
returns-in_ok-written-in-Some c =
    let p = c.args.program.now in
    let e = c.in_ok-written-in-Some.field-0 in
    let is : put (given_to (All c.args.parts)) e ≡ called (body p) c.args.f.0 (values_in c.args.parts.now) =
    put-agree (given_to (All c.args.parts)) (slice_get (values_in c.args.parts.now)) (given_values c.args.parts.now c.requires) e
    ∙ ap (put (slice_get (values_in c.args.parts.now))) (c.in_ok-written-in-Some.ensures ∙ sym (body_is p (slice_get p.functions c.args.f.0) c.in-Some.n c.in-Some.ensures.value)) in
    subst (λ (x : Expr). IfOk c.put_copy-in-Some.result (λ copy. copy ≡ x)) is c.put_copy-in-Some.ensures
