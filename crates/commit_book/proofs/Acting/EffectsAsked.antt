-- What a control answers when it is asked, in the words of the plain language.
use Rattle.std.proofs.Common.{◌≡◌, ℕ, false, List, refl, sym, ap}
use Rattle.std.proofs.lemmas.Bool.{false≢true}
use Rattle.stab_base.specs.Datum.{Datum}
use Rattle.stab_code.specs.Program.{ProgramParts}
use Rattle.language.specs.Expression.{Expr, value, failed}
use Rattle.language.specs.Plain.{look_in}
use Rattle.language.specs.Table as table
use Rattle.language.specs.Table.{Look, done, fault, act, pure}
use Rattle.step_eval.specs.declared.act.Act.{Act}
use Rattle.step_eval.specs.declared.ask.Ask.TheVariants as ask
use Rattle.step_eval.specs.Acts.{act_with}
use Rattle.step_eval.specs.Asked.{IsAsked}
use Rattle.commit_book.specs.Doing.{is_over, is_failed}

-- where an act is answered, the expression stands at it
pub asked_act : (fs : ℕ → Expr) (vs : List Datum) (k : Look Expr) (a : Act) → IsAsked fs vs k (ask.Act a) → k ≡ act (act_with fs vs a)
asked_act fs vs (done v) a is = absurd (cc)
asked_act fs vs (fault k) a is = absurd (cc)
asked_act fs vs (pure e) a is = absurd (cc)
asked_act fs vs (act x) a is = ap act is

-- an expression at an act isn't over
pub act_goes_on : (p : ProgramParts) (e : Expr) (a : table.Act Expr) → look_in p e ≡ act a → is_over e ≡ false
act_goes_on p (value v) a looks = absurd (cc)
act_goes_on p (failed k) a looks = absurd (cc)
act_goes_on p _ a looks = refl

pub not_failed : (e : Expr) → is_over e ≡ false → is_failed e ≡ false
not_failed (failed k) h = absurd (false≢true (sym h))
not_failed _ h = refl
