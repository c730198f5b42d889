-- What an execution of the program says, put together from its parts.
use Rattle.std.proofs.Common.{◌≡◌, ◌∙◌, ◌⊎◌, ◌++◌, inl, inr, ℕ, List, [], None, Result, Ok, Err, IfOk, IfErr, ap, sym, subst}
use Rattle.call_status.specs.declared.status.Status.{Status}
use Rattle.call_report.specs.declared.report.Report.{Report}
use Rattle.call_report.specs.Reason.{blame_words, cause_words, made_words}
use Rattle.call_report.specs.Report.{Blames}
use Rattle.stab_top.specs.Command.{EndsWith}
use Rattle.sink_lines.specs.Device.{Device}

-- there was a line and it was written, or there was none
pub line_or_none : {T E : Type 0} (line : Result T E) (Written Silent : Type 0) → IfOk line (λ _. Written) → IfErr line (λ _. Silent) → Written ⊎ Silent
line_or_none (Ok x) Written Silent p q = inl p
line_or_none (Err e) Written Silent p q = inr q

pub executed : {T E : Type 0} (args : Result T E) (a : T) (P : T → Type 0) → args ≡ Ok a → P a → IfOk args P
executed args a P is p = subst (λ r. IfOk r P) (sym is) p

pub refused : {T E : Type 0} (args : Result T E) (e : E) (P : E → Type 0) → args ≡ Err e → P e → IfErr args P
refused args e P is p = subst (λ r. IfErr r P) (sym is) p

-- a report that neither blames nor made anything, with this status: the program ends so
pub ends_as : (report : Report) (said : Status) (number : ℕ) (errors after : Device (List ℕ)) → report.status ≡ said → Blames report None → EndsWith report.status (cause_words report) number errors after → EndsWith said [] number errors after
ends_as report said number errors after is bare ends =
    subst (λ s. EndsWith s [] number errors after) is
    (subst (λ c. EndsWith report.status c number errors after) (ap (λ b. blame_words b ++ made_words report.made) bare.blame ∙ ap (λ m. made_words m) bare.nothing) ends)
