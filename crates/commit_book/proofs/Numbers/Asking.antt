-- Who asks for a number, in the words of the code.
use Rattle.std.proofs.Common.{◌≡◌, ℕ, Bool, true, false, List, refl, sym, ap, subst, ◌∙◌}
use Rattle.stab_base.specs.Datum.{Datum}
use Rattle.stab_code.specs.Program.{ProgramParts}
use Rattle.language.specs.Expression.{Expr}
use Rattle.language.specs.Look.{look}
use Rattle.language.specs.Plain.{look_in}
use Rattle.language.specs.Program.{body}
use Rattle.language.specs.Table.{Look, done, fault, act, pure}
use Rattle.step_eval.specs.declared.act.Act.{Act}
use Rattle.step_eval.specs.declared.act.Act.TheVariants as own
use Rattle.step_eval.specs.declared.ask.Ask.{Ask}
use Rattle.step_eval.specs.declared.ask.Ask.TheVariants as ask
use Rattle.step_eval.specs.Acts.{act_with}
use Rattle.step_eval.specs.Asked.{IsAsked, operands_of}
use Rattle.step_eval.specs.ControlView.{ControlView, Fits, RedexIsFound, expr_of}
use Rattle.step_eval.specs.Progress.{Advances, ProgressView}
use Rattle.commit_book.specs.Probing.{asks_probe, is_probe}

-- whether a probe is what is answered
abbrev names_probe : Ask → Bool
names_probe (ask.Act own.Probe) = true
names_probe _ = false

act_asks : (fs : ℕ → Expr) (vs : List Datum) (a : Act) → is_probe (act (act_with fs vs a)) ≡ names_probe (ask.Act a)
act_asks fs vs (own.Spawn f) = refl
act_asks fs vs own.NewChan = refl
act_asks fs vs own.NewRef = refl
act_asks fs vs (own.Get r) = refl
act_asks fs vs (own.Set r) = refl
act_asks fs vs (own.Send c) = refl
act_asks fs vs (own.Recv c) = refl
act_asks fs vs (own.Pick c d) = refl
act_asks fs vs (own.Enter f) = refl
act_asks fs vs own.Stabilize = refl
act_asks fs vs own.Cut = refl
act_asks fs vs own.Pin = refl
act_asks fs vs own.Print = refl
act_asks fs vs own.Probe = refl
act_asks fs vs own.Attempt = refl

probe_asked : (fs : ℕ → Expr) (vs : List Datum) (k : Look Expr) (a : Ask) → IsAsked fs vs k a → is_probe k ≡ names_probe a
probe_asked fs vs (done v) a is = sym (ap names_probe is)
probe_asked fs vs (fault f) a is = sym (ap names_probe is)
probe_asked fs vs (pure e) a is = sym (ap names_probe is)
probe_asked fs vs (act x) (ask.Act a) is = ap (λ y. is_probe (act y)) is ∙ act_asks fs vs a
probe_asked fs vs (act x) ask.More is = absurd is
probe_asked fs vs (act x) ask.Done is = absurd is
probe_asked fs vs (act x) (ask.Failed k) is = absurd is

-- what is answered where a progress ended
module _ (progress : ProgressView) (end : ControlView) (same : end ≡ progress.end) (made : Advances progress.program progress.origin progress.steps progress.end) (a : Ask)
    (asked : (p : ProgramParts) → Fits p end → RedexIsFound end → IsAsked (body p) (operands_of end) (look (body p) (expr_of p end)) a) where
  asks_as : asks_probe progress ≡ names_probe a
  asks_as =
      let p = progress.program in
      ap (λ (c : ControlView). is_probe (look_in p (expr_of p c))) (sym same)
      ∙ probe_asked (body p) (operands_of end) (look_in p (expr_of p end)) a
      (asked p (subst (Fits p) (sym same) made.fits) (subst RedexIsFound (sym same) made.found))

  pub other_act : (k : Act) → a ≡ ask.Act k → (k ≡ own.Probe → ⊥) → false ≡ asks_probe progress
  other_act k is other = sym (asks_as ∙ ap names_probe is ∙ by k other)
    where
      by : (k : Act) → (k ≡ own.Probe → ⊥) → names_probe (ask.Act k) ≡ false
      by own.Probe other = absurd (other refl)
      by _ other = refl

  pub no_act : ((k : Act) → a ≡ ask.Act k → ⊥) → false ≡ asks_probe progress
  no_act none = sym (asks_as ∙ by a none)
    where
      by : (b : Ask) → ((k : Act) → b ≡ ask.Act k → ⊥) → names_probe b ≡ false
      by (ask.Act k) none = absurd (none k refl)
      by _ none = refl
