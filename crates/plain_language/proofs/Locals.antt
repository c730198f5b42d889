-- Pure steps of a thread that is there.
use Rattle.std.proofs.Common.{◌≡◌, ℕ, [], ◌∷◌, ◌++◌, Option, Some, None, sym, ap, ◌∙◌, append-nil}
use Rattle.std.specs.Prelude.{option_and_then, option_map}
use Rattle.stab_base.specs.declared.numbers.ThreadId.{ThreadId}
use Rattle.stab_journal.specs.declared.event.Label.TheVariants.{Local}
use Rattle.language.specs.Changes.{with_thread}
use Rattle.language.specs.Expression.{Expr}
use Rattle.language.specs.Held.{Held}
use Rattle.language.specs.Plain.{PlainState, language_of, standing}
use Rattle.plain_language.specs.Plays.{step_in}
use Rattle.language.specs.Steps.{apply}
use Rattle.language.specs.Table.{effect, local_by, to}

-- what prints nothing leaves the output
same_output : (s : PlainState) → record s { output = s.output ++ [] } ≡ s
same_output s = ap (λ out. record s { output = out }) (append-nil s.output)

module _ (h : Held) (q : ℕ) (t : ThreadId) (n : ℕ) (e : Expr) (there : Some e ≡ standing h.state t.0) where
  by_steps : step_in h q (Local t n) ≡ option_map (apply h.state (Local t n)) (local_by (language_of h.program) n e)
  by_steps =
      ap (λ (o : Option Expr). option_map (apply h.state (Local t n)) (option_and_then (λ es. effect (language_of h.program) q (Local t n) es None) (option_and_then (λ x. option_map (λ xs. x ∷ xs) (Some [])) o))) (sym there)

  pub no_steps : None ≡ local_by (language_of h.program) n e → step_in h q (Local t n) ≡ None
  no_steps none = by_steps ∙ ap (option_map (apply h.state (Local t n))) (sym none)

  pub steps_made : (f : Expr) → Some (to (language_of h.program) f) ≡ local_by (language_of h.program) n e → step_in h q (Local t n) ≡ Some (with_thread h t.0 f).state
  steps_made f some =
      by_steps
      ∙ ap (option_map (apply h.state (Local t n))) (sym some)
      ∙ ap Some (same_output (with_thread h t.0 f).state)
