-- The next answer of a plan.
use Rattle.std.proofs.Common.{◌≡◌, ◌≢◌, ℕ, ◌+◌, ◌<◌, Bool, true, false, List, ◌∷◌, ◌++◌, length, take, drop, get_or, refl, suc, sym, ap, ◌∙◌, add-one, drop-cons, append-nil}
use Rattle.std.proofs.lemmas.Bool.{false≢true}
use Rattle.std.proofs.lemmas.List.{take_more}
use Rattle.number_source.specs.declared.came.Came.{Came}
use Rattle.number_source.specs.declared.came.Came.TheVariants.{Number, Nothing, End, Bad, Failed}
use Rattle.number_source.specs.Came.{numbers_in, numbers_of}
use Rattle.number_source.specs.Sources.{next_answer, plan_behind}
use Rattle.number_source.proofs.Numbers.{numbers_of_snoc}

-- an answer that is no gap
next_here : (waits : Bool) (answer : Came) (plan : List Came) → answer ≢ Nothing → next_answer waits (answer ∷ plan) ≡ answer
next_here waits (Number n) plan no_gap = refl
next_here waits Nothing plan no_gap = absurd (no_gap refl)
next_here waits End plan no_gap = refl
next_here waits (Bad at) plan no_gap = refl
next_here waits Failed plan no_gap = refl

behind_here : (waits : Bool) (answer : Came) (plan : List Came) → answer ≢ Nothing → plan_behind waits (answer ∷ plan) ≡ plan
behind_here waits (Number n) plan no_gap = refl
behind_here waits Nothing plan no_gap = absurd (no_gap refl)
behind_here waits End plan no_gap = refl
behind_here waits (Bad at) plan no_gap = refl
behind_here waits Failed plan no_gap = refl

module _ (plan : List Came) (n : ℕ) (answer : Came) (within : n < length plan) (is : answer ≡ get_or plan n answer) where
  here : drop n plan ≡ answer ∷ drop (n + 1) plan
  here = rw add-one (drop-cons plan n answer within ∙ ap (λ (a : Came). a ∷ drop (suc n) plan) (sym is))

  pub taken : numbers_of (take (n + 1) plan) ≡ numbers_of (take n plan) ++ numbers_in answer
  taken = rw (take_more plan n answer within) (numbers_of_snoc (take n plan) (get_or plan n answer) ∙ ap (λ a. numbers_of (take n plan) ++ numbers_in a) (sym is))

  -- an answer that is no gap
  pub answer_here : (waits : Bool) → answer ≢ Nothing → next_answer waits (drop n plan) ≡ answer
  answer_here waits no_gap = ap (next_answer waits) here ∙ next_here waits answer (drop (n + 1) plan) no_gap

  pub plan_here : (waits : Bool) → answer ≢ Nothing → plan_behind waits (drop n plan) ≡ drop (n + 1) plan
  plan_here waits no_gap = ap (plan_behind waits) here ∙ behind_here waits answer (drop (n + 1) plan) no_gap

  gap : answer ≡ Nothing → drop n plan ≡ Nothing ∷ drop (n + 1) plan
  gap nothing = here ∙ ap (λ (a : Came). a ∷ drop (n + 1) plan) nothing

  pub taken_gap : answer ≡ Nothing → numbers_of (take (n + 1) plan) ≡ numbers_of (take n plan)
  taken_gap nothing = taken ∙ ap (λ a. numbers_of (take n plan) ++ numbers_in a) nothing ∙ append-nil (numbers_of (take n plan))

  -- a gap that a caller passes who waits
  pub answer_passed : (waits : Bool) → waits ≡ true → answer ≡ Nothing → next_answer waits (drop n plan) ≡ next_answer waits (drop (n + 1) plan)
  answer_passed true waits nothing = ap (next_answer true) (gap nothing)
  answer_passed false waits nothing = absurd (false≢true waits)

  pub plan_passed : (waits : Bool) → waits ≡ true → answer ≡ Nothing → plan_behind waits (drop n plan) ≡ plan_behind waits (drop (n + 1) plan)
  plan_passed true waits nothing = ap (plan_behind true) (gap nothing)
  plan_passed false waits nothing = absurd (false≢true waits)
