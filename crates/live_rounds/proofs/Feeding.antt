-- What the script got, stretch after stretch.
use Rattle.std.proofs.Common.{◌≡◌, ℤ, List, [], ◌++◌, Option, None, sym, ap, ◌∙◌, append-nil, append_assoc}
use Rattle.stab_code.specs.JobParts.{JobParts, longer}
use Rattle.live_rounds.specs.declared.halt.Halt.{Halt}
use Rattle.live_rounds.specs.Numbers.{IsFed, IsLeftOver}

-- nothing came
pub fed_none : (halt : Option Halt) (old new : JobParts) (before after : List ℤ) → new ≡ old → after ≡ before → IsLeftOver halt new [] → IsFed halt old new before after
fed_none halt old new before after same none left = record {
  numbers = [];
  over = [];
  came = none ∙ sym (append-nil before) ∙ sym (append-nil (before ++ []));
  script = same ∙ ap (λ (s : List ℤ). record old { script = s }) (sym (append-nil old.script));
  left = left;
}

longer_twice : (job : JobParts) (xs ys : List ℤ) → longer (longer job xs) ys ≡ longer job (xs ++ ys)
longer_twice job xs ys = ap (λ (s : List ℤ). record job { script = s }) (append_assoc job.script xs ys)

-- one stretch behind another
pub fed_then : (halt : Option Halt) (a b c : JobParts) (x y z : List ℤ) → IsFed None a b x y → IsFed halt b c y z → IsFed halt a c x z
fed_then halt a b c x y z first next = record {
  numbers = first.numbers ++ next.numbers;
  over = next.over;
  came =
      next.came
      ∙ ap (λ (s : List ℤ). s ++ next.numbers ++ next.over) (first.came ∙ ap (λ (s : List ℤ). x ++ first.numbers ++ s) first.left ∙ append-nil (x ++ first.numbers))
      ∙ ap (λ (s : List ℤ). s ++ next.over) (append_assoc x first.numbers next.numbers);
  script = next.script ∙ ap (λ (j : JobParts). longer j next.numbers) first.script ∙ longer_twice a first.numbers next.numbers;
  left = next.left;
}
