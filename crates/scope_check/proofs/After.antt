-- One step after another.
use Rattle.std.specs.Prelude.{◌≡◌, Result, Ok, Err, IfOk}
use Rattle.std.proofs.Common.{refl}
use Rattle.scope_check.specs.declared.fault.ScopeFault.{ScopeFault}
use Rattle.scope_check.specs.Scope.{after}

pub IfOk-after : {A B : Type 0} (m : Result A ScopeFault) (f : A → Result B ScopeFault) (Q : A → Type 0) (P : B → Type 0) → IfOk m Q → ((a : A) → Q a → IfOk (f a) P) → IfOk (after m f) P
IfOk-after (Ok a) f Q P q then = then a q
IfOk-after (Err e) f Q P q then = tt

-- a second step whose result has this, whatever the first gives
pub any-step : {A B : Type 0} (m : Result A ScopeFault) (f : A → Result B ScopeFault) (P : B → Type 0) → ((a : A) → IfOk (f a) P) → IfOk (after m f) P
any-step (Ok a) f P then = then a
any-step (Err e) f P then = tt

-- two steps behind a first are one
pub after-after : {A B C : Type 0} (m : Result A ScopeFault) (f : A → Result B ScopeFault) (g : B → Result C ScopeFault) → after (after m f) g ≡ after m (λ a. after (f a) g)
after-after (Ok a) f g = refl
after-after (Err e) f g = refl

-- two second steps that are the same for what the first gives
pub after-same : {A B : Type 0} (m : Result A ScopeFault) (f g : A → Result B ScopeFault) (Q : A → Type 0) → IfOk m Q → ((a : A) → Q a → f a ≡ g a) → after m f ≡ after m g
after-same (Ok a) f g Q q same = same a q
after-same (Err e) f g Q q same = refl
