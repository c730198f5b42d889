-- What is true of a result, by what follows from what is known of it.
use Rattle.std.proofs.Common.{Result, Ok, Err, IfOk, IfErr, OnOk}

module _ {T E : Type 0} where
  pub if_ok : (r : Result T E) (P Q : T → Type 0) → ((x : T) → P x → Q x) → IfOk r P → IfOk r Q
  if_ok (Ok x) P Q f p = f x p
  if_ok (Err e) P Q f p = tt

  pub if_err : (r : Result T E) (P Q : E → Type 0) → ((x : E) → P x → Q x) → IfErr r P → IfErr r Q
  if_err (Ok x) P Q f p = tt
  if_err (Err e) P Q f p = f e p

  pub on_ok : (r : Result T E) (P Q : Type 0) → (P → Q) → OnOk r P → OnOk r Q
  on_ok (Ok x) P Q f p = f p
  on_ok (Err e) P Q f p = tt
