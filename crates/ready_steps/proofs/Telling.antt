-- The same tests on what is next for an expression and on what is told of it.
use Rattle.std.proofs.Common.{◌≡◌, ℕ, refl}
use Rattle.language.specs.Expression.{Expr}
use Rattle.language.specs.Quiet as rest
use Rattle.plain_language.specs.Seen.{seen}
use Rattle.language.specs.Table.{sends, receives, picks, Look, done, fault, act, pure}
use Rattle.ready_steps.specs.Resting.{is_resting, receives_on, sends_on}

pub same_rest : (k : Look Expr) → rest.is_resting k ≡ is_resting (seen k)
same_rest (done v) = refl
same_rest (fault k) = refl
same_rest (pure e) = refl
same_rest (act (sends c v)) = refl
same_rest (act (receives c)) = refl
same_rest (act (picks c d)) = refl
same_rest (act a) = refl

pub same_sends : (c : ℕ) (k : Look Expr) → rest.sends_on c k ≡ sends_on c (seen k)
same_sends c (done v) = refl
same_sends c (fault k) = refl
same_sends c (pure e) = refl
same_sends c (act (sends d v)) = refl
same_sends c (act a) = refl

pub same_receives : (c : ℕ) (k : Look Expr) → rest.receives_on c k ≡ receives_on c (seen k)
same_receives c (done v) = refl
same_receives c (fault k) = refl
same_receives c (pure e) = refl
same_receives c (act (receives d)) = refl
same_receives c (act (picks a b)) = refl
same_receives c (act a) = refl
