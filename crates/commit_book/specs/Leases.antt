-- Leases, as callers see them.
use Rattle.std.specs.Prelude.{ℕ, refl}
use Rattle.std.specs.Coded.{Coded, code_by, coded×, coded_ℕ}

-- who has it, the thread, and how often the thread had been put back
pub record LeaseView : Type 0 where
  pub worker : ℕ
  pub thread : ℕ
  pub generation : ℕ

-- it is stored as the tuple of its fields
abbrev pub lease_code : Coded LeaseView
lease_code =
    code_by (ℕ × (ℕ × ℕ)) (coded× coded_ℕ (coded× coded_ℕ coded_ℕ)) (λ l. (l.worker, (l.thread, l.generation)))
    (λ p. record { worker = p.0; thread = p.1.0; generation = p.1.1 }) (λ _. refl)
