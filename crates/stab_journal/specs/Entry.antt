-- What an entry of a journal holds.
use Rattle.std.specs.Prelude.{Bool, refl}
use Rattle.std.specs.Coded.{Coded, code_by, coded×, coded_bool}
use Rattle.stab_journal.specs.declared.event.Event.{Event}

-- an event, and whether it was struck
pub record Entry : Type 0 where
  pub event : Event
  pub struck : Bool

-- an entry is stored as the pair of these
abbrev pub entry_code : Coded Event → Coded Entry
entry_code event_code = code_by (Event × Bool) (coded× event_code coded_bool) (λ e. (e.event, e.struck)) (λ p. record { event = p.0; struck = p.1 }) (λ _. refl)
