-- The cuts of events.
use Rattle.std.specs.Prelude.{◌≡◌, ℕ, Bool, true, false, count_by, take, List, Some}
use Rattle.stab_base.specs.declared.numbers.ThreadId.{ThreadId}
use Rattle.stab_journal.specs.declared.event.Event.{Event}
use Rattle.stab_journal.specs.declared.event.Label.TheVariants.{Cut}
use Rattle.stab_journal.specs.declared.event.What.{What}
use Rattle.stab_journal.specs.declared.event.What.TheVariants.{Step}
use Rattle.stab_journal.specs.Journal.{event_at}
use Rattle.language.specs.Standing.{event}

abbrev pub is_cut : What → Bool
is_cut (Step (Cut t)) = true
is_cut what = false

-- how many cuts there are, struck ones too
abbrev pub cuts_in : List Event → ℕ
cuts_in = count_by (λ (e : Event). is_cut e.what)

-- the event numbered q is the n-th cut
pub record IsCutOf (events : List Event) (n q : ℕ) : Type 0 where
  pub cut : (w : ℕ) × (t : ThreadId) × (event_at events q ≡ Some (event w (Step (Cut t))))
  pub nth : cuts_in (take q events) ≡ n
