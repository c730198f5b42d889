-- What is asked of a run whose steps are compared with a journal's.
use Rattle.std.specs.Prelude.{◌≡◌, ℕ, Bool, false, nat_eq, List, [], ◌∷◌, Some}
use Rattle.std.specs.List.{AllByRecursion}
use Rattle.stab_journal.specs.declared.event.Event.{Event}
use Rattle.stab_journal.specs.declared.event.Numbered.{Numbered}
use Rattle.stab_journal.specs.Journal.{RiseFrom, label_at}

-- the steps are some of those of the events, in order
pub record AreStepsOf (events : List Event) (run : List Numbered) : Type 0 where
  pub rises : RiseFrom 1 run
  pub labels : AllByRecursion (λ (n : Numbered). label_at events n.seq.0 ≡ Some n.label) run

-- the first step has the number q
abbrev pub starts_at : ℕ → List Numbered → Bool
starts_at q [] = false
starts_at q (n ∷ ns) = nat_eq n.seq.0 q
