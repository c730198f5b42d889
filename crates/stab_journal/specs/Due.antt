-- Which printed values are final, and how many of them wait to be released.
use Rattle.std.specs.Prelude.{ℕ, ◌-◌, Bool, true, false, ◌&&◌, nat_lt, count_by, List, [], ◌∷◌}
use Rattle.stab_journal.specs.declared.event.Label.{Label}
use Rattle.stab_journal.specs.declared.event.Label.TheVariants.{Print}
use Rattle.stab_journal.specs.declared.event.Numbered.{Numbered}
use Rattle.stab_journal.specs.declared.event.What.{What}
use Rattle.stab_journal.specs.declared.event.What.TheVariants.{Release}
use Rattle.stab_journal.specs.declared.event.Event.{Event}
use Rattle.stab_journal.specs.Floor.{floor}
use Rattle.stab_journal.specs.Surviving.{run_of}

abbrev pub is_print : Label → Bool
is_print (Print t) = true
is_print _ = false

-- how many prints of the run stand before its last cut
abbrev pub final_prints : List Numbered → ℕ
final_prints run = count_by (λ (n : Numbered). is_print n.label && nat_lt n.seq.0 (floor run)) run

abbrev pub released_by : What → ℕ → ℕ
released_by (Release k) before = k
released_by what before = before

-- what the last release of the events says, k where there is none
abbrev pub released_from : ℕ → List Event → ℕ
released_from k [] = k
released_from k (e ∷ es) = released_from (released_by e.what k) es

-- how many values were released, 0 before the first release
abbrev pub released : List Event → ℕ
released events = released_from 0 events

-- how many final values aren't released yet
abbrev pub due : List Event → ℕ
due events = final_prints (run_of events) - released events
