-- What is said of a journal by the events behind the cut numbered q, and of numbers below one.
use Rattle.std.specs.Prelude.{◌≡◌, ℕ, suc, Bool, false, not, ◌+◌, ◌<◌, ◌&&◌, nat_lt, count_by, ℤ, List, [], slice_get, IfSome, Option, Some, None}
use Rattle.std.specs.List.{AllByRecursion}
use Rattle.stab_journal.specs.declared.event.Numbered.{Numbered}
use Rattle.stab_journal.specs.declared.event.Event.{Event}
use Rattle.stab_journal.specs.Due.{is_print}
use Rattle.stab_journal.specs.Floor.{is_entered, has_pin, floor_from}
use Rattle.stab_journal.specs.Reached.{reached}
use Rattle.stab_journal.specs.Generation.{generation_from}
use Rattle.stab_journal.specs.Script.{probed, script_at}

-- the numbers of the steps are below q
abbrev pub AreBelow : ℕ → List Numbered → Type 0
AreBelow q = AllByRecursion (λ (n : Numbered). n.seq.0 < q)

-- the section entered at m, in a run that begins behind the cut, can be taken back
abbrev pub is_revocable_since : ℕ → List Numbered → ℕ → Bool
is_revocable_since q run m = is_entered m run && nat_lt (floor_from q run) m && not (has_pin (reached run m) run)

-- there is a section, and it can be taken back
abbrev pub is_mark_revocable_since : ℕ → List Numbered → Option ℕ → Bool
is_mark_revocable_since q run None = false
is_mark_revocable_since q run (Some m) = is_revocable_since q run m

-- how many prints of a run that begins behind the cut stand before its last cut
abbrev pub final_prints_since : ℕ → List Numbered → ℕ
final_prints_since q run = count_by (λ (n : Numbered). is_print n.label && nat_lt n.seq.0 (floor_from q run)) run

-- the generation of a thread that had generation g at the cut, after these events
abbrev pub generation_since : ℕ → ℕ → ℕ → List Event → ℕ
generation_since q g t events = generation_from t (suc q) [] events g

-- each probe of these events, before which there were so many, got what the script has for it
abbrev pub FollowsSince : List ℤ → ℕ → List Event → Type 0
FollowsSince script used events = (i : ℕ) → IfSome (slice_get (probed events) i) (λ n. n ≡ script_at script (used + i))
