-- How often steps were taken back in which a thread acts.
use Rattle.std.specs.Prelude.{ℕ, suc, Bool, false, cond, ◌&&◌, ◌||◌, List, [], ◌∷◌}
use Rattle.stab_journal.specs.declared.event.Numbered.{Numbered}
use Rattle.stab_journal.specs.declared.event.What.{What}
use Rattle.stab_journal.specs.declared.event.What.TheVariants.{Undo}
use Rattle.stab_journal.specs.declared.event.Event.{Event}
use Rattle.stab_journal.specs.Label.{actors}
use Rattle.stab_journal.specs.Names.{has}
use Rattle.stab_journal.specs.Reached.{reached}
use Rattle.stab_journal.specs.Surviving.{after_event}

-- the thread acts in a step that is gone
abbrev pub acts_in : (ℕ → Bool) → ℕ → List Numbered → Bool
acts_in gone t [] = false
acts_in gone t (n ∷ ns) = (gone n.seq.0 && has (actors n.label) t) || acts_in gone t ns

-- the event takes a step away in which the thread acts
abbrev pub puts_back : ℕ → What → List Numbered → Bool
puts_back t (Undo u m) run = acts_in (has (reached run m.0)) t run
puts_back t what run = false

-- g, and how many of the events, which are numbered from q on, put the thread back
abbrev pub generation_from : ℕ → ℕ → List Numbered → List Event → ℕ → ℕ
generation_from t q run [] g = g
generation_from t q run (e ∷ es) g = generation_from t (suc q) (after_event q e.what run) es (cond (puts_back t e.what run) (suc g) g)

-- how many events took a step away in which the thread acts
abbrev pub generation : ℕ → List Event → ℕ
generation t events = generation_from t 1 [] events 0
