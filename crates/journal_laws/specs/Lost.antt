-- What a run loses when some of its steps go.
use Rattle.std.specs.Prelude.{ℕ, Bool, false, cond, not, ◌&&◌, ◌||◌, List, [], ◌∷◌}
use Rattle.stab_journal.specs.declared.event.Numbered.{Numbered}
use Rattle.stab_journal.specs.Label.{touched, written}
use Rattle.stab_journal.specs.Names.{made, has, is_at}

-- a step that goes touches the thread
abbrev pub is_hit : (ℕ → Bool) → ℕ → List Numbered → Bool
is_hit gone t [] = false
is_hit gone t (n ∷ ns) = (gone n.seq.0 && has (touched n.label) t) || is_hit gone t ns

-- a step that goes made the channel
abbrev pub is_unmade : (ℕ → Bool) → ℕ → List Numbered → Bool
is_unmade gone c [] = false
is_unmade gone c (n ∷ ns) = (gone n.seq.0 && is_at (made n.label) c) || is_unmade gone c ns

-- a step that stays writes the reference
abbrev pub is_written : (ℕ → Bool) → ℕ → List Numbered → Bool
is_written gone r [] = false
is_written gone r (n ∷ ns) = (not (gone n.seq.0) && is_at (written n.label) r) || is_written gone r ns

-- the last write of the reference is a step that goes
abbrev pub is_stale : (ℕ → Bool) → ℕ → Bool → List Numbered → Bool
is_stale gone r b [] = b
is_stale gone r b (n ∷ ns) = is_stale gone r (cond (is_at (written n.label) r) (gone n.seq.0) b) ns
