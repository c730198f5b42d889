-- When a thread may take its section back.
use Rattle.std.proofs.Common.{◌≡◌, ℕ, true, false, ◌&&◌, List, refl, sym, ap, ◌∙◌}
use Rattle.std.specs.Prelude.{Option, Some, None, IsSomeAnd, option_map}
use Rattle.std.proofs.lemmas.Bool.{false≢true, eqb-true, and_parts}
use Rattle.std.specs.Cmp.{nat_eq_equiv}
use Rattle.stab_code.specs.Program.{ProgramParts}
use Rattle.stab_journal.specs.declared.event.Numbered.{Numbered}
use Rattle.stab_journal.specs.Since.{is_revocable_since}
use Rattle.stab_journal.specs.Names.{is_at}
use Rattle.language.specs.Expression.{Expr}
use Rattle.language.specs.Plain.{PlainState, look_in, mark_in, standing}
use Rattle.plain_language.specs.Seen.{seen}
use Rattle.language.specs.Since.{MayUndoSince}
use Rattle.language.specs.Standing.{is_stabilize}
use Rattle.language.specs.Table.{spawns, makes_chan, makes_ref, gets, sets, sends, receives, picks, enters, stabilizes, cuts, pins, prints, probes, attempts, Look, done, fault, act, pure}
use Rattle.trace_verify.specs.Surviving.{is_at_stabilize, may_undo_since}

-- what is told of an expression tells whether it is at a stabilize
seen_stabilize : (l : Look Expr) → is_at_stabilize (Some (seen l)) ≡ is_stabilize l
seen_stabilize (done v) = refl
seen_stabilize (fault k) = refl
seen_stabilize (pure e) = refl
seen_stabilize (act (spawns b)) = refl
seen_stabilize (act makes_chan) = refl
seen_stabilize (act (makes_ref v)) = refl
seen_stabilize (act (gets r)) = refl
seen_stabilize (act (sets r v)) = refl
seen_stabilize (act (sends c v)) = refl
seen_stabilize (act (receives c)) = refl
seen_stabilize (act (picks c d)) = refl
seen_stabilize (act (enters b)) = refl
seen_stabilize (act stabilizes) = refl
seen_stabilize (act cuts) = refl
seen_stabilize (act pins) = refl
seen_stabilize (act (prints v)) = refl
seen_stabilize (act probes) = refl
seen_stabilize (act attempts) = refl

at_seen : (p : ProgramParts) (o : Option Expr) → is_at_stabilize (option_map (λ e. seen (look_in p e)) o) ≡ true → IsSomeAnd o (λ e. is_stabilize (look_in p e) ≡ true)
at_seen p None h = absurd (false≢true h)
at_seen p (Some e) h = sym (seen_stabilize (look_in p e)) ∙ h

seen_at : (p : ProgramParts) (o : Option Expr) → IsSomeAnd o (λ e. is_stabilize (look_in p e) ≡ true) → is_at_stabilize (option_map (λ e. seen (look_in p e)) o) ≡ true
seen_at p None h = absurd h
seen_at p (Some e) h = seen_stabilize (look_in p e) ∙ h

mark_at : (o : Option ℕ) (m : ℕ) → is_at o m ≡ true → o ≡ Some m
mark_at None m h = absurd (false≢true h)
mark_at (Some k) m h = ap Some (sym (eqb-true m k h))

pub may : (q : ℕ) (p : ProgramParts) (run : List Numbered) (s : PlainState) (t m : ℕ) → may_undo_since q p run s t m ≡ true → MayUndoSince q p run s t m
may q p run s t m h =
    let one = and_parts (is_at_stabilize (option_map (λ e. seen (look_in p e)) (standing s t)) && is_at (mark_in s t) m) (is_revocable_since q run m) h in
    let two = and_parts (is_at_stabilize (option_map (λ e. seen (look_in p e)) (standing s t))) (is_at (mark_in s t) m) one.0 in
    record { at = at_seen p (standing s t) two.0; mark = mark_at (mark_in s t) m two.1; revocable = one.1 }

pub may_not : (q : ℕ) (p : ProgramParts) (run : List Numbered) (s : PlainState) (t m : ℕ) → may_undo_since q p run s t m ≡ false → MayUndoSince q p run s t m → ⊥
may_not q p run s t m h u =
    false≢true (sym h
    ∙ ap (λ b. b && is_at (mark_in s t) m && is_revocable_since q run m) (seen_at p (standing s t) u.at)
    ∙ ap (λ o. is_at o m && is_revocable_since q run m) u.mark
    ∙ ap (λ b. b && is_revocable_since q run m) (nat_eq_equiv.refl m)
    ∙ u.revocable)
