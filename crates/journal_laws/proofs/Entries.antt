-- What is reached from an Enter, by nodes and edges.
use Rattle.std.proofs.Common.{◌≡◌, ℕ, true, List, ◌∷◌, ◌++◌, refl}
use Rattle.std.specs.Prelude.{◌↔◌}
use Rattle.stab_journal.specs.declared.event.Label.{Label}
use Rattle.stab_journal.specs.declared.event.Label.TheVariants.{Enter}
use Rattle.std.proofs.lemmas.Bool.{false≢true}
use Rattle.stab_journal.specs.declared.event.Numbered.{Numbered}
use Rattle.stab_journal.specs.Floor.{is_enter, is_entered}
use Rattle.stab_journal.specs.Journal.{RiseFrom}
use Rattle.stab_journal.specs.Names.{has}
use Rattle.stab_journal.specs.Reached.{reached}
use Rattle.journal_laws.specs.Lines.{is_node, Marked, IsFromLine}
use Rattle.journal_laws.proofs.Held.{only_entry}
use Rattle.journal_laws.proofs.Lines.{reached_lines, lines_reached, marked_is_reached}

enter_is_node : (l : Label) → is_enter l ≡ true → is_node l ≡ true
enter_is_node (Enter t) h = refl
enter_is_node _ h = absurd (false≢true h)

module _ (run : List Numbered) (m : ℕ) (rise : RiseFrom 1 run) (entered : is_entered m run ≡ true) where
  starts : (before : List Numbered) (n : Numbered) (after : List Numbered) → run ≡ before ++ n ∷ after → m ≡ n.seq.0 → is_node n.label ≡ true
  starts before n after cut at = enter_is_node n.label (only_entry run m rise entered before n after cut at)

  pub lines : (before : List Numbered) (f : Numbered) (after : List Numbered) → run ≡ before ++ f ∷ after → (has (reached run m) f.seq.0 ≡ true) ↔ IsFromLine run m f
  lines before f after cut = ((λ h. (reached_lines run m 1 rise starts before f after cut h).1), lines_reached run m 1 rise starts f)

  pub nodes : (before : List Numbered) (f : Numbered) (after : List Numbered) → run ≡ before ++ f ∷ after → is_node f.label ≡ true → (has (reached run m) f.seq.0 ≡ true) ↔ Marked run m f
  nodes before f after cut node = ((λ h. (reached_lines run m 1 rise starts before f after cut h).0 node), marked_is_reached run m 1 rise starts f)
