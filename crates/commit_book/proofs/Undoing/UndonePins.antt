-- A pin is reached from a section exactly where one of the marked nodes is a pin's.
use Rattle.std.proofs.Common.{◌≡◌, ℕ, true, false, ◌&&◌, ◌||◌, List, [], ◌∷◌, ◌++◌, refl, sym, ap, ◌∙◌, append_assoc}
use Rattle.std.proofs.lemmas.Bool.{false≢true, and_parts}
use Rattle.stab_journal.specs.declared.event.Label.{Label}
use Rattle.stab_journal.specs.declared.event.Label.TheVariants.{Pin}
use Rattle.stab_journal.specs.declared.event.Numbered.{Numbered}
use Rattle.stab_journal.specs.Floor.{is_pin, has_pin}
use Rattle.stab_journal.specs.Journal.{RiseFrom}
use Rattle.stab_journal.specs.Names.{has}
use Rattle.stab_journal.specs.Reached.{reached}
use Rattle.comm_graph.specs.Node.{Node}
use Rattle.reach_line.specs.Reached as marks
use Rattle.restore.specs.Line.{IsMarkedAs}
use Rattle.journal_laws.specs.Lines.{is_node}
use Rattle.journal_laws.proofs.Chains.{or_right}
use Rattle.commit_book.specs.Graph.{AreNodesOf, is_pinned}
use Rattle.commit_book.proofs.Undoing.UndoneEdges.{IsUncut, lost_mark, marked_as, kind_step, stays_above}

pin_node : (l : Label) → is_pin l ≡ true → is_node l ≡ true
pin_node (Pin t) h = refl
pin_node _ h = absurd (false≢true h)

-- a lost pin
pub has_pin_at : (qs : List ℕ) (before : List Numbered) (n : Numbered) (after : List Numbered) → has qs n.seq.0 ≡ true → is_pin n.label ≡ true → has_pin qs (before ++ n ∷ after) ≡ true
has_pin_at qs [] n after lost pin = ap (λ b. (b && is_pin n.label) || has_pin qs after) lost ∙ ap (λ b. b || has_pin qs after) pin
has_pin_at qs (k ∷ before) n after lost pin = or_right (has qs k.seq.0 && is_pin k.label) _ (has_pin_at qs before n after lost pin)

module _ (run : List Numbered) (nodes : List Node) (rise : RiseFrom 1 run) (are : AreNodesOf nodes run) (m : ℕ) (uncut : IsUncut run m) (qs : List ℕ) (reach : marks.AreReached nodes m qs) where
  -- where a pin's node is marked, a pin is reached
  pub pin_reached : (q : ℕ) → IsMarkedAs nodes qs is_pinned q → has_pin (reached run m) run ≡ true
  pin_reached q is =
      let l = lost_mark run nodes rise are m uncut qs reach is_pinned q is in
      ap (has_pin (reached run m)) l.is ∙ has_pin_at (reached run m) l.before l.f l.after l.lost (sym l.kind.pins ∙ l.passes)

  none_in : ((q : ℕ) → IsMarkedAs nodes qs is_pinned q → ⊥) → (before ns : List Numbered) → run ≡ before ++ ns → has_pin (reached run m) ns ≡ false
  none_in none before [] cut = refl
  none_in none before (n ∷ ns) cut =
      ap (λ b. b || has_pin (reached run m) ns) (elim (has (reached run m) n.seq.0 && is_pin n.label) as (λ b. (has (reached run m) n.seq.0 && is_pin n.label) ≡ b → b ≡ false) [
        | true ↦ λ both.
            let parts = and_parts (has (reached run m) n.seq.0) (is_pin n.label) both in
            let node = pin_node n.label parts.1 in
            let k = kind_step run nodes rise are n before ns cut node (stays_above run m n.seq.0 rise uncut parts.0) in
            absurd (none n.seq.0 (marked_as run nodes rise are m uncut qs reach is_pinned before n ns cut node parts.0 (k.pins ∙ parts.1)))
        | false ↦ λ neither. refl
      ] refl)
      ∙ none_in none (before ++ n ∷ []) ns (cut ∙ sym (append_assoc before (n ∷ []) ns))

  -- where none is, none is
  pub no_pin_reached : ((q : ℕ) → IsMarkedAs nodes qs is_pinned q → ⊥) → has_pin (reached run m) run ≡ false
  no_pin_reached none = none_in none [] run refl
