-- What callers see, from how it is kept: channels and offers in vectors by number.
use Rattle.std.specs.Prelude.{◌≡◌, ℕ, ◌+◌, ◌*◌, ◌≤◌, Bool, true, false, List, [], ◌∷◌, Option, Some, None, nat_eq, length, get_or, if◌then◌else◌}
use Rattle.std.specs.List.{IsDistinct}
use Rattle.linked_lists.specs.Lists.{Seen, is_listed, StandsNowhere}
use Rattle.rendezvous.specs.declared.offer.Offer.{Offer}
use Rattle.rendezvous.specs.Offer.{sends_on, receives_on}
use Rattle.rendezvous.specs.Line.{Line, nobody, offered}
use Rattle.rendezvous.specs.Nodes.{line_at}

-- the lines of the channels that are there, where the first has the number c
abbrev pub lines_from : ℕ → List Bool → List (List ℕ) → List (Option Line)
lines_from c [] lists = []
lines_from c (there ∷ channels) lists = (if there then Some (line_at lists c) else None) ∷ lines_from (c + 1) channels lists

-- t stands in the line exactly where it offers so
abbrev pub OnLine : ℕ → ℕ → Option Offer → Line → Type 0
OnLine c t offer line = (is_listed t line.sends ≡ offered (sends_on c) offer) × (is_listed t line.receives ≡ offered (receives_on c) offer)

-- each channel has two lists and each thread two nodes, nobody waits on a channel that isn't there, and who waits stands once on each side on which it offers and nowhere else
pub record Backed (channels : List Bool) (offers : List (Option Offer)) (lists : Seen) : Type 0 where
  pub many : length lists.lists ≡ 2 * length channels
  pub nodes : lists.places ≡ 2 * length offers
  pub few : length offers ≤ 4294967296
  pub nought : StandsNowhere 0 lists.lists
  pub unmade : (c : ℕ) → get_or channels c false ≡ false → line_at lists.lists c ≡ nobody
  pub backed : (c t : ℕ) → OnLine c t (get_or offers t None) (line_at lists.lists c)
  pub once : (c : ℕ) → IsDistinct nat_eq (line_at lists.lists c).sends × IsDistinct nat_eq (line_at lists.lists c).receives
