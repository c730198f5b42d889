-- Who waits on a channel.
use Rattle.std.specs.Prelude.{◌≡◌, ℕ, ◌||◌, true, false, nat_eq, Bool, List, [], ◌∷◌, ◌++◌, Option, Some, None, IfSome, IsSome, refl, if◌then◌else◌}
use Rattle.std.specs.List.{IsDistinct, list_any}
use Rattle.std.specs.Ordering.{nat_cmp}
use Rattle.std.specs.FinMap as map
use Rattle.std.specs.FinMap.{FinMap}
use Rattle.std.specs.Coded.{Coded, code_by, coded×, coded_ℕ, coded_list}
use Rattle.rendezvous.specs.declared.offer.Side.{Side}
use Rattle.rendezvous.specs.declared.offer.Side.TheVariants as side
use Rattle.rendezvous.specs.declared.offer.Offer.{Offer}
use Rattle.rendezvous.specs.contracts.offer.Offer as offer_row
use Rattle.rendezvous.specs.Offer.{sends_on, receives_on}
use Rattle.linked_lists.specs.Lists.{without}

-- the threads that wait on a channel to send and those that wait to receive, each the longest waiting first
pub record Line : Type 0 where
  pub sends : List ℕ
  pub receives : List ℕ

-- a line and the lines are stored as the tuples of their fields
abbrev pub line_code : Coded Line
line_code = code_by (List ℕ × List ℕ) (coded× (coded_list coded_ℕ) (coded_list coded_ℕ)) (λ l. (l.sends, l.receives)) (λ p. record { sends = p.0; receives = p.1 }) (λ _. refl)

-- the channels that are there, by number, with who waits on each
abbrev pub Lines : Type 0
Lines = FinMap nat_cmp Line

abbrev pub lines_code : Coded Lines
lines_code = map.code coded_ℕ line_code

-- the channels with who waits on each, and what each thread that waits offers
pub record Seen : Type 0 where
  pub lines : Lines
  pub offers : FinMap nat_cmp Offer

-- they are stored as the pair of both
abbrev pub seen_code : Coded Seen
seen_code = code_by (Lines × FinMap nat_cmp Offer) (coded× lines_code (map.code coded_ℕ offer_row.the_row.coded)) (λ s. (s.lines, s.offers)) (λ p. record { lines = p.0; offers = p.1 }) (λ _. refl)

-- nobody waits
abbrev pub nobody : Line
nobody = record { sends = []; receives = [] }

-- those who wait on this side
abbrev pub waiting : Side → Line → List ℕ
waiting side.Send line = line.sends
waiting side.Recv line = line.receives

-- the line of the channel c once t waits there with its offer, where the offer is on c
abbrev pub joined : ℕ → Offer → ℕ → Line → Line
joined t offer c line = record { sends = line.sends ++ (if sends_on c offer then t ∷ [] else []); receives = line.receives ++ (if receives_on c offer then t ∷ [] else []) }

-- the line without the offer of t
abbrev pub left : ℕ → Line → Line
left t line = record { sends = without t line.sends; receives = without t line.receives }

-- t isn't in the line, where there is one
abbrev pub Absent : ℕ → Option Line → Type 0
Absent t line = IfSome line (λ l. (list_any (nat_eq t) l.sends ≡ false) × (list_any (nat_eq t) l.receives ≡ false))

-- t waits nowhere
abbrev pub HasNoOffer : Lines → ℕ → Type 0
HasNoOffer lines t = (c : ℕ) → Absent t (map.get lines c)

-- each channel of the offer is there
abbrev pub AreThere : Lines → Offer → Type 0
AreThere lines offer = (c : ℕ) → (sends_on c offer || receives_on c offer) ≡ true → IsSome (map.get lines c)

-- whether what is offered passes the test
abbrev pub offered : (Offer → Bool) → Option Offer → Bool
offered p None = false
offered p (Some o) = p o

-- t stands in the line of the channel c exactly where it offers so, and offers nothing on a channel that isn't there
abbrev pub LineBacked : ℕ → ℕ → Option Offer → Option Line → Type 0
LineBacked c t offer None = (offered (sends_on c) offer ≡ false) × (offered (receives_on c) offer ≡ false)
LineBacked c t offer (Some l) = (list_any (nat_eq t) l.sends ≡ offered (sends_on c) offer) × (list_any (nat_eq t) l.receives ≡ offered (receives_on c) offer)

-- what holds of all offers: each thread stands in the lines of what it offers and in no other, once on a side
pub record IsSound (s : Seen) : Type 0 where
  pub backed : (c t : ℕ) → LineBacked c t (map.get s.offers t) (map.get s.lines c)
  pub once : (c : ℕ) → IfSome (map.get s.lines c) (λ l. IsDistinct nat_eq l.sends × IsDistinct nat_eq l.receives)
