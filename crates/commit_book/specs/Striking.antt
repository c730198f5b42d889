-- Steps that are struck, with what they wrote and made.
use Rattle.std.specs.Prelude.{◌≡◌, ℕ, ◌<◌, Bool, true, false, cond, not, ◌||◌, List, [], ◌∷◌, filter, length, nat_eq, Some, None}
use Rattle.std.specs.List.{IsDistinct}
use Rattle.std.specs.Option.{option_map_or}
use Rattle.std.specs.FinMap as map
use Rattle.std.specs.FinSet as set
use Rattle.stab_journal.specs.declared.event.Event.{Event}
use Rattle.stab_journal.specs.declared.event.Label.{Label}
use Rattle.stab_journal.specs.Due.{is_print}
use Rattle.stab_journal.specs.Journal.{IsLive, label_at}
use Rattle.stab_journal.specs.Label.{written}
use Rattle.stab_journal.specs.Names.{has, is_at, made}
use Rattle.rendezvous.specs.Line.{nobody}
use Rattle.ref_log.specs.Log.{Write, has_write, writes_of}
use Rattle.print_log.specs.Log.{Print, has_print}
use Rattle.commit_book.specs.declared.parts.Parts.{Parts}

-- whether the step numbered q makes the channel c, and whether it writes the reference r
abbrev pub makes_at : List Event → ℕ → ℕ → Bool
makes_at events q c = option_map_or (λ (l : Label). is_at (made l) c) (label_at events q) false

abbrev pub writes_at : List Event → ℕ → ℕ → Bool
writes_at events q r = option_map_or (λ (l : Label). is_at (written l) r) (label_at events q) false

-- whether the step numbered q prints
abbrev pub prints_at : List Event → ℕ → Bool
prints_at events q = option_map_or is_print (label_at events q) false

-- whether one of these steps makes the channel c
abbrev pub makes_any : List Event → List ℕ → ℕ → Bool
makes_any events [] c = false
makes_any events (q ∷ qs) c = makes_at events q c || makes_any events qs c

-- these steps were struck, with their writes, their channels and their prints
pub record AreStruck (old new : Parts) (qs : List ℕ) : Type 0 where
  pub events : new.history.events ≡ old.history.events
  pub spare : new.history.spare ≡ old.history.spare
  pub struck : (k : ℕ) → set.contains new.history.struck k ≡ (has qs k || set.contains old.history.struck k)
  pub writes : (r : ℕ) → writes_of new.log r ≡ filter (λ (w : Write). not (has qs w.number)) (writes_of old.log r)
  pub last_cut : new.log.last_cut ≡ old.log.last_cut
  pub waiting : (c : ℕ) → map.get new.offers.lines c ≡ cond (makes_any old.history.events qs c) None (map.get old.offers.lines c)
  pub offers : new.offers.offers ≡ old.offers.offers
  pub finals : new.printed.finals ≡ old.printed.finals
  pub recent : new.printed.recent ≡ filter (λ (p : Print). not (has qs p.number)) old.printed.recent
  pub rest : new ≡ record old {
    history = new.history;
    log = new.log;
    offers = new.offers;
    printed = new.printed;
    rollback = record old.rollback { lost = new.rollback.lost };
  }

-- the step numbered q can be struck: it is live and above the last cut, the writes and prints under its number are its own, and
-- nobody waits on what it makes
pub record MayStrike (parts : Parts) (q : ℕ) : Type 0 where
  pub live : IsLive parts.history q
  pub above : parts.log.last_cut < q
  pub writes : (r : ℕ) → has_write q (writes_of parts.log r) ≡ writes_at parts.history.events q r
  pub prints : has_print q parts.printed.recent ≡ true → prints_at parts.history.events q ≡ true
  pub nobody : (c : ℕ) → makes_at parts.history.events q c ≡ true → map.get parts.offers.lines c ≡ Some nobody

-- all of these can be struck, and no two of them make one channel
pub record MayStrikeAll (parts : Parts) (qs : List ℕ) : Type 0 where
  pub each : (q : ℕ) → has qs q ≡ true → MayStrike parts q
  pub once : (p q c : ℕ) → has qs p ≡ true → has qs q ≡ true → makes_at parts.history.events p c ≡ true
      → makes_at parts.history.events q c ≡ true → p ≡ q

-- exactly these were struck, so many in number, and none is left to be struck
pub record AllAreStruck (old new : Parts) (lost : List ℕ) (removed : ℕ) : Type 0 where
  pub qs : List ℕ
  pub none_left : new.rollback.lost.items ≡ []
  pub struck : AreStruck old new qs
  pub same : (k : ℕ) → has qs k ≡ has lost k
  pub once : IsDistinct nat_eq qs
  pub count : removed ≡ length qs
